-- What a payload says is sound: each walk says something sound of what it stands at, within a report that says the types.
use Rattle.std.proofs.Common.{◌≡◌, ℕ, zero, suc, ◌+◌, Bool, true, false, true≢false, cond, ◌&&◌, ◌||◌, not, inl, inr, List, [], ◌∷◌, ◌++◌, map, length, length-append, Option, Some, None, codes, refl, sym, ap, subst, ◌∙◌, option_and_then, option_map, unwrap_or, bytes_eq, nat_eq, arith}
use Rattle.std.proofs.lemmas.Slice.Eq.{bytes_eq-Decides}
use Rattle.std.specs.List.{list_any, starts_with}
use Rattle.std.specs.Map.{lookup}
use Rattle.std.specs.Ordering.{match_ordering}
use Rattle.std.specs.declared.cmp.Ordering.{Ordering}
use Rattle.std.specs.declared.cmp.Ordering.TheVariants.{Less, Equal, Greater}
use Rattle.serde_json.specs.Data as J
use Rattle.serde_json.specs.Find.{get_member, as_str}
use Rattle.store_model.specs.gql_plain.Order.{has_text, sorted_texts}
use Rattle.store_model.specs.gql_plain.declared.plain.Plain.{Plain}
use Rattle.store_model.specs.gql_plain.declared.plain.Plain.TheVariants.{Text as Words}
use Rattle.store_model.specs.store_record.Keys.{Text, Arguments, client_id, connection_arguments, field_key, handle_name, is_generated, key_with, root, without_nulls}
use Rattle.store_model.specs.store_record.declared.field.Field.{Field}
use Rattle.store_model.specs.store_record.declared.field.Field.TheVariants.{Leaf}
use Rattle.store_model.proofs.Flips.{of_among}
use Rattle.store_model.proofs.Least.{Each, each_append, each_from, each_so, of_member, or_right}
use Rattle.store_model.proofs.Seats.{each_has_a_seat, seats_are}
use Rattle.store_model.proofs.gql_plain_laws.SortedTexts.{has_text-sorted_texts}
use Rattle.store_model.specs.Alike.{Among}
use Rattle.store_model.specs.Entries.{ids_in, some_id, some_ids}
use Rattle.store_model.specs.Events.{plain_of_data}
use Rattle.store_model.specs.FactOrder.{handle_cmp}
use Rattle.store_model.specs.Items.{Below, Form, typename, leaf, one, many, Ask, Connection, key_of, handle_of, Group, asks, parts, Collect, groups_at}
use Rattle.store_model.specs.Reaches.{types_of}
use Rattle.store_model.specs.Records.{typename as typename_key}
use Rattle.store_model.specs.Said.{Said}
use Rattle.store_model.specs.Says.{Element, Made, Path, Put, Report, Walk, both, element_of, elements_of, elements_under, fault_at, fields_say, first_of, form_says, group_says, groups_say, handles, id_of_text, id_of_value, id_under, info_of, is_misnamed, leaf_of, link_of, link_or_null, list_under, named_says, no_object, no_report, object_says, object_under, pages_for, pages_of, possible_name, put_at, report_pages, response_says, responses, root_says, scalar_under, some_text, type_under, typed_says, unless_misnamed, walk_of, walks_of, with_id}
use Rattle.store_model.specs.Verdicts.{IsSeat, Seat, Verdict, content, fault_cmp, first_conflict, in_order, least, refusal, seats, unless_conflict, unless_fault, verdict, with_one}
use Rattle.store_model.specs.declared.facts.HandleFact.{HandleFact}
use Rattle.store_model.specs.declared.payload_fault.Cause.{Cause}
use Rattle.store_model.specs.declared.payload_fault.Cause.TheVariants.{IdShape, NoData, NotWhole, ReservedId, Shape, Typename}
use Rattle.store_model.specs.declared.payload_fault.PathStep.TheVariants.{Key, Index}
use Rattle.store_model.specs.declared.payload_fault.PayloadFault.{PayloadFault}
use Rattle.sound_records.specs.Saying.{AreTyped, IsTyped, PayloadsAreSound, StandsApart}
use Rattle.sound_records.specs.Sound.{IsId, IsSoundFact, IsSoundPage, IsSoundSaid, IsSoundValue, has_fact, is_record_type}
use Rattle.sound_records.proofs.Commands.{key_apart, made_is}
use Rattle.sound_records.proofs.Orders.{facts_rise, pages_rise}
use Rattle.sound_records.proofs.Slots.{Of}

-- ---- tests of lists

any_left : {X : Type 0} (p : X → Bool) (xs ys : List X) → list_any p xs ≡ true → list_any p (xs ++ ys) ≡ true
any_left p [] ys h = absurd (true≢false (sym h))
any_left p (x ∷ xs) ys h = elim (p x) as (λ b. (b || list_any p xs) ≡ true → (b || list_any p (xs ++ ys)) ≡ true) [ true ↦ λ _. refl | false ↦ any_left p xs ys ] h

any_right : {X : Type 0} (p : X → Bool) (xs ys : List X) → list_any p ys ≡ true → list_any p (xs ++ ys) ≡ true
any_right p [] ys h = h
any_right p (x ∷ xs) ys h = elim (p x) as (λ b. (b || list_any p (xs ++ ys)) ≡ true) [ true ↦ refl | false ↦ any_right p xs ys h ]

any_map : {X Y : Type 0} (f : X → Y) (p : Y → Bool) (xs : List X) → list_any p (map f xs) ≡ list_any (λ x. p (f x)) xs
any_map f p [] = refl
any_map f p (x ∷ xs) = ap (λ b. p (f x) || b) (any_map f p xs)

-- a member that passes the test
found : {X : Type 0} (p : X → Bool) (xs : List X) → list_any p xs ≡ true → (x : X) × (Among x xs × (p x ≡ true))
found p [] h = absurd (true≢false (sym h))
found {X = X} p (x ∷ xs) h = at (λ k. found p xs k) (p x) refl h
  where
    at : (list_any p xs ≡ true → (y : X) × (Among y xs × (p y ≡ true))) → (b : Bool) → p x ≡ b → (b || list_any p xs) ≡ true → (y : X) × (Among y (x ∷ xs) × (p y ≡ true))
    at later true e k = (x, (inl refl, e))
    at later false e k = let rest = later k in (rest.0, (inr rest.1.0, rest.1.1))

and_left : (a b : Bool) → (a && b) ≡ true → a ≡ true
and_left true b h = refl
and_left false b h = h

and_right : (a b : Bool) → (a && b) ≡ true → b ≡ true
and_right true b h = h
and_right false b h = absurd (true≢false (sym h))

or_first : (a b : Bool) → a ≡ true → (a || b) ≡ true
or_first true b h = refl
or_first false b h = absurd (true≢false (sym h))

same : (x : Text) → bytes_eq x x ≡ true
same x = (bytes_eq-Decides x x).1 refl

each_map : {X Y : Type 0} (f : X → Y) (P : Y → Type 0) (xs : List X) → Each (λ x. P (f x)) xs → Each P (map f xs)
each_map f P [] h = tt
each_map f P (x ∷ xs) h = (h.0, each_map f P xs h.1)

-- ---- handle keys

handle_begins : (key : Text) (xs : Arguments) → starts_with nat_eq (key_with (handle_name key) xs) (codes "__") ≡ true
handle_begins key [] = refl
handle_begins key (x ∷ xs) = refl

no_type_name : (key : Text) → handle_name key ≡ typename_key → ⊥
no_type_name key e =
    let l : length (handle_name key) ≡ length (codes "__" ++ key) + 11 = length-append (codes "__" ++ key) (codes "_connection") in
    let h : length (handle_name key) ≡ 10 = ap length e in
    omega (arith, l, h)

-- begins with `__`, and is another key than that of the type name
abbrev pub IsHandle : Text → Type 0
IsHandle key = (starts_with nat_eq key (codes "__") ≡ true) × (bytes_eq key typename_key ≡ false)

asked_is : (a : Ask) (o : Option Connection) → Of IsHandle (option_map (λ c. field_key (handle_name c.key) (connection_arguments c.filters a.arguments)) o)
asked_is a None = tt
asked_is a (Some c) =
    let xs : Arguments = without_nulls (connection_arguments c.filters a.arguments) in
    (handle_begins c.key xs, key_apart (handle_name c.key) xs (no_type_name c.key))

handles_are : (asked : List Ask) → Each IsHandle (handles asked)
handles_are [] = tt
handles_are (a ∷ rest) = at (handle_of a) (asked_is a a.connection) (handles_are rest)
  where
    at : (o : Option Text) → Of IsHandle o → Each IsHandle (handles rest) → Each IsHandle (some_text o (handles rest))
    at None h others = others
    at (Some key) h others = (h, others)

-- the groups that parts give on an object type are typed, where this is known of the parts
abbrev Collects : {F : Type 0} → (object : Text → Bool) → Collect F → (Known : Text → List F → Type 0) → Type 0
Collects {F = F} object collect Known = (T : Text) (fs : List F) → object T ≡ true → Known T fs → Each (IsTyped object collect Known) (groups_at collect T fs)

-- ---- what is said within a whole

abbrev pub said_in : List Put → Text → Text → Bool
said_in puts id key = list_any (λ p. bytes_eq p.fact.id id && bytes_eq p.fact.key key) puts

both_true : (a b : Bool) → a ≡ true → b ≡ true → (a && b) ≡ true
both_true true b h k = k
both_true false b h k = absurd (true≢false (sym h))

said_first : (p : Put) (more : List Put) → said_in (p ∷ more) p.fact.id p.fact.key ≡ true
said_first p more =
    or_first (bytes_eq p.fact.id p.fact.id && bytes_eq p.fact.key p.fact.key) (said_in more p.fact.id p.fact.key)
    (both_true (bytes_eq p.fact.id p.fact.id) (bytes_eq p.fact.key p.fact.key) (same p.fact.id) (same p.fact.key))

module _ {F : Type 0} (object : Text → Bool) (collect : Collect F) (Known : Text → List F → Type 0) (typed : Collects object collect Known) (whole : List Put) where
  abbrev Inside : Report → Type 0
  Inside r = (id key : Text) → said_in r.puts id key ≡ true → said_in whole id key ≡ true

  pub record IsPut (p : Put) : Type 0 where
    pub of : IsId p.fact.id
    pub named : said_in whole p.fact.id typename_key ≡ true
    pub value : IsSoundValue object (bytes_eq p.fact.key typename_key) p.fact.value

  pub record IsPage (h : HandleFact) : Type 0 where
    pub there : said_in whole h.parent h.field_key ≡ true
    pub handle : IsHandle h.handle_key
    pub page : object h.page_type ≡ true
    pub info : object h.info_type ≡ true

  abbrev Sound : Report → Type 0
  Sound r = Each IsPut r.puts × Each IsPage r.pages

  -- within the whole what is said is sound
  abbrev Says : Report → Type 0
  Says r = Inside r → Sound r

  both_say : (a b : Report) → Says a → Says b → Says (both a b)
  both_say a b h k inside =
      let x : Sound a = h (λ id key e. inside id key (any_left (λ p. bytes_eq p.fact.id id && bytes_eq p.fact.key key) a.puts b.puts e)) in
      let y : Sound b = k (λ id key e. inside id key (any_right (λ p. bytes_eq p.fact.id id && bytes_eq p.fact.key key) a.puts b.puts e)) in
      (each_append IsPut a.puts b.puts x.0 y.0, each_append IsPage a.pages b.pages x.1 y.1)

  no_more : Says no_report
  no_more inside = (tt, tt)

  at_fault : (path : Path) (c : Cause) → Says (fault_at path c)
  at_fault path c inside = (tt, tt)

  -- ---- walks

  abbrev AreObjects : List Text → Type 0
  AreObjects types = Each (λ T. object T ≡ true) types

  abbrev AreWithin : List Text → List F → Type 0
  AreWithin types fs = (T : Text) → has_text types T ≡ true → Known T fs

  -- the ids in a field, and what is said beside it
  abbrev Gives : Field × Report → Type 0
  Gives r = Each IsId (ids_in r.0) × Says r.1

  abbrev GivesId : Option Text × Report → Type 0
  GivesId r = Each IsId (some_id r.0) × Says r.1

  abbrev GivesIds : List (Option Text) × Report → Type 0
  GivesIds r = Each IsId (some_ids r.0) × Says r.1

  abbrev Walks : Walk F → Type 0
  Walks w = (form : Form) (fs : List F) (made : Made) (path : Path) → AreObjects (types_of form) → AreWithin (types_of form) fs → ((i : Option ℕ) → IsId (made i)) → Gives (w form fs made path)

  abbrev Elements : Element F → Type 0
  Elements e = (b : Below) (fs : List F) (made : Text) (path : Path) → AreObjects b.types → AreWithin b.types fs → IsId made → GivesId (e b fs made path)

  leaf_gives : (o : Option Plain) (path : Path) → Gives (leaf_of o path)
  leaf_gives None path = (tt, at_fault path NotWhole)
  leaf_gives (Some value) path = (tt, no_more)

  linked : (r : Option Text × Report) → GivesId r → Gives (link_of r)
  linked r h = (at r.0 h.0, h.1)
    where
      at : (o : Option Text) → Each IsId (some_id o) → Each IsId (ids_in (link_or_null o))
      at None k = tt
      at (Some id) k = k

  one_more : (o : Option Text) (os : List (Option Text)) → Each IsId (some_id o) → Each IsId (some_ids os) → Each IsId (some_ids (o ∷ os))
  one_more None os h k = k
  one_more (Some id) os h k = (h.0, k)

  scalar_walks : (d : J.Data) → Walks (scalar_under d)
  scalar_walks d typename fs made path types good ids = (tt, no_more)
  scalar_walks d leaf fs made path types good ids = leaf_gives (plain_of_data d) path
  scalar_walks d (one b) fs made path types good ids = (tt, at_fault path Shape)
  scalar_walks d (many b) fs made path types good ids = (tt, at_fault path Shape)

  elements_give : (es : List (Element F)) → Each Elements es → (b : Below) (fs : List F) (made : Made) (n : ℕ) (path : Path) → AreObjects b.types → AreWithin b.types fs → ((i : Option ℕ) → IsId (made i))
      → GivesIds (elements_under es b fs made n path)
  elements_give [] all b fs made n path types good ids = (tt, no_more)
  elements_give (e ∷ es) all b fs made n path types good ids =
      let here : GivesId (e b fs (made (Some n)) (path ++ Index n ∷ [])) = all.0 b fs (made (Some n)) (path ++ Index n ∷ []) types good (ids (Some n)) in
      let rest : GivesIds (elements_under es b fs made (n + 1) path) = elements_give es all.1 b fs made (n + 1) path types good ids in (
        one_more (e b fs (made (Some n)) (path ++ Index n ∷ [])).0 (elements_under es b fs made (n + 1) path).0 here.0 rest.0,
        both_say (e b fs (made (Some n)) (path ++ Index n ∷ [])).1 (elements_under es b fs made (n + 1) path).1 here.1 rest.1,
      )

  list_walks : (d : J.Data) (es : List (Element F)) → Each Elements es → Walks (list_under d es)
  list_walks d es all typename fs made path types good ids = (tt, no_more)
  list_walks d es all leaf fs made path types good ids = leaf_gives (plain_of_data d) path
  list_walks d es all (one b) fs made path types good ids = (tt, at_fault path Shape)
  list_walks d es all (many b) fs made path types good ids = elements_give es all b fs made 0 path types good ids

  object_walks : (d : J.Data) (e : Element F) → Elements e → Walks (object_under d e)
  object_walks d e each typename fs made path types good ids = (tt, no_more)
  object_walks d e each leaf fs made path types good ids = leaf_gives (plain_of_data d) path
  object_walks d e each (one b) fs made path types good ids = linked (e b fs (made None) path) (each b fs (made None) path types good (ids None))
  object_walks d e each (many b) fs made path types good ids = (tt, at_fault path Shape)

  -- ---- ids

  abbrev NamesId : Text × Report → Type 0
  NamesId r = IsId r.0 × Says r.1

  text_names : (made : Text) (path : Path) (s : Text) → IsId made → NamesId (id_of_text made path s)
  text_names made path [] is = (is, at_fault path IdShape)
  text_names made path (b ∷ bs) is = at (is_generated (b ∷ bs))
    where
      at : (g : Bool) → NamesId (cond {A = Text × Report} g (made, fault_at path ReservedId) (b ∷ bs, no_report))
      at true = (is, at_fault path ReservedId)
      at false = (tt, no_more)

  value_names : (made : Text) (path : Path) (o : Option J.Data) → IsId made → NamesId (id_of_value made path o)
  value_names made path None is = (is, no_more)
  value_names made path (Some J.null) is = (is, no_more)
  value_names made path (Some (J.boolean b)) is = (is, at_fault path IdShape)
  value_names made path (Some (J.number n)) is = (is, at_fault path IdShape)
  value_names made path (Some (J.string s)) is = text_names made path s is
  value_names made path (Some (J.array ds)) is = (is, at_fault path IdShape)
  value_names made path (Some (J.object ms)) is = (is, at_fault path IdShape)

  names : (has : Bool) (made : Text) (path : Path) (o : Option J.Data) → IsId made → NamesId (id_under has made path o)
  names true made path o is = value_names made path o is
  names false made path o is = (is, no_more)

  -- ---- groups

  abbrev AllWalk : List (Text × Walk F) → Type 0
  AllWalk ws = Each (λ w. Walks w.1) ws

  walk_at : (key : Text) (ws : List (Text × Walk F)) → AllWalk ws → Of Walks (lookup (λ k. bytes_eq k key) ws)
  walk_at key [] all = tt
  walk_at key (w ∷ ws) all = elim (bytes_eq w.0 key) as (λ b. Of Walks (cond b (Some w.1) (lookup (λ k. bytes_eq k key) ws))) [ true ↦ all.0 | false ↦ walk_at key ws all.1 ]

  abbrev page_type : Group F → Text
  page_type g = unwrap_or (first_of (types_of g.first.ask.form)) []

  abbrev info_type : Group F → Text
  info_type g = info_of collect (first_of (types_of g.first.ask.form)) (parts g)

  -- each key of a list is a handle key, and the types of the page are known where there is one
  pages_sound : (id : Text) (a : Ask) (page info : Text) (keys : List Text) → said_in whole id (key_of a) ≡ true → Each IsHandle keys
      → ((key : Text) → has_text keys key ≡ true → (object page ≡ true) × (object info ≡ true)) → Each IsPage (pages_for id a page info keys)
  pages_sound id a page info [] there are known = tt
  pages_sound id a page info (key ∷ keys) there are known =
      let here : (object page ≡ true) × (object info ≡ true) = known key (or_first (bytes_eq key key) (has_text keys key) (same key)) in (
        record { there = there; handle = are.0; page = here.0; info = here.1 },
        pages_sound id a page info keys there are.1 (λ k h. known k (or_right (bytes_eq key k) (has_text keys k) h)),
      )

  handles_sorted : (g : Group F) → Each IsHandle (sorted_texts (handles (asks g)))
  handles_sorted g = each_from IsHandle (sorted_texts (handles (asks g))) (λ key h.
      of_member IsHandle (handles (asks g)) key (handles_are (asks g)) (sym (has_text-sorted_texts (handles (asks g)) key) ∙ h))

  -- a field whose value is no type name
  field_sound : (id : Text) (path : Path) (g : Group F) (o : Option (Walk F)) → IsId id → said_in whole id typename_key ≡ true → IsTyped object collect Known g
      → bytes_eq (key_of g.first.ask) typename_key ≡ false → Of Walks o → Says (group_says collect id path g o)
  field_sound id path g None is named good apart walks = λ inside. (tt, tt)
  field_sound id path g (Some w) is named good apart walks = λ inside.
      let there : said_in whole id (key_of g.first.ask) ≡ true = inside id (key_of g.first.ask) (said_first put (pages.puts ++ r.1.puts)) in
      both_say (put_at id (key_of g.first.ask) r.0 at) (both pages r.1)
      (λ _. ((record { of = is; named = named; value = subst (λ b. IsSoundValue object b r.0) (sym apart) gives.0 }, tt), tt))
      (both_say pages r.1
      (λ _. (
        tt,
        pages_sound id g.first.ask (page_type g) (info_type g) (sorted_texts (handles (asks g))) there (handles_sorted g)
            (λ key h. (good.page key (sym (has_text-sorted_texts (handles (asks g)) key) ∙ h), good.info key (sym (has_text-sorted_texts (handles (asks g)) key) ∙ h))),
      ))
      gives.1) inside
    where
      at : Path
      at = path ++ Key g.first.ask.response ∷ []

      r : Field × Report
      r = w g.first.ask.form (parts g) (client_id id (key_of g.first.ask)) (path ++ Key g.first.ask.response ∷ [])

      gives : Gives (w g.first.ask.form (parts g) (client_id id (key_of g.first.ask)) (path ++ Key g.first.ask.response ∷ []))
      gives = walks g.first.ask.form (parts g) (client_id id (key_of g.first.ask)) (path ++ Key g.first.ask.response ∷ []) good.types good.below (made_is id (key_of g.first.ask))

      put : Put
      put = record { fact = record { id = id; key = key_of g.first.ask; value = (w g.first.ask.form (parts g) (client_id id (key_of g.first.ask)) (path ++ Key g.first.ask.response ∷ [])).0 }; path = path ++ Key g.first.ask.response ∷ [] }

      pages : Report
      pages = report_pages (pages_of collect id g)

  group_sound : (id : Text) (path : Path) (g : Group F) (o : Option (Walk F)) → IsId id → said_in whole id typename_key ≡ true → IsTyped object collect Known g → Of Walks o
      → Says (form_says g.first.ask.form (group_says collect id path g o))
  group_sound id path g o is named good walks = at g.first.ask.form good.key
    where
      at : (form : Form) → StandsApart form (key_of g.first.ask) → Says (form_says form (group_says collect id path g o))
      at typename apart = no_more
      at leaf apart = field_sound id path g o is named good apart walks
      at (one b) apart = field_sound id path g o is named good apart walks
      at (many b) apart = field_sound id path g o is named good apart walks

  groups_sound : (id : Text) (path : Path) (ws : List (Text × Walk F)) (gs : List (Group F)) → IsId id → said_in whole id typename_key ≡ true → AllWalk ws → Each (IsTyped object collect Known) gs
      → Says (groups_say collect id path ws gs)
  groups_sound id path ws [] is named walks all = no_more
  groups_sound id path ws (g ∷ gs) is named walks all =
      both_say (form_says g.first.ask.form (group_says collect id path g (lookup (λ k. bytes_eq k g.first.ask.response) ws))) (groups_say collect id path ws gs)
      (group_sound id path g (lookup (λ k. bytes_eq k g.first.ask.response) ws) is named all.0 (walk_at g.first.ask.response ws walks)) (groups_sound id path ws gs is named walks all.1)

  -- ---- objects

  fields_sound : (id name : Text) (path : Path) (ws : List (Text × Walk F)) (gs : List (Group F)) → IsId id → is_record_type object name ≡ true → AllWalk ws → Each (IsTyped object collect Known) gs
      → Says (fields_say collect id name path ws gs)
  fields_sound id name path ws gs is typed_so walks all inside =
      let named : said_in whole id typename_key ≡ true = inside id typename_key (said_first put (groups_say collect id path ws gs).puts) in
      both_say (put_at id typename_key (Leaf (Words name)) path) (groups_say collect id path ws gs)
      (λ _. ((record { of = is; named = named; value = (name, refl, typed_so) }, tt), tt))
      (groups_sound id path ws gs is named walks all) inside
    where
      put : Put
      put = record { fact = record { id = id; key = typename_key; value = Leaf (Words name) }; path = path }

  record_type : (name : Text) → object name ≡ true → is_record_type object name ≡ true
  record_type name h = ap (λ b. b || bytes_eq name (codes "__Root")) h

  with_id_gives : (i : Text × Report) (rest : Text → Report) → NamesId i → ((id : Text) → IsId id → Says (rest id)) → GivesId (with_id i rest)
  with_id_gives i rest h k = ((h.0, tt), both_say i.1 (rest i.0) h.1 (k i.0 h.0))

  named_is : (types : List Text) (o : Option Text) → Of (λ T. has_text types T ≡ true) (possible_name types o)
  named_is types None = tt
  named_is types (Some s) = by (has_text types s) refl
    where
      by : (h : Bool) → has_text types s ≡ h → Of (λ T. has_text types T ≡ true) (cond h (Some s) None)
      by true e = e
      by false e = tt

  -- the type under which an object is said is one of the possible ones
  type_is : (open_type : Bool) (types : List Text) (o : Option J.Data) → Of (λ T. has_text types T ≡ true) (type_under open_type types o)
  type_is true types o = named_is types (option_and_then as_str o)
  type_is false [] o = tt
  type_is false (t ∷ ts) o = or_first (bytes_eq t t) (has_text ts t) (same t)

  object_gives : (ms : J.Members) (ws : List (Text × Walk F)) → AllWalk ws → Elements (object_says collect ms ws)
  object_gives ms ws walks b fs made path types good is = at (type_under b.open_type b.types (get_member typename_key ms)) (type_is b.open_type b.types (get_member typename_key ms))
    where
      either : (T : Text) → has_text b.types T ≡ true → (wrong : Bool) → GivesId (unless_misnamed wrong path (named_says collect ms ws b T (groups_at collect T fs) made path))
      either T h true = (tt, at_fault (path ++ Key typename_key ∷ []) Typename)
      either T h false =
          with_id_gives (id_under (has_text b.identified T) made (path ++ Key (codes "id") ∷ []) (get_member (codes "id") ms)) (λ id. fields_say collect id T path ws (groups_at collect T fs))
          (names (has_text b.identified T) made (path ++ Key (codes "id") ∷ []) (get_member (codes "id") ms) is)
          (λ id known. fields_sound id T path ws (groups_at collect T fs) known (record_type T (of_member (λ t. object t ≡ true) b.types T types h)) walks (typed T fs (of_member (λ t. object t ≡ true) b.types T types h) (good T h)))

      at : (o : Option Text) → Of (λ T. has_text b.types T ≡ true) o → GivesId (typed_says collect ms ws b fs made path o)
      at None h = (tt, at_fault (path ++ Key typename_key ∷ []) Typename)
      at (Some T) h = either T h (not b.open_type && is_misnamed T (responses (groups_at collect T fs)) (get_member typename_key ms))

  no_object_gives : Elements (no_object collect)
  no_object_gives b fs made path types good is = (tt, at_fault path Shape)

  mutual
    walks_by : (d : J.Data) → Walks (walk_of collect d)
    walks_by J.null = λ form fs made path types good ids. (tt, no_more)
    walks_by (J.boolean b) = scalar_walks (J.boolean b)
    walks_by (J.number n) = scalar_walks (J.number n)
    walks_by (J.string s) = scalar_walks (J.string s)
    walks_by (J.array ds) = list_walks (J.array ds) (elements_of collect ds) (elements_by ds)
    walks_by (J.object ms) = object_walks (J.object ms) (object_says collect ms (walks_of collect ms)) (object_gives ms (walks_of collect ms) (all_by ms))

    element_by : (d : J.Data) → Elements (element_of collect d)
    element_by J.null = λ b fs made path types good is. (tt, no_more)
    element_by (J.boolean b) = no_object_gives
    element_by (J.number n) = no_object_gives
    element_by (J.string s) = no_object_gives
    element_by (J.array ds) = no_object_gives
    element_by (J.object ms) = object_gives ms (walks_of collect ms) (all_by ms)

    elements_by : (ds : J.Items) → Each Elements (elements_of collect ds)
    elements_by J.no_items = tt
    elements_by (J.item d ds) = (element_by d, elements_by ds)

    all_by : (ms : J.Members) → AllWalk (walks_of collect ms)
    all_by J.no_members = tt
    all_by (J.member k d ms) = (walks_by d, all_by ms)

  -- ---- responses

  root_sound : (T : Text) (fs : List F) → object T ≡ true → Known T fs → (o : Option J.Data) → Says (root_says collect T fs o)
  root_sound T fs h good None = at_fault [] NoData
  root_sound T fs h good (Some J.null) = at_fault [] NoData
  root_sound T fs h good (Some (J.boolean b)) = at_fault [] Shape
  root_sound T fs h good (Some (J.number n)) = at_fault [] Shape
  root_sound T fs h good (Some (J.string s)) = at_fault [] Shape
  root_sound T fs h good (Some (J.array ds)) = at_fault [] Shape
  root_sound T fs h good (Some (J.object ms)) = fields_sound root (codes "__Root") [] (walks_of collect ms) (groups_at collect T fs) tt (root_type (object (codes "__Root"))) (all_by ms) (typed T fs h good)
    where
      root_type : (b : Bool) → (b || bytes_eq (codes "__Root") (codes "__Root")) ≡ true
      root_type true = refl
      root_type false = refl

  pub response_sound : (T : Text) (fs : List F) → object T ≡ true → Known T fs → (response : J.Data) → Says (response_says collect T fs response)
  response_sound T fs h good J.null = at_fault [] NoData
  response_sound T fs h good (J.boolean b) = at_fault [] NoData
  response_sound T fs h good (J.number n) = at_fault [] NoData
  response_sound T fs h good (J.string s) = at_fault [] NoData
  response_sound T fs h good (J.array ds) = at_fault [] NoData
  response_sound T fs h good (J.object ms) = root_sound T fs h good (get_member (codes "data") ms)

-- ---- what the payload is taken for

-- what is said somewhere stands in the seats
seated : (puts : List Put) (id key : Text) → said_in puts id key ≡ true → has_fact (map (λ s. s.first.fact) (seats puts)) id key ≡ true
seated puts id key h = let p = found (λ p. bytes_eq p.fact.id id && bytes_eq p.fact.key key) puts h in at p.0 p.1.0 p.1.1
  where
    at : (p : Put) → Among p puts → (bytes_eq p.fact.id id && bytes_eq p.fact.key key) ≡ true → has_fact (map (λ s. s.first.fact) (seats puts)) id key ≡ true
    at p there is =
        subst (λ i. has_fact (map (λ s. s.first.fact) (seats puts)) i key ≡ true) ((bytes_eq-Decides p.fact.id id).0 (and_left (bytes_eq p.fact.id id) (bytes_eq p.fact.key key) is))
        (subst (λ k. has_fact (map (λ s. s.first.fact) (seats puts)) p.fact.id k ≡ true) ((bytes_eq-Decides p.fact.key key).0 (and_right (bytes_eq p.fact.id id) (bytes_eq p.fact.key key) is))
        (any_map (λ s. s.first.fact) (λ f. bytes_eq f.id p.fact.id && bytes_eq f.key p.fact.key) (seats puts) ∙ each_has_a_seat puts p there))

each_one : {A : Type 0} (P : A → Type 0) (cmp : A → A → Ordering) (x : A) → P x → (ys : List A) → Each P ys → Each P (with_one cmp x ys)
each_one P cmp x here [] all = (here, tt)
each_one P cmp x here (y ∷ ys) all =
    elim (cmp x y) as (λ o. Each P (match_ordering o (x ∷ y ∷ ys) (x ∷ ys) (y ∷ with_one cmp x ys))) [
      | Less ↦ (here, all)
      | Equal ↦ (here, all.1)
      | Greater ↦ (all.0, each_one P cmp x here ys all.1)
    ]

each_ordered : {A : Type 0} (P : A → Type 0) (cmp : A → A → Ordering) (xs : List A) → Each P xs → Each P (in_order cmp xs)
each_ordered P cmp [] h = tt
each_ordered P cmp (x ∷ xs) h = each_one P cmp x h.0 (in_order cmp xs) (each_ordered P cmp xs h.1)

module _ {F : Type 0} (object : Text → Bool) (collect : Collect F) (Known : Text → List F → Type 0) (typed : Collects object collect Known) (r : Report)
    (sound : Sound object collect Known typed r.puts r) where
  seat_sound : (s : Seat) → IsSeat r.puts s → IsSoundFact object (map (λ x. x.first.fact) (seats r.puts)) s.first.fact
  seat_sound s seat =
      let put : IsPut object collect Known typed r.puts s.first = of_among (IsPut object collect Known typed r.puts) s.first r.puts sound.0 seat.there in
      record { of = put.of; typed = seated r.puts s.first.fact.id typename_key put.named; value = put.value }

  page_sound : (h : HandleFact) → IsPage object collect Known typed r.puts h → IsSoundPage object (map (λ x. x.first.fact) (seats r.puts)) h
  page_sound h page =
      record { there = seated r.puts h.parent h.field_key page.there; handle = page.handle.0; apart = page.handle.1; page = page.page; info = page.info }

  said_sound : IsSoundSaid object (record { facts = map (λ s. s.first.fact) (seats r.puts); handles = in_order handle_cmp r.pages })
  said_sound = record {
    facts = each_map (λ s. s.first.fact) (IsSoundFact object (map (λ s. s.first.fact) (seats r.puts))) (seats r.puts)
        (each_so (IsSeat r.puts) (λ s. IsSoundFact object (map (λ x. x.first.fact) (seats r.puts)) s.first.fact) (seats r.puts) seat_sound (seats_are r.puts));
    pages = each_ordered (IsSoundPage object (map (λ s. s.first.fact) (seats r.puts))) handle_cmp r.pages
        (each_so (IsPage object collect Known typed r.puts) (IsSoundPage object (map (λ s. s.first.fact) (seats r.puts))) r.pages page_sound sound.1);
    facts_order = facts_rise r.puts;
    pages_order = pages_rise r.pages;
  }

  abbrev said_of : Verdict → Said
  said_of (refusal f) = record { facts = []; handles = [] }
  said_of (content said) = said

  abbrev is_content : Verdict → Bool
  is_content (refusal f) = false
  is_content (content said) = true

  pub verdict_sound : (said : Said) → verdict r ≡ content said → IsSoundSaid object said
  verdict_sound said e = by_fault (least fault_cmp r.faults) e
    where
      by_conflict : (o : Option PayloadFault) → unless_conflict o (seats r.puts) r.pages ≡ content said → IsSoundSaid object said
      by_conflict None e = subst (IsSoundSaid object) (ap said_of e) said_sound
      by_conflict (Some f) e = absurd (true≢false (sym (ap is_content e)))

      by_fault : (o : Option PayloadFault) → unless_fault o r ≡ content said → IsSoundSaid object said
      by_fault None e = by_conflict (first_conflict (seats r.puts)) e
      by_fault (Some f) e = absurd (true≢false (sym (ap is_content e)))

-- parts that are typed however many stand below one another
abbrev AllTyped : {F : Type 0} → (object : Text → Bool) → Collect F → Text → List F → Type 0
AllTyped object collect T fs = (levels : ℕ) → AreTyped object collect levels T fs

all_levels : {F : Type 0} (object : Text → Bool) (collect : Collect F) (gs : List (Group F))
    → ((n : ℕ) → Each (IsTyped object collect (λ U fs. AreTyped object collect n U fs)) gs) → Each (IsTyped object collect (λ U fs. AllTyped object collect U fs)) gs
all_levels object collect [] h = tt
all_levels object collect (g ∷ gs) h = (
  record { key = (h zero).0.key; types = (h zero).0.types; below = λ T is n. (h n).0.below T is; page = (h zero).0.page; info = (h zero).0.info },
  all_levels object collect gs (λ n. (h n).1),
)

pub payloads_sound : {F : Type 0} → PayloadsAreSound F
payloads_sound {F = F} object collect T fs h typed response said e =
    verdict_sound object collect known collects (response_says collect T fs response)
    (response_sound object collect known collects (response_says collect T fs response).puts T fs h typed response (λ id key k. k)) said e
  where
    known : Text → List F → Type 0
    known U gs = AllTyped object collect U gs

    collects : Collects object collect known
    collects U gs is all = all_levels object collect (groups_at collect U gs) (λ n. all (suc n))
