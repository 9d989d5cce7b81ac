-- Parts whose groups are alike say the same of every response.
use Rattle.std.proofs.Common.{◌≡◌, ℕ, ◌+◌, Bool, true, false, true≢false, List, [], ◌∷◌, ◌++◌, cond, not, ◌&&◌, ◌||◌, Option, Some, None, refl, sym, ap, ◌∙◌, subst, bytes_eq, codes, unwrap_or, option_and_then, inl, inr}
use Rattle.std.proofs.lemmas.Slice.Eq.{bytes_eq-Decides}
use Rattle.std.specs.List.{AllByRecursion, AllZip}
use Rattle.std.specs.Map.{lookup}
use Rattle.store_record.proofs.gql_plain_laws.SortedTexts.{same_texts, AreInOrder-sorted_texts, has_text-sorted_texts}
use Rattle.serde_json.specs.Data as J
use Rattle.serde_json.specs.Find.{get_member, as_str}
use Rattle.store_record.specs.gql_plain.Order.{has_text, sorted_texts}
use Rattle.store_record.specs.gql_plain.declared.plain.Plain.TheVariants.{Text as Words}
use Rattle.store_record.specs.Keys.{Text, client_id, root}
use Rattle.store_record.specs.declared.field.Field.TheVariants.{Leaf}
use Rattle.store_model.specs.Records.{typename as typename_key}
use Rattle.store_model.specs.declared.payload_fault.PathStep.TheVariants.{Key, Index}
use Rattle.store_model.specs.Alike.{Among, Related, AlikeGroup, Keeps}
use Rattle.store_model.specs.Items.{Below, Form, typename, leaf, one, many, Ask, key_of, handle_of, Group, asks, parts, Collect, groups_at}
use Rattle.store_model.specs.Reaches.{types_of}
use Rattle.store_model.specs.Says.{Path, both, put_at, possible_name, first_of, type_under, responses, is_misnamed, id_under, Made, Walk, Element, link_of, list_of, scalar_under, elements_under, list_under, object_under, some_text, handles, pages_for, info_in, info_of, pages_of, field_says, group_says, form_says, groups_say, with_id, unless_misnamed, typed_says, object_says, walk_of, element_of, elements_of, walks_of, root_says, response_says}

-- ---- the same set of fields has the same connections

or_both : (a b : Bool) → (a ≡ true → b ≡ true) → (b ≡ true → a ≡ true) → a ≡ b
or_both true b f g = sym (f refl)
or_both false true f g = g refl
or_both false false f g = refl

or_left : (a b : Bool) → a ≡ true → (a || b) ≡ true
or_left true b h = refl
or_left false b h = absurd (true≢false (sym h))

or_right : (a b : Bool) → b ≡ true → (a || b) ≡ true
or_right true b h = refl
or_right false b h = h

-- a text that the option adds
abbrev IsIn : Text → Option Text → Type 0
IsIn t None = ⊥
IsIn t (Some s) = bytes_eq s t ≡ true

has_front : (t : Text) (o : Option Text) (ts : List Text) → IsIn t o → has_text (some_text o ts) t ≡ true
has_front t None ts h = absurd h
has_front t (Some s) ts h = or_left (bytes_eq s t) (has_text ts t) h

has_behind : (t : Text) (o : Option Text) (ts : List Text) → has_text ts t ≡ true → has_text (some_text o ts) t ≡ true
has_behind t None ts h = h
has_behind t (Some s) ts h = or_right (bytes_eq s t) (has_text ts t) h

has_handle : (t : Text) (a : Ask) (as_all : List Ask) → Among a as_all → IsIn t (handle_of a) → has_text (handles as_all) t ≡ true
has_handle t a [] here h = absurd here
has_handle t a (b ∷ bs) (inl e) h = has_front t (handle_of b) (handles bs) (subst (λ c. IsIn t (handle_of c)) (sym e) h)
has_handle t a (b ∷ bs) (inr there) h = has_behind t (handle_of b) (handles bs) (has_handle t a bs there h)

-- a text of the list comes from the option or from what is behind
front_or : (P : Type 0) (t : Text) (o : Option Text) (ts : List Text) → (IsIn t o → P) → (has_text ts t ≡ true → P) → has_text (some_text o ts) t ≡ true → P
front_or P t None ts f g h = g h
front_or P t (Some s) ts f g h = at (bytes_eq s t) refl h
  where
    at : (b : Bool) → bytes_eq s t ≡ b → (b || has_text ts t) ≡ true → P
    at true e k = f e
    at false e k = g k

handles_within : (t : Text) (us vs : List Ask) → AllByRecursion (λ a. Among a vs) us → has_text (handles us) t ≡ true → has_text (handles vs) t ≡ true
handles_within t [] vs all h = absurd (true≢false (sym h))
handles_within t (u ∷ us) vs all h =
    front_or (has_text (handles vs) t ≡ true) t (handle_of u) (handles us) (has_handle t u vs all.0) (handles_within t us vs all.1) h

handles_same : (us vs : List Ask) → AllByRecursion (λ a. Among a vs) us → AllByRecursion (λ b. Among b us) vs → sorted_texts (handles us) ≡ sorted_texts (handles vs)
handles_same us vs there back =
    same_texts (sorted_texts (handles us)) (sorted_texts (handles vs)) (AreInOrder-sorted_texts (handles us)) (AreInOrder-sorted_texts (handles vs))
    (λ t. has_text-sorted_texts (handles us) t
    ∙ or_both (has_text (handles us) t) (has_text (handles vs) t) (handles_within t us vs there) (handles_within t vs us back)
    ∙ sym (has_text-sorted_texts (handles vs) t))

-- ---- types

has_first : (T : Text) (types : List Text) → has_text (T ∷ types) T ≡ true
has_first T types = or_left (bytes_eq T T) (has_text types T) ((bytes_eq-Decides T T).1 refl)

-- where a type is found it is possible
abbrev Known : List Text → Option Text → Type 0
Known types None = Unit {0}
Known types (Some T) = has_text types T ≡ true

known_cond : (types : List Text) (s : Text) → (b : Bool) → has_text types s ≡ b → Known types (cond b (Some s) None)
known_cond types s true e = e
known_cond types s false e = tt

known_possible : (types : List Text) (o : Option Text) → Known types (possible_name types o)
known_possible types None = tt
known_possible types (Some s) = known_cond types s (has_text types s) refl

known_head : (types : List Text) → Known types (first_of types)
known_head [] = tt
known_head (T ∷ types) = has_first T types

known_under : (open_type : Bool) (types : List Text) (d : Option J.Data) → Known types (type_under open_type types d)
known_under true types d = known_possible types (option_and_then as_str d)
known_under false types d = known_head types

-- ---- walks that tell the same of related parts

module _ {F G : Type 0} (r : Related F G) (collect : Collect F) (gather : Collect G) (keeps : Keeps r r collect gather) where
  abbrev AlikeWalk : Walk F → Walk G → Type 0
  AlikeWalk w v = (form : Form) (fs : List F) (gs : List G) (made : Made) (path : Path) → r (types_of form) fs gs → w form fs made path ≡ v form gs made path

  abbrev AlikeElement : Element F → Element G → Type 0
  AlikeElement d e = (b : Below) (fs : List F) (gs : List G) (made : Text) (path : Path) → r b.types fs gs → d b fs made path ≡ e b gs made path

  abbrev AlikeMember : Text × Walk F → Text × Walk G → Type 0
  AlikeMember x y = (x.0 ≡ y.0) × AlikeWalk x.1 y.1

  abbrev AlikeOption : Option (Walk F) → Option (Walk G) → Type 0
  AlikeOption None None = Unit {0}
  AlikeOption None (Some v) = ⊥
  AlikeOption (Some w) None = ⊥
  AlikeOption (Some w) (Some v) = AlikeWalk w v

  info_alike : (us : List (Group F)) (vs : List (Group G)) → AllZip (AlikeGroup r) us vs → info_in us ≡ info_in vs
  info_alike [] [] h = refl
  info_alike [] (v ∷ vs) h = absurd h
  info_alike (u ∷ us) [] h = absurd h
  info_alike (u ∷ us) (v ∷ vs) h =
      let rest = info_alike us vs h.1 in
      λ i. cond (bytes_eq (h.0.first i).response (codes "pageInfo")) (unwrap_or (first_of (types_of (h.0.first i).form)) []) (rest i)

  info_same : (types : List Text) (page : Option Text) (fs : List F) (gs : List G) → Known types page → r types fs gs → info_of collect page fs ≡ info_of gather page gs
  info_same types None fs gs known below = refl
  info_same types (Some T) fs gs known below = info_alike (groups_at collect T fs) (groups_at gather T gs) (keeps T types fs gs known below).groups

  pages_alike : (id : Text) (g : Group F) (h : Group G) → AlikeGroup r g h → pages_of collect id g ≡ pages_of gather id h
  pages_alike id g h e =
      let page = first_of (types_of g.first.ask.form) in
      let info = info_same (types_of g.first.ask.form) page (parts g) (parts h) (known_head (types_of g.first.ask.form)) e.below.0 in
      let keys = handles_same (asks g) (asks h) e.there e.back in
      (λ i. pages_for id g.first.ask (unwrap_or page []) (info i) (keys i))
      ∙ ap (λ a. pages_for id a (unwrap_or (first_of (types_of a.form)) []) (info_of gather (first_of (types_of a.form)) (parts h)) (sorted_texts (handles (asks h)))) e.first

  lookup_alike : (key : Text) (ws : List (Text × Walk F)) (vs : List (Text × Walk G)) → AllZip AlikeMember ws vs
      → AlikeOption (lookup (λ k. bytes_eq k key) ws) (lookup (λ k. bytes_eq k key) vs)
  lookup_alike key [] [] h = tt
  lookup_alike key [] (v ∷ vs) h = absurd h
  lookup_alike key (w ∷ ws) [] h = absurd h
  lookup_alike key (w ∷ ws) (v ∷ vs) h =
      either (bytes_eq w.0 key) (bytes_eq v.0 key) (ap (λ k. bytes_eq k key) h.0.0) (lookup_alike key ws vs h.1)
    where
      either : (b c : Bool) → b ≡ c → AlikeOption (lookup (λ k. bytes_eq k key) ws) (lookup (λ k. bytes_eq k key) vs)
          → AlikeOption (cond b (Some w.1) (lookup (λ k. bytes_eq k key) ws)) (cond c (Some v.1) (lookup (λ k. bytes_eq k key) vs))
      either true true e rest = h.0.1
      either true false e rest = absurd (true≢false e)
      either false true e rest = absurd (true≢false (sym e))
      either false false e rest = rest

  group_says_alike : (id : Text) (path : Path) (g : Group F) (h : Group G) → AlikeGroup r g h → (w : Option (Walk F)) (v : Option (Walk G)) → AlikeOption w v
      → group_says collect id path g w ≡ group_says gather id path h v
  group_says_alike id path g h e None None same = refl
  group_says_alike id path g h e None (Some v) same = absurd same
  group_says_alike id path g h e (Some w) None same = absurd same
  group_says_alike id path g h e (Some w) (Some v) same =
      let pages = pages_alike id g h e in
      let inner = same g.first.ask.form (parts g) (parts h) (client_id id (key_of g.first.ask)) (path ++ Key g.first.ask.response ∷ []) e.below.0 in
      (λ i. field_says id path g.first.ask (pages i) (inner i))
      ∙ ap (λ a. field_says id path a (pages_of gather id h) (v a.form (parts h) (client_id id (key_of a)) (path ++ Key a.response ∷ []))) e.first

  groups_alike : (id : Text) (path : Path) (ws : List (Text × Walk F)) (ys : List (Text × Walk G)) → AllZip AlikeMember ws ys
      → (us : List (Group F)) (vs : List (Group G)) → AllZip (AlikeGroup r) us vs → groups_say collect id path ws us ≡ groups_say gather id path ys vs
  groups_alike id path ws ys same [] [] h = refl
  groups_alike id path ws ys same [] (v ∷ vs) h = absurd h
  groups_alike id path ws ys same (u ∷ us) [] h = absurd h
  groups_alike id path ws ys same (u ∷ us) (v ∷ vs) h =
      let key = u.first.ask.response in
      let first = group_says_alike id path u v h.0 (lookup (λ k. bytes_eq k key) ws) (lookup (λ k. bytes_eq k key) ys) (lookup_alike key ws ys same)
      ∙ ap (λ a. group_says gather id path v (lookup (λ k. bytes_eq k a.response) ys)) h.0.first in
      let rest = groups_alike id path ws ys same us vs h.1 in
      λ i. both (form_says (h.0.first i).form (first i)) (rest i)

  responses_alike : (us : List (Group F)) (vs : List (Group G)) → AllZip (AlikeGroup r) us vs → responses us ≡ responses vs
  responses_alike [] [] h = refl
  responses_alike [] (v ∷ vs) h = absurd h
  responses_alike (u ∷ us) [] h = absurd h
  responses_alike (u ∷ us) (v ∷ vs) h =
      let rest = responses_alike us vs h.1 in
      λ i. (h.0.first i).response ∷ rest i

  typed_alike : (ms : J.Members) (ws : List (Text × Walk F)) (ys : List (Text × Walk G)) → AllZip AlikeMember ws ys → (b : Below) (fs : List F) (gs : List G) (made : Text) (path : Path)
      → (o : Option Text) → Known b.types o → r b.types fs gs → typed_says collect ms ws b fs made path o ≡ typed_says gather ms ys b gs made path o
  typed_alike ms ws ys same b fs gs made path None known h = refl
  typed_alike ms ws ys same b fs gs made path (Some T) known h =
      let groups = (keeps T b.types fs gs known h).groups in
      let keys = responses_alike (groups_at collect T fs) (groups_at gather T gs) groups in
      let rest : (id : Text) → groups_say collect id path ws (groups_at collect T fs) ≡ groups_say gather id path ys (groups_at gather T gs)
      = λ id. groups_alike id path ws ys same (groups_at collect T fs) (groups_at gather T gs) groups in
      let i0 = id_under (has_text b.identified T) made (path ++ Key (codes "id") ∷ []) (get_member (codes "id") ms) in
      λ i. unless_misnamed (not b.open_type && is_misnamed T (keys i) (get_member typename_key ms)) path
      (with_id i0 (λ id. both (put_at id typename_key (Leaf (Words T)) path) (rest id i)))

  elements_alike : (es : List (Element F)) (ds : List (Element G)) → AllZip AlikeElement es ds → (b : Below) (fs : List F) (gs : List G) (made : Made) (n : ℕ) (path : Path)
      → r b.types fs gs → elements_under es b fs made n path ≡ elements_under ds b gs made n path
  elements_alike [] [] same b fs gs made n path h = refl
  elements_alike [] (d ∷ ds) same b fs gs made n path h = absurd same
  elements_alike (e ∷ es) [] same b fs gs made n path h = absurd same
  elements_alike (e ∷ es) (d ∷ ds) same b fs gs made n path h =
      let first = same.0 b fs gs (made (Some n)) (path ++ Index n ∷ []) h in
      let rest = elements_alike es ds same.1 b fs gs made (n + 1) path h in
      λ i. ((first i).0 ∷ (rest i).0, both (first i).1 (rest i).1)

  list_alike : (d : J.Data) (es : List (Element F)) (ds : List (Element G)) → AllZip AlikeElement es ds → AlikeWalk (list_under d es) (list_under d ds)
  list_alike d es ds same typename fs gs made path h = refl
  list_alike d es ds same leaf fs gs made path h = refl
  list_alike d es ds same (one b) fs gs made path h = refl
  list_alike d es ds same (many b) fs gs made path h = ap list_of (elements_alike es ds same b fs gs made 0 path h)

  object_alike : (d : J.Data) (e : Element F) (f : Element G) → AlikeElement e f → AlikeWalk (object_under d e) (object_under d f)
  object_alike d e f same typename fs gs made path h = refl
  object_alike d e f same leaf fs gs made path h = refl
  object_alike d e f same (one b) fs gs made path h = ap link_of (same b fs gs (made None) path h)
  object_alike d e f same (many b) fs gs made path h = refl

  scalar_alike : (d : J.Data) → AlikeWalk (scalar_under d) (scalar_under d)
  scalar_alike d typename fs gs made path h = refl
  scalar_alike d leaf fs gs made path h = refl
  scalar_alike d (one b) fs gs made path h = refl
  scalar_alike d (many b) fs gs made path h = refl

  says_object_alike : (ms : J.Members) (ws : List (Text × Walk F)) (ys : List (Text × Walk G)) → AllZip AlikeMember ws ys → AlikeElement (object_says collect ms ws) (object_says gather ms ys)
  says_object_alike ms ws ys same b fs gs made path h =
      let d = get_member typename_key ms in
      typed_alike ms ws ys same b fs gs made path (type_under b.open_type b.types d) (known_under b.open_type b.types d) h

  mutual
    pub walk_alike : (d : J.Data) → AlikeWalk (walk_of collect d) (walk_of gather d)
    walk_alike J.null = λ form fs gs made path h. refl
    walk_alike (J.boolean b) = scalar_alike (J.boolean b)
    walk_alike (J.number n) = scalar_alike (J.number n)
    walk_alike (J.string s) = scalar_alike (J.string s)
    walk_alike (J.array ds) = list_alike (J.array ds) (elements_of collect ds) (elements_of gather ds) (elements_of_alike ds)
    walk_alike (J.object ms) = object_alike (J.object ms) (object_says collect ms (walks_of collect ms)) (object_says gather ms (walks_of gather ms))
        (says_object_alike ms (walks_of collect ms) (walks_of gather ms) (walks_of_alike ms))

    element_alike : (d : J.Data) → AlikeElement (element_of collect d) (element_of gather d)
    element_alike J.null = λ b fs gs made path h. refl
    element_alike (J.boolean b) = λ b fs gs made path h. refl
    element_alike (J.number n) = λ b fs gs made path h. refl
    element_alike (J.string s) = λ b fs gs made path h. refl
    element_alike (J.array ds) = λ b fs gs made path h. refl
    element_alike (J.object ms) = says_object_alike ms (walks_of collect ms) (walks_of gather ms) (walks_of_alike ms)

    elements_of_alike : (ds : J.Items) → AllZip AlikeElement (elements_of collect ds) (elements_of gather ds)
    elements_of_alike J.no_items = tt
    elements_of_alike (J.item d ds) = (element_alike d, elements_of_alike ds)

    walks_of_alike : (ms : J.Members) → AllZip AlikeMember (walks_of collect ms) (walks_of gather ms)
    walks_of_alike J.no_members = tt
    walks_of_alike (J.member k d ms) = ((refl, walk_alike d), walks_of_alike ms)

  root_alike : (T : Text) (fs : List F) (gs : List G) → r (T ∷ []) fs gs → (d : Option J.Data) → root_says collect T fs d ≡ root_says gather T gs d
  root_alike T fs gs h None = refl
  root_alike T fs gs h (Some J.null) = refl
  root_alike T fs gs h (Some (J.boolean b)) = refl
  root_alike T fs gs h (Some (J.number n)) = refl
  root_alike T fs gs h (Some (J.string s)) = refl
  root_alike T fs gs h (Some (J.array ds)) = refl
  root_alike T fs gs h (Some (J.object ms)) =
      ap (both (put_at (root) typename_key (Leaf (Words (codes "__Root"))) []))
      (groups_alike (root) [] (walks_of collect ms) (walks_of gather ms) (walks_of_alike ms)
      (groups_at collect T fs) (groups_at gather T gs) (keeps T (T ∷ []) fs gs (has_first T []) h).groups)

  -- every response says the same of related parts
  pub response_alike : (T : Text) (fs : List F) (gs : List G) → r (T ∷ []) fs gs → (d : J.Data) → response_says collect T fs d ≡ response_says gather T gs d
  response_alike T fs gs h J.null = refl
  response_alike T fs gs h (J.boolean b) = refl
  response_alike T fs gs h (J.number n) = refl
  response_alike T fs gs h (J.string s) = refl
  response_alike T fs gs h (J.array ds) = refl
  response_alike T fs gs h (J.object ms) = root_alike T fs gs h (get_member (codes "data") ms)
