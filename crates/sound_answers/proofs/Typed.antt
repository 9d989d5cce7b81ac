-- The groups that an operation gives on an object type are of object types, and so are those below them; the pages that they ask for too.
use Rattle.std.proofs.Common.{◌≡◌, ℕ, zero, suc, Bool, true, false, true≢false, cond, List, [], ◌∷◌, map, codes, Option, Some, None, option_map, unwrap_or, is_some, bytes_eq, refl, ap, sym, subst, ◌∙◌, inl, inr}
use Rattle.std.specs.List.{AllByRecursion}
use Rattle.plan_ir.proofs.gql_graph_laws.TextSteps.{same_text}
use Rattle.plan_ir.specs.gql_plain.Order.{has_text}
use Rattle.plan_build.proofs.Covariance.{object_alone}
use Rattle.plan_build.proofs.CovarianceNames.{object_is_composite}
use Rattle.plan_build.proofs.CovarianceRules.{sound_meets}
use Rattle.plan_build.proofs.Grouped.{asks_seen, each_map, each_so, seen_group}
use Rattle.plan_build.proofs.Meaning.{Fit, holds_below, merge_below, parts_sets}
use Rattle.plan_build.proofs.PartLaws.{GatheredFrom, Holds, Merge, all_from, among_map, one_form}
use Rattle.plan_build.proofs.Parts.{Part, as_set, gather_all}
use Rattle.plan_build.proofs.SoundTypes.{are_objects, are_sound}
use Rattle.plan_build.specs.Connected.{asks_page}
use Rattle.plan_build.specs.Meeting.{base_on}
use Rattle.plan_build.specs.NodesMeaning.{Set, collect_nodes}
use Rattle.plan_ir.specs.Additions.{type_on}
use Rattle.plan_ir.specs.schema_rules.Checked.{IsSound}
use Rattle.plan_ir.specs.schema_rules.Rules.{is_object}
use Rattle.plan_ir.specs.schema_tables.Fits.{is_list_type}
use Rattle.plan_ir.specs.schema_tables.Types.{Text, Defs, base_of, is_composite}
use Rattle.plan_ir.proofs.store_model_laws.Least.{each_from, in_first}
use Rattle.plan_ir.proofs.store_model_laws.Seated.{SeatedIn, Seated, group_for, grouped_seats, of_among}
use Rattle.plan_ir.proofs.store_model_laws.Valid.{Fits, onto_fits}
use Rattle.plan_ir.specs.store_model.Alike.{Among}
use Rattle.plan_ir.specs.store_model.Items.{Ask, Asked, Below, Connection, Form, Group, asked, asked_of, asks, grouped_onto, groups_at, key_of, leaf, many, members, one, parts, typename}
use Rattle.plan_ir.specs.store_model.Reaches.{types_of}
use Rattle.plan_ir.specs.store_model.Says.{first_of, handles, info_in, info_of, some_text}
use Rattle.plan_ir.specs.store_record.Keys.{Arguments, field_key, handle_key, without_nulls}
use Rattle.relay_machine.specs.relay_model.Collection.{below_type, form_of_type, form_on}
use Rattle.sound_answers.proofs.Gathered.{FieldPaged, HasInfo, IsPaged, KnownAt, PartPaged, all_paged, groups_are, info_among}
use Rattle.sound_states.proofs.sound_records_laws.Commands.{key_apart}
use Rattle.sound_states.specs.sound_records.Saying.{AreTyped, IsTyped, StandsApart}

both_so : {X : Type 0} (P Q : X → Type 0) (xs : List X) → AllByRecursion P xs → AllByRecursion Q xs → AllByRecursion (λ x. P x × Q x) xs
both_so P Q [] h k = tt
both_so P Q (x ∷ xs) h k = ((h.0, k.0), both_so P Q xs h.1 k.1)

-- ---- forms

-- a field that is no type name has another key
stands : (defs : Defs) (T n : Text) (xs : Arguments) → StandsApart (form_on defs T n) (field_key n xs)
stands defs T n xs = on (bytes_eq n (codes "__typename")) (is_composite defs (base_of (type_on defs T n))) (is_list_type (type_on defs T n)) refl
  where
    below : Below
    below = below_type defs (base_of (type_on defs T n))

    apart : bytes_eq n (codes "__typename") ≡ false → bytes_eq (field_key n xs) (codes "__typename") ≡ false
    apart e = key_apart n (without_nulls xs) (λ same. true≢false (sym (ap (λ (m : Text). bytes_eq m (codes "__typename")) same) ∙ e))

    on : (b k l : Bool) → bytes_eq n (codes "__typename") ≡ b → StandsApart (cond b typename (cond k (cond l (many below) (one below)) leaf)) (field_key n xs)
    on true k l e = tt
    on false true true e = apart e
    on false true false e = apart e
    on false false l e = apart e

-- a field of an object type leads to it alone
types_on : (defs : Defs) → IsSound defs → (T n : Text) → bytes_eq n (codes "__typename") ≡ false → is_object defs (base_on defs T n) ≡ true → types_of (form_on defs T n) ≡ base_on defs T n ∷ []
types_on defs sound T n off object =
    ap (λ (b : Bool). types_of (cond b typename (form_of_type defs (type_on defs T n)))) off
    ∙ ap (λ (b : Bool). types_of (cond b (cond (is_list_type (type_on defs T n)) (many below) (one below)) leaf)) (object_is_composite defs (base_on defs T n) object)
    ∙ either (is_list_type (type_on defs T n))
    ∙ object_alone defs (sound_meets defs sound) (base_on defs T n) object
  where
    below : Below
    below = below_type defs (base_on defs T n)

    either : (l : Bool) → types_of (cond l (many below) (one below)) ≡ below.types
    either true = refl
    either false = refl

-- ---- groups

-- a field that asks for a page of a connection
record IsAsker (P : Asked Part → Type 0) (ms : List (Asked Part)) : Type 0 where
  field : Asked Part
  there : Among field ms
  fact : P field
  connected : is_some field.ask.connection ≡ true

asker : (P : Asked Part → Type 0) (ms : List (Asked Part)) (key : Text) → AllByRecursion P ms → has_text (handles (map (λ (m : Asked Part). m.ask) ms)) key ≡ true → IsAsker P ms
asker P [] key all h = absurd (true≢false (sym h))
asker P (m ∷ ms) key all h = on (λ k. further (asker P ms key all.1 k)) m.ask.connection refl h
  where
    further : IsAsker P ms → IsAsker P (m ∷ ms)
    further a = record { field = a.field; there = inr a.there; fact = a.fact; connected = a.connected }

    on : (has_text (handles (map (λ (x : Asked Part). x.ask) ms)) key ≡ true → IsAsker P (m ∷ ms)) → (c : Option Connection) → m.ask.connection ≡ c
        → has_text (some_text (option_map (λ (d : Connection). handle_key d.key d.filters m.ask.arguments) c) (handles (map (λ (x : Asked Part). x.ask) ms))) key ≡ true → IsAsker P (m ∷ ms)
    on later None e k = later k
    on later (Some c) e k = record { field = m; there = inl refl; fact = all.0; connected = ap is_some e }

asked_back : (us : List (Asked Part)) → asked_of (map asked us) ≡ us
asked_back [] = refl
asked_back (u ∷ us) = ap (λ (vs : List (Asked Part)). u ∷ vs) (asked_back us)

-- a field that is gathered stands in the group of its response key
seated : (us : List (Asked Part)) (a : Asked Part) → Among a us → Seated (grouped_onto [] us) a
seated us a there =
    subst (λ (vs : List (Asked Part)). Seated (grouped_onto [] vs) a) (asked_back us) (grouped_seats (map asked us) a (subst (Among a) (sym (asked_back us)) there))

-- the type of the page information is that of any field of its response key, where all those have one form
info_found : (Q : Asked Part → Type 0) → ((x y : Asked Part) → Q x → Q y → x.ask.response ≡ y.ask.response → x.ask.form ≡ y.ask.form)
    → (gs : List (Group Part)) → AllByRecursion (Fits Q) gs → (a : Asked Part) → Q a → a.ask.response ≡ codes "pageInfo" → SeatedIn (group_for (codes "pageInfo") gs) a
    → info_in (map (seen_group as_set) gs) ≡ unwrap_or (first_of (types_of a.ask.form)) []
info_found Q same [] all a q r s = absurd s
info_found Q same (g ∷ gs) all a q r s = on (bytes_eq g.first.ask.response (codes "pageInfo")) refl s (info_found Q same gs all.1 a q r)
  where
    on : (b : Bool) → bytes_eq g.first.ask.response (codes "pageInfo") ≡ b → SeatedIn (cond b (Some g) (group_for (codes "pageInfo") gs)) a
        → (SeatedIn (group_for (codes "pageInfo") gs) a → info_in (map (seen_group as_set) gs) ≡ unwrap_or (first_of (types_of a.ask.form)) [])
        → cond b (unwrap_or (first_of (types_of g.first.ask.form)) []) (info_in (map (seen_group as_set) gs)) ≡ unwrap_or (first_of (types_of a.ask.form)) []
    on true e k later = ap (λ (f : Form). unwrap_or (first_of (types_of f)) []) (same g.first a all.0.0.0 q (same_text g.first.ask.response (codes "pageInfo") e ∙ sym r))
    on false e k later = later k

module _ (defs : Defs) (sound : IsSound defs) where
  -- the page information of the type of a connection, where a part asks for it
  info_object : (O : Text) (fs : List Set) (k : KnownAt defs O fs) → is_object defs (base_on defs O (codes "pageInfo")) ≡ true → (p : Part) → Among p k.parts → asks_page p.set.nodes ≡ true
      → is_object defs (info_in (groups_at (collect_nodes defs) O fs)) ≡ true
  info_object O fs k object p there h =
      let us : List (Asked Part) = gather_all defs O k.parts in
      let gs : List (Group Part) = grouped_onto [] us in
      let facts : AllByRecursion (GatheredFrom defs O k.parts) us = all_from defs (are_sound defs sound) O k.parts k.holds in
      let i : HasInfo defs O us = info_among defs O k.parts p there h in
      let q : GatheredFrom defs O k.parts i.field = of_among (GatheredFrom defs O k.parts) i.field us facts i.there in
      let here : SeatedIn (group_for (codes "pageInfo") gs) i.field = subst (λ (r : Text). SeatedIn (group_for r gs) i.field) i.response (seated us i.field i.there) in
      ap (λ (hs : List (Group Set)). is_object defs (info_in hs)) (groups_are defs O fs k)
      ∙ ap (is_object defs) (info_found (GatheredFrom defs O k.parts) (one_form defs O k.parts k.merge) gs (onto_fits (GatheredFrom defs O k.parts) us [] tt facts) i.field q i.response here)
      ∙ ap (λ (f : Form). is_object defs (unwrap_or (first_of (types_of f)) [])) (q.gathered.form ∙ ap (form_on defs O) i.name)
      ∙ ap (λ (ts : List Text). is_object defs (unwrap_or (first_of ts) [])) (types_on defs sound O (codes "pageInfo") refl object)
      ∙ object

  abbrev Typed : ℕ → Group Set → Type 0
  Typed n g = IsTyped (is_object defs) (collect_nodes defs) (λ U gs. AreTyped (is_object defs) (collect_nodes defs) n U gs) g

  module _ (T : Text) (ps : List Part) (merge : Merge defs ps) where
    abbrev Fact : Asked Part → Type 0
    Fact a = GatheredFrom defs T ps a × FieldPaged defs T a

    module _ (g : Group Part) (fits : Fits Fact g) where
      abbrev first : Asked Part
      first = g.first

      from : GatheredFrom defs T ps first
      from = fits.0.0.0

      abbrev inner : List Set
      inner = parts (seen_group as_set g)

      all_fit : AllByRecursion (Fit defs T ps merge first.ask.response) (members g)
      all_fit = each_so (λ (m : Asked Part). Fact m × (m.ask.response ≡ first.ask.response)) (Fit defs T ps merge first.ask.response) (members g) (λ m f. (f.0.0, f.1)) fits

      -- what stands below the group, on each type that it may have
      known_below : (U : Text) → has_text (types_of first.ask.form) U ≡ true → KnownAt defs U inner
      known_below U h = record {
        parts = map (λ (m : Asked Part). m.part) (members g);
        sets = parts_sets (members g);
        holds = each_map (λ (m : Asked Part). m.part) (Holds defs U) (members g)
            (each_so (Fit defs T ps merge first.ask.response) (λ m. Holds defs U m.part) (members g) (λ m fit. holds_below defs T ps merge first m U fit from h) all_fit);
        merge = merge_below defs T ps merge first.ask.response (members g) all_fit;
        paged = each_map (λ (m : Asked Part). m.part) (PartPaged defs) (members g)
            (each_so (λ (m : Asked Part). Fact m × (m.ask.response ≡ first.ask.response)) (λ m. PartPaged defs m.part) (members g) (λ m f. f.0.1.below) fits);
      }

      -- where one of its fields asks for a page
      record HasPage : Type 0 where
        type : Text
        types : types_of first.ask.form ≡ type ∷ []
        object : is_object defs type ≡ true
        info : is_object defs (info_in (groups_at (collect_nodes defs) type inner)) ≡ true

      page_of : (key : Text) → has_text (handles (asks (seen_group as_set g))) key ≡ true → HasPage
      unfolding known_below
      page_of key h =
          let a = asker (λ (m : Asked Part). Fact m × (m.ask.response ≡ first.ask.response)) (members g) key fits
          (sym (ap (λ (as' : List Ask). has_text (handles as') key) (asks_seen as_set (members g))) ∙ h) in
          let m : Asked Part = a.field in
          let O : Text = base_on defs T m.ask.name in
          let q : IsPaged defs T m.ask.name m.part.set.nodes = a.fact.0.1.page a.connected in
          let same : first.ask.form ≡ form_on defs T m.ask.name = one_form defs T ps merge first m from a.fact.0.0 (sym a.fact.1) ∙ a.fact.0.0.gathered.form in
          let only : types_of first.ask.form ≡ O ∷ [] = ap types_of same ∙ types_on defs sound T m.ask.name q.apart q.object in
          let here : has_text (types_of first.ask.form) O ≡ true = ap (λ (ts : List Text). has_text ts O) only ∙ in_first O [] in
          record {
            type = O;
            types = only;
            object = q.object;
            info = info_object O inner (known_below O here) q.page m.part (among_map (λ (x : Asked Part). x.part) m (members g) a.there) q.asks;
          }

      group_typed : (n : ℕ) → ((U : Text) (fs : List Set) → KnownAt defs U fs → AreTyped (is_object defs) (collect_nodes defs) n U fs) → Typed n (seen_group as_set g)
      group_typed n next = record {
        key = subst (λ (f : Form). StandsApart f (key_of first.ask)) (sym from.gathered.form) (stands defs T first.ask.name first.ask.arguments);
        types = each_from (λ U. is_object defs U ≡ true) (types_of first.ask.form) (λ U h. are_objects defs sound first.part.type U (from.gathered.below U h));
        below = λ U h. next U inner (known_below U h);
        page = λ key h. let x = page_of key h in ap (λ (ts : List Text). is_object defs (unwrap_or (first_of ts) [])) x.types ∙ x.object;
        info = λ key h. let x = page_of key h in ap (λ (ts : List Text). is_object defs (info_of (collect_nodes defs) (first_of ts) inner)) x.types ∙ x.info;
      }

  pub are_typed : (n : ℕ) (T : Text) (fs : List Set) → KnownAt defs T fs → AreTyped (is_object defs) (collect_nodes defs) n T fs
  are_typed zero T fs k = tt
  are_typed (suc n) T fs k =
      let us : List (Asked Part) = gather_all defs T k.parts in
      let facts : AllByRecursion (Fact T k.parts k.merge) us =
      both_so (GatheredFrom defs T k.parts) (FieldPaged defs T) us (all_from defs (are_sound defs sound) T k.parts k.holds) (all_paged defs sound T k.parts k.holds k.paged) in
      subst (AllByRecursion (Typed n)) (sym (groups_are defs T fs k))
      (each_map (seen_group as_set) (Typed n) (grouped_onto [] us)
      (each_so (Fits (Fact T k.parts k.merge)) (λ g. Typed n (seen_group as_set g)) (grouped_onto [] us)
      (λ g fits. group_typed T k.parts k.merge g fits n (λ U gs more. are_typed n U gs more)) (onto_fits (Fact T k.parts k.merge) us [] tt facts)))
