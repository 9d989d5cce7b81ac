-- The walk by ways stands where the walk by the plan does.
use Rattle.std.proofs.Common.{◌≡◌, ℕ, zero, suc, Bool, true, false, cond, List, [], ◌∷◌, ◌++◌, map, Option, Some, None, bytes_eq, refl, sym, ap, ◌∙◌, subst, append_assoc}
use Rattle.std.specs.List.{AllZip}
use Rattle.plan_ir.specs.gql_plain.Order.{has_text}
use Rattle.plan_ir.specs.NormalMeaning.{Plan, collect_plan}
use Rattle.plan_ir.specs.store_model.Items.{Ask, Asked, Group, Item, asked, pointed, asked_of, collect_all, grouped_onto, groups_at, members, parts, with_asked}
use Rattle.plan_ir.specs.store_model.Reaches.{from_each, links_followed, links_under, links_of, reach_asked, reach_at, reach_groups, reach_stand}
use Rattle.plan_ir.specs.store_model.Walks.{Fields, Slots, field_of, standing_of, type_of_record}
use Rattle.plan_ir.specs.store_record.Keys.{Text}
use Rattle.plan_ir.specs.store_record.declared.record.Slot.{Slot}
use Rattle.plan_ir.specs.store_record.declared.record.Slot.TheVariants.{Deleted, Alive}
use Rattle.store_retain.specs.Reach.{after_each, reach_step}
use Rattle.store_retain.specs.Stands.{IsAsked, IsWayOf, StandsFor}
use Rattle.store_retain.specs.Steps.{Step, is_possible, roads_steps, slot_steps, steps_to, way_links, ways_steps}
use Rattle.store_retain.specs.Ways.{Parts, Road, Way, below_all, roads_of, roads_onto, ways_in, ways_of, ways_on, with_way}

pub zip_append : {A B : Type 0} (R : A → B → Type 0) (xs : List A) (ys : List B) (us : List A) (vs : List B) → AllZip R xs ys → AllZip R us vs → AllZip R (xs ++ us) (ys ++ vs)
zip_append R [] [] us vs h k = k
zip_append R [] (y ∷ ys) us vs h k = absurd h
zip_append R (x ∷ xs) [] us vs h k = absurd h
zip_append R (x ∷ xs) (y ∷ ys) us vs h k = (h.0, zip_append R xs ys us vs h.1 k)

asked_append : (xs ys : List (Item Plan)) → asked_of (xs ++ ys) ≡ asked_of xs ++ asked_of ys
asked_append [] ys = refl
asked_append (asked a ∷ xs) ys = ap (λ more. a ∷ more) (asked_append xs ys)
asked_append (pointed p ∷ xs) ys = asked_append xs ys

after_append : (f : Step → List Text) (xs ys : List Step) → after_each f (xs ++ ys) ≡ after_each f xs ++ after_each f ys
after_append f [] ys = refl
after_append f (x ∷ xs) ys = ap (λ ts. f x ++ ts) (after_append f xs ys) ∙ sym (append_assoc (f x) (after_each f xs) (after_each f ys))

-- ---- groups are roads

module _ (Stands : ℕ → Plan → Type 0) where
  abbrev IsRoadOf : Group Plan → Road → Type 0
  IsRoadOf g r = (r.response ≡ g.first.ask.response) × AllZip (IsWayOf Stands) (members g) r.ways

  with_here : (b : Bool) (g : Group Plan) (gs : List (Group Plan)) (r : Road) (rs : List Road) (a : Asked Plan) (w : Way) → IsRoadOf g r → AllZip IsRoadOf gs rs → IsWayOf Stands a w
      → AllZip IsRoadOf (with_asked gs a) (with_way rs w)
      → AllZip IsRoadOf (cond b (record { first = g.first; others = g.others ++ a ∷ [] } ∷ gs) (g ∷ with_asked gs a)) (cond b (record { response = r.response; ways = r.ways ++ w ∷ [] } ∷ rs) (r ∷ with_way rs w))
  with_here true g gs r rs a w here rest one later = ((here.0, zip_append (IsWayOf Stands) (members g) r.ways (a ∷ []) (w ∷ []) here.1 (one, tt)), rest)
  with_here false g gs r rs a w here rest one later = (here, later)

  with_both : (gs : List (Group Plan)) (rs : List Road) (a : Asked Plan) (w : Way) → AllZip IsRoadOf gs rs → IsWayOf Stands a w → AllZip IsRoadOf (with_asked gs a) (with_way rs w)
  with_both [] [] a w all one = ((one.0.response, (one, tt)), tt)
  with_both [] (r ∷ rs) a w all one = absurd all
  with_both (g ∷ gs) [] a w all one = absurd all
  with_both (g ∷ gs) (r ∷ rs) a w all one =
      let same : bytes_eq g.first.ask.response a.ask.response ≡ bytes_eq r.response w.response = λ i. bytes_eq (sym all.0.0 i) (sym one.0.response i) in
      let later = with_both gs rs a w all.1 one in
      subst (λ b. AllZip IsRoadOf (cond (bytes_eq g.first.ask.response a.ask.response) (record { first = g.first; others = g.others ++ a ∷ [] } ∷ gs) (g ∷ with_asked gs a)) (cond b (record { response = r.response; ways = r.ways ++ w ∷ [] } ∷ rs) (r ∷ with_way rs w)))
      same (with_here (bytes_eq g.first.ask.response a.ask.response) g gs r rs a w all.0 all.1 one later)

  onto_both : (gs : List (Group Plan)) (rs : List Road) (qs : List (Asked Plan)) (ws : List Way) → AllZip IsRoadOf gs rs → AllZip (IsWayOf Stands) qs ws → AllZip IsRoadOf (grouped_onto gs qs) (roads_onto rs ws)
  onto_both gs rs [] [] all each = all
  onto_both gs rs [] (w ∷ ws) all each = absurd each
  onto_both gs rs (a ∷ qs) [] all each = absurd each
  onto_both gs rs (a ∷ qs) (w ∷ ws) all each = onto_both (with_asked gs a) (with_way rs w) qs ws (with_both gs rs a w all each.0) each.1

  parts_both : (qs : List (Asked Plan)) (ws : List Way) → AllZip (IsWayOf Stands) qs ws → AllZip (λ f k. Stands k f) (map (λ a. a.part) qs) (below_all ws)
  parts_both [] [] all = tt
  parts_both [] (w ∷ ws) all = absurd all
  parts_both (a ∷ qs) [] all = absurd all
  parts_both (a ∷ qs) (w ∷ ws) all = (all.0.1, parts_both qs ws all.1)

-- ---- the walk

module _ (m : Slots) (root : Text) (ps : Parts) where
  abbrev reach : ℕ → List Text → List Plan → Text → List Text
  reach n = reach_at collect_plan (type_of_record root) m n

  abbrev after : ℕ → Step → List Text
  after n = reach_step m root ps n

  abbrev AreFor : ℕ → List Plan → List ℕ → Type 0
  AreFor n fs ks = AllZip (λ f k. StandsFor ps n k f) fs ks

  -- what parts ask
  ways_both : (n : ℕ) (T : Text) (fs : List Plan) (ks : List ℕ) → AreFor (suc n) fs ks → AllZip (IsWayOf (StandsFor ps n)) (asked_of (collect_all collect_plan T fs)) (ways_of ps T ks)
  ways_both n T [] [] all = tt
  ways_both n T [] (k ∷ ks) all = absurd all
  ways_both n T (f ∷ fs) [] all = absurd all
  ways_both n T (f ∷ fs) (k ∷ ks) all =
      subst (λ qs. AllZip (IsWayOf (StandsFor ps n)) qs (ways_on T (ways_in ps k) ++ ways_of ps T ks)) (sym (asked_append (collect_plan T f) (collect_all collect_plan T fs)))
      (zip_append (IsWayOf (StandsFor ps n)) (asked_of (collect_plan T f)) (ways_on T (ways_in ps k)) (asked_of (collect_all collect_plan T fs)) (ways_of ps T ks) (all.0 T) (ways_both n T fs ks all.1))

  module _ (n : ℕ) (same : (types : List Text) (fs : List Plan) (ks : List ℕ) (id : Text) → AreFor n fs ks → reach n types fs id ≡ after n (record { id = id; types = types; parts = ks })) (fields : Fields) where
    ids_same : (types : List Text) (fs : List Plan) (ks : List ℕ) → AreFor n fs ks → (ids : List Text) → from_each (reach n types fs) ids ≡ after_each (after n) (steps_to types ks ids)
    ids_same types fs ks all [] = refl
    ids_same types fs ks all (id ∷ ids) = λ i. same types fs ks id all i ++ ids_same types fs ks all ids i

    links_same : (a : Ask) (w : Way) → IsAsked a w → links_followed fields a ≡ way_links fields w
    links_same a w is = λ i. links_of (fields (sym is.key i)) ++ links_under fields (sym is.handle i)

    asked_same : (fs : List Plan) (ks : List ℕ) → AreFor n fs ks → (qs : List (Asked Plan)) (ws : List Way) → AllZip (IsWayOf (StandsFor ps n)) qs ws
        → reach_asked (reach n) fields fs (map (λ a. a.ask) qs) ≡ after_each (after n) (ways_steps fields ks ws)
    asked_same fs ks all [] [] each = refl
    asked_same fs ks all [] (w ∷ ws) each = absurd each
    asked_same fs ks all (a ∷ qs) [] each = absurd each
    asked_same fs ks all (a ∷ qs) (w ∷ ws) each =
        (λ i. from_each (reach n (sym each.0.0.types i) fs) (links_same a.ask w each.0.0 i) ++ asked_same fs ks all qs ws each.1 i)
        ∙ ap (λ ts. ts ++ after_each (after n) (ways_steps fields ks ws)) (ids_same w.types fs ks all (way_links fields w))
        ∙ sym (after_append (after n) (steps_to w.types ks (way_links fields w)) (ways_steps fields ks ws))

    groups_same : (gs : List (Group Plan)) (rs : List Road) → AllZip (IsRoadOf (StandsFor ps n)) gs rs → reach_groups (reach n) fields gs ≡ after_each (after n) (roads_steps fields rs)
    groups_same [] [] all = refl
    groups_same [] (r ∷ rs) all = absurd all
    groups_same (g ∷ gs) [] all = absurd all
    groups_same (g ∷ gs) (r ∷ rs) all =
        (λ i. asked_same (parts g) (below_all r.ways) (parts_both (StandsFor ps n) (members g) r.ways all.0.1) (members g) r.ways all.0.1 i ++ groups_same gs rs all.1 i)
        ∙ sym (after_append (after n) (ways_steps fields (below_all r.ways) r.ways) (roads_steps fields rs))

  slot_same : (n : ℕ) → ((types : List Text) (fs : List Plan) (ks : List ℕ) (id : Text) → AreFor n fs ks → reach n types fs id ≡ after n (record { id = id; types = types; parts = ks }))
      → (types : List Text) (fs : List Plan) (ks : List ℕ) → AreFor (suc n) fs ks → (s : Option Slot)
      → reach_stand collect_plan (type_of_record root) (reach n) types fs (standing_of s) (field_of s) ≡ cond (is_possible root types s) (after_each (after n) (slot_steps root ps ks s)) []
  slot_same n same types fs ks all None = refl
  slot_same n same types fs ks all (Some Deleted) = refl
  slot_same n same types fs ks all (Some (Alive r)) =
      let T = type_of_record root r.type_name in
      ap (λ ts. cond (has_text types T) ts [])
      (groups_same n same (field_of (Some (Alive r))) (groups_at collect_plan T fs) (roads_of (ways_of ps T ks)) (onto_both (StandsFor ps n) [] [] (asked_of (collect_all collect_plan T fs)) (ways_of ps T ks) tt (ways_both n T fs ks all)))

  -- the law: both walks stand at the same ids, one after another
  pub reach_same : (n : ℕ) (types : List Text) (fs : List Plan) (ks : List ℕ) (id : Text) → AreFor n fs ks → reach n types fs id ≡ after n (record { id = id; types = types; parts = ks })
  reach_same zero types fs ks id all = refl
  reach_same (suc n) types fs ks id all = ap (λ ts. id ∷ ts) (slot_same n (reach_same n) types fs ks all (m id))
