-- Two maps with the same slots at the ids of a reach give the same reach.
use Rattle.std.proofs.Common.{◌≡◌, ℕ, zero, suc, Bool, true, false, cond, List, [], ◌∷◌, ◌++◌, refl, sym, ap, ◌∙◌}
use Rattle.store_record.specs.gql_plain.Order.{has_text}
use Rattle.store_record.specs.Keys.{Text}
use Rattle.store_model.proofs.Least.{Each, each_left, each_right}
use Rattle.store_model.specs.Items.{Ask, Group, asks, parts, Collect, groups_at}
use Rattle.store_model.specs.Reaches.{Onward, types_of, links_followed, from_each, reach_asked, reach_groups, reach_stand, reach_at}
use Rattle.store_model.specs.Walks.{Slots, Fields, Standing, absent, gone, lives, standing_of, field_of}

module _ (P : Text → Type 0) where
  from_same : (next other : Text → List Text) → ((id : Text) → Each P (next id) → other id ≡ next id) → (ids : List Text) → Each P (from_each next ids) → from_each other ids ≡ from_each next ids
  from_same next other same [] h = refl
  from_same next other same (id ∷ ids) h =
      let first = same id (each_left P (next id) (from_each next ids) h) in
      let rest = from_same next other same ids (each_right P (next id) (from_each next ids) h) in
      λ i. first i ++ rest i

  module _ {F : Type 0} (next other : Onward F) (same : (types : List Text) (fs : List F) (id : Text) → Each P (next types fs id) → other types fs id ≡ next types fs id) (fields : Fields) where
    asked_same : (fs : List F) (us : List Ask) → Each P (reach_asked next fields fs us) → reach_asked other fields fs us ≡ reach_asked next fields fs us
    asked_same fs [] h = refl
    asked_same fs (a ∷ us) h =
        let here = from_each (next (types_of a.form) fs) (links_followed fields a) in
        let first = from_same (next (types_of a.form) fs) (other (types_of a.form) fs) (same (types_of a.form) fs) (links_followed fields a) (each_left P here (reach_asked next fields fs us) h) in
        let rest = asked_same fs us (each_right P here (reach_asked next fields fs us) h) in
        λ i. first i ++ rest i

    groups_same : (gs : List (Group F)) → Each P (reach_groups next fields gs) → reach_groups other fields gs ≡ reach_groups next fields gs
    groups_same [] h = refl
    groups_same (g ∷ gs) h =
        let here = reach_asked next fields (parts g) (asks g) in
        let first = asked_same (parts g) (asks g) (each_left P here (reach_groups next fields gs) h) in
        let rest = groups_same gs (each_right P here (reach_groups next fields gs) h) in
        λ i. first i ++ rest i

    possible_same : (possible : Bool) (gs : List (Group F)) → Each P (cond possible (reach_groups next fields gs) []) → cond possible (reach_groups other fields gs) [] ≡ cond possible (reach_groups next fields gs) []
    possible_same true gs h = groups_same gs h
    possible_same false gs h = refl

    stand_same : (collect : Collect F) (typed : Text → Text) (types : List Text) (fs : List F) (s : Standing) → Each P (reach_stand collect typed next types fs s fields)
        → reach_stand collect typed other types fs s fields ≡ reach_stand collect typed next types fs s fields
    stand_same collect typed types fs absent h = refl
    stand_same collect typed types fs gone h = refl
    stand_same collect typed types fs (lives name) h = possible_same (has_text types (typed name)) (groups_at collect (typed name) fs) h

module _ {F : Type 0} (collect : Collect F) (typed : Text → Text) (m n : Slots) where
  -- a reach stays the same in every map with the same slots at its ids
  pub reach_same : (depth : ℕ) (types : List Text) (fs : List F) (id : Text) → Each (λ j. m j ≡ n j) (reach_at collect typed m depth types fs id)
      → reach_at collect typed n depth types fs id ≡ reach_at collect typed m depth types fs id
  reach_same zero types fs id h = refl
  reach_same (suc depth) types fs id h =
      ap (λ ids. id ∷ ids) (
      ap (λ s. reach_stand collect typed (reach_at collect typed n depth) types fs (standing_of s) (field_of s)) (sym h.0)
      ∙ stand_same (λ j. m j ≡ n j) (reach_at collect typed m depth) (reach_at collect typed n depth) (reach_same depth) (field_of (m id)) collect typed types fs (standing_of (m id)) h.1)
