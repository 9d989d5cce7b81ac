-- Parts that collect alike items, one by one, reach the same ids in the same order.
use Rattle.std.proofs.Common.{◌≡◌, ℕ, zero, suc, ◌≤◌, List, [], ◌∷◌, ◌++◌, cond, map, refl, ap, ◌∙◌, arith}
use Rattle.std.specs.List.{AllZip}
use Rattle.store_record.specs.gql_plain.Order.{has_text}
use Rattle.store_record.specs.Keys.{Text}
use Rattle.store_model.proofs.ItemReads.{all_alike, GivesItems}
use Rattle.store_model.proofs.SameItems.{AlikeAsked, AlikeItem, Fieldwise, grouped_alike, parts_alike}
use Rattle.store_model.specs.Items.{Asked, Group, members, parts, Collect, collect_all, groups_at}
use Rattle.store_model.specs.Reaches.{Onward, types_of, links_followed, from_each, reach_asked, reach_groups, reach_stand, reach_at}
use Rattle.store_model.specs.Walks.{Slots, Fields, Standing, absent, gone, lives, standing_of, field_of}

from_alike : (next other : Text → List Text) → ((id : Text) → next id ≡ other id) → (ids : List Text) → from_each next ids ≡ from_each other ids
from_alike next other same [] = refl
from_alike next other same (id ∷ ids) =
    let first = same id in
    let rest = from_alike next other same ids in
    λ i. first i ++ rest i

module _ {F G : Type 0} (r : F → G → Type 0) (next : Onward F) (other : Onward G)
    (same : (types : List Text) (f : F) (fs : List F) (g : G) (gs : List G) (id : Text) → r f g → AllZip r fs gs → next types (f ∷ fs) id ≡ other types (g ∷ gs) id) where
  fields_alike : (fields : Fields) (fs : List F) (gs : List G) → ((types : List Text) (id : Text) → next types fs id ≡ other types gs id)
      → (us : List (Asked F)) (vs : List (Asked G)) → AllZip (AlikeAsked r) us vs → reach_asked next fields fs (map (λ u. u.ask) us) ≡ reach_asked other fields gs (map (λ v. v.ask) vs)
  fields_alike fields fs gs below [] [] h = refl
  fields_alike fields fs gs below [] (v ∷ vs) h = absurd h
  fields_alike fields fs gs below (u ∷ us) [] h = absurd h
  fields_alike fields fs gs below (u ∷ us) (v ∷ vs) h =
      let first = from_alike (next (types_of u.ask.form) fs) (other (types_of u.ask.form) gs) (below (types_of u.ask.form)) (links_followed fields u.ask)
      ∙ ap (λ a. from_each (other (types_of a.form) gs) (links_followed fields a)) h.0.ask in
      let rest = fields_alike fields fs gs below us vs h.1 in
      λ i. first i ++ rest i

  groups_alike : (fields : Fields) (us : List (Group F)) (vs : List (Group G)) → AllZip (Fieldwise r) us vs → reach_groups next fields us ≡ reach_groups other fields vs
  groups_alike fields [] [] h = refl
  groups_alike fields [] (v ∷ vs) h = absurd h
  groups_alike fields (u ∷ us) [] h = absurd h
  groups_alike fields (u ∷ us) (v ∷ vs) h =
      let below = parts_alike r (members u) (members v) h.0 in
      let first = fields_alike fields (parts u) (parts v) (λ types id. same types u.first.part _ v.first.part _ id below.0 below.1) (members u) (members v) h.0 in
      let rest = groups_alike fields us vs h.1 in
      λ i. first i ++ rest i

  stand_alike : (collect : Collect F) (gather : Collect G) (typed : Text → Text) (fs : List F) (gs : List G)
      → ((T : Text) → AllZip (AlikeItem r) (collect_all collect T fs) (collect_all gather T gs))
      → (types : List Text) (s : Standing) (fields : Fields) → reach_stand collect typed next types fs s fields ≡ reach_stand gather typed other types gs s fields
  stand_alike collect gather typed fs gs items types absent fields = refl
  stand_alike collect gather typed fs gs items types gone fields = refl
  stand_alike collect gather typed fs gs items types (lives name) fields =
      let T = typed name in
      ap (λ ids. cond (has_text types T) ids [])
      (groups_alike fields (groups_at collect T fs) (groups_at gather T gs) (grouped_alike r (collect_all collect T fs) (collect_all gather T gs) (items T)))

-- ---- the laws

module _ {F G : Type 0} (collect : Collect F) (gather : Collect G) (typed : Text → Text) (m : Slots) where
  -- parts that are related, where related parts collect alike items, reach the same ids
  pub reach_items : (r : F → G → Type 0) → GivesItems collect gather r r
      → (depth : ℕ) (types : List Text) (fs : List F) (gs : List G) (id : Text) → AllZip r fs gs
      → reach_at collect typed m depth types fs id ≡ reach_at gather typed m depth types gs id
  reach_items r gives zero types fs gs id h = refl
  reach_items r gives (suc depth) types fs gs id h =
      ap (λ ids. id ∷ ids) (stand_alike r (reach_at collect typed m depth) (reach_at gather typed m depth)
      (λ types f fs g gs id e all. reach_items r gives depth types (f ∷ fs) (g ∷ gs) id (e, all))
      collect gather typed fs gs (λ T. all_alike r r collect gather gives T fs gs h)
      types (standing_of (m id)) (field_of (m id)))

  -- parts that are related n deep, where parts related n + 1 deep collect alike items whose parts are related n deep,
  -- reach the same ids under any two numbers of at least n
  pub reach_items_enough : (r : ℕ → F → G → Type 0) → ((f : F) (g : G) → r zero f g → ⊥) → ((n : ℕ) → GivesItems collect gather (r n) (r (suc n)))
      → (n depth other : ℕ) → n ≤ depth → n ≤ other → (types : List Text) (f : F) (fs : List F) (g : G) (gs : List G) (id : Text) → r n f g → AllZip (r n) fs gs
      → reach_at collect typed m depth types (f ∷ fs) id ≡ reach_at gather typed m other types (g ∷ gs) id
  reach_items_enough r none gives zero depth other a b types f fs g gs id e h = absurd (none f g e)
  reach_items_enough r none gives (suc n) zero other a b types f fs g gs id e h = absurd (omega arith)
  reach_items_enough r none gives (suc n) (suc depth) zero a b types f fs g gs id e h = absurd (omega arith)
  reach_items_enough r none gives (suc n) (suc depth) (suc other) a b types f fs g gs id e h =
      ap (λ ids. id ∷ ids) (stand_alike (r n) (reach_at collect typed m depth) (reach_at gather typed m other)
      (λ types f fs g gs id e all. reach_items_enough r none gives n depth other (omega arith) (omega arith) types f fs g gs id e all)
      collect gather typed (f ∷ fs) (g ∷ gs) (λ T. all_alike (r n) (r (suc n)) collect gather (gives n) T (f ∷ fs) (g ∷ gs) (e, h))
      types (standing_of (m id)) (field_of (m id)))
