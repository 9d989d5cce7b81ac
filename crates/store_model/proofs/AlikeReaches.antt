-- Parts whose groups are alike reach the same set of ids.
use Rattle.std.proofs.Common.{◌≡◌, ◌↔◌, ℕ, zero, suc, ◌≤◌, Bool, true, false, List, [], ◌∷◌, ◌++◌, cond, refl, arith, subst, inl, inr}
use Rattle.std.specs.List.{AllByRecursion, AllZip}
use Rattle.store_model.proofs.Flips.{Flip, of_among, keeps_flip}
use Rattle.store_record.specs.Keys.{Text}
use Rattle.store_record.specs.gql_plain.Order.{has_text}
use Rattle.store_model.specs.Alike.{Among, Related, AlikeGroup, AlikeAt, Keeps}
use Rattle.store_model.specs.Items.{Ask, Group, asks, parts, Collect, groups_at}
use Rattle.store_model.specs.Reaches.{Onward, types_of, links_followed, from_each, reach_asked, reach_groups, reach_stand, reach_at}
use Rattle.store_model.specs.Walks.{Slots, Fields, Standing, absent, gone, lives, standing_of, field_of}

abbrev pub Each : {X : Type 0} → (X → Type 0) → List X → Type 0
Each P xs = AllByRecursion P xs

each_append : {X : Type 0} (P : X → Type 0) (xs ys : List X) → Each P xs → Each P ys → Each P (xs ++ ys)
each_append P [] ys a b = b
each_append P (x ∷ xs) ys a b = (a.0, each_append P xs ys a.1 b)

each_left : {X : Type 0} (P : X → Type 0) (xs ys : List X) → Each P (xs ++ ys) → Each P xs
each_left P [] ys h = tt
each_left P (x ∷ xs) ys h = (h.0, each_left P xs ys h.1)

each_right : {X : Type 0} (P : X → Type 0) (xs ys : List X) → Each P (xs ++ ys) → Each P ys
each_right P [] ys h = h
each_right P (x ∷ xs) ys h = each_right P xs ys h.1

module _ (P : Text → Type 0) where
  from_within : (next other : Text → List Text) → ((id : Text) → Each P (next id) → Each P (other id)) → (ids : List Text) → Each P (from_each next ids) → Each P (from_each other ids)
  from_within next other same [] h = h
  from_within next other same (id ∷ ids) h =
      each_append P (other id) (from_each other ids) (same id (each_left P (next id) (from_each next ids) h)) (from_within next other same ids (each_right P (next id) (from_each next ids) h))

  module _ {F G : Type 0} (r : Related F G) (next : Onward F) (other : Onward G)
      (same : (types : List Text) (fs : List F) (gs : List G) (id : Text) → r types fs gs → Each P (next types fs id) → Each P (other types gs id)) where
    -- what holds of a group's reach holds of the reach from each of its fields
    of_field : (fields : Fields) (fs : List F) (us : List Ask) (a : Ask) → Among a us → Each P (reach_asked next fields fs us) → Each P (from_each (next (types_of a.form) fs) (links_followed fields a))
    of_field fields fs [] a here h = absurd here
    of_field fields fs (u ∷ us) a (inl e) h =
        subst (λ b. Each P (from_each (next (types_of b.form) fs) (links_followed fields b))) e
        (each_left P (from_each (next (types_of u.form) fs) (links_followed fields u)) (reach_asked next fields fs us) h)
    of_field fields fs (u ∷ us) a (inr there) h =
        of_field fields fs us a there (each_right P (from_each (next (types_of u.form) fs) (links_followed fields u)) (reach_asked next fields fs us) h)

    members_within : (fields : Fields) (fs : List F) (gs : List G) → (us vs : List Ask) → Each (λ a. r (types_of a.form) fs gs) us → Each (λ b. Among b us) vs
        → Each P (reach_asked next fields fs us) → Each P (reach_asked other fields gs vs)
    members_within fields fs gs us [] below there h = tt
    members_within fields fs gs us (v ∷ vs) below there h =
        each_append P (from_each (other (types_of v.form) gs) (links_followed fields v)) (reach_asked other fields gs vs)
        (from_within (next (types_of v.form) fs) (other (types_of v.form) gs)
        (λ id. same (types_of v.form) fs gs id (of_among (λ a. r (types_of a.form) fs gs) v us below there.0))
        (links_followed fields v) (of_field fields fs us v there.0 h))
        (members_within fields fs gs us vs below there.1 h)

    groups_within : (fields : Fields) (us : List (Group F)) (vs : List (Group G)) → AllZip (AlikeGroup r) us vs → Each P (reach_groups next fields us) → Each P (reach_groups other fields vs)
    groups_within fields [] [] h reach = tt
    groups_within fields [] (v ∷ vs) h reach = absurd h
    groups_within fields (u ∷ us) [] h reach = absurd h
    groups_within fields (u ∷ us) (v ∷ vs) h reach =
        each_append P (reach_asked other fields (parts v) (asks v)) (reach_groups other fields vs)
        (members_within fields (parts u) (parts v) (asks u) (asks v) h.0.below h.0.back
        (each_left P (reach_asked next fields (parts u) (asks u)) (reach_groups next fields us) reach))
        (groups_within fields us vs h.1 (each_right P (reach_asked next fields (parts u) (asks u)) (reach_groups next fields us) reach))

    possible_within : (possible : Bool) (xs ys : List Text) → (possible ≡ true → Each P xs → Each P ys) → Each P (cond possible xs []) → Each P (cond possible ys [])
    possible_within true xs ys f h = f refl h
    possible_within false xs ys f h = tt

    stand_within : (collect : Collect F) (gather : Collect G) (typed : Text → Text) (types : List Text) (fs : List F) (gs : List G)
        → ((T : Text) → has_text types T ≡ true → AlikeAt r collect gather T fs gs)
        → (s : Standing) (fields : Fields)
        → Each P (reach_stand collect typed next types fs s fields) → Each P (reach_stand gather typed other types gs s fields)
    stand_within collect gather typed types fs gs alike absent fields h = tt
    stand_within collect gather typed types fs gs alike gone fields h = tt
    stand_within collect gather typed types fs gs alike (lives name) fields h =
        possible_within (has_text types (typed name)) _ _
        (λ yes. groups_within fields (groups_at collect (typed name) fs) (groups_at gather (typed name) gs) (alike (typed name) yes).groups) h

-- ---- the laws

module _ {F G : Type 0} (collect : Collect F) (gather : Collect G) (typed : Text → Text) (m : Slots) where
  -- what holds of each id that parts reach holds of each id that related parts reach
  pub reach_within : (P : Text → Type 0) (r : ℕ → Related F G) → ((n : ℕ) → Keeps (r n) (r (suc n)) collect gather)
      → (depth : ℕ) (types : List Text) (fs : List F) (gs : List G) (id : Text) → r depth types fs gs
      → Each P (reach_at collect typed m depth types fs id) → Each P (reach_at gather typed m depth types gs id)
  reach_within P r keeps zero types fs gs id h reach = reach
  reach_within P r keeps (suc depth) types fs gs id h reach = (
    reach.0,
    stand_within P (r depth) (reach_at collect typed m depth) (reach_at gather typed m depth)
        (λ types fs gs id h. reach_within P r keeps depth types fs gs id h)
        collect gather typed types fs gs (λ T here. keeps depth T types fs gs here h) (standing_of (m id)) (field_of (m id)) reach.1,
  )

  -- the same under any two numbers of at least the depth
  pub reach_enough : (P : Text → Type 0) (r : ℕ → Related F G) → ((types : List Text) (fs : List F) (gs : List G) → r zero types fs gs → ⊥)
      → ((n : ℕ) → Keeps (r n) (r (suc n)) collect gather)
      → (n depth other : ℕ) → n ≤ depth → n ≤ other → (types : List Text) (fs : List F) (gs : List G) (id : Text) → r n types fs gs
      → Each P (reach_at collect typed m depth types fs id) → Each P (reach_at gather typed m other types gs id)
  reach_enough P r none keeps zero depth other a b types fs gs id h reach = absurd (none types fs gs h)
  reach_enough P r none keeps (suc n) zero other a b types fs gs id h reach = absurd (omega arith)
  reach_enough P r none keeps (suc n) (suc depth) zero a b types fs gs id h reach = absurd (omega arith)
  reach_enough P r none keeps (suc n) (suc depth) (suc other) a b types fs gs id h reach = (
    reach.0,
    stand_within P (r n) (reach_at collect typed m depth) (reach_at gather typed m other)
        (λ types fs gs id h. reach_enough P r none keeps n depth other (omega arith) (omega arith) types fs gs id h)
        collect gather typed types fs gs (λ T here. keeps n T types fs gs here h) (standing_of (m id)) (field_of (m id)) reach.1,
  )

-- related parts reach the same set of ids: what holds of each id of the one holds of each of the other
pub reach_same : {F G : Type 0} (collect : Collect F) (gather : Collect G) (typed : Text → Text) (m : Slots)
    (r : ℕ → Related F G) → ((n : ℕ) → Keeps (r n) (r (suc n)) collect gather)
    → (depth : ℕ) (types : List Text) (fs : List F) (gs : List G) (id : Text) → r depth types fs gs → (P : Text → Type 0)
    → Each P (reach_at collect typed m depth types fs id) ↔ Each P (reach_at gather typed m depth types gs id)
reach_same collect gather typed m r keeps depth types fs gs id h P = (
  reach_within collect gather typed m P r keeps depth types fs gs id h,
  reach_within gather collect typed m P (λ n. Flip (r n)) (λ n. keeps_flip (r n) (r (suc n)) collect gather (keeps n)) depth types gs fs id h,
)
