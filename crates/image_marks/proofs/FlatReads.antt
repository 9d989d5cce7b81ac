-- The marks of a value are read back as the value.
use Rattle.std.proofs.Common.{◌≡◌, true, List, [], ◌∷◌, ◌++◌, codes, Option, Some, None, option_and_then, cond, refl, sym, ap, ◌∙◌, append_assoc, append-nil}
use Rattle.std.specs.Prelude.{⊤}
use Rattle.std.specs.List.Sorted.{IsStrictlySortedBy}
use Rattle.store_record.specs.gql_plain.Order.{AreInOrder}
use Rattle.store_record.specs.gql_plain.Tree.{Tree, null, truth, whole, text, list, object, Trees, no_trees, tree, trees_of, Members, no_members, member, members_of}
use Rattle.store_record.specs.Keys.{Text, Arguments}
use Rattle.image_marks.specs.Flat.{flat, flat_items, flat_members, keys_of, IsOrdered, AreOrdered, HasOrdered, Open, in_list, at_key, at_value, is_next, place, single, take_marks, unflat}

-- a value may stand
abbrev pub Accepts : List Open → Type 0
Accepts [] = ⊥
Accepts (in_list ts ∷ os) = ⊤
Accepts (at_key ms ∷ os) = ⊥
Accepts (at_value ms k ∷ os) = ⊤

abbrev pub trees_after : List Tree → Trees → Trees
trees_after [] ts = ts
trees_after (t ∷ before) ts = tree t (trees_after before ts)

pub trees_after-push : (before : List Tree) (t : Tree) (ts : Trees) → trees_after (before ++ t ∷ []) ts ≡ trees_after before (tree t ts)
trees_after-push [] t ts = refl
trees_after-push (x ∷ before) t ts = ap (tree x) (trees_after-push before t ts)

pub trees_after-none : (before : List Tree) → trees_after before no_trees ≡ trees_of before
trees_after-none [] = refl
trees_after-none (x ∷ before) = ap (tree x) (trees_after-none before)

abbrev pub members_after : Arguments → Members → Members
members_after [] ms = ms
members_after (m ∷ before) ms = member m.0 m.1 (members_after before ms)

pub members_after-push : (before : Arguments) (k : Text) (t : Tree) (ms : Members) → members_after (before ++ (k, t) ∷ []) ms ≡ members_after before (member k t ms)
members_after-push [] k t ms = refl
members_after-push (x ∷ before) k t ms = ap (member x.0 x.1) (members_after-push before k t ms)

pub members_after-none : (before : Arguments) → members_after before no_members ≡ members_of before
members_after-none [] = refl
members_after-none (x ∷ before) = ap (member x.0 x.1) (members_after-none before)

pub next_key : (before : Arguments) (k : Text) (t : Tree) (ms : Members) → AreInOrder (keys_of (members_after before (member k t ms))) → is_next before k ≡ true
unfolding IsStrictlySortedBy
next_key [] k t ms h = refl
next_key (x ∷ []) k t ms h = rw h.0.0 refl
next_key (x ∷ y ∷ before) k t ms h = next_key (y ∷ before) k t ms h.1

-- what comes after the value is read with the value in its place
abbrev goes_on : List Tree → Option (List Open) → Option (List Open)
goes_on rest o = option_and_then (take_marks rest) o

quoted : (s : Text) (rest : List Tree) (os : List Open) → Accepts os → take_marks (flat (text s) ++ rest) os ≡ goes_on rest (place (text s) os)
quoted s rest [] a = absurd a
quoted s rest (in_list ts ∷ os) a = refl
quoted s rest (at_key ms ∷ os) a = absurd a
quoted s rest (at_value ms k ∷ os) a = refl

begun_list : (marks : List Tree) (os : List Open) → Accepts os → take_marks (text (codes "[") ∷ marks) os ≡ take_marks marks (in_list [] ∷ os)
begun_list marks [] a = absurd a
begun_list marks (in_list ts ∷ os) a = refl
begun_list marks (at_key ms ∷ os) a = absurd a
begun_list marks (at_value ms k ∷ os) a = refl

begun_object : (marks : List Tree) (os : List Open) → Accepts os → take_marks (text (codes "{") ∷ marks) os ≡ take_marks marks (at_key [] ∷ os)
begun_object marks [] a = absurd a
begun_object marks (in_list ts ∷ os) a = refl
begun_object marks (at_key ms ∷ os) a = absurd a
begun_object marks (at_value ms k ∷ os) a = refl

mutual
  pub reads : (t : Tree) (rest : List Tree) (os : List Open) → Accepts os → IsOrdered t → take_marks (flat t ++ rest) os ≡ goes_on rest (place t os)
  reads null rest os a h = refl
  reads (truth b) rest os a h = refl
  reads (whole z) rest os a h = refl
  reads (text s) rest os a h = quoted s rest os a
  reads (list ts) rest os a h = begun_list (flat_items ts ++ rest) os a ∙ reads_items ts [] rest os h
  reads (object ms) rest os a h = begun_object (flat_members ms ++ rest) os a ∙ reads_members ms [] rest os h.0 h.1

  reads_items : (ts : Trees) (before : List Tree) (rest : List Tree) (os : List Open) → AreOrdered ts
      → take_marks (flat_items ts ++ rest) (in_list before ∷ os) ≡ goes_on rest (place (list (trees_after before ts)) os)
  reads_items no_trees before rest os h = ap (λ ts. goes_on rest (place (list ts) os)) (sym (trees_after-none before))
  reads_items (tree t ts) before rest os h =
      ap (λ ms. take_marks ms (in_list before ∷ os)) (append_assoc (flat t) (flat_items ts) rest)
      ∙ reads t (flat_items ts ++ rest) (in_list before ∷ os) tt h.0
      ∙ reads_items ts (before ++ t ∷ []) rest os h.1
      ∙ ap (λ ts. goes_on rest (place (list ts) os)) (trees_after-push before t ts)

  reads_members : (ms : Members) (before : Arguments) (rest : List Tree) (os : List Open) → AreInOrder (keys_of (members_after before ms)) → HasOrdered ms
      → take_marks (flat_members ms ++ rest) (at_key before ∷ os) ≡ goes_on rest (place (object (members_after before ms)) os)
  reads_members no_members before rest os order h = ap (λ ms. goes_on rest (place (object ms) os)) (sym (members_after-none before))
  reads_members (member k t ms) before rest os order h =
      ap (λ ms. take_marks ms (at_value before k ∷ os)) (append_assoc (flat t) (flat_members ms) rest)
      ∙ reads t (flat_members ms ++ rest) (at_value before k ∷ os) tt h.0
      ∙ ap (λ b. goes_on (flat_members ms ++ rest) (cond b (Some (at_key (before ++ (k, t) ∷ []) ∷ os)) None)) (next_key before k t ms order)
      ∙ reads_members ms (before ++ (k, t) ∷ []) rest os (rw (members_after-push before k t ms) order) h.1
      ∙ ap (λ ms. goes_on rest (place (object ms) os)) (members_after-push before k t ms)

-- the marks of a value are read as the value
pub unflat-flat : (t : Tree) → IsOrdered t → unflat (flat t) ≡ Some t
unflat-flat t h =
    ap (λ o. option_and_then single o)
    (ap (λ ms. take_marks ms (in_list [] ∷ [])) (sym (append-nil (flat t))) ∙ reads t [] (in_list [] ∷ []) tt h)
