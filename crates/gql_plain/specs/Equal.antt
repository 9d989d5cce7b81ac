-- Whether two plain trees, or two lists of texts, are equal.
use Rattle.std.specs.Prelude.{◌≡◌, ℕ, ◌&&◌, Bool, true, false, List, [], ◌∷◌, Option, nat_eq}
use Rattle.std.proofs.Common.{refl, sym, ap, subst, true≢false}
use Rattle.std.proofs.lemmas.Slice.Eq.{bytes_eq-Decides}
use Rattle.std.specs.Bool.{Decides, one_answer, beq}
use Rattle.std.specs.Cmp.{IsEquivalence, booleans_Decides, signed_Decides}
use Rattle.std.specs.Cmp.Lexicographic.{pointwise, lists_equiv, options_equiv, nat_list_eq_equiv}
use Rattle.std.specs.Option.{option_eq}
use Rattle.std.specs.Ordering.{int_eq}
use Rattle.std.specs.Str.{bytes_eq}
use Rattle.gql_plain.specs.Tree.{Tree, null, truth, whole, text, list, object, Trees, no_trees, tree, trees_of, Members, no_members, member, members_of}

abbrev mutual
  pub tree_eq : Tree → Tree → Bool
  tree_eq null null = true
  tree_eq (truth b) (truth c) = beq b c
  tree_eq (whole z) (whole w) = int_eq z w
  tree_eq (text s) (text t) = bytes_eq s t
  tree_eq (list ts) (list us) = trees_eq ts us
  tree_eq (object ms) (object ns) = members_eq ms ns
  tree_eq _ _ = false

  pub trees_eq : Trees → Trees → Bool
  trees_eq no_trees no_trees = true
  trees_eq (tree t ts) (tree u us) = tree_eq t u && trees_eq ts us
  trees_eq _ _ = false

  pub members_eq : Members → Members → Bool
  members_eq no_members no_members = true
  members_eq (member k t ms) (member l u ns) = bytes_eq k l && (tree_eq t u && members_eq ms ns)
  members_eq _ _ = false

abbrev pub list_eq : List Tree → List Tree → Bool
list_eq ts us = trees_eq (trees_of ts) (trees_of us)

abbrev pub object_eq : List (List ℕ × Tree) → List (List ℕ × Tree) → Bool
object_eq ms ns = members_eq (members_of ms) (members_of ns)

-- each text is equal to the one at its place, and there are as many
abbrev pub texts_eq : List (List ℕ) → List (List ℕ) → Bool
texts_eq = pointwise (pointwise nat_eq)

-- the same where a text may be lacking
abbrev pub links_eq : List (Option (List ℕ)) → List (Option (List ℕ)) → Bool
links_eq = pointwise (option_eq (pointwise nat_eq))

pub texts_eq_equiv : IsEquivalence texts_eq
texts_eq_equiv = lists_equiv nat_list_eq_equiv

pub links_eq_equiv : IsEquivalence links_eq
links_eq_equiv = lists_equiv (options_equiv nat_list_eq_equiv)

-- ---- it decides `≡`

first : (a b : Bool) → (a && b) ≡ true → a ≡ true
first true b h = refl
first false b h = h

second : (a b : Bool) → (a && b) ≡ true → b ≡ true
second true b h = h
second false b h = absurd (true≢false (sym h))

mutual
  pub tree_eq-sound : (x y : Tree) → tree_eq x y ≡ true → x ≡ y
  tree_eq-sound null null h = refl
  tree_eq-sound null (truth b2) h = absurd (true≢false (sym h))
  tree_eq-sound null (whole z2) h = absurd (true≢false (sym h))
  tree_eq-sound null (text s2) h = absurd (true≢false (sym h))
  tree_eq-sound null (list ts2) h = absurd (true≢false (sym h))
  tree_eq-sound null (object ms2) h = absurd (true≢false (sym h))
  tree_eq-sound (truth b) null h = absurd (true≢false (sym h))
  tree_eq-sound (truth b) (truth b2) h = ap truth ((booleans_Decides b b2).0 h)
  tree_eq-sound (truth b) (whole z2) h = absurd (true≢false (sym h))
  tree_eq-sound (truth b) (text s2) h = absurd (true≢false (sym h))
  tree_eq-sound (truth b) (list ts2) h = absurd (true≢false (sym h))
  tree_eq-sound (truth b) (object ms2) h = absurd (true≢false (sym h))
  tree_eq-sound (whole z) null h = absurd (true≢false (sym h))
  tree_eq-sound (whole z) (truth b2) h = absurd (true≢false (sym h))
  tree_eq-sound (whole z) (whole z2) h = ap whole ((signed_Decides z z2).0 h)
  tree_eq-sound (whole z) (text s2) h = absurd (true≢false (sym h))
  tree_eq-sound (whole z) (list ts2) h = absurd (true≢false (sym h))
  tree_eq-sound (whole z) (object ms2) h = absurd (true≢false (sym h))
  tree_eq-sound (text s) null h = absurd (true≢false (sym h))
  tree_eq-sound (text s) (truth b2) h = absurd (true≢false (sym h))
  tree_eq-sound (text s) (whole z2) h = absurd (true≢false (sym h))
  tree_eq-sound (text s) (text s2) h = ap text ((bytes_eq-Decides s s2).0 h)
  tree_eq-sound (text s) (list ts2) h = absurd (true≢false (sym h))
  tree_eq-sound (text s) (object ms2) h = absurd (true≢false (sym h))
  tree_eq-sound (list ts) null h = absurd (true≢false (sym h))
  tree_eq-sound (list ts) (truth b2) h = absurd (true≢false (sym h))
  tree_eq-sound (list ts) (whole z2) h = absurd (true≢false (sym h))
  tree_eq-sound (list ts) (text s2) h = absurd (true≢false (sym h))
  tree_eq-sound (list ts) (list ts2) h = ap list (trees_eq-sound ts ts2 h)
  tree_eq-sound (list ts) (object ms2) h = absurd (true≢false (sym h))
  tree_eq-sound (object ms) null h = absurd (true≢false (sym h))
  tree_eq-sound (object ms) (truth b2) h = absurd (true≢false (sym h))
  tree_eq-sound (object ms) (whole z2) h = absurd (true≢false (sym h))
  tree_eq-sound (object ms) (text s2) h = absurd (true≢false (sym h))
  tree_eq-sound (object ms) (list ts2) h = absurd (true≢false (sym h))
  tree_eq-sound (object ms) (object ms2) h = ap object (members_eq-sound ms ms2 h)

  pub trees_eq-sound : (x y : Trees) → trees_eq x y ≡ true → x ≡ y
  trees_eq-sound no_trees no_trees h = refl
  trees_eq-sound no_trees (tree u us) h = absurd (true≢false (sym h))
  trees_eq-sound (tree t ts) no_trees h = absurd (true≢false (sym h))
  trees_eq-sound (tree t ts) (tree u us) h =
      λ i. tree (tree_eq-sound t u (first (tree_eq t u) (trees_eq ts us) h) i) (trees_eq-sound ts us (second (tree_eq t u) (trees_eq ts us) h) i)

  pub members_eq-sound : (x y : Members) → members_eq x y ≡ true → x ≡ y
  members_eq-sound no_members no_members h = refl
  members_eq-sound no_members (member l u ns) h = absurd (true≢false (sym h))
  members_eq-sound (member k t ms) no_members h = absurd (true≢false (sym h))
  members_eq-sound (member k t ms) (member l u ns) h =
      let rest = second (bytes_eq k l) _ h in
      λ i. member ((bytes_eq-Decides k l).0 (first (bytes_eq k l) _ h) i) (tree_eq-sound t u (first (tree_eq t u) (members_eq ms ns) rest) i) (members_eq-sound ms ns (second (tree_eq t u) (members_eq ms ns) rest) i)

mutual
  pub tree_eq-itself : (x : Tree) → tree_eq x x ≡ true
  tree_eq-itself null = refl
  tree_eq-itself (truth b) = (booleans_Decides b b).1 refl
  tree_eq-itself (whole z) = (signed_Decides z z).1 refl
  tree_eq-itself (text s) = (bytes_eq-Decides s s).1 refl
  tree_eq-itself (list ts) = trees_eq-itself ts
  tree_eq-itself (object ms) = members_eq-itself ms

  pub trees_eq-itself : (x : Trees) → trees_eq x x ≡ true
  trees_eq-itself no_trees = refl
  trees_eq-itself (tree t ts) = λ i. tree_eq-itself t i && trees_eq-itself ts i

  pub members_eq-itself : (x : Members) → members_eq x x ≡ true
  members_eq-itself no_members = refl
  members_eq-itself (member k t ms) = λ i. (bytes_eq-Decides k k).1 refl i && (tree_eq-itself t i && members_eq-itself ms i)

pub trees_of-inj : (xs ys : List Tree) → trees_of xs ≡ trees_of ys → xs ≡ ys
trees_of-inj [] [] p = refl
trees_of-inj [] (y ∷ ys) p = cc
trees_of-inj (x ∷ xs) [] p = cc
trees_of-inj (x ∷ xs) (y ∷ ys) p =
    let here : x ≡ y = cc in
    let rest : trees_of xs ≡ trees_of ys = cc in
    λ i. here i ∷ trees_of-inj xs ys rest i

pub members_of-inj : (xs ys : List (List ℕ × Tree)) → members_of xs ≡ members_of ys → xs ≡ ys
members_of-inj [] [] p = refl
members_of-inj [] (y ∷ ys) p = cc
members_of-inj (x ∷ xs) [] p = cc
members_of-inj (x ∷ xs) (y ∷ ys) p =
    let key : x.0 ≡ y.0 = cc in
    let here : x.1 ≡ y.1 = cc in
    let rest : members_of xs ≡ members_of ys = cc in
    λ i. (key i, here i) ∷ members_of-inj xs ys rest i

pub tree_eq-Decides : (x y : Tree) → Decides (tree_eq x y) (x ≡ y)
tree_eq-Decides x y = (tree_eq-sound x y, λ p. subst (λ z. tree_eq x z ≡ true) p (tree_eq-itself x))

pub list_eq-Decides : (xs ys : List Tree) → Decides (list_eq xs ys) (xs ≡ ys)
list_eq-Decides xs ys = (λ h. trees_of-inj xs ys (trees_eq-sound _ _ h), λ p. subst (λ zs. list_eq xs zs ≡ true) p (trees_eq-itself (trees_of xs)))

pub object_eq-Decides : (xs ys : List (List ℕ × Tree)) → Decides (object_eq xs ys) (xs ≡ ys)
object_eq-Decides xs ys = (λ h. members_of-inj xs ys (members_eq-sound _ _ h), λ p. subst (λ zs. object_eq xs zs ≡ true) p (members_eq-itself (members_of xs)))

-- what decides `≡` is an equivalence
decides_equiv : {K : Type 0} {E : K → K → Bool} → ((x y : K) → Decides (E x y) (x ≡ y)) → IsEquivalence E
decides_equiv {K} {E} d = record {
  refl = λ x. (d x x).1 refl;
  symm = λ x y. one_answer (E x y) (E y x) (d x y) ((λ e. sym ((d y x).0 e)), λ p. (d y x).1 (sym p));
  congr = λ x y z e. ap (λ k. E k z) ((d x y).0 e);
}

pub tree_eq_equiv : IsEquivalence tree_eq
tree_eq_equiv = decides_equiv tree_eq-Decides

pub list_eq_equiv : IsEquivalence list_eq
list_eq_equiv = decides_equiv list_eq-Decides

pub object_eq_equiv : IsEquivalence object_eq
object_eq_equiv = decides_equiv object_eq-Decides
