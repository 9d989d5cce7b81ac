-- How the logic stores a plain tree: as a tree of numbers, of which no two plain trees have the same.
use Rattle.std.proofs.Common.{◌≡◌, ◌≢◌, ℕ, List, refl, ap, arith}
use Rattle.std.specs.Coded.{Coded, coded×, coded_ℕ, coded_ℤ, coded_bool, coded_list}
use Rattle.gql_plain.specs.Tree.{Tree, null, truth, whole, text, list, object, Trees, no_trees, tree, Members, no_members, member}
use base.Stored.{Gv, gnil, gnum, gcons}

abbrev head : Gv → Gv
head gnil = gnil
head (gnum n) = gnil
head (gcons a b) = a

abbrev tail : Gv → Gv
tail gnil = gnil
tail (gnum n) = gnil
tail (gcons a b) = b

apart : (m n : ℕ) {a b : Gv} → gcons (gnum m) a ≡ gcons (gnum n) b → m ≢ n → ⊥
apart m n p other = other (cc)

abbrev pub coded_text : Coded (List ℕ)
coded_text = coded_list coded_ℕ

abbrev mutual
  pub tree_code : Tree → Gv
  tree_code null = gcons (gnum 0) gnil
  tree_code (truth b) = gcons (gnum 1) (coded_bool.code b)
  tree_code (whole z) = gcons (gnum 2) (coded_ℤ.code z)
  tree_code (text s) = gcons (gnum 3) (coded_text.code s)
  tree_code (list ts) = gcons (gnum 4) (trees_code ts)
  tree_code (object ms) = gcons (gnum 5) (members_code ms)

  pub trees_code : Trees → Gv
  trees_code no_trees = gcons (gnum 0) gnil
  trees_code (tree t ts) = gcons (gnum 1) (gcons (tree_code t) (trees_code ts))

  pub members_code : Members → Gv
  members_code no_members = gcons (gnum 0) gnil
  members_code (member k t ms) = gcons (gnum 1) (gcons (coded_text.code k) (gcons (tree_code t) (members_code ms)))

mutual
  pub tree_inj : (x y : Tree) → tree_code x ≡ tree_code y → x ≡ y
  tree_inj null null p = refl
  tree_inj null (truth b2) p = absurd (apart 0 1 p (omega arith))
  tree_inj null (whole z2) p = absurd (apart 0 2 p (omega arith))
  tree_inj null (text s2) p = absurd (apart 0 3 p (omega arith))
  tree_inj null (list ts2) p = absurd (apart 0 4 p (omega arith))
  tree_inj null (object ms2) p = absurd (apart 0 5 p (omega arith))
  tree_inj (truth b) null p = absurd (apart 1 0 p (omega arith))
  tree_inj (truth b) (truth b2) p = ap truth (coded_bool.inj b b2 (ap tail p))
  tree_inj (truth b) (whole z2) p = absurd (apart 1 2 p (omega arith))
  tree_inj (truth b) (text s2) p = absurd (apart 1 3 p (omega arith))
  tree_inj (truth b) (list ts2) p = absurd (apart 1 4 p (omega arith))
  tree_inj (truth b) (object ms2) p = absurd (apart 1 5 p (omega arith))
  tree_inj (whole z) null p = absurd (apart 2 0 p (omega arith))
  tree_inj (whole z) (truth b2) p = absurd (apart 2 1 p (omega arith))
  tree_inj (whole z) (whole z2) p = ap whole (coded_ℤ.inj z z2 (ap tail p))
  tree_inj (whole z) (text s2) p = absurd (apart 2 3 p (omega arith))
  tree_inj (whole z) (list ts2) p = absurd (apart 2 4 p (omega arith))
  tree_inj (whole z) (object ms2) p = absurd (apart 2 5 p (omega arith))
  tree_inj (text s) null p = absurd (apart 3 0 p (omega arith))
  tree_inj (text s) (truth b2) p = absurd (apart 3 1 p (omega arith))
  tree_inj (text s) (whole z2) p = absurd (apart 3 2 p (omega arith))
  tree_inj (text s) (text s2) p = ap text (coded_text.inj s s2 (ap tail p))
  tree_inj (text s) (list ts2) p = absurd (apart 3 4 p (omega arith))
  tree_inj (text s) (object ms2) p = absurd (apart 3 5 p (omega arith))
  tree_inj (list ts) null p = absurd (apart 4 0 p (omega arith))
  tree_inj (list ts) (truth b2) p = absurd (apart 4 1 p (omega arith))
  tree_inj (list ts) (whole z2) p = absurd (apart 4 2 p (omega arith))
  tree_inj (list ts) (text s2) p = absurd (apart 4 3 p (omega arith))
  tree_inj (list ts) (list ts2) p = ap list (trees_inj ts ts2 (ap tail p))
  tree_inj (list ts) (object ms2) p = absurd (apart 4 5 p (omega arith))
  tree_inj (object ms) null p = absurd (apart 5 0 p (omega arith))
  tree_inj (object ms) (truth b2) p = absurd (apart 5 1 p (omega arith))
  tree_inj (object ms) (whole z2) p = absurd (apart 5 2 p (omega arith))
  tree_inj (object ms) (text s2) p = absurd (apart 5 3 p (omega arith))
  tree_inj (object ms) (list ts2) p = absurd (apart 5 4 p (omega arith))
  tree_inj (object ms) (object ms2) p = ap object (members_inj ms ms2 (ap tail p))

  pub trees_inj : (x y : Trees) → trees_code x ≡ trees_code y → x ≡ y
  trees_inj no_trees no_trees p = refl
  trees_inj no_trees (tree t ts) p = absurd (apart 0 1 p (omega arith))
  trees_inj (tree t ts) no_trees p = absurd (apart 1 0 p (omega arith))
  trees_inj (tree t ts) (tree t2 ts2) p = λ i. tree (tree_inj t t2 (ap (λ g. head (tail g)) p) i) (trees_inj ts ts2 (ap (λ g. tail (tail g)) p) i)

  pub members_inj : (x y : Members) → members_code x ≡ members_code y → x ≡ y
  members_inj no_members no_members p = refl
  members_inj no_members (member k t ms) p = absurd (apart 0 1 p (omega arith))
  members_inj (member k t ms) no_members p = absurd (apart 1 0 p (omega arith))
  members_inj (member k t ms) (member k2 t2 ms2) p =
      λ i. member (coded_text.inj k k2 (ap (λ g. head (tail g)) p) i) (tree_inj t t2 (ap (λ g. head (tail (tail g))) p) i) (members_inj ms ms2 (ap (λ g. tail (tail (tail g))) p) i)

abbrev pub coded_tree : Coded Tree
coded_tree = record { code = tree_code; inj = tree_inj }

abbrev pub coded_trees : Coded (List Tree)
coded_trees = coded_list coded_tree

abbrev pub coded_members : Coded (List (List ℕ × Tree))
coded_members = coded_list (coded× coded_text coded_tree)
