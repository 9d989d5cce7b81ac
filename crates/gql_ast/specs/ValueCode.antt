-- How the logic stores a value.
use Rattle.std.specs.Prelude.{ℕ, ◌≡◌, List}
use Rattle.std.proofs.Common.{ap, arith}
use Rattle.std.specs.Coded.{Coded, coded×, coded_ℕ, coded_ℤ, coded_bool, coded_list}
use base.Stored.{Gv, gnil, gnum, gcons}
use Rattle.gql_ast.specs.Value.{Val, Vals, Members, variable, int, text, truth, null, enum, list, object, no_vals, val, no_members, member}

abbrev pub head : Gv → Gv
head gnil = gnil
head (gnum n) = gnil
head (gcons a b) = a

abbrev pub tail : Gv → Gv
tail gnil = gnil
tail (gnum n) = gnil
tail (gcons a b) = b

-- the number that tells one constructor from the others
abbrev pub tag : Gv → ℕ
tag gnil = 0
tag (gnum n) = n
tag (gcons a b) = tag a

abbrev pub coded_text : Coded (List ℕ)
coded_text = coded_list coded_ℕ

abbrev mutual
  pub val_code : Val → Gv
  val_code (variable n) = gcons (gnum 0) (coded_text.code n)
  val_code (int n) = gcons (gnum 1) (coded_ℤ.code n)
  val_code (text t) = gcons (gnum 2) (coded_text.code t)
  val_code (truth b) = gcons (gnum 3) (coded_bool.code b)
  val_code null = gcons (gnum 4) gnil
  val_code (enum n) = gcons (gnum 5) (coded_text.code n)
  val_code (list vs) = gcons (gnum 6) (vals_code vs)
  val_code (object ms) = gcons (gnum 7) (members_code ms)

  pub vals_code : Vals → Gv
  vals_code no_vals = gcons (gnum 0) gnil
  vals_code (val v vs) = gcons (gnum 1) (gcons (val_code v) (vals_code vs))

  pub members_code : Members → Gv
  members_code no_members = gcons (gnum 0) gnil
  members_code (member n v ms) = gcons (gnum 1) (gcons (coded_text.code n) (gcons (val_code v) (members_code ms)))

mutual
  pub val_inj : (x y : Val) → val_code x ≡ val_code y → x ≡ y
  val_inj (variable n) (variable m) p = λ i. variable (coded_text.inj n m (ap (λ g. tail g) p) i)
  val_inj (int n) (int m) p = λ i. int (coded_ℤ.inj n m (ap (λ g. tail g) p) i)
  val_inj (text n) (text m) p = λ i. text (coded_text.inj n m (ap (λ g. tail g) p) i)
  val_inj (truth n) (truth m) p = λ i. truth (coded_bool.inj n m (ap (λ g. tail g) p) i)
  val_inj null null p = λ i. null
  val_inj (enum n) (enum m) p = λ i. enum (coded_text.inj n m (ap (λ g. tail g) p) i)
  val_inj (list n) (list m) p = λ i. list (vals_inj n m (ap (λ g. tail g) p) i)
  val_inj (object n) (object m) p = λ i. object (members_inj n m (ap (λ g. tail g) p) i)
  val_inj x y p = let q : tag (val_code x) ≡ tag (val_code y) = ap (λ g. tag g) p in absurd (omega (arith, q))

  pub vals_inj : (x y : Vals) → vals_code x ≡ vals_code y → x ≡ y
  vals_inj no_vals no_vals p = λ i. no_vals
  vals_inj (val v vs) (val w ws) p =
      λ i. val (val_inj v w (ap (λ g. head (tail g)) p) i) (vals_inj vs ws (ap (λ g. tail (tail g)) p) i)
  vals_inj x y p = let q : tag (vals_code x) ≡ tag (vals_code y) = ap (λ g. tag g) p in absurd (omega (arith, q))

  pub members_inj : (x y : Members) → members_code x ≡ members_code y → x ≡ y
  members_inj no_members no_members p = λ i. no_members
  members_inj (member n v ms) (member m w ws) p =
      λ i. member (coded_text.inj n m (ap (λ g. head (tail g)) p) i) (val_inj v w (ap (λ g. head (tail (tail g))) p) i)
      (members_inj ms ws (ap (λ g. tail (tail (tail g))) p) i)
  members_inj x y p = let q : tag (members_code x) ≡ tag (members_code y) = ap (λ g. tag g) p in absurd (omega (arith, q))

abbrev pub coded_val : Coded Val
coded_val = record { code = val_code; inj = val_inj }

abbrev pub coded_vals : Coded (List Val)
coded_vals = coded_list coded_val

abbrev pub coded_members : Coded (List (List ℕ × Val))
coded_members = coded_list (coded× coded_text coded_val)
