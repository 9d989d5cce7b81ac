-- The text of a storage key can be read in one way.
use Rattle.std.proofs.Common.{◌≡◌, ℕ, suc, ◌<◌, ◌≤◌, ◌^◌, ℤ, pos, negsuc, Bool, true, false, true≢false, cond, ◌&&◌, ◌||◌, ◌==◌, [], ◌∷◌, ◌++◌, length, get_or, drop, codes, Some, unwrap_or, refl, sym, ap, subst, ◌∙◌, arith, append_assoc, nat_lt}
use Rattle.std.specs.Char.{digit_value}
use Rattle.std.specs.Fmt.{decimal, signed_decimal}
use Rattle.std.specs.Int.Signed.{mag}
use Rattle.std.specs.List.{list_all}
use Rattle.std.specs.Str.Parse.{AllDigits}
use Rattle.std.proofs.lemmas.Bool.{ltb-true, lt-ltb}
use Rattle.std.proofs.lemmas.Fmt.{decimal_is_IsNumeral, signed_decimal_injective}
use Rattle.std.proofs.lemmas.List.{append_cancel_left, append-nil}
use Rattle.gql_plain.proofs.Booleans.{or_true}
use Rattle.json.specs.Print.{escape, quoted}
use Rattle.json.specs.Text.{content, plain}
use Rattle.json.proofs.Printed.Strings.{content-escape}
use Rattle.gql_plain.specs.Names.{is_within, is_name_start, is_name_byte, is_name}
use Rattle.gql_plain.specs.ToJson.{compact, more_trees, more_members}
use Rattle.gql_plain.specs.Tree.{Tree, null, truth, whole, text, list, object, Trees, no_trees, tree, Members, no_members, member}
use Rattle.store_record.specs.Keys.{Text, Arguments, is_in_range, is_in_64_bits, trees_are_in_64_bits, members_are_in_64_bits, is_null, without_nulls, pair_text, more_pairs, key_with, are_arguments, FieldKeysDiffer}

first_of : (a b : Bool) → (a && b) ≡ true → a ≡ true
first_of true b h = refl
first_of false b h = h

second_of : (a b : Bool) → (a && b) ≡ true → b ≡ true
second_of true b h = h
second_of false b h = absurd (true≢false (sym h))

-- ---- a run of bytes that pass a test, up to one that does not

abbrev Stops : (ℕ → Bool) → Text → Type 0
Stops p [] = Unit {0}
Stops p (c ∷ cs) = p c ≡ false

run : (p : ℕ → Bool) (xs ys u v : Text) → list_all p xs ≡ true → list_all p ys ≡ true → Stops p u → Stops p v → xs ++ u ≡ ys ++ v → (xs ≡ ys) × (u ≡ v)
run p [] [] u v a b su sv e = (refl, e)
run p [] (y ∷ ys) u v a b su sv e = absurd (true≢false (sym (first_of (p y) _ b) ∙ subst (Stops p) e su))
run p (x ∷ xs) [] u v a b su sv e = absurd (true≢false (sym (first_of (p x) _ a) ∙ subst (Stops p) (sym e) sv))
run p (x ∷ xs) (y ∷ ys) u v a b su sv e =
    let here : x ≡ y = cc in
    let rest : xs ++ u ≡ ys ++ v = cc in
    let r = run p xs ys u v (second_of (p x) _ a) (second_of (p y) _ b) su sv rest in
    ((λ i. here i ∷ r.0 i), r.1)

-- ---- numbers

abbrev is_number_byte : ℕ → Bool
is_number_byte b = (b == 45) || nat_lt (digit_value b) 10

digits : (ds : Text) → AllDigits 10 ds → list_all is_number_byte ds ≡ true
digits [] h = refl
digits (d ∷ ds) h = λ i. (ap (λ b. (d == 45) || b) (lt-ltb (digit_value d) 10 h.0) ∙ or_true (d == 45)) i && digits ds h.1 i

number_bytes : (z : ℤ) → is_in_range z ≡ true → (0 < length (signed_decimal z)) × (list_all is_number_byte (signed_decimal z) ≡ true)
number_bytes (pos n) h =
    let lt : n < 2 ^ 63 = ltb-true n (2 ^ 63) h in
    let numeral = decimal_is_IsNumeral n (omega arith) in
    (numeral.0.0, digits (decimal n) numeral.0.1)
number_bytes (negsuc n) h =
    let lt : n < 2 ^ 63 = ltb-true n (2 ^ 63) h in
    (omega arith, digits (decimal (suc n)) (decimal_is_IsNumeral (suc n) (omega arith)).0.1)

in_range : (z : ℤ) → is_in_range z ≡ true → mag z < 2 ^ 63
in_range (pos n) h = ltb-true n (2 ^ 63) h
in_range (negsuc n) h = ltb-true n (2 ^ 63) h

number : (y z : ℤ) (u v : Text) → is_in_range y ≡ true → is_in_range z ≡ true → Stops is_number_byte u → Stops is_number_byte v
    → signed_decimal y ++ u ≡ signed_decimal z ++ v → (y ≡ z) × (u ≡ v)
number y z u v a b su sv e =
    let r = run is_number_byte (signed_decimal y) (signed_decimal z) u v (number_bytes y a).1 (number_bytes z b).1 su sv e in
    (signed_decimal_injective y z (in_range y a) (in_range z b) r.0, r.1)

-- ---- texts

same_some : {X : Type 0} (x y : X) → Some x ≡ Some y → x ≡ y
same_some x y e = ap (λ o. unwrap_or o x) e

quoted_text : (s t u v : Text) → quoted s ++ u ≡ quoted t ++ v → (s ≡ t) × (u ≡ v)
quoted_text s t u v e =
    let ends : escape s ++ 34 ∷ u ≡ escape t ++ 34 ∷ v = sym (append_assoc (escape s) (34 ∷ []) u) ∙ ap (drop 1) e ∙ append_assoc (escape t) (34 ∷ []) v in
    let same : s ≡ t = same_some s t (sym (content-escape s u) ∙ ap (content plain) ends ∙ content-escape t v) in
    (same, append_cancel_left (quoted t) u v (ap (λ x. quoted x ++ u) (sym same) ∙ e))

-- ---- values

abbrev class : Text → ℕ
class [] = 8
class (b ∷ bs) =
    cond (is_number_byte b) 3 (cond (b == 110) 0 (cond (b == 116) 1 (cond (b == 102) 1 (cond (b == 34) 4 (cond (b == 91) 5 (cond (b == 123) 6 7))))))

abbrev kind : Tree → ℕ
kind null = 0
kind (truth b) = 1
kind (whole z) = 3
kind (text s) = 4
kind (list ts) = 5
kind (object ms) = 6

kind_le : (t : Tree) → kind t ≤ 6
kind_le null = omega arith
kind_le (truth b) = omega arith
kind_le (whole z) = omega arith
kind_le (text s) = omega arith
kind_le (list ts) = omega arith
kind_le (object ms) = omega arith

class_number : (ds u : Text) → 0 < length ds → list_all is_number_byte ds ≡ true → class (ds ++ u) ≡ 3
class_number [] u some h = absurd (omega arith)
class_number (d ∷ ds) u some h = rw (first_of (is_number_byte d) (list_all is_number_byte ds) h) refl

class-compact : (t : Tree) (u : Text) → is_in_64_bits t ≡ true → class (compact t ++ u) ≡ kind t
class-compact null u h = refl
class-compact (truth true) u h = refl
class-compact (truth false) u h = refl
class-compact (whole z) u h = class_number (signed_decimal z) u (number_bytes z h).0 (number_bytes z h).1
class-compact (text s) u h = refl
class-compact (list no_trees) u h = refl
class-compact (list (tree t ts)) u h = refl
class-compact (object no_members) u h = refl
class-compact (object (member k t ms)) u h = refl

same_kind : (t s : Tree) (u v : Text) → is_in_64_bits t ≡ true → is_in_64_bits s ≡ true → compact t ++ u ≡ compact s ++ v → kind t ≡ kind s
same_kind t s u v a b e = sym (class-compact t u a) ∙ ap class e ∙ class-compact s v b

-- no value begins with a closing bracket
not_closed : (t : Tree) (u v : Text) → is_in_64_bits t ≡ true → 93 ∷ v ≡ compact t ++ u → ⊥
not_closed t u v h e =
    let k : 7 ≡ kind t = ap class e ∙ class-compact t u h in
    omega (arith, kind_le t)

after_tree : (ts : Trees) (u : Text) → Stops is_number_byte (more_trees ts ++ u)
after_tree no_trees u = refl
after_tree (tree t ts) u = refl

after_member : (ms : Members) (u : Text) → Stops is_number_byte (more_members ms ++ u)
after_member no_members u = refl
after_member (member k t ms) u = refl

-- the key of a member, and what follows its colon
key_of_member : (k l : Text) (t s : Tree) (ms ns : Members) (u v : Text)
    → (quoted k ++ 58 ∷ (compact t ++ more_members ms)) ++ u ≡ (quoted l ++ 58 ∷ (compact s ++ more_members ns)) ++ v
    → (k ≡ l) × (compact t ++ (more_members ms ++ u) ≡ compact s ++ (more_members ns ++ v))
key_of_member k l t s ms ns u v e =
    let p = quoted_text k l (58 ∷ ((compact t ++ more_members ms) ++ u)) (58 ∷ ((compact s ++ more_members ns) ++ v))
    (sym (append_assoc (quoted k) (58 ∷ (compact t ++ more_members ms)) u) ∙ e ∙ append_assoc (quoted l) (58 ∷ (compact s ++ more_members ns)) v) in
    (p.0, sym (append_assoc (compact t) (more_members ms) u) ∙ ap (drop 1) p.1 ∙ append_assoc (compact s) (more_members ns) v)

mutual
  one : (t s : Tree) (u v : Text) → is_in_64_bits t ≡ true → is_in_64_bits s ≡ true → Stops is_number_byte u → Stops is_number_byte v
      → compact t ++ u ≡ compact s ++ v → (t ≡ s) × (u ≡ v)
  one null null u v a b su sv e = (refl, ap (drop 4) e)
  one (truth true) (truth true) u v a b su sv e = (refl, ap (drop 4) e)
  one (truth false) (truth false) u v a b su sv e = (refl, ap (drop 5) e)
  one (truth true) (truth false) u v a b su sv e = absurd (let h : 116 ≡ 102 = ap (λ x. get_or x 0 0) e in omega arith)
  one (truth false) (truth true) u v a b su sv e = absurd (let h : 102 ≡ 116 = ap (λ x. get_or x 0 0) e in omega arith)
  one (whole y) (whole z) u v a b su sv e = let r = number y z u v a b su sv e in (ap whole r.0, r.1)
  one (text x) (text y) u v a b su sv e = let r = quoted_text x y u v e in (ap text r.0, r.1)
  one (list no_trees) (list no_trees) u v a b su sv e = (refl, ap (drop 2) e)
  one (list no_trees) (list (tree s ss)) u v a b su sv e =
      absurd (not_closed s (more_trees ss ++ v) u (first_of (is_in_64_bits s) (trees_are_in_64_bits ss) b) (ap (drop 1) e ∙ append_assoc (compact s) (more_trees ss) v))
  one (list (tree t ts)) (list no_trees) u v a b su sv e =
      absurd (not_closed t (more_trees ts ++ u) v (first_of (is_in_64_bits t) (trees_are_in_64_bits ts) a) (sym (ap (drop 1) e) ∙ append_assoc (compact t) (more_trees ts) u))
  one (list (tree t ts)) (list (tree s ss)) u v a b su sv e =
      let r = one t s (more_trees ts ++ u) (more_trees ss ++ v) (first_of (is_in_64_bits t) (trees_are_in_64_bits ts) a) (first_of (is_in_64_bits s) (trees_are_in_64_bits ss) b)
      (after_tree ts u) (after_tree ss v) (sym (append_assoc (compact t) (more_trees ts) u) ∙ ap (drop 1) e ∙ append_assoc (compact s) (more_trees ss) v) in
      let q = more ts ss u v (second_of (is_in_64_bits t) (trees_are_in_64_bits ts) a) (second_of (is_in_64_bits s) (trees_are_in_64_bits ss) b) r.1 in
      ((λ i. list (tree (r.0 i) (q.0 i))), q.1)
  one (object no_members) (object no_members) u v a b su sv e = (refl, ap (drop 2) e)
  one (object no_members) (object (member l s ns)) u v a b su sv e = absurd (let h : 125 ≡ 34 = ap (λ x. get_or x 1 0) e in omega arith)
  one (object (member k t ms)) (object no_members) u v a b su sv e = absurd (let h : 34 ≡ 125 = ap (λ x. get_or x 1 0) e in omega arith)
  one (object (member k t ms)) (object (member l s ns)) u v a b su sv e =
      let p = key_of_member k l t s ms ns u v (ap (drop 1) e) in
      let r = one t s (more_members ms ++ u) (more_members ns ++ v) (first_of (is_in_64_bits t) (members_are_in_64_bits ms) a) (first_of (is_in_64_bits s) (members_are_in_64_bits ns) b)
      (after_member ms u) (after_member ns v) p.1 in
      let q = others ms ns u v (second_of (is_in_64_bits t) (members_are_in_64_bits ms) a) (second_of (is_in_64_bits s) (members_are_in_64_bits ns) b) r.1 in
      ((λ i. object (member (p.0 i) (r.0 i) (q.0 i))), q.1)
  one t s u v a b su sv e = let k : kind t ≡ kind s = same_kind t s u v a b e in absurd (omega arith)

  more : (ts ss : Trees) (u v : Text) → trees_are_in_64_bits ts ≡ true → trees_are_in_64_bits ss ≡ true → more_trees ts ++ u ≡ more_trees ss ++ v → (ts ≡ ss) × (u ≡ v)
  more no_trees no_trees u v a b e = (refl, ap (drop 1) e)
  more no_trees (tree s ss) u v a b e = absurd (let h : 93 ≡ 44 = ap (λ x. get_or x 0 0) e in omega arith)
  more (tree t ts) no_trees u v a b e = absurd (let h : 44 ≡ 93 = ap (λ x. get_or x 0 0) e in omega arith)
  more (tree t ts) (tree s ss) u v a b e =
      let r = one t s (more_trees ts ++ u) (more_trees ss ++ v) (first_of (is_in_64_bits t) (trees_are_in_64_bits ts) a) (first_of (is_in_64_bits s) (trees_are_in_64_bits ss) b)
      (after_tree ts u) (after_tree ss v) (sym (append_assoc (compact t) (more_trees ts) u) ∙ ap (drop 1) e ∙ append_assoc (compact s) (more_trees ss) v) in
      let q = more ts ss u v (second_of (is_in_64_bits t) (trees_are_in_64_bits ts) a) (second_of (is_in_64_bits s) (trees_are_in_64_bits ss) b) r.1 in
      ((λ i. tree (r.0 i) (q.0 i)), q.1)

  others : (ms ns : Members) (u v : Text) → members_are_in_64_bits ms ≡ true → members_are_in_64_bits ns ≡ true → more_members ms ++ u ≡ more_members ns ++ v → (ms ≡ ns) × (u ≡ v)
  others no_members no_members u v a b e = (refl, ap (drop 1) e)
  others no_members (member l s ns) u v a b e = absurd (let h : 125 ≡ 44 = ap (λ x. get_or x 0 0) e in omega arith)
  others (member k t ms) no_members u v a b e = absurd (let h : 44 ≡ 125 = ap (λ x. get_or x 0 0) e in omega arith)
  others (member k t ms) (member l s ns) u v a b e =
      let p = key_of_member k l t s ms ns u v (ap (drop 1) e) in
      let r = one t s (more_members ms ++ u) (more_members ns ++ v) (first_of (is_in_64_bits t) (members_are_in_64_bits ms) a) (first_of (is_in_64_bits s) (members_are_in_64_bits ns) b)
      (after_member ms u) (after_member ns v) p.1 in
      let q = others ms ns u v (second_of (is_in_64_bits t) (members_are_in_64_bits ms) a) (second_of (is_in_64_bits s) (members_are_in_64_bits ns) b) r.1 in
      ((λ i. member (p.0 i) (r.0 i) (q.0 i)), q.1)

-- ---- keys

name_bytes : (name : Text) → is_name name ≡ true → list_all is_name_byte name ≡ true
name_bytes [] h = refl
name_bytes (b ∷ ys) h =
    λ i. (ap (λ x. x || is_within 48 57 b) (first_of (is_name_start b) (list_all is_name_byte ys) h)) i && second_of (is_name_start b) (list_all is_name_byte ys) h i

after_pair : (more : Arguments) → Stops is_number_byte (more_pairs more)
after_pair [] = refl
after_pair (a ∷ more) = refl

-- the first pair, and what follows it
first_pair : (a b : Text × Tree) (more others : Arguments) → (is_name a.0 && is_in_64_bits a.1) ≡ true → (is_name b.0 && is_in_64_bits b.1) ≡ true
    → pair_text a ++ more_pairs more ≡ pair_text b ++ more_pairs others → (a ≡ b) × (more_pairs more ≡ more_pairs others)
first_pair a b more others good also e =
    let parts = λ (x : Text × Tree) (rest : Text). append_assoc (x.0 ++ codes ":") (compact x.1) rest ∙ append_assoc x.0 (codes ":") (compact x.1 ++ rest) in
    let r = run is_name_byte a.0 b.0 (58 ∷ (compact a.1 ++ more_pairs more)) (58 ∷ (compact b.1 ++ more_pairs others))
    (name_bytes a.0 (first_of (is_name a.0) (is_in_64_bits a.1) good)) (name_bytes b.0 (first_of (is_name b.0) (is_in_64_bits b.1) also)) refl refl
    (sym (parts a (more_pairs more)) ∙ e ∙ parts b (more_pairs others)) in
    let q = one a.1 b.1 (more_pairs more) (more_pairs others) (second_of (is_name a.0) (is_in_64_bits a.1) good) (second_of (is_name b.0) (is_in_64_bits b.1) also)
    (after_pair more) (after_pair others) (ap (drop 1) r.1) in
    ((λ i. (r.0 i, q.0 i)), q.1)

all_pairs : (xs ys : Arguments) → are_arguments xs ≡ true → are_arguments ys ≡ true → more_pairs xs ≡ more_pairs ys → xs ≡ ys
all_pairs [] [] good also e = refl
all_pairs [] (b ∷ ys) good also e = absurd (let h : 41 ≡ 44 = ap (λ x. get_or x 0 0) e in omega arith)
all_pairs (a ∷ xs) [] good also e = absurd (let h : 44 ≡ 41 = ap (λ x. get_or x 0 0) e in omega arith)
all_pairs (a ∷ xs) (b ∷ ys) good also e =
    let r = first_pair a b xs ys (first_of _ (are_arguments xs) good) (first_of _ (are_arguments ys) also) (ap (drop 1) e) in
    (λ i. r.0 i ∷ all_pairs xs ys (second_of _ (are_arguments xs) good) (second_of _ (are_arguments ys) also) r.1 i)

given_arguments : (xs : Arguments) → are_arguments xs ≡ true → are_arguments (without_nulls xs) ≡ true
given_arguments [] good = refl
given_arguments (a ∷ xs) good =
    let rest = given_arguments xs (second_of _ (are_arguments xs) good) in
    elim (is_null a.1) as (λ b. are_arguments (cond b (without_nulls xs) (a ∷ without_nulls xs)) ≡ true) [ true ↦ rest | false ↦ λ i. first_of (is_name a.0 && is_in_64_bits a.1) (are_arguments xs) good i && rest i ]

-- two texts of which both begin with a name, and what follows it
same_name : (name other u v : Text) → is_name name ≡ true → is_name other ≡ true → Stops is_name_byte u → Stops is_name_byte v → name ++ u ≡ other ++ v → (name ≡ other) × (u ≡ v)
same_name name other u v good also su sv e = run is_name_byte name other u v (name_bytes name good) (name_bytes other also) su sv e

key_opens : (name : Text) (a : Text × Tree) (more : Arguments) → key_with name (a ∷ more) ≡ name ++ (40 ∷ (pair_text a ++ more_pairs more))
key_opens name a more = append_assoc (name ++ codes "(") (pair_text a) (more_pairs more) ∙ append_assoc name (codes "(") (pair_text a ++ more_pairs more)

keys : (name other : Text) (xs ys : Arguments) → is_name name ≡ true → is_name other ≡ true → are_arguments xs ≡ true → are_arguments ys ≡ true
    → key_with name xs ≡ key_with other ys → (name ≡ other) × (xs ≡ ys)
keys name other [] [] good also fit fits e = (e, refl)
keys name other [] (b ∷ ys) good also fit fits e =
    let r = same_name name other [] (40 ∷ (pair_text b ++ more_pairs ys)) good also tt refl (append-nil name ∙ e ∙ key_opens other b ys) in
    absurd (let h : 0 ≡ 40 = ap (λ x. get_or x 0 0) r.1 in omega arith)
keys name other (a ∷ xs) [] good also fit fits e =
    let r = same_name name other (40 ∷ (pair_text a ++ more_pairs xs)) [] good also refl tt (sym (key_opens name a xs) ∙ e ∙ sym (append-nil other)) in
    absurd (let h : 40 ≡ 0 = ap (λ x. get_or x 0 0) r.1 in omega arith)
keys name other (a ∷ xs) (b ∷ ys) good also fit fits e =
    let r = same_name name other (40 ∷ (pair_text a ++ more_pairs xs)) (40 ∷ (pair_text b ++ more_pairs ys)) good also refl refl (sym (key_opens name a xs) ∙ e ∙ key_opens other b ys) in
    (r.0, all_pairs (a ∷ xs) (b ∷ ys) fit fits (λ i. 44 ∷ drop 1 (r.1 i)))

pub field_keys-differ : FieldKeysDiffer
field_keys-differ name other arguments others good also fit fits e =
    keys name other (without_nulls arguments) (without_nulls others) good also (given_arguments arguments fit) (given_arguments others fits) e
