-- The number that digits write, digit by digit.
use Rattle.std.proofs.Common.{◌≡◌, ℕ, ◌+◌, ◌≤◌, ◌<◌, ◌^◌, Bool, true, false, ◌&&◌, nat_lt, cond, get_or, drop, length, List, [], ◌∷◌, Option, Some, None, refl, sym, ap, ◌∙◌, arith}
use Rattle.std.specs.List.{list_all}
use Rattle.std.specs.Prelude.{fold}
use Rattle.std.proofs.lemmas.Bool.{le-ltb, lt-ltb}
use Rattle.std.proofs.lemmas.List.{at_drop_more, drop_all}
use Rattle.relay_forms.proofs.Numbers.{more, more_of}
use Rattle.relay_forms.specs.Words.{decimal_in, is_digit}

-- what digits write behind those that write the number n
abbrev pub value_from : ℕ → List ℕ → Option ℕ
value_from n ds = cond (list_all is_digit ds && nat_lt (fold more n ds) (2 ^ 64)) (Some (fold more n ds)) None

none_of : (t : Bool) (v : ℕ) → cond {A = Option ℕ} (t && false) (Some v) None ≡ None
none_of true v = refl
none_of false v = refl

too_great_next : (n b : ℕ) (bs : List ℕ) → 2 ^ 64 ≤ more n b → value_from n (b ∷ bs) ≡ None
too_great_next n b bs h =
    let value = fold more (more n b) bs in
    let above : 2 ^ 64 ≤ value = omega (arith, h, more_of (more n b) bs) in
    ap (λ t. cond (list_all is_digit (b ∷ bs) && t) (Some value) None) (le-ltb value (2 ^ 64) above) ∙ none_of (list_all is_digit (b ∷ bs)) value

no_more_digits : (n : ℕ) → n < 2 ^ 64 → value_from n [] ≡ Some n
no_more_digits n h = ap (λ t. cond (true && t) (Some n) None) (lt-ltb n (2 ^ 64) h)

pub none_behind : (ds : List ℕ) (i n : ℕ) → i < length ds → 2 ^ 64 ≤ more n (get_or ds i 0) → value_from n (drop i ds) ≡ decimal_in ds → None ≡ decimal_in ds
none_behind ds i n low above so_far =
    sym (at_drop_more (value_from n) ds i 0 low ∙ too_great_next n (get_or ds i 0) (drop (i + 1) ds) above) ∙ so_far

pub some_behind : (ds : List ℕ) (i n : ℕ) → length ds ≤ i → n < 2 ^ 64 → value_from n (drop i ds) ≡ decimal_in ds → Some n ≡ decimal_in ds
some_behind ds i n end low so_far = sym (ap (value_from n) (drop_all i ds end) ∙ no_more_digits n low) ∙ so_far
