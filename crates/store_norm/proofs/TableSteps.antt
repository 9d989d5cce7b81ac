-- Members that are put into a table one after another.
use Rattle.std.proofs.Common.{◌≡◌, Bool, true, false, cond, List, [], ◌∷◌, ◌++◌, Ordering, Less, Equal, Greater, nat_cmp, Option, Some, None, option_map, unwrap_or, String, Global, bytes_eq, string_bytes, ℕ, refl, sym, ap, ◌∙◌, subst}
use Rattle.std.proofs.lemmas.Map.Text.{is_eq-slice_cmp}
use Rattle.std.proofs.lemmas.Slice.Eq.{bytes_eq-Decides}
use Rattle.std.specs.Cmp.Lexicographic.{slice_cmp}
use Rattle.std.specs.List.{AllByRecursion}
use Rattle.std.specs.List.Sorted.{IsStrictlySortedBy}
use Rattle.std.specs.Map.{keys_of}
use Rattle.std.specs.Ordering.{is_eq, match_ordering}
use Rattle.std.specs.String.{string_cmp}
use Rattle.serde_json.proofs.Views.{Entry}
use Rattle.serde_json.specs.Data.{Data}
use Rattle.serde_json.specs.Find.{get_member}
use Rattle.serde_json.specs.View.{members_view, view}

-- what is found first, and else the other
abbrev pub or_else : Option Data → Option Data → Option Data
or_else (Some d) other = Some d
or_else None other = other

pub or_none : (d : Option Data) → or_else d None ≡ d
or_none (Some d) = refl
or_none None = refl

-- the later ones of entries in order are in order
pub later_in_order : (done left : List Entry) → IsStrictlySortedBy string_cmp (keys_of (done ++ left)) → IsStrictlySortedBy string_cmp (keys_of left)
unfolding IsStrictlySortedBy
later_in_order [] left up = up
later_in_order (d ∷ done) left up = later_in_order done left up.1

-- a key below all others is not among them
none_above : (key : List ℕ) (left : List Entry) → AllByRecursion (λ later. slice_cmp nat_cmp key (string_bytes later) ≡ Less) (keys_of left) → get_member key (members_view left) ≡ None
none_above key [] all = refl
none_above key (e ∷ left) all =
    ap (λ o. match_ordering o (get_member key (members_view left)) (Some (view e.1)) (get_member key (members_view left))) all.0
    ∙ none_above key left all.1

pub none_later : (e : Entry) (left : List Entry) → IsStrictlySortedBy string_cmp (keys_of (e ∷ left)) → get_member (string_bytes e.0) (members_view left) ≡ None
unfolding IsStrictlySortedBy
none_later e left up = none_above (string_bytes e.0) left up.0

-- equal texts are equal the other way round
turned : (xs ys : List ℕ) (b : Bool) → bytes_eq xs ys ≡ b → bytes_eq ys xs ≡ b
turned xs ys true e = let same : xs ≡ ys = (bytes_eq-Decides xs ys).0 e in (bytes_eq-Decides ys xs).1 (sym same)
turned xs ys false e = on (bytes_eq ys xs) refl
  where
    on : (c : Bool) → bytes_eq ys xs ≡ c → c ≡ false
    on false f = refl
    on true f = let same : ys ≡ xs = (bytes_eq-Decides ys xs).0 f in sym ((bytes_eq-Decides xs ys).1 (sym same)) ∙ e

-- an entry that is put into the table is found there, and the others as before
pub one_tabled : (key : List ℕ) (e : Entry) (left : List Entry) (old new : Option Data) → get_member (string_bytes e.0) (members_view left) ≡ None
    → new ≡ cond (bytes_eq (string_bytes e.0) key) (Some (view e.1)) old
    → or_else (get_member key (members_view left)) new ≡ or_else (get_member key (members_view (e ∷ left))) old
one_tabled key e left old new none is = on (slice_cmp nat_cmp key k) refl
  where
    k : List ℕ
    k = string_bytes e.0

    rest : Option Data
    rest = get_member key (members_view left)

    same : (b : Bool) → bytes_eq k key ≡ b → new ≡ cond b (Some (view e.1)) old
    same b f = is ∙ ap (λ c. cond c (Some (view e.1)) old) f

    other : bytes_eq key k ≡ false → or_else rest new ≡ or_else rest old
    other f = ap (or_else rest) (same false (turned key k false f))

    on : (o : Ordering) → slice_cmp nat_cmp key k ≡ o → or_else rest new ≡ or_else (match_ordering o rest (Some (view e.1)) rest) old
    on Less f = other (sym (is_eq-slice_cmp key k) ∙ ap is_eq f)
    on Greater f = other (sym (is_eq-slice_cmp key k) ∙ ap is_eq f)
    on Equal f =
        let equal : bytes_eq key k ≡ true = sym (is_eq-slice_cmp key k) ∙ ap is_eq f in
        let text : key ≡ k = (bytes_eq-Decides key k).0 equal in
        let gone : rest ≡ None = ap (λ t. get_member t (members_view left)) text ∙ none in
        (λ i. or_else (gone i) (same true (turned key k true equal) i))

pub cond_mapped : {A B : Type 0} (f : A → B) (b : Bool) (x : A) (o : Option A) → option_map f (cond b (Some x) o) ≡ cond b (Some (f x)) (option_map f o)
cond_mapped f true x o = refl
cond_mapped f false x o = refl

-- ---- a table that is there

pub mapped_some : {A B : Type 0} (f g : A → B) (o : Option A) (a : A) → option_map f o ≡ option_map g o → o ≡ Some a → f a ≡ g a
mapped_some f g o a e is =
    let both : Some (f a) ≡ Some (g a) = subst (λ q. option_map f q ≡ option_map g q) is e in
    ap (λ q. unwrap_or q (f a)) both
