-- Types that leave out no interface, one after the other.
use Rattle.std.proofs.Common.{◌≡◌, ℕ, ◌+◌, ◌<◌, ◌≤◌, Bool, true, false, not, ◌||◌, List, [], ◌∷◌, map, drop, length, get_or, add-one, true≢false, refl, ap, sym, ◌∙◌}
use Rattle.std.proofs.Math.Seq.{drop-cons}
use Rattle.std.proofs.lemmas.Bool.{or_from, or_parts}
use Rattle.std.proofs.lemmas.List.{drop_all}
use Rattle.std.specs.BTreeSet.{BTreeSet}
use Rattle.std.specs.List.{list_any}
use Rattle.std.specs.Str.{bytes_eq}
use Rattle.gql_graph.specs.gql_plain.Order.{has_text}
use Rattle.gql_graph.proofs.TextSteps.{same_text}
use Rattle.gql_graph.specs.Seen.{Knows}
use Rattle.schema_rules.specs.Inherited.{HasNone, is_open}
use Rattle.schema_rules.specs.Rules.{leaves_out, names_of}
use Rattle.schema_trees.specs.schema_tables.Types.{Text, Defs, interfaces_named, type_named}
use Rattle.schema_trees.specs.LocatedView.{name_of}
use Rattle.schema_trees.specs.declared.located.NameAt.{NameAt}
use denote.Ref.{Bor}

-- none of the names is such, so one of them is not
pub none_such : (such : Text → Bool) (ns : List Text) (n : Text) → list_any such ns ≡ false → has_text ns n ≡ true → such n ≡ false
none_such such [] n e h = absurd (true≢false (sym h))
none_such such (m ∷ ns) n e h = case (bytes_eq m n) refl h (λ i. none_such such ns n ((or_parts (such m) (list_any such ns) e).1) i) where
  case : (b : Bool) → bytes_eq m n ≡ b → (b || has_text ns n) ≡ true → (has_text ns n ≡ true → such n ≡ false) → such n ≡ false
  case true f i later = ap such (sym (same_text m n f)) ∙ (or_parts (such m) (list_any such ns) e).0
  case false f i later = later i

pub stands_in : (b : Bool) → not b ≡ false → b ≡ true
stands_in true e = refl
stands_in false e = absurd (true≢false e)

-- all are among the inner names, and these among the outer ones
narrow : (inner outer xs : List Text) → list_any (λ one. not (has_text outer one)) inner ≡ false → list_any (λ one. not (has_text inner one)) xs ≡ false
    → list_any (λ one. not (has_text outer one)) xs ≡ false
narrow inner outer [] e f = refl
narrow inner outer (x ∷ xs) e f =
    or_from (not (has_text outer x)) (list_any (λ one. not (has_text outer one)) xs)
    (none_such (λ one. not (has_text outer one)) inner x e (stands_in (has_text inner x) ((or_parts (not (has_text inner x)) (list_any (λ one. not (has_text inner one)) xs) f).0)))
    (narrow inner outer xs e ((or_parts (not (has_text inner x)) (list_any (λ one. not (has_text inner one)) xs) f).1))

-- what leaves out none of the inner names leaves out none of the outer ones
pub narrow_all : (defs : Defs) (inner outer is : List Text) → list_any (λ one. not (has_text outer one)) inner ≡ false → list_any (leaves_out defs inner) is ≡ false → list_any (leaves_out defs outer) is ≡ false
narrow_all defs inner outer [] e f = refl
narrow_all defs inner outer (i ∷ is) e f =
    or_from (leaves_out defs outer i) (list_any (leaves_out defs outer) is)
    (narrow inner outer (interfaces_named (type_named defs i)) e ((or_parts (leaves_out defs inner i) (list_any (leaves_out defs inner) is) f).0))
    (narrow_all defs inner outer is e ((or_parts (leaves_out defs inner i) (list_any (leaves_out defs inner) is) f).1))

-- ---- sets of names of which none is such

pub none_of : (set : BTreeSet (Bor (List ℕ))) (such : Text → Bool) (n : Text) → HasNone set such → (b : Bool) → ((ns : List Text) → Knows set ns → b ≡ has_text ns n) → b ≡ true → such n ≡ false
none_of set such n h b k e = none_such such h.0 n h.2 (sym (k h.0 h.1) ∙ e)

pub put_one : (new : BTreeSet (Bor (List ℕ))) (such : Text → Bool) (known : List Text) (n : Text) → Knows new (n ∷ known) → list_any such known ≡ false → such n ≡ false → HasNone new such
put_one new such known n k e f = (n ∷ known, k, or_from (such n) (list_any such known) f e)

any_first : (such : Text → Bool) (x : Text) (xs : List Text) → list_any such (x ∷ xs) ≡ false → such x ≡ false
any_first such x xs e = (or_parts (such x) (list_any such xs) e).0

any_rest : (such : Text → Bool) (x : Text) (xs : List Text) → list_any such (x ∷ xs) ≡ false → list_any such xs ≡ false
any_rest such x xs e = (or_parts (such x) (list_any such xs) e).1

-- one name of a list, and those after it
pub none_here : (such : Text → Bool) (xs : List Text) (i : ℕ) (x : Text) → i < length xs → x ≡ get_or xs i x → list_any such (drop i xs) ≡ false → such x ≡ false
none_here such xs i x h is e =
    let same : drop i xs ≡ get_or xs i x ∷ drop (i + 1) xs = rw add-one (drop-cons xs i x h) in
    ap such is ∙ any_first such (get_or xs i x) (drop (i + 1) xs) (sym (ap (list_any such) same) ∙ e)

pub none_after : (such : Text → Bool) (xs : List Text) (i : ℕ) (x : Text) → i < length xs → list_any such (drop i xs) ≡ false → list_any such (drop (i + 1) xs) ≡ false
none_after such xs i x h e =
    let same : drop i xs ≡ get_or xs i x ∷ drop (i + 1) xs = rw add-one (drop-cons xs i x h) in
    any_rest such (get_or xs i x) (drop (i + 1) xs) (sym (ap (list_any such) same) ∙ e)

-- ---- closed types

-- what a closed type implements leaves nothing out, where all of it is named
pub covers_all : (defs : Defs) (ns : List Text) (n : Text) (theirs : List Text) (lacks : Bool) → theirs ≡ interfaces_named (type_named defs n) → lacks ≡ list_any (λ one. not (has_text ns one)) theirs → lacks ≡ false
    → is_open defs n ≡ false → list_any (leaves_out defs ns) theirs ≡ false
covers_all defs ns n theirs lacks is e f closed =
    ap (list_any (leaves_out defs ns)) is
    ∙ narrow_all defs (interfaces_named (type_named defs n)) ns (interfaces_named (type_named defs n)) (sym (ap (list_any (λ one. not (has_text ns one))) is) ∙ sym e ∙ f) closed

pub covers_one : (defs : Defs) (ns : List Text) (n : Text) (theirs : List Text) (lacks : Bool) → theirs ≡ interfaces_named (type_named defs n) → lacks ≡ list_any (λ one. not (has_text ns one)) theirs → lacks ≡ false
    → leaves_out defs ns n ≡ false
covers_one defs ns n theirs lacks is e f = sym (ap (list_any (λ one. not (has_text ns one))) is) ∙ sym e ∙ f

-- ---- two lists of names

-- one more name is the same
pub same_next : (xs : List NameAt) (ys : List Text) (i : ℕ) (x : NameAt) (y : Text) → i < length xs → i < length ys → (get_or xs i x).name.now ≡ get_or ys i y
    → names_of (map name_of (drop (i + 1) xs)) ≡ drop (i + 1) ys → names_of (map name_of (drop i xs)) ≡ drop i ys
same_next xs ys i x y h k e f =
    let left : drop i xs ≡ get_or xs i x ∷ drop (i + 1) xs = rw add-one (drop-cons xs i x h) in
    let right : drop i ys ≡ get_or ys i y ∷ drop (i + 1) ys = rw add-one (drop-cons ys i y k) in
    ap (λ (zs : List NameAt). names_of (map name_of zs)) left ∙ ap (λ (n : Text). n ∷ names_of (map name_of (drop (i + 1) xs))) e ∙ ap (λ (ns : List Text). get_or ys i y ∷ ns) f ∙ sym right

-- behind the last one
pub same_end : (xs : List NameAt) (ys : List Text) (i : ℕ) → length xs ≤ i → length ys ≤ i → names_of (map name_of (drop i xs)) ≡ drop i ys
same_end xs ys i h k = ap (λ (zs : List NameAt). names_of (map name_of zs)) (drop_all i xs h) ∙ sym (drop_all i ys k)
