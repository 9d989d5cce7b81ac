-- What is given at a spread, and what must be given.
use Rattle.std.proofs.Common.{◌≡◌, ℕ, ◌+◌, ◌<◌, ◌≤◌, Bool, true, false, not, cond, ◌&&◌, ◌||◌, List, [], ◌∷◌, ◌++◌, map, drop, length, get_or, add-one, Option, Some, bytes_eq, refl, ap, sym, ◌∙◌}
use Rattle.std.proofs.Math.Seq.{drop-cons}
use Rattle.std.proofs.lemmas.List.{drop_all}
use Rattle.std.specs.List.{list_all}
use Rattle.gql_syntax.specs.gql_plain.Order.{has_text}
use Rattle.constant_values.specs.gql_graph.Rules.{each}
use Rattle.constant_values.specs.gql_graph.Texts.{Text}
use Rattle.constant_values.specs.schema_types.ArgumentRules.{is_given, is_null}
use Rattle.constant_values.specs.schema_types.NameRules.{fragment_named, fragments}
use Rattle.constant_values.specs.schema_types.Sites.{ArgumentAt, FragmentAt, DefinitionAt, operation, fragment}
use Rattle.relay_dirs.specs.GivenNames.{given_names}
use Rattle.relay_marks.specs.Locals.{Local, local_named, locals_of}
use Rattle.relay_rules.specs.Spreads.{is_served, locals_named, locals_of_found, must_be_given}
use Rattle.relay_dirs.specs.Tables.{fragment_locals, locals_among, required_name}

-- an element that passes, and one that does not
pub all_stop : {X A : Type 0} (view : X → A) (p : A → Bool) (xs : List X) (i : ℕ) (x : X) → i < length xs → x ≡ get_or xs i x → p (view x) ≡ false
    → list_all p (map view (drop i xs)) ≡ false
all_stop {X = X} view p xs i x h is e =
    let same : drop i xs ≡ get_or xs i x ∷ drop (i + 1) xs = rw add-one (drop-cons xs i x h) in
    ap (λ (ys : List X). list_all p (map view ys)) same ∙ ap (λ (b : Bool). b && list_all p (map view (drop (i + 1) xs))) (ap (λ (y : X). p (view y)) (sym is) ∙ e)

pub all_next : {X A : Type 0} (view : X → A) (p : A → Bool) (xs : List X) (i : ℕ) (x : X) → i < length xs → x ≡ get_or xs i x → p (view x) ≡ true
    → list_all p (map view (drop i xs)) ≡ list_all p (map view (drop (i + 1) xs))
all_next {X = X} view p xs i x h is e =
    let same : drop i xs ≡ get_or xs i x ∷ drop (i + 1) xs = rw add-one (drop-cons xs i x h) in
    ap (λ (ys : List X). list_all p (map view ys)) same ∙ ap (λ (b : Bool). b && list_all p (map view (drop (i + 1) xs))) (ap (λ (y : X). p (view y)) (sym is) ∙ e)

-- nothing is left
pub all_end : {X A : Type 0} (view : X → A) (p : A → Bool) (xs : List X) (i : ℕ) → length xs ≤ i → true ≡ list_all p (map view (drop i xs))
all_end {X = X} view p xs i h = sym (ap (λ (ys : List X). list_all p (map view ys)) (drop_all i xs h))

-- the parts from an element on
pub each_from : {X A B : Type 0} (view : X → A) (f : A → List B) (xs : List X) (i : ℕ) (x : X) → i < length xs → x ≡ get_or xs i x
    → f (view x) ++ each f (map view (drop (i + 1) xs)) ≡ each f (map view (drop i xs))
each_from {X = X} view f xs i x h is =
    let same : drop i xs ≡ get_or xs i x ∷ drop (i + 1) xs = rw add-one (drop-cons xs i x h) in
    ap (λ (y : X). f (view y) ++ each f (map view (drop (i + 1) xs))) is ∙ sym (ap (λ (ys : List X). each f (map view ys)) same)

-- ---- the names that are given, and not as `null`

drop_and : (c r : Bool) → r ≡ ((c && false) || r)
drop_and true r = refl
drop_and false r = refl

keep_and : (c r : Bool) → (c || r) ≡ ((c && true) || r)
keep_and true r = refl
keep_and false r = refl

given_if : (b : Bool) (m : Text) (gs : List Text) (n : Text) → has_text (cond b [] (m ∷ []) ++ gs) n ≡ ((bytes_eq m n && not b) || has_text gs n)
given_if true m gs n = drop_and (bytes_eq m n) (has_text gs n)
given_if false m gs n = keep_and (bytes_eq m n) (has_text gs n)

given_is : (xs : List ArgumentAt) (n : Text) → has_text (given_names xs) n ≡ is_given xs n
given_is [] n = refl
given_is (a ∷ xs) n = given_if (is_null a.value.of) a.name.name (given_names xs) n ∙ ap (λ (r : Bool). (bytes_eq a.name.name n && not (is_null a.value.of)) || r) (given_is xs n)

-- ---- each local variable that must be given

required_if : (b : Bool) (n : Text) (rest : List Text) (p : Text → Bool) (q : Bool) → list_all p rest ≡ q → list_all p (cond b (n ∷ []) [] ++ rest) ≡ ((not b || p n) && q)
required_if true n rest p q e = ap (λ (r : Bool). p n && r) e
required_if false n rest p q e = e

pub required_all : (xs : List ArgumentAt) (ls : List Local) → list_all (has_text (given_names xs)) (each required_name ls) ≡ list_all (is_served xs) ls
required_all xs [] = refl
required_all xs (l ∷ ls) =
    required_if (must_be_given l) l.name (each required_name ls) (has_text (given_names xs)) (list_all (is_served xs) ls) (required_all xs ls)
    ∙ ap (λ (b : Bool). (not (must_be_given l) || b) && list_all (is_served xs) ls) (given_is xs l.name)

-- ---- local variables and fragments by their names

-- one more is put in front of those that are found by their names
pub local_next : {X : Type 0} (view : X → Local) (vs : List X) (i : ℕ) (x : X) (n : Text) (old new : Option Local) → i < length vs → x ≡ get_or vs i x
    → old ≡ local_named (map view (drop (i + 1) vs)) n → new ≡ cond (bytes_eq (view x).name n) (Some (view x)) old → new ≡ local_named (map view (drop i vs)) n
local_next {X = X} view vs i x n old new h is_x e put =
    let same : drop i vs ≡ get_or vs i x ∷ drop (i + 1) vs = rw add-one (drop-cons vs i x h) in
    put ∙ ap (λ (o : Option Local). cond (bytes_eq (view x).name n) (Some (view x)) o) e
    ∙ ap (λ (y : X). cond (bytes_eq (view y).name n) (Some (view y)) (local_named (map view (drop (i + 1) vs)) n)) is_x
    ∙ sym (ap (λ (ys : List X). local_named (map view ys) n) same)

found_if : (b : Bool) (f : FragmentAt) (rest : List Local) (more : Option FragmentAt) → rest ≡ locals_of_found more → cond b (locals_of f.directives) rest ≡ locals_of_found (cond b (Some f) more)
found_if true f rest more e = refl
found_if false f rest more e = e

-- the first fragment of a name is found
pub locals_found : (ds : List DefinitionAt) (n : Text) → locals_among (each fragment_locals ds) n ≡ locals_named (fragments ds) n
locals_found [] n = refl
locals_found (operation o ∷ ds) n = locals_found ds n
locals_found (fragment f ∷ ds) n = found_if (bytes_eq f.name.name n) f (locals_among (each fragment_locals ds) n) (fragment_named (fragments ds) n) (locals_found ds n)
