-- Steps of loops over lists, and parts of the rules.
use Rattle.std.proofs.Common.{◌≡◌, ℕ, ◌+◌, ◌<◌, Bool, true, false, not, cond, ◌&&◌, ◌||◌, List, [], ◌∷◌, ◌++◌, map, drop, length, get_or, add-one, Option, bytes_eq, refl, ap, sym, ◌∙◌}
use Rattle.std.proofs.Math.Seq.{drop-cons}
use Rattle.gql_graph.specs.gql_plain.Order.{has_text}
use Rattle.doc_uses.specs.schema_types.ArgumentRules.{free, unknown, not_taken, argument_unfit, is_given, is_null, names_once, stands_once}
use Rattle.doc_uses.specs.schema_tables.BuiltIn as known
use Rattle.gql_graph.specs.Leasts.{least_from}
use Rattle.doc_uses.specs.schema_trees.Located.{Located}
use Rattle.doc_uses.specs.schema_rules.Rules.{each, wrong, names_of}
use Rattle.doc_uses.specs.schema_types.Sites.{ArgumentAt, DirectiveAt}
use Rattle.doc_uses.specs.schema_tables.Types.{Text, Defs}
use Rattle.gql_graph.proofs.LeastSteps.{noted-append}
use Rattle.doc_args.specs.Directives.{once_name}
use Rattle.doc_args.specs.GivenNames.{given_names}

-- what is noted for one that is wrong in the same case
pub noted_if : (o p : Option ℕ) (a b : Bool) (at : ℕ) → p ≡ least_from o (wrong a at) → a ≡ b → p ≡ least_from o (wrong b at)
noted_if o p a b at e h = e ∙ ap (λ (x : Bool). least_from o (wrong x at)) h

pub each_none : {A B : Type 0} (f : A → List B) → ((a : A) → f a ≡ []) → (xs : List A) → each f xs ≡ []
each_none f h [] = refl
each_none f h (x ∷ xs) = ap (λ (ys : List _). ys ++ each f xs) (h x) ∙ each_none f h xs

-- one more element of a list that is seen in two steps
pub each_next_mapped : {X A B : Type 0} (view : X → A) (form : A → B) (f : B → List ℕ) (xs : List X) (i : ℕ) (x : X) (o p whole : Option ℕ) → i < length xs → x ≡ get_or xs i x
    → p ≡ least_from o (f (form (view x))) → least_from o (each f (map form (map view (drop i xs)))) ≡ whole → least_from p (each f (map form (map view (drop (i + 1) xs)))) ≡ whole
each_next_mapped {X = X} view form f xs i x o p whole h is e w =
    let rest : List _ = map form (map view (drop (i + 1) xs)) in
    let same : drop i xs ≡ get_or xs i x ∷ drop (i + 1) xs = rw add-one (drop-cons xs i x h) in
    ap (λ (q : Option ℕ). least_from q (each f rest)) e ∙ sym (noted-append o (f (form (view x))) (each f rest))
    ∙ ap (λ (y : X). least_from o (f (form (view y)) ++ each f rest)) is ∙ sym (ap (λ (ys : List X). least_from o (each f (map form (map view ys)))) same) ∙ w

-- two parts that are noted in turn, and then two more at once
pub noted_parts : (o p q r : Option ℕ) (a b c d : List ℕ) → p ≡ least_from o a → q ≡ least_from p b → r ≡ least_from q (c ++ d) → r ≡ least_from o (a ++ b ++ c ++ d)
noted_parts o p q r a b c d e f g =
    g ∙ ap (λ (x : Option ℕ). least_from x (c ++ d)) (f ∙ ap (λ (x : Option ℕ). least_from x b) e)
    ∙ noted-append (least_from (least_from o a) b) c d ∙ ap (λ (x : Option ℕ). least_from (least_from x c) d) (sym (noted-append o a b))
    ∙ ap (λ (x : Option ℕ). least_from x d) (sym (noted-append o (a ++ b) c)) ∙ sym (noted-append o (a ++ b ++ c) d)

-- nothing is wrong with the arguments of what takes any, and with names of what is not known
pub free_taken : (ns : List Located) → each (not_taken free) ns ≡ []
free_taken ns = each_none (not_taken free) (λ n. refl) ns

pub unknown_taken : (ns : List Located) → each (not_taken unknown) ns ≡ []
unknown_taken ns = each_none (not_taken unknown) (λ n. refl) ns

pub free_fit : (defs : Defs) (xs : List ArgumentAt) → each (argument_unfit defs free) xs ≡ []
free_fit defs xs = each_none (argument_unfit defs free) (λ a. refl) xs

drop_and : (c r : Bool) → r ≡ ((c && false) || r)
drop_and true r = refl
drop_and false r = refl

keep_and : (c r : Bool) → (c || r) ≡ ((c && true) || r)
keep_and true r = refl
keep_and false r = refl

given_if : (b : Bool) (m : Located) (gs : List Located) (n : Text) → has_text (names_of (cond b [] (m ∷ []) ++ gs)) n ≡ ((bytes_eq m.name n && not b) || has_text (names_of gs) n)
given_if true m gs n = drop_and (bytes_eq m.name n) (has_text (names_of gs) n)
given_if false m gs n = keep_and (bytes_eq m.name n) (has_text (names_of gs) n)

-- a name that is given, and not as `null`
pub given_is : (xs : List ArgumentAt) (n : Text) → has_text (names_of (given_names xs)) n ≡ is_given xs n
given_is [] n = refl
given_is (a ∷ xs) n = given_if (is_null a.value.of) a.name (given_names xs) n ∙ ap (λ (r : Bool). (bytes_eq a.name.name n && not (is_null a.value.of)) || r) (given_is xs n)

once_if : (b : Bool) (n : Located) (ms ns : List Located) → ms ≡ ns → cond b (n ∷ []) [] ++ ms ≡ cond b (n ∷ ns) ns
once_if true n ms ns e = ap (λ (l : List Located). n ∷ l) e
once_if false n ms ns e = e

-- the names of directives that may not stand twice
pub once_names : (defs : Defs) (ds : List DirectiveAt) → each (once_name defs) ds ≡ names_once defs ds
once_names defs [] = refl
once_names defs (d ∷ ds) = once_if (stands_once (known.directive defs d.name.name)) d.name (each (once_name defs) ds) (names_once defs ds) (once_names defs ds)

pub ruleset directing = (noted-append, once_names)
