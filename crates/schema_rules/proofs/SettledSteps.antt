-- Arguments whose places are not before the least.
use Rattle.std.proofs.Common.{◌≡◌, ℕ, ◌+◌, ◌<◌, Bool, true, false, cond, not, ◌&&◌, is_some, List, [], ◌∷◌, ◌++◌, map, length, drop, get_or, Option, Some, None, IfSome, bytes_eq, refl, ap, sym, subst, ◌∙◌, add-one}
use Rattle.std.proofs.Math.Seq.{drop-cons}
use Rattle.std.specs.List.{AllByRecursion}
use Rattle.schema_trees.specs.gql_ast.declared.member.InputTree.{InputTree}
use Rattle.schema_trees.specs.gql_ast.TypeView.{ty_of}
use Rattle.gql_graph.specs.Leasts.{least_from}
use Rattle.gql_graph.specs.Rules.{each, wrong}
use Rattle.gql_graph.proofs.LeastSteps.{noted-append, kept_least}
use Rattle.schema_trees.specs.Located.{InputAt, FieldAt}
use Rattle.schema_rules.specs.Rules.{argument_differs, arguments_lack, further_argument, input_found, is_required_at, same_type}
use Rattle.schema_trees.specs.schema_tables.Types.{Text, input_named}

-- what holds of each argument holds of the one that is found
found_too : (P : InputAt → Type 0) (is : List InputAt) (n : Text) → AllByRecursion P is → IfSome (input_found is n) P
found_too P [] n all = tt
found_too P (i ∷ is) n all = on (found_too P is n all.1) (bytes_eq i.name.name n) where
  on : IfSome (input_found is n) P → (b : Bool) → IfSome (cond b (Some i) (input_found is n)) P
  on rest true = all.0
  on rest false = rest

-- the place of the type of an argument is not before the least
abbrev pub IsLater : Option ℕ → InputAt → Type 0
IsLater o i = least_from o (i.of.at ∷ []) ≡ o

differs_later : (o : Option ℕ) (lacks : ℕ) (r : Option InputAt) (w : InputTree) → least_from o (lacks ∷ []) ≡ o → IfSome r (IsLater o) → least_from o (argument_differs lacks r w) ≡ o
differs_later o lacks None w e h = e
differs_later o lacks (Some i) w e h = sym (kept_least o (not (same_type i.of.of (ty_of w.of))) i.of.at h)

pub lacks_later : (o : Option ℕ) (f : FieldAt) → least_from o (f.name.at ∷ []) ≡ o → AllByRecursion (IsLater o) f.arguments → (ws : List InputTree) → least_from o (each (arguments_lack f) ws) ≡ o
lacks_later o f e all [] = refl
lacks_later o f e all (w ∷ ws) =
    noted-append o (arguments_lack f w) (each (arguments_lack f) ws)
    ∙ ap (λ (x : Option ℕ). least_from x (each (arguments_lack f) ws)) (differs_later o f.name.at (input_found f.arguments w.name) w e (found_too (IsLater o) f.arguments w.name all))
    ∙ lacks_later o f e all ws

-- one more argument of a list
pub later_next : {X : Type 0} (view : X → InputAt) (P : InputAt → Type 0) (xs : List X) (i : ℕ) (x : X) → i < length xs → x ≡ get_or xs i x → P (view x)
    → (AllByRecursion P (map view (drop i xs)) → AllByRecursion P (map view xs)) → AllByRecursion P (map view (drop (i + 1) xs)) → AllByRecursion P (map view xs)
later_next {X = X} view P xs i x h is here all rest =
    let same : drop i xs ≡ get_or xs i x ∷ drop (i + 1) xs = rw add-one (drop-cons xs i x h) in
    all (subst (λ (ys : List X). AllByRecursion P (map view ys)) (sym same) (subst (λ (y : X). P (view y)) is here, rest))

-- one more argument that is not noted before the least
pub further_next : {X : Type 0} (view : X → InputAt) (f : InputAt → List ℕ) (xs : List X) (i : ℕ) (x : X) (o : Option ℕ) → i < length xs → x ≡ get_or xs i x → least_from o (f (view x)) ≡ o
    → (least_from o (each f (map view (drop i xs))) ≡ o → least_from o (each f (map view xs)) ≡ o) → least_from o (each f (map view (drop (i + 1) xs))) ≡ o → least_from o (each f (map view xs)) ≡ o
further_next {X = X} view f xs i x o h is here all rest =
    let same : drop i xs ≡ get_or xs i x ∷ drop (i + 1) xs = rw add-one (drop-cons xs i x h) in
    let more : List _ = each f (map view (drop (i + 1) xs)) in
    all (ap (λ (ys : List X). least_from o (each f (map view ys))) same ∙ ap (λ (y : X). least_from o (f (view y) ++ more)) (sym is)
    ∙ noted-append o (f (view x)) more ∙ ap (λ (p : Option ℕ). least_from p more) here ∙ rest)

-- what is not required is not noted
pub optional_later : (o : Option ℕ) (i : InputAt) → is_required_at i ≡ false → (ws : List InputTree) → least_from o (further_argument ws i) ≡ o
optional_later o i e ws = ap (λ (b : Bool). least_from o (wrong (b && not (is_some (input_named ws i.name.name))) i.name.at)) e

pub named_later : (o : Option ℕ) (i : InputAt) → least_from o (i.name.at ∷ []) ≡ o → (ws : List InputTree) → least_from o (further_argument ws i) ≡ o
named_later o i e ws = sym (kept_least o (is_required_at i && not (is_some (input_named ws i.name.name))) i.name.at e)
