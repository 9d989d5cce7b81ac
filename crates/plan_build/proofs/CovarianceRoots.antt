-- The root types of a sound schema are object types.
use Rattle.std.proofs.Common.{◌≡◌, ℕ, ◌+◌, Bool, true, false, true≢false, not, ◌&&◌, cond, List, [], ◌∷◌, ◌++◌, Option, Some, None, is_some, refl, sym, subst}
use Rattle.std.specs.List.{AllByRecursion, filter, filter_map}
use Rattle.std.specs.Option.{IfSome}
use Rattle.plan_ir.specs.gql_ast.declared.document.Kind.{Kind}
use Rattle.plan_ir.specs.gql_ast.declared.document.Kind.TheVariants.{Query, Mutation, Subscription}
use Rattle.plan_ir.specs.gql_ast.declared.schema.Root.{Root}
use Rattle.plan_ir.specs.gql_ast.declared.schema.SchemaDef.{SchemaDef}
use Rattle.plan_ir.specs.gql_ast.declared.schema.SchemaDef.TheVariants as S
use Rattle.plan_ir.specs.gql_graph.Rules.{each, wrong}
use Rattle.plan_build.proofs.CovarianceLists.{all_kept, all_mapped, none_each, none_first, none_then, not_so, right}
use Rattle.plan_build.proofs.CovarianceNames.{found_holds, found_named, has_effect_named, name_of_type}
use Rattle.plan_build.proofs.CovarianceRules.{SchemaMeets}
use Rattle.plan_ir.specs.schema_rules.Rules.{default_root_wrong, default_roots_wrong, first_node, gives_query, has_effect, is_default_root, is_object, not_object, roots_given, roots_wrong, roots_wrong_in}
use Rattle.plan_ir.specs.schema_tables.BuiltIn.{is_built_in_directive}
use Rattle.plan_ir.specs.schema_tables.Types.{Text, Defs, default_root, is_built_in_scalar, root, root_from, root_in, roots_of, same_kind, type_named}
use Rattle.plan_ir.specs.schema_trees.DefinitionParts.{repeated_names, root_names, type_name_of}
use Rattle.plan_ir.specs.schema_trees.Located as located
use Rattle.plan_ir.specs.schema_trees.Located.{Located, RootAt, DefAt, def_nodes, defs_at, directives_nodes, inputs_at, locate, name_at, roots_at}

-- ---- the roots that a `schema` definition gives

abbrev SameRoots : Option (List Root) → Option (List RootAt) → Type 0
SameRoots None None = Unit {0}
SameRoots None (Some qs) = ⊥
SameRoots (Some rs) None = ⊥
SameRoots (Some rs) (Some qs) = (from : ℕ) × (qs ≡ roots_at from rs)

-- a definition that gives no roots, with an effect or without
either_kept : (b : Bool) (a : DefAt) (rest : List DefAt) (rs : Option (List Root)) → roots_given (a ∷ rest) ≡ roots_given rest → SameRoots rs (roots_given rest)
    → SameRoots rs (roots_given (cond b (a ∷ rest) rest))
either_kept true a rest rs e h = subst (SameRoots rs) (sym e) h
either_kept false a rest rs e h = h

same_roots : (defs : Defs) (from : ℕ) → SameRoots (roots_of defs) (roots_given (filter has_effect (defs_at from defs)))
same_roots [] from = tt
same_roots (S.Schema ds rs ∷ defs) from = (from + 1 + directives_nodes ds, refl)
same_roots (S.Scalar n ds ∷ defs) from =
    let next : ℕ = from + def_nodes (S.Scalar n ds) in
    either_kept (not (is_built_in_scalar n)) (located.scalar (name_at from n)) (filter has_effect (defs_at next defs)) (roots_of defs) refl (same_roots defs next)
same_roots (S.Directive n xs r ls ∷ defs) from =
    let next : ℕ = from + def_nodes (S.Directive n xs r ls) in
    either_kept (not (is_built_in_directive n)) (located.directive (name_at from n) (inputs_at (from + 2) xs)) (filter has_effect (defs_at next defs)) (roots_of defs) refl
    (same_roots defs next)
same_roots (d ∷ defs) from = same_roots defs (from + def_nodes d)

-- the root of a kind is one of all
root_found : (defs : Defs) (from : ℕ) (rs : List Root) (k : Kind) (r : Text) → AllByRecursion (λ l. not_object defs l ≡ []) (root_names (roots_at from rs)) → root_in rs k ≡ Some r
    → is_object defs r ≡ true
root_found defs from [] k r h e = absurd cc
root_found defs from (q ∷ rs) k r h e = on (λ i. root_found defs (from + 2) rs k r h.1 i) (same_kind q.kind k) e
  where
    on : (root_in rs k ≡ Some r → is_object defs r ≡ true) → (b : Bool) → cond b (Some q.name) (root_in rs k) ≡ Some r → is_object defs r ≡ true
    on later true e =
        let same : q.name ≡ r = cc e in
        subst (λ (t : Text). is_object defs t ≡ true) same (right (is_object defs q.name) (from + 1) h.0)
    on later false e = later e

given_root : (defs : Defs) (from : ℕ) (rs : List Root) (k : Kind) (r : Text) → roots_wrong defs (roots_at from rs) ≡ [] → root_in rs k ≡ Some r → is_object defs r ≡ true
given_root defs from rs k r h e =
    let qs : List RootAt = roots_at from rs in
    let missing : List ℕ = wrong (not (gives_query qs)) first_node in
    let first = none_first (missing ++ each (not_object defs) (root_names qs)) (repeated_names (root_names qs)) h in
    root_found defs from rs k r (none_each (not_object defs) (root_names qs) (none_then missing (each (not_object defs) (root_names qs)) first)) e

-- ---- the default ones

default_is : (k : Kind) → is_default_root (default_root k) ≡ true
default_is Query = refl
default_is Mutation = refl
default_is Subscription = refl

default_is_no_scalar : (k : Kind) → is_built_in_scalar (default_root k) ≡ false
default_is_no_scalar Query = refl
default_is_no_scalar Mutation = refl
default_is_no_scalar Subscription = refl

second_holds : (a b : Bool) → a ≡ true → (a && not b) ≡ false → b ≡ true
second_holds a true e f = refl
second_holds true false e f = absurd (true≢false f)
second_holds false false e f = absurd (true≢false (sym e))

-- a default root type that is defined
defined_root : (defs : Defs) (k : Kind) (d : SchemaDef) → default_roots_wrong defs (filter has_effect (locate defs)) ≡ [] → type_named defs (default_root k) ≡ Some d
    → is_object defs (default_root k) ≡ true
defined_root defs k d h e =
    let ds : List DefAt = filter has_effect (locate defs) in
    let named = found_named defs (default_root k) d e in
    let missing : List ℕ = wrong (not (is_some (type_named defs (default_root Query)))) first_node in
    let all = all_mapped (λ l. default_root_wrong defs l ≡ []) type_name_of ds
    (none_each (default_root_wrong defs) (filter_map type_name_of ds) (none_then missing (each (default_root_wrong defs) (filter_map type_name_of ds)) h)) in
    let kept = all_kept (λ a. IfSome (type_name_of a) (λ l. default_root_wrong defs l ≡ [])) has_effect (locate defs) all in
    let r = found_holds (λ a. IfSome (type_name_of a) (λ l. default_root_wrong defs l ≡ [])) defs 1 (default_root k) d
    (λ at. has_effect_named d (default_root k) at named (default_is_no_scalar k)) kept e in
    let one : default_root_wrong defs (name_at r.0 (default_root k)) ≡ [] =
    subst (λ (o : Option Located). IfSome o (λ l. default_root_wrong defs l ≡ [])) (name_of_type d (default_root k) r.0 named) r.1 in
    second_holds (is_default_root (default_root k)) (is_object defs (default_root k)) (default_is k)
    (not_so (is_default_root (default_root k) && not (is_object defs (default_root k))) (r.0 + 1) one)

default_given : (defs : Defs) (k : Kind) (r : Text) → default_roots_wrong defs (filter has_effect (locate defs)) ≡ [] → root_from None defs k ≡ Some r → is_object defs r ≡ true
default_given defs k r h e = on (type_named defs (default_root k)) refl e
  where
    on : (o : Option SchemaDef) → type_named defs (default_root k) ≡ o → cond (is_some o) (Some (default_root k)) None ≡ Some r → is_object defs r ≡ true
    on None i e = absurd cc
    on (Some d) i e = let same : default_root k ≡ r = cc e in subst (λ (t : Text). is_object defs t ≡ true) same (defined_root defs k d h i)

-- ---- S3

pub root_is_object : (defs : Defs) → SchemaMeets defs → (k : Kind) (r : Text) → root defs k ≡ Some r → is_object defs r ≡ true
root_is_object defs meets k r e = on (roots_of defs) (roots_given (filter has_effect (locate defs))) (same_roots defs 1) meets.roots e
  where
    on : (o : Option (List Root)) (p : Option (List RootAt)) → SameRoots o p → roots_wrong_in defs (filter has_effect (locate defs)) p ≡ [] → root_from o defs k ≡ Some r
        → is_object defs r ≡ true
    on None None s h e = default_given defs k r h e
    on None (Some qs) s h e = absurd s
    on (Some rs) None s h e = absurd s
    on (Some rs) (Some qs) s h e = given_root defs s.0 rs k r (subst (λ (x : List RootAt). roots_wrong defs x ≡ []) s.1 h) e
