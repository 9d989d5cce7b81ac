-- Kinds of operations that are kept by three marks.
use Rattle.std.specs.Prelude.{◌≡◌, List}
use Rattle.schema_trees.specs.gql_ast.declared.document.Kind.{Kind}
use Rattle.schema_trees.specs.gql_ast.declared.document.Kind.TheVariants.{Query, Mutation, Subscription}
use Rattle.schema_rules.specs.declared.rules.roots.Kinds.{Kinds}
use Rattle.schema_rules.specs.Rules.{has_kind}

-- the marks stand for these kinds
abbrev pub KnowsKinds : Kinds → List Kind → Type 0
KnowsKinds marks kinds = (marks.query ≡ has_kind kinds Query) × (marks.mutation ≡ has_kind kinds Mutation) × (marks.subscription ≡ has_kind kinds Subscription)
