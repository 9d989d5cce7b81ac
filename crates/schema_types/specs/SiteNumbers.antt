-- What holds of each number of what stands in documents.
use Rattle.std.specs.Prelude.{ℕ, ◌+◌, ◌<◌, ◌≤◌, List, [], ◌∷◌, IfSome}
use Rattle.std.specs.List.{AllByRecursion}
use Rattle.schema_rules.specs.gql_ast.Value.{Val}
use Rattle.schema_rules.specs.gql_ast.declared.document.Document.{Document}
use Rattle.schema_rules.specs.schema_tables.Types.{Text}
use Rattle.schema_rules.specs.schema_trees.Located.{value_nodes}
use Rattle.schema_rules.specs.schema_trees.Numbers.{HoldsName}
use Rattle.schema_types.specs.Sites.{ValueAt, ArgumentAt, DirectiveAt, VariableAt, Site, field, spread, inline, DefinitionAt, operation, fragment, document_nodes}

-- the nodes of all documents
abbrev pub documents_nodes : List Document → ℕ
documents_nodes [] = 0
documents_nodes (d ∷ ds) = document_nodes d + documents_nodes ds

-- `N` holds of each name with its number, `V` of each value with that of its first token, and `F` of the number of the first token of
-- an operation and of an inline fragment

abbrev pub HoldsValue : (V : Val → ℕ → Type 0) → ValueAt → Type 0
HoldsValue V x = V x.of x.at

abbrev pub HoldsArgument : (N : Text → ℕ → Type 0) → (V : Val → ℕ → Type 0) → ArgumentAt → Type 0
HoldsArgument N V a = HoldsName N a.name × HoldsValue V a.value

abbrev pub HoldsDirective : (N : Text → ℕ → Type 0) → (V : Val → ℕ → Type 0) → DirectiveAt → Type 0
HoldsDirective N V d = HoldsName N d.name × AllByRecursion (HoldsArgument N V) d.arguments

abbrev pub HoldsVariable : (N : Text → ℕ → Type 0) → (V : Val → ℕ → Type 0) → VariableAt → Type 0
HoldsVariable N V v = HoldsName N v.name × IfSome v.default (HoldsValue V) × AllByRecursion (HoldsDirective N V) v.directives

abbrev pub HoldsSite : (F : ℕ → Type 0) → (N : Text → ℕ → Type 0) → (V : Val → ℕ → Type 0) → Site → Type 0
HoldsSite F N V (field around a n xs ds has_set) =
    IfSome a (HoldsName N) × HoldsName N n × AllByRecursion (HoldsArgument N V) xs × AllByRecursion (HoldsDirective N V) ds
HoldsSite F N V (spread around n ds) = HoldsName N n × AllByRecursion (HoldsDirective N V) ds
HoldsSite F N V (inline around first on ds) = F first × IfSome on (HoldsName N) × AllByRecursion (HoldsDirective N V) ds

abbrev pub HoldsDefinition : (F : ℕ → Type 0) → (N : Text → ℕ → Type 0) → (V : Val → ℕ → Type 0) → DefinitionAt → Type 0
HoldsDefinition F N V (operation o) =
    F o.first × IfSome o.name (HoldsName N) × AllByRecursion (HoldsVariable N V) o.variables × AllByRecursion (HoldsDirective N V) o.directives
    × AllByRecursion (HoldsSite F N V) o.sites
HoldsDefinition F N V (fragment f) =
    HoldsName N f.name × HoldsName N f.on × AllByRecursion (HoldsDirective N V) f.directives × AllByRecursion (HoldsSite F N V) f.sites

-- each number is below this one, and so are those inside each value
abbrev pub DefinitionBelow : ℕ → DefinitionAt → Type 0
DefinitionBelow m = HoldsDefinition (λ n. n < m) (λ t n. n < m) (λ v n. n + value_nodes v ≤ m)

abbrev pub DefinitionsBelow : ℕ → List DefinitionAt → Type 0
DefinitionsBelow m ds = AllByRecursion (DefinitionBelow m) ds
