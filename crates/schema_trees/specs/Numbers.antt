-- How many nodes a schema has, by the counts of its parts; and what holds of each number in definitions with places.
use Rattle.std.specs.Prelude.{ℕ, ◌+◌, ◌<◌, List, [], ◌∷◌}
use Rattle.std.specs.List.{AllByRecursion}
use Rattle.schema_tables.specs.gql_ast.Ty.{Ty}
use Rattle.schema_tables.specs.gql_ast.declared.schema.SchemaDef.{SchemaDef}
use Rattle.schema_tables.specs.gql_graph.Texts.{Text}
use Rattle.schema_trees.specs.Located.{Located, TypeAt, InputAt, FieldAt, RootAt, DefAt, schema, scalar, object, interface, union, enum, input, directive, def_nodes}

abbrev pub defs_nodes : List SchemaDef → ℕ
defs_nodes [] = 0
defs_nodes (d ∷ ds) = def_nodes d + defs_nodes ds

-- a schema is a node itself
abbrev pub schema_nodes : List SchemaDef → ℕ
schema_nodes ds = 1 + defs_nodes ds

-- `N` holds of each name with its number, `T` of each type with the number of its name, and `F` of the number of the first token
-- of a `schema` definition

abbrev pub HoldsName : (N : Text → ℕ → Type 0) → Located → Type 0
HoldsName N n = N n.name n.at

abbrev pub HoldsType : (T : Ty → ℕ → Type 0) → TypeAt → Type 0
HoldsType T t = T t.of t.at

abbrev pub HoldsInput : (N : Text → ℕ → Type 0) → (T : Ty → ℕ → Type 0) → InputAt → Type 0
HoldsInput N T i = HoldsName N i.name × HoldsType T i.of

abbrev pub HoldsField : (N : Text → ℕ → Type 0) → (T : Ty → ℕ → Type 0) → FieldAt → Type 0
HoldsField N T f = HoldsName N f.name × AllByRecursion (HoldsInput N T) f.arguments × HoldsType T f.of

abbrev pub HoldsRoot : (N : Text → ℕ → Type 0) → RootAt → Type 0
HoldsRoot N r = HoldsName N r.name

abbrev pub HoldsDef : (F : ℕ → Type 0) → (N : Text → ℕ → Type 0) → (T : Ty → ℕ → Type 0) → DefAt → Type 0
HoldsDef F N T (schema at rs) = F at × AllByRecursion (HoldsRoot N) rs
HoldsDef F N T (scalar n) = HoldsName N n
HoldsDef F N T (object n is fs) = HoldsName N n × AllByRecursion (HoldsName N) is × AllByRecursion (HoldsField N T) fs
HoldsDef F N T (interface n is fs) = HoldsName N n × AllByRecursion (HoldsName N) is × AllByRecursion (HoldsField N T) fs
HoldsDef F N T (union n ms) = HoldsName N n × AllByRecursion (HoldsName N) ms
HoldsDef F N T (enum n vs) = HoldsName N n × AllByRecursion (HoldsName N) vs
HoldsDef F N T (input n fs) = HoldsName N n × AllByRecursion (HoldsInput N T) fs
HoldsDef F N T (directive n xs) = HoldsName N n × AllByRecursion (HoldsInput N T) xs

-- each number is below this one
abbrev pub DefBelow : ℕ → DefAt → Type 0
DefBelow m = HoldsDef (λ n. n < m) (λ t n. n < m) (λ t n. n < m)

abbrev pub DefsBelow : ℕ → List DefAt → Type 0
DefsBelow m ds = AllByRecursion (DefBelow m) ds

abbrev pub Below : ℕ → List ℕ → Type 0
Below m ns = AllByRecursion (λ n. n < m) ns
