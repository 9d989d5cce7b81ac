-- The parts of definitions, each name with its place.
use Rattle.std.specs.Prelude.{ℕ, cond, List, [], ◌∷◌, map, Option, Some, None}
use Rattle.schema_tables.specs.gql_plain.Order.{has_text}
use Rattle.schema_tables.specs.gql_graph.Rules.{each}
use Rattle.schema_tables.specs.gql_graph.Texts.{Text}
use Rattle.schema_trees.specs.Located.{Located, InputAt, FieldAt, RootAt, DefAt, schema, scalar, object, interface, union, enum, input, directive}

-- names that stand in the list already
abbrev pub repeats : (before : List Text) → List Located → List ℕ
repeats before [] = []
repeats before (n ∷ ns) = cond (has_text before n.name) (n.at ∷ repeats before ns) (repeats (n.name ∷ before) ns)

abbrev pub repeated_names : List Located → List ℕ
repeated_names ns = repeats [] ns

abbrev pub names_of : List Located → List Text
names_of ns = map (λ (n : Located). n.name) ns

-- ---- by the form of a definition

abbrev pub type_name_of : DefAt → Option Located
type_name_of (schema at rs) = None
type_name_of (scalar n) = Some n
type_name_of (object n is fs) = Some n
type_name_of (interface n is fs) = Some n
type_name_of (union n ms) = Some n
type_name_of (enum n vs) = Some n
type_name_of (input n fs) = Some n
type_name_of (directive n xs) = None

abbrev pub directive_name_of : DefAt → Option Located
directive_name_of (directive n xs) = Some n
directive_name_of d = None

abbrev pub fields_in : DefAt → List FieldAt
fields_in (object n is fs) = fs
fields_in (interface n is fs) = fs
fields_in d = []

abbrev pub interfaces_in : DefAt → List Located
interfaces_in (object n is fs) = is
interfaces_in (interface n is fs) = is
interfaces_in d = []

abbrev pub union_members_in : DefAt → List Located
union_members_in (union n ms) = ms
union_members_in d = []

abbrev pub enum_values_in : DefAt → List Located
enum_values_in (enum n vs) = vs
enum_values_in d = []

abbrev pub input_fields_in : DefAt → List InputAt
input_fields_in (input n fs) = fs
input_fields_in d = []

-- arguments of fields and of directives, and input fields
abbrev pub inputs_in : DefAt → List InputAt
inputs_in (object n is fs) = each (λ (f : FieldAt). f.arguments) fs
inputs_in (interface n is fs) = each (λ (f : FieldAt). f.arguments) fs
inputs_in (input n fs) = fs
inputs_in (directive n xs) = xs
inputs_in d = []

abbrev pub roots_in : DefAt → List RootAt
roots_in (schema at rs) = rs
roots_in d = []

abbrev pub input_names : List InputAt → List Located
input_names is = map (λ (i : InputAt). i.name) is

abbrev pub field_names : List FieldAt → List Located
field_names fs = map (λ (f : FieldAt). f.name) fs

abbrev pub root_names : List RootAt → List Located
root_names rs = map (λ (r : RootAt). r.name) rs

abbrev pub defined_name : DefAt → List Located
defined_name (schema at rs) = []
defined_name (scalar n) = n ∷ []
defined_name (object n is fs) = n ∷ []
defined_name (interface n is fs) = n ∷ []
defined_name (union n ms) = n ∷ []
defined_name (enum n vs) = n ∷ []
defined_name (input n fs) = n ∷ []
defined_name (directive n xs) = n ∷ []
