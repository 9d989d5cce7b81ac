-- What the located definitions of the code stand for.
use Rattle.std.specs.Prelude.{map}
use Rattle.schema_tables.specs.gql_ast.TypeView.{ty_of}
use Rattle.schema_tables.specs.gql_graph.Texts.{Text}
use Rattle.schema_trees.specs.Located.{Located, default_of, schema, scalar, object, interface, union, enum, input, directive}
use Rattle.schema_trees.specs.Located as spec
use Rattle.schema_trees.specs.declared.located.NameAt.{NameAt}
use Rattle.schema_trees.specs.declared.located.TypeAt.{TypeAt}
use Rattle.schema_trees.specs.declared.located.InputAt.{InputAt}
use Rattle.schema_trees.specs.declared.located.FieldAt.{FieldAt}
use Rattle.schema_trees.specs.declared.located.RootAt.{RootAt}
use Rattle.schema_trees.specs.declared.located.DefAt.{DefAt}
use Rattle.schema_trees.specs.declared.located.DefAt.TheVariants as D

abbrev pub name_of : NameAt → Located
name_of n = record { name = n.name.now; at = n.at }

abbrev pub type_of : TypeAt → spec.TypeAt
type_of t = record { of = ty_of t.of.now; at = t.at }

abbrev pub input_of : InputAt → spec.InputAt
input_of i = record { name = name_of i.name; of = type_of i.of; default = default_of i.default.now }

abbrev pub field_of : FieldAt → spec.FieldAt
field_of f = record { name = name_of f.name; arguments = map input_of f.arguments.items; of = type_of f.of }

-- the names
abbrev pub input_text : InputAt → Text
input_text i = i.name.name.now

abbrev pub field_text : FieldAt → Text
field_text f = f.name.name.now

abbrev pub root_of : RootAt → spec.RootAt
root_of r = record { kind = r.kind; name = name_of r.name }

abbrev pub def_of : DefAt → spec.DefAt
def_of (D.Schema at rs) = schema at (map root_of rs.items)
def_of (D.Scalar n) = scalar (name_of n)
def_of (D.Object n is fs) = object (name_of n) (map name_of is.items) (map field_of fs.items)
def_of (D.Interface n is fs) = interface (name_of n) (map name_of is.items) (map field_of fs.items)
def_of (D.Union n ms) = union (name_of n) (map name_of ms.items)
def_of (D.Enum n vs) = enum (name_of n) (map name_of vs.items)
def_of (D.Input n fs) = input (name_of n) (map input_of fs.items)
def_of (D.Directive n xs) = directive (name_of n) (map input_of xs.items)
