-- How many nodes a document has: each definition with what it holds, and each name that is written in it.
use Rattle.std.specs.Prelude.{ℕ, ◌+◌, List, [], ◌∷◌}
use Rattle.gql_syntax.specs.gql_ast.Sels.{Sels, end, field, spread, inline}
use Rattle.gql_syntax.specs.gql_ast.TypeView.{ty_of}
use Rattle.gql_syntax.specs.gql_ast.declared.document.Definition.{Definition}
use Rattle.gql_syntax.specs.gql_ast.declared.document.Definition.TheVariants as D
use Rattle.gql_syntax.specs.gql_ast.declared.document.Document.{Document}
use Rattle.gql_syntax.specs.gql_ast.declared.variable.VariableDef.{VariableDef}
use Rattle.gql_syntax.specs.Nodes.{name_nodes, arguments_nodes, directives_nodes, type_nodes, default_nodes}

-- a field with its name and perhaps an alias; a spread with its name; an inline fragment with perhaps a type condition
abbrev pub selections_nodes : Sels → ℕ
selections_nodes end = 0
selections_nodes (field a n xs ds s rest) =
    2 + name_nodes a + arguments_nodes xs + directives_nodes ds + selections_nodes s + selections_nodes rest
selections_nodes (spread n ds rest) = 2 + directives_nodes ds + selections_nodes rest
selections_nodes (inline o ds s rest) = 1 + name_nodes o + directives_nodes ds + selections_nodes s + selections_nodes rest

-- each with its name
abbrev pub variables_nodes : List VariableDef → ℕ
variables_nodes [] = 0
variables_nodes (v ∷ vs) =
    2 + type_nodes (ty_of v.of) + default_nodes v.default + directives_nodes v.directives + variables_nodes vs

-- a definition, and the operation or the fragment that it is; a fragment has a name and a type condition
abbrev pub definition_nodes : Definition → ℕ
definition_nodes (D.Operation o) =
    2 + name_nodes o.name + variables_nodes o.variables + directives_nodes o.directives + selections_nodes o.selections
definition_nodes (D.Fragment f) = 4 + directives_nodes f.directives + selections_nodes f.selections

abbrev pub definitions_nodes : List Definition → ℕ
definitions_nodes [] = 0
definitions_nodes (d ∷ ds) = definition_nodes d + definitions_nodes ds

abbrev pub document_nodes : Document → ℕ
document_nodes d = 1 + definitions_nodes d.definitions
