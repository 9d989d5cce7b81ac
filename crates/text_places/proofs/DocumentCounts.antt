-- The nodes of a document are counted in one way, where places are given and where rules number names.
use Rattle.std.proofs.Common.{◌≡◌, ◌+◌, List, [], ◌∷◌, Option, Some, None, refl, ap, arith}
use Rattle.gql_parse.specs.gql_ast.Sels as sels
use Rattle.gql_parse.specs.gql_ast.Sels.{Sels, end}
use Rattle.gql_parse.specs.gql_ast.TypeView.{ty_of}
use Rattle.gql_parse.specs.gql_ast.Value.{members_of}
use Rattle.gql_parse.specs.gql_ast.declared.document.Definition.{Definition}
use Rattle.gql_parse.specs.gql_ast.declared.document.Definition.TheVariants as D
use Rattle.gql_parse.specs.gql_ast.declared.document.Document.{Document}
use Rattle.gql_parse.specs.gql_ast.declared.variable.VariableDef.{VariableDef}
use Rattle.schema_types.specs.gql_graph.Texts.{Text}
use Rattle.gql_parse.specs.Nodes as text
use Rattle.gql_parse.specs.gql_syntax.Nodes as parts
use Rattle.schema_types.specs.Sites as rules
use Rattle.text_places.proofs.SchemaCounts.{members_count, directives_count, type_count, default_count}

-- names that may be there
pub name_count : (n : Option Text) → rules.optional_name_nodes n ≡ parts.name_nodes n
name_count None = refl
name_count (Some n) = refl

-- selections
pub selections_count : (s : Sels) → rules.selections_nodes s ≡ text.selections_nodes s
selections_count end = refl
selections_count (sels.field a n xs ds s rest) =
    let e1 = name_count a in
    let e2 = members_count (members_of xs) in
    let e3 = directives_count ds in
    let e4 = selections_count s in
    let e5 = selections_count rest in
    omega (arith, e1, e2, e3, e4, e5)
selections_count (sels.spread n ds rest) = let e1 = directives_count ds in let e2 = selections_count rest in omega (arith, e1, e2)
selections_count (sels.inline o ds s rest) =
    let e1 = name_count o in
    let e2 = directives_count ds in
    let e3 = selections_count s in
    let e4 = selections_count rest in
    omega (arith, e1, e2, e3, e4)

-- variables
pub variables_count : (vs : List VariableDef) → rules.variables_nodes vs ≡ text.variables_nodes vs
variables_count [] = refl
variables_count (v ∷ vs) =
    let e1 = type_count (ty_of v.of) in
    let e2 = default_count v.default in
    let e3 = directives_count v.directives in
    let e4 = variables_count vs in
    omega (arith, e1, e2, e3, e4)

-- one operation or fragment
pub definition_count : (d : Definition) → rules.definition_nodes d ≡ text.definition_nodes d
definition_count (D.Operation o) =
    let e1 = name_count o.name in
    let e2 = variables_count o.variables in
    let e3 = directives_count o.directives in
    let e4 = selections_count o.selections in
    omega (arith, e1, e2, e3, e4)
definition_count (D.Fragment f) = let e1 = directives_count f.directives in let e2 = selections_count f.selections in omega (arith, e1, e2)

-- operations and fragments
pub definitions_count : (ds : List Definition) → rules.definitions_nodes ds ≡ text.definitions_nodes ds
definitions_count [] = refl
definitions_count (d ∷ ds) = let e1 = definition_count d in let e2 = definitions_count ds in omega (arith, e1, e2)

-- a document
pub document_count : (d : Document) → rules.document_nodes d ≡ text.document_nodes d
document_count d = ap (λ n. 1 + n) (definitions_count d.definitions)
