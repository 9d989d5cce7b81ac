-- What is seen of inputs, fields and directives.
use Rattle.std.specs.Prelude.{ℕ, Bool, List, Option, refl}
use Rattle.std.specs.Coded.{Coded, code_by, coded×, coded_ℕ, coded_bool, coded_list, coded_option}
use Rattle.gql_ast.specs.contracts.location.Location as location_row
use Rattle.gql_ast.specs.contracts.type_tree.TypeTree as type_row
use Rattle.gql_ast.specs.contracts.value.ValueTree as value_row
use Rattle.gql_ast.specs.declared.location.Location.{Location}
use Rattle.gql_ast.specs.declared.type_tree.TypeTree.{TypeTree}
use Rattle.gql_ast.specs.declared.value.ValueTree.{ValueTree}
use Rattle.gql_graph.specs.Texts.{Text}

-- an argument or an input field
pub record InputDef : Type 0 where
  pub name : Text
  pub of : TypeTree
  pub default : Option ValueTree

abbrev pub text_code : Coded Text
text_code = coded_list coded_ℕ

abbrev pub input_code : Coded InputDef
input_code =
    code_by (Text × (TypeTree × Option ValueTree)) (coded× text_code (coded× type_row.the_row.coded (coded_option value_row.the_row.coded)))
    (λ i. (i.name, (i.of, i.default))) (λ p. record { name = p.0; of = p.1.0; default = p.1.1 }) (λ _. refl)

-- a field of an object or an interface
pub record FieldDef : Type 0 where
  pub name : Text
  pub arguments : List InputDef
  pub of : TypeTree

abbrev pub field_code : Coded FieldDef
field_code =
    code_by (Text × (List InputDef × TypeTree)) (coded× text_code (coded× (coded_list input_code) type_row.the_row.coded))
    (λ f. (f.name, (f.arguments, f.of))) (λ p. record { name = p.0; arguments = p.1.0; of = p.1.1 }) (λ _. refl)

-- a directive
pub record DirectiveDef : Type 0 where
  pub name : Text
  pub arguments : List InputDef
  pub repeatable : Bool
  pub locations : List Location

abbrev pub directive_code : Coded DirectiveDef
directive_code =
    code_by (Text × (List InputDef × (Bool × List Location))) (coded× text_code (coded× (coded_list input_code) (coded× coded_bool (coded_list location_row.the_row.coded))))
    (λ d. (d.name, (d.arguments, (d.repeatable, d.locations)))) (λ p. record { name = p.0; arguments = p.1.0; repeatable = p.1.1.0; locations = p.1.1.1 }) (λ _. refl)
