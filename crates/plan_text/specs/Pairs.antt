-- Names with values.
use Rattle.std.specs.Prelude.{◌∷◌, ◌++◌, List, map}
use Rattle.plan_ir.specs.gql_ast.Value.{Val}
use Rattle.plan_ir.specs.gql_ast.ValueView.{value_of}
use Rattle.plan_ir.specs.OperationText.{value_text}
use Rattle.plan_ir.specs.Substitution.{Arguments}
use Rattle.plan_text.specs.declared.order.Pair.{Pair}
use Rattle.plan_ir.specs.schema_tables.Types.{Text}

abbrev pub pair_of : Pair → Text × Val
pair_of p = (p.name.now, value_of p.value.now)

-- `name:value`
abbrev pub pair_text : Pair → Text
pair_text p = p.name.now ++ 58 ∷ value_text (value_of p.value.now)

-- each name with the text of its value
abbrev pub named_texts : Arguments → List (Text × Text)
named_texts xs = map (λ (x : Text × Val). (x.0, value_text x.1)) xs
