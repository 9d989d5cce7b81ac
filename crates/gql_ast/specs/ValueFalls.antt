-- What a list or an object holds is less deep than it.
use Rattle.std.specs.Prelude.{◌≤◌, List, [], ◌∷◌, map, max}
use Rattle.std.proofs.Common.{arith}
use denote.Param.Weighed.{most}
use Rattle.gql_ast.specs.declared.value.ValueTree.{ValueTree}
use Rattle.gql_ast.specs.declared.value.ValueTree.TheVariants.{Variable, Int, Text, Bool, Null, Enum, List as Listed, Object}
use Rattle.gql_ast.specs.declared.value.Argument.{Argument}
use Rattle.gql_ast.specs.declared.value.Arguments.TheDeep.{deep-ValueTree, deep-Argument}
use Rattle.gql_ast.specs.ValueView.{value_of, argument_of}
use Rattle.gql_ast.specs.Value.{val_depth, vals_of, vals_depth, members_of, members_depth}

value_falls : (v : ValueTree) → deep-ValueTree v ≤ val_depth (value_of v)
value_falls (Variable n) = omega arith
value_falls (Int n) = omega arith
value_falls (Text t) = omega arith
value_falls (Bool b) = omega arith
value_falls Null = omega arith
value_falls (Enum n) = omega arith
value_falls (Listed vs) = omega arith
value_falls (Object ms) = omega arith

pub values_fall : (vs : List ValueTree) → max (most deep-ValueTree vs) 0 ≤ vals_depth (vals_of (map value_of vs))
values_fall [] = omega arith
values_fall (v ∷ vs) = omega (arith, value_falls v, values_fall vs)

pub arguments_fall : (xs : List Argument) → max (most deep-Argument xs) 0 ≤ members_depth (members_of (map argument_of xs))
arguments_fall [] = omega arith
arguments_fall (x ∷ xs) = omega (arith, value_falls x.value, arguments_fall xs)
