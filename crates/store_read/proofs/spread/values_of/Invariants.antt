-- The values of the arguments so far.
use Rattle.std.proofs.Common.{◌≡◌, map, take}
use Rattle.plan_ir.specs.gql_ast.ValueView.{argument_of}
use Rattle.plan_ir.specs.gql_plain.Shown.{shown_members}
use Rattle.store_read.proofs.spread.values_of.Given as goal
use Rattle.store_read.specs.FieldView.{evaluated_in}

abbrev pub invariant-arguments : goal.invariant-arguments
invariant-arguments l = shown_members l.values.items ≡ map (evaluated_in l.env.values) (map argument_of (take l.argument-index l.argument-items))
