-- What is put so far is what the loop has passed.
use Rattle.std.proofs.Common.{◌≡◌, map, take}
use Rattle.plan_ir.specs.gql_ast.ValueView.{argument_of}
use Rattle.plan_text.proofs.order.in_order.Given as goal
use Rattle.plan_text.specs.Pairs.{pair_of}

abbrev pub invariant-items : goal.invariant-items
invariant-items l = map pair_of l.pairs.items ≡ map argument_of (take l.argument-index l.argument-items)
