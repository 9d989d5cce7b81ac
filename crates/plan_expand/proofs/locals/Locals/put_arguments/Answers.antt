-- One more argument, and all of them.
use Rattle.std.proofs.Common.{map, refl, arith}
use Rattle.plan_ir.specs.gql_graph.Rules.{each}
use Rattle.doc_sites.specs.SitesView.{argument_of}
use Rattle.plan_ir.specs.relay_marks.Locals.{local_at}
use Rattle.plan_ir.specs.Substitution.{default_named}
use Rattle.plan_expand.proofs.Tables.{local_before, or_end, or_next}
use Rattle.plan_expand.proofs.locals.Locals.put_arguments.Goals as goal

pub arguments-preserved : goal.arguments-preserved
arguments-preserved c = λ n.
    or_next (λ ys. default_named (each local_at (map argument_of ys)) n) (λ x. default_named (local_at (argument_of x)) n) (local_before n)
    c.args.arguments.now c.arguments.argument-index c.argument-item.result _ _ _ (omega arith) c.argument-item.is (c.in_ok-put_argument.ensures n) (c.arguments.invariant n)

pub returns : goal.returns
returns c = λ n. or_end (λ ys. default_named (each local_at (map argument_of ys)) n) refl c.args.arguments.now c.arguments.argument-index _ _ (omega arith) (c.arguments.invariant n)
