-- The pairs under marked names stand before the own ones, which are in order.
use Rattle.std.proofs.Common.{◌≡◌, ◌++◌, map, IfOk, ap, subst, ◌∙◌}
use Rattle.plan_ir.specs.gql_plain.Shown.{shown_members}
use Rattle.line_engine.proofs.MarkedPairs.{marked_first}
use Rattle.line_engine.proofs.environments.with_marked.Goals as goal
use Rattle.line_engine.specs.Marked.{marked}
use Rattle.plan_ir.specs.schema_types.Environments.{Values}
use Rattle.plan_ir.specs.constant_values.Listed.{first_of_each}

pub returns : goal.returns
returns c =
    let all : shown_members c.push_copies.new.copies.items ≡ map marked c.args.scope.now ++ shown_members c.own.inside.entries.items =
    c.in_ok-push_copies.ensures ∙ ap (λ ms. ms ++ shown_members c.deref.result.now) c.in_ok-pairs.ensures
    ∙ ap (λ es. map marked c.args.scope.now ++ shown_members es) c.deref.ensures.value in
    subst (λ (ms : Values). IfOk c.first_of_each.result (λ sorted. sorted ≡ ms))
    (ap first_of_each all ∙ marked_first c.own.inside.entries.items c.args.own.now c.args.scope.now c.own.view_is c.own.invariant) c.first_of_each.ensures
