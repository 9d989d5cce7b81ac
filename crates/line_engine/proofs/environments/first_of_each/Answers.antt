-- The last pair of those that are left is put before the others.
use Rattle.std.proofs.Common.{ap, ◌∙◌}
use Rattle.plan_ir.specs.gql_plain.Shown.{shown_members}
use Rattle.line_engine.proofs.environments.first_of_each.Goals as goal
use Rattle.plan_ir.specs.schema_types.Environments.{with_pair}
use Rattle.plan_ir.proofs.constant_values_laws.Placing.{put_all, put_all-step, put_all-first, shown-insert_entry}

pub pairs-init : goal.pairs-init
pairs-init c =
    ap (λ es. put_all with_pair (shown_members c.args.pairs.items) (shown_members es)) c.new-sorted.ensures.empty ∙ put_all-first (shown_members c.args.pairs.items)

pub pairs-preserved : goal.pairs-preserved
pairs-preserved c =
    ap (λ ms. put_all with_pair (shown_members c.pop.new.self.items) ms)
    (ap shown_members c.in_ok-insert.ensures.entries ∙ shown-insert_entry c.pairs.sorted.entries c.in-Some.name c.in-Some.value)
    ∙ put_all-step with_pair c.pairs.pairs.items c.pop.new.self.items c.in-Some.name c.in-Some.value (shown_members c.pairs.sorted.entries) c.in-Some.ensures.items
    ∙ c.pairs.invariant
