use Rattle.std.proofs.Common.{ap, ◌∙◌}
use Rattle.schema_types.specs.gql_plain.Shown.{shown_members}
use Rattle.schema_types.specs.Environments.{with_pair}
use Rattle.constant_values.proofs.Placing.{put_all, put_all-step, put_all-first, shown-insert_entry}
use Rattle.constant_values.proofs.pairs.first_of_each.Goals as goal

pub pairs-init : goal.pairs-init
pairs-init c =
    ap (λ es. put_all with_pair (shown_members c.args.pairs.items) (shown_members es)) c.new-sorted.ensures.empty ∙ put_all-first (shown_members c.args.pairs.items)

pub pairs-preserved : goal.pairs-preserved
pairs-preserved c =
    ap (λ ms. put_all with_pair (shown_members c.pop.new.self.items) ms)
    (ap shown_members c.in_ok-insert.ensures.entries ∙ shown-insert_entry c.pairs.sorted.entries c.in-Some.key c.in-Some.plain)
    ∙ put_all-step with_pair c.pairs.pairs.items c.pop.new.self.items c.in-Some.key c.in-Some.plain (shown_members c.pairs.sorted.entries) c.in-Some.ensures.items
    ∙ c.pairs.invariant
