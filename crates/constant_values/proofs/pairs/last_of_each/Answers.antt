use Rattle.std.proofs.Common.{ap, ◌∙◌}
use Rattle.schema_types.specs.gql_plain.Shown.{shown_members}
use Rattle.schema_types.specs.Environments.{with_new_pair}
use Rattle.constant_values.proofs.Placing.{put_all, put_all-step, put_all-last}
use Rattle.constant_values.proofs.pairs.last_of_each.Goals as goal

pub pairs-init : goal.pairs-init
pairs-init c = record {
  put = ap (λ es. put_all with_new_pair (shown_members c.args.pairs.items) (shown_members es)) c.new-sorted.ensures.empty ∙ put_all-last (shown_members c.args.pairs.items);
  ordered = c.new-sorted.ensures.ordered;
}

pub pairs-preserved : goal.pairs-preserved
pairs-preserved c = record {
  put =
      ap (λ ms. put_all with_new_pair (shown_members c.pop.new.self.items) ms) c.in_ok-put_new.ensures.put
      ∙ put_all-step with_new_pair c.pairs.pairs.items c.pop.new.self.items c.in-Some.key c.in-Some.plain (shown_members c.pairs.sorted.entries) c.in-Some.ensures.items
      ∙ c.pairs.invariant.put;
  ordered = c.in_ok-put_new.ensures.ordered;
}
