use Rattle.std.proofs.Common.{◌+◌, ◌∙◌}
use Rattle.plan_ir.specs.gql_plain.Limits.{max_line}
use Rattle.relay_forms.proofs.LineParts.{kept_more}
use Rattle.relay_forms.proofs.ProgressLaws.{kept_short}
use Rattle.relay_top.proofs.session.Session.keep.Goals as goal

pub returns-clause-longer : goal.returns-clause-longer
returns-clause-longer c = λ p buffer q at. record {
  stands = at.stands;
  buffer_is = at.buffer_is;
  number = at.number;
  part = kept_more (max_line + 1) c.len.result q.part c.args.self.now.part.items c.args.bytes.now c.cut-more.result.now c.extend_from_slice.new.self.items at.part at.short (c.len.ensures ∙ c.args.self.now.part.ok.0) c.cut-more.ensures c.in_ok-extend_from_slice.ensures.items;
  refused = at.refused;
  short = kept_short q c.args.bytes.now;
}
