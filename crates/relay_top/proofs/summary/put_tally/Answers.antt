use Rattle.std.proofs.Common.{◌-◌, ap, ◌∙◌}
use Rattle.relay_forms.specs.relay_machine.Printed.{summary_line}
use Rattle.relay_top.proofs.OneLine.{whole, cut_off, not_begun, nothing_put}
use Rattle.relay_top.proofs.summary.put_tally.Goals as goal

pub returns-in_default-clause-wrote : goal.returns-in_default-clause-wrote
returns-in_default-clause-wrote g c =
    nothing_put (summary_line c.args.tally.bytes c.args.count (c.args.tally.lines - c.args.count) c.args.tally.refused) (g.K.Sink.contents c.args.out.now) (g.K.Sink.calls c.args.out.now)

pub returns-in-Ok-put_line-clause-wrote : goal.returns-in-Ok-put_line-clause-wrote
returns-in-Ok-put_line-clause-wrote g c =
    let text = ap (λ n. summary_line c.args.tally.bytes c.args.count n c.args.tally.refused) c.saturating_sub-notices.ensures in
    whole (g.K.Sink.contents c.args.out.now) (g.K.Sink.contents c.put_line.new.out) (g.K.Sink.calls c.args.out.now) (g.K.Sink.calls c.put_line.new.out) c.in-Ok.line
    (summary_line c.args.tally.bytes c.args.count (c.args.tally.lines - c.args.count) c.args.tally.refused) (c.in-Ok.ensures ∙ text) c.in-Ok-put_line.ensures.ok.0 c.in-Ok-put_line.ensures.ok.1

pub returns-in-Err-WriteFault-clause-wrote : goal.returns-in-Err-WriteFault-clause-wrote
returns-in-Err-WriteFault-clause-wrote g c =
    let text = ap (λ n. summary_line c.args.tally.bytes c.args.count n c.args.tally.refused) c.saturating_sub-notices.ensures in
    let w = c.in-Err-WriteFault.ensures.err in
    cut_off (g.K.Sink.contents c.args.out.now) (g.K.Sink.contents c.put_line.new.out) (g.K.Sink.calls c.args.out.now) (g.K.Sink.calls c.put_line.new.out) c.in-Ok.line
    (summary_line c.args.tally.bytes c.args.count (c.args.tally.lines - c.args.count) c.args.tally.refused) (c.in-Ok.ensures ∙ text) w.0 w.1 w.2 w.3

pub returns-in-Err-NoMemory-clause-wrote : goal.returns-in-Err-NoMemory-clause-wrote
returns-in-Err-NoMemory-clause-wrote g c =
    let text = ap (λ n. summary_line c.args.tally.bytes c.args.count n c.args.tally.refused) c.saturating_sub-notices.ensures in
    let w = c.in-Err-NoMemory.ensures.err in
    not_begun (g.K.Sink.contents c.args.out.now) (g.K.Sink.contents c.put_line.new.out) (g.K.Sink.calls c.args.out.now) (g.K.Sink.calls c.put_line.new.out) c.in-Ok.line
    (summary_line c.args.tally.bytes c.args.count (c.args.tally.lines - c.args.count) c.args.tally.refused) (c.in-Ok.ensures ∙ text) w.0 (w.4 c.in-Err-NoMemory.field-0-is) w.2 w.3
