use Rattle.std.proofs.Common.{◌≡◌, ◌<◌, ◌+◌, ◌-◌, length, cond, sym, ap, subst, ◌∙◌, arith}
use Rattle.relay_engine.specs.Kept.{Kept}
use Rattle.relay_engine.specs.Stands.{StandsFor}
use Rattle.relay_forms.specs.relay_machine.Bulk.{Bulk, bulk_buffer, bulk_output, bulk_refusals, line_count, lines_from, next_line, refusals_from}
use Rattle.relay_forms.specs.relay_machine.Machine.{beginning, output_from, step}
use Rattle.relay_top.proofs.BulkLaws.{bytes_all, bytes_first, bytes_next, lines_all, lines_first, lines_next, refusals_all, refusals_first, refusals_next}
use Rattle.relay_top.proofs.summary.tally_script.Goals as goal
use Rattle.relay_forms.specs.BulkShown.{bulk_shown}
use Rattle.relay_forms.specs.Projects.{project_shown}
use Rattle.plan_ir.specs.schema_tables.Types.{Text}

pub lines-init : goal.lines-init
lines-init c =
    let p = project_shown c.args.project in record {
      so_far = (
        beginning,
        c.in_ok-engine.ensures.stands,
        bytes_first p bulk_buffer (bulk_shown c.new-script.result) c.args.seed c.args.count c.new-script.ensures,
        lines_first p bulk_buffer (bulk_shown c.new-script.result) c.args.seed c.args.count c.new-script.ensures,
        refusals_first p bulk_buffer (bulk_shown c.new-script.result) c.args.seed c.args.count c.new-script.ensures,
      );
      buffer = ap (λ (k : Kept). k.buffer) c.in_ok-engine.ensures.begun;
    }

pub lines-preserved : goal.lines-preserved
lines-preserved c =
    let inv = c.lines.invariant.so_far in
    let p = project_shown c.args.project in
    let b = bulk_shown c.lines.script in
    let now = step p bulk_buffer inv.0 (c.lines.n + 1) (next_line b) in
    let P : Text → Type 0 = λ l.
    (c.tally_line.new.engine.buffer ≡ bulk_buffer) × StandsFor c.tally_line.new.engine p (step p bulk_buffer inv.0 (c.lines.n + 1) l).state
    × (c.in_ok-tally.tally.bytes ≡ c.lines.tally.bytes + length (step p bulk_buffer inv.0 (c.lines.n + 1) l).text)
    × (c.in_ok-tally.tally.lines ≡ c.lines.tally.lines + line_count (step p bulk_buffer inv.0 (c.lines.n + 1) l).text)
    × (c.in_ok-tally.tally.refused ≡ c.lines.tally.refused + cond (step p bulk_buffer inv.0 (c.lines.n + 1) l).refused 1 0) in
    let w = subst P (c.deref.ensures.value ∙ c.in_ok-line.ensures.line) (c.in_ok-tally.ensures p bulk_buffer inv.0 c.lines.invariant.buffer inv.1) in
    let within : c.lines.n < c.args.count = omega arith in
    let Q : Bulk → Type 0 = λ x.
    (length (bulk_output p c.args.seed c.args.count) ≡ c.in_ok-tally.tally.bytes + length (output_from p bulk_buffer now.state (c.lines.n + 1 + 1) (lines_from x (c.args.count - (c.lines.n + 1)))))
    × (line_count (bulk_output p c.args.seed c.args.count) ≡ c.in_ok-tally.tally.lines + line_count (output_from p bulk_buffer now.state (c.lines.n + 1 + 1) (lines_from x (c.args.count - (c.lines.n + 1)))))
    × (bulk_refusals p c.args.seed c.args.count ≡ c.in_ok-tally.tally.refused + refusals_from p bulk_buffer now.state (c.lines.n + 1 + 1) (lines_from x (c.args.count - (c.lines.n + 1)))) in
    let sums = subst Q (sym c.in_ok-line.ensures.next) (
      bytes_next p bulk_buffer inv.0 (c.lines.n + 1) b c.args.count c.lines.n within (length (bulk_output p c.args.seed c.args.count)) c.lines.tally.bytes c.in_ok-tally.tally.bytes inv.2 w.2,
      lines_next p bulk_buffer inv.0 (c.lines.n + 1) b c.args.count c.lines.n within (line_count (bulk_output p c.args.seed c.args.count)) c.lines.tally.lines c.in_ok-tally.tally.lines inv.3 w.3,
      refusals_next p bulk_buffer inv.0 (c.lines.n + 1) b c.args.count c.lines.n within (bulk_refusals p c.args.seed c.args.count) c.lines.tally.refused c.in_ok-tally.tally.refused inv.4 w.4,
    ) in
    record { so_far = (now.state, w.1, sums.0, sums.1, sums.2); buffer = w.0 }
