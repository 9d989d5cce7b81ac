use Rattle.std.proofs.Common.{◌≡◌, ◌+◌, ◌-◌, length}
use Rattle.relay_engine.specs.Stands.{StandsFor}
use Rattle.relay_forms.specs.relay_machine.Bulk.{bulk_buffer, bulk_output, bulk_refusals, line_count, lines_from, refusals_from}
use Rattle.relay_forms.specs.relay_machine.Machine.{State, output_from}
use Rattle.relay_top.proofs.summary.tally_script.Given as goal
use Rattle.relay_forms.specs.BulkShown.{bulk_shown}
use Rattle.relay_forms.specs.Projects.{project_shown}

abbrev pub invariant-lines : goal.invariant-lines
invariant-lines l = record {
  so_far : (s : State) × StandsFor l.engine (project_shown l.fn.project) s
      × (length (bulk_output (project_shown l.fn.project) l.fn.seed l.count)
      ≡ l.tally.bytes + length (output_from (project_shown l.fn.project) bulk_buffer s (l.n + 1) (lines_from (bulk_shown l.script) (l.count - l.n))))
      × (line_count (bulk_output (project_shown l.fn.project) l.fn.seed l.count)
      ≡ l.tally.lines + line_count (output_from (project_shown l.fn.project) bulk_buffer s (l.n + 1) (lines_from (bulk_shown l.script) (l.count - l.n))))
      × (bulk_refusals (project_shown l.fn.project) l.fn.seed l.count
      ≡ l.tally.refused + refusals_from (project_shown l.fn.project) bulk_buffer s (l.n + 1) (lines_from (bulk_shown l.script) (l.count - l.n)));
  buffer : l.engine.buffer ≡ bulk_buffer;
}
