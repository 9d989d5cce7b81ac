use Rattle.std.proofs.Common.{◌≡◌, ◌≤◌, ◌+◌, ◌++◌, ℕ, List, length, drop}
use Rattle.plan_project.specs.Expansions.{line_lists}
use Rattle.relay_io.specs.Streams.{append}
use Rattle.relay_forms.specs.Artifacts.{EndsLine, artifacts_text}
use Rattle.relay_forms.proofs.ArtifactLines.{text_of_lists}
use Rattle.relay_forms.proofs.compiling.put_each.Given as goal

abbrev pub invariant-artifacts : goal.invariant-artifacts
invariant-artifacts g l = record {
  so_far : (added : List ℕ) × (g.K.Sink.contents l.out ≡ append (g.K.Sink.contents l.fn.out) added)
      × (added ++ text_of_lists (drop l.n (line_lists l.artifacts.project.now.0 l.artifacts.project.now.1)) ≡ artifacts_text l.artifacts.project.now.0 l.artifacts.project.now.1)
      × EndsLine added × (g.K.Sink.calls l.out ≤ g.K.Sink.calls l.fn.out + length added);
  later : g.K.Sink.faults l.fn.out ≤ g.K.Sink.faults l.out;
}
