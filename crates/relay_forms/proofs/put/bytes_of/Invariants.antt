use Rattle.std.proofs.Common.{◌≡◌, ◌++◌, drop}
use Rattle.relay_forms.proofs.put.bytes_of.Given as goal
use Rattle.relay_forms.specs.Artifacts.{text_of_lines}

abbrev pub invariant-lines : goal.invariant-lines
invariant-lines l = record {
  so_far : l.bytes.items ++ text_of_lines (drop l.line-index l.lines) ≡ text_of_lines l.lines;
}
