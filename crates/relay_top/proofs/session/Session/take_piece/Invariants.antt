use Rattle.std.proofs.Common.{◌≡◌, ◌≤◌, ◌+◌, ◌++◌, ℕ, length}
use Rattle.relay_forms.specs.relay_machine.Machine.{Project}
use Rattle.relay_forms.specs.Progress.{Progress, after, told}
use Rattle.relay_top.specs.Sessions.{IsAt}
use Rattle.relay_forms.specs.Puts.{IsPut}
use Rattle.plan_ir.specs.schema_tables.Types.{Text}
use Rattle.relay_top.proofs.session.Session.take_piece.Given as goal

abbrev pub invariant-lines : goal.invariant-lines
invariant-lines g l = record {
  so_far : (p : Project) (buffer : ℕ) (q : Progress) → IsAt p buffer l.fn.self q → (now : Progress) × IsAt p buffer l.self now
      × (said : Text) × IsPut said (g.K.Sink.contents l.fn.out) (g.K.Sink.contents l.out) (g.K.Sink.calls l.fn.out) (g.K.Sink.calls l.out)
      × (told p buffer q l.piece ≡ said ++ told p buffer now l.rest) × (after p buffer q l.piece ≡ after p buffer now l.rest);
  number : l.self.n + length l.rest ≤ l.fn.self.n + length l.piece;
  later : g.K.Sink.faults l.fn.out ≤ g.K.Sink.faults l.out;
}

abbrev pub decreases-lines : goal.decreases-lines
decreases-lines g l = length l.rest
