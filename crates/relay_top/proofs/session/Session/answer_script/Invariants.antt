use Rattle.std.proofs.Common.{◌≡◌, ◌≤◌, ◌+◌, ◌-◌, ℕ, length, take, vec_len}
use Rattle.relay_forms.specs.relay_io.Streams.{prepend}
use Rattle.relay_forms.specs.relay_machine.Machine.{Project}
use Rattle.relay_forms.specs.Scripts.{max_script}
use Rattle.relay_forms.specs.Progress.{Progress, after, told}
use Rattle.relay_top.specs.Sessions.{IsAt}
use Rattle.relay_forms.specs.Puts.{IsPut}
use Rattle.plan_ir.specs.schema_tables.Types.{Text}
use Rattle.relay_top.proofs.session.Session.answer_script.Given as goal

abbrev pub invariant-pieces : goal.invariant-pieces
invariant-pieces g l = record {
  so_far : (given : Text) × (length given ≡ l.taken) × (g.S.Source.left l.fn.script ≡ prepend given (g.S.Source.left l.script))
      × ((p : Project) (buffer : ℕ) (q : Progress) → IsAt p buffer l.fn.self q → IsAt p buffer l.self (after p buffer q (take max_script given))
      × IsPut (told p buffer q (take max_script given)) (g.K.Sink.contents l.fn.out) (g.K.Sink.contents l.out) (g.K.Sink.calls l.fn.out) (g.K.Sink.calls l.out));
  most : l.taken ≤ max_script + 1;
  piece : vec_len l.piece ≡ 65536;
  number : l.self.n ≤ l.fn.self.n + l.taken;
  calls : g.S.Source.calls l.script ≤ g.S.Source.calls l.fn.script + l.taken;
  read_later : g.S.Source.faults l.fn.script ≤ g.S.Source.faults l.script;
  put_later : g.K.Sink.faults l.fn.out ≤ g.K.Sink.faults l.out;
}

abbrev pub decreases-pieces : goal.decreases-pieces
decreases-pieces g l = (max_script + 1) - l.taken
