use Rattle.std.proofs.Common.{length, ◌-◌, ◌≡◌, ◌≤◌, ◌+◌, take}
use Rattle.relay_io.specs.Streams.{append}
use Rattle.relay_forms.proofs.put.put_all.Given as goal

abbrev pub invariant-puts : goal.invariant-puts
invariant-puts g l = record {
  within : l.taken ≤ length l.bytes;
  held : g.K.Sink.contents l.out ≡ append (g.K.Sink.contents l.fn.out) (take l.taken l.bytes);
  calls : g.K.Sink.calls l.out ≤ g.K.Sink.calls l.fn.out + l.taken;
  later : g.K.Sink.faults l.fn.out ≤ g.K.Sink.faults l.out;
}

abbrev pub decreases-puts : goal.decreases-puts
decreases-puts g l = length l.bytes - l.taken
