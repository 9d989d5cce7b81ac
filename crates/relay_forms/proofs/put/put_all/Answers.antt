use Rattle.std.proofs.Common.{arith}
use Rattle.relay_forms.proofs.Pieces.{put_more}
use Rattle.relay_forms.proofs.put.put_all.Goals as goal

pub puts-preserved : goal.puts-preserved
puts-preserved g c =
    let inv = c.puts.invariant in
    record {
      within = omega (arith, inv.within, c.in-Ok.ensures.bound, c.puts-test.true);
      held = put_more (g.K.Sink.contents c.args.out.now) (g.K.Sink.contents c.puts.out) (g.K.Sink.contents c.put.new.self) c.args.bytes.now c.puts.taken c.in-Ok.count inv.held c.in-Ok.ensures.bytes;
      calls = omega (arith, inv.calls, c.put.ensures.counted, c.in-Ok.ensures.bound);
      later = omega (arith, inv.later, c.put.ensures.later);
    }
