use Rattle.std.proofs.Common.{◌≡◌, ap, sym, ◌∙◌, arith}
use Rattle.std.specs.Prelude.{Some, length, take, drop, ◌≤◌}
use Rattle.std.proofs.lemmas.List.{length-take-le}
use Rattle.relay_io.specs.Memory.{SourceState}
use Rattle.relay_io.proofs.Streaming.{piece_given, rest_is}
use Rattle.relay_io.proofs.mem_source.MemSourceSource.read.Goals as goal

pub returns-clause-bytes : goal.returns-clause-bytes
returns-clause-bytes c =
    let inside = c.self.inside in
    let count = c.min-count.result in
    let copied : c.copy_from_slice.new.self ≡ take count (drop inside.at inside.bytes.items) = c.copy_from_slice.ensures.after ∙ ap (take count) (rest_is inside.at c.deref-2.result.now ∙ ap (drop inside.at) c.deref-2.ensures.value) in
    let within : count ≤ length c.args.into.now = omega (arith, c.min.ensures, c.min-count.ensures) in
    let length_is : length c.copy_from_slice.new.self ≡ count = c.copy_from_slice.ensures.len ∙ length-take-le count c.args.into.now within in
    sym (ap (λ (s : SourceState). Some s.left) c.self.view_is)
    ∙ ap Some (piece_given inside.bytes.items c.copy_from_slice.new.self c.args.into.now inside.at count copied length_is)
