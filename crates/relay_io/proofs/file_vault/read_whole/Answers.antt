use Rattle.std.proofs.Common.{◌≡◌, subst, ◌∙◌, arith}
use Rattle.std.specs.Prelude.{IfSome, length, ◌≤◌, ◌<◌, ◌^◌}
use Rattle.relay_io.proofs.Streaming.{uncut}
use Rattle.relay_io.proofs.file_vault.read_whole.Goals as goal

pub returns-clause-bytes : goal.returns-clause-bytes
returns-clause-bytes g c =
    let read = c.read_to_end-outcome.new.buf in
    let cut = c.take.result in
    let within : length read.items ≤ c.args.limit = omega (arith, c.if-len-limit.false, c.len.ensures, read.ok.0) in
    let fits : length read.items < 2 ^ 63 = omega (arith, read.ok.0, read.ok.1, read.small) in
    subst (λ r. IfSome (g.R.Read.remaining r) (λ xs. read.items ≡ xs)) c.take.ensures.inner
    (uncut (g.R.Read.remaining cut.inner) c.new-bytes.result.items read.items c.args.limit cut.limit c.new-bytes.ensures.items (c.take.ensures.limit ∙ c.saturating_add.ensures) within fits c.in_default.ensures.bytes)
