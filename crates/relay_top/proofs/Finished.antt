-- Work that is done without a refusal is not done with one.
use Rattle.std.proofs.Common.{◌≡◌}
use Rattle.relay_forms.specs.declared.status.Status.TheVariants as S

pub done_alone : S.Done ≡ S.DoneWithRefusals → ⊥
done_alone e = cc
