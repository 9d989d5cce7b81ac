use Rattle.sound_states.proofs.NamedSteps.{beginning_named}
use Rattle.sound_states.proofs.laws.beginning_is_named.Goals as goal

pub returns : goal.returns
returns c = beginning_named
