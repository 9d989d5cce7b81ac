-- What responses say soundly to a project's operations.
use Rattle.std.specs.Prelude.{◌≡◌}
use Rattle.plan_ir.specs.schema_rules.Rules.{is_object}
use Rattle.plan_ir.specs.store_model.Said.{Said}
use Rattle.plan_ir.specs.store_model.Verdicts.{content}
use Rattle.relay_machine.specs.Machine.{Handle, Project, said_to}
use Rattle.serde_json.specs.Data as J
use Rattle.sound_records.specs.Sound.{IsSoundSaid}
use Rattle.sound_states.specs.Sound.{IsSoundHandle}

-- what responses say to operations of the project is sound
abbrev pub SaysSoundly : Project → Type 0
SaysSoundly p = (h : Handle) (response : J.Data) (said : Said) → IsSoundHandle p h → said_to p h response ≡ content said → IsSoundSaid (is_object p.defs) said
