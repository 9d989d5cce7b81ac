-- States of the machine that are alike but for the records at some ids.
use Rattle.std.specs.Prelude.{◌≡◌, Bool, false}
use Rattle.relay_machine.specs.Machine.{Project, State, Step, base}
use Rattle.plan_ir.specs.schema_tables.Types.{Text}
use Rattle.plan_ir.specs.store_model.Records.{slot_at}

-- all parts but what was confirmed are the same, and the bases have the same slot at each other id
pub record AreAlike (p : Project) (D : Text → Bool) (s t : State) : Type 0 where
  pub layers : s.layers ≡ t.layers
  pub handles : s.handles ≡ t.handles
  pub released : s.released ≡ t.released
  pub watches : s.watches ≡ t.watches
  pub bases : (id : Text) → D id ≡ false → slot_at id (base p s) ≡ slot_at id (base p t)

-- the same is written, and the states after it are alike
pub record StepsAlike (p : Project) (D : Text → Bool) (a b : Step) : Type 0 where
  pub text : a.text ≡ b.text
  pub refused : a.refused ≡ b.refused
  pub states : AreAlike p D a.state b.state
