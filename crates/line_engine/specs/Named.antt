-- That what an engine keeps is named: no two handles and no two watches have one name, and the handle of each watch is live.
use Rattle.std.specs.Prelude.{◌≡◌, ℕ, List, Option, None, Some}
use Rattle.std.specs.List.{AllByRecursion}
use Rattle.line_engine.specs.Handles.{handle_under}
use Rattle.line_engine.specs.Kept.{HandleKept, Kept}
use Rattle.line_engine.specs.Stands.{StandsFor}
use Rattle.relay_machine.specs.Machine.{Project, State, step}
use Rattle.relay_machine.specs.relay_model.Readings.{with_marked}
use Rattle.plan_ir.specs.schema_tables.Types.{Text}
use Rattle.plan_ir.specs.schema_types.Environments.{Values}
use Rattle.sound_states.specs.Named.{AreApart, IsNamed}
use Rattle.store_watch.specs.Watching.{Watch}

abbrev pub name_of_handle : HandleKept → Text
name_of_handle h = h.name

abbrev pub name_of_watch : Watch → Text
name_of_watch w = w.name

-- the values are those of the operation, and under a fragment those of its local variables stand beside them
abbrev pub AreValuesOf : (fragment : Option Text) → (own now : Values) → Type 0
AreValuesOf None own now = now ≡ own
AreValuesOf (Some name) own now = (scope : Values) × (now ≡ with_marked own scope)

-- the handle of a watch is live, of the same root type and with the same values
pub record IsWatchOf (ks : List HandleKept) (w : Watch) : Type 0 where
  pub handle : HandleKept
  pub live : handle_under ks w.what.handle ≡ Some handle
  pub root : w.what.root ≡ handle.root
  pub values : AreValuesOf w.what.fragment handle.values w.what.environment

pub record IsNamedKept (k : Kept) : Type 0 where
  pub handles : AreApart name_of_handle k.handles
  pub watches : AreApart name_of_watch k.watches
  pub held : AllByRecursion (IsWatchOf k.handles) k.watches

-- whichever named state the engine stood for, the state after the line is named, and so is what is kept
abbrev pub StaysNamed : (old new : Kept) → ℕ → (line : Text) → Type 0
StaysNamed old new n line = (p : Project) (s : State) → StandsFor old p s → IsNamed s → IsNamed (step p old.buffer s n line).state × IsNamedKept new
