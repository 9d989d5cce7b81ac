-- Sound states of the machine: they are named, what they keep is of the project, and their entries are sound.
use Rattle.std.specs.Prelude.{◌≡◌, ◌≤◌, length, Option, Some, None}
use Rattle.std.specs.List.{AllByRecursion}
use Rattle.plan_ir.specs.Expansion.{operation_named, variable_trees}
use Rattle.plan_ir.specs.relay_marks.Locals.{locals_of}
use Rattle.plan_ir.specs.schema_rules.Rules.{is_object}
use Rattle.plan_ir.specs.schema_tables.Types.{Text}
use Rattle.plan_ir.specs.schema_types.Environments.{Values, environment, first_failure}
use Rattle.plan_ir.specs.schema_types.NameRules.{fragment_named, fragments, operations}
use Rattle.plan_ir.specs.schema_types.Sites.{OperationAt}
use Rattle.relay_machine.specs.Machine.{Confirmation, confirmed, swept, Handle, Layer, PartShown, Project, Retained, State, Watch, definitions_in, first_local_failure, scope_given}
use Rattle.relay_machine.specs.Refusals as refusals
use Rattle.sound_records.specs.Giving.{IsName}
use Rattle.sound_records.specs.Sound.{IsId, IsSoundEntry}
use Rattle.sound_states.specs.Named.{IsNamed}

-- ---- what is kept

-- an operation of the project, with values of its variables that fit: those that were given, and the defaults
pub record IsSoundOperation (p : Project) (o : OperationAt) (values : Values) : Type 0 where
  pub there : (name : Text) × (operation_named (operations (definitions_in p)) name ≡ Some o)
  pub valued : (given : Values) × (first_failure p.defs (variable_trees o.variables) given ≡ None) × (values ≡ environment (variable_trees o.variables) given)

pub record IsSoundHandle (p : Project) (h : Handle) : Type 0 where
  pub name : IsName h.name
  pub operation : IsSoundOperation p h.operation h.values

abbrev pub IsSoundRetained : Project → Retained → Type 0
IsSoundRetained p r = IsSoundOperation p r.operation r.values

pub record IsSoundLayer (p : Project) (l : Layer) : Type 0 where
  pub name : IsName l.name
  pub entry : IsSoundEntry (is_object p.defs) l.entry

abbrev pub IsSoundConfirmation : Project → Confirmation → Type 0
IsSoundConfirmation p (confirmed e) = IsSoundEntry (is_object p.defs) e
IsSoundConfirmation p (swept rs live) = Unit {0}

-- a fragment of the project at an id, with values of its local variables that fit
pub record IsSoundPart (p : Project) (part : PartShown) : Type 0 where
  pub there : (name : Text) × (fragment_named (fragments (definitions_in p)) name ≡ Some part.fragment)
  pub id : IsId part.id
  pub valued : (given : Values) × (first_local_failure p.defs (locals_of part.fragment.directives) given ≡ None) × (part.scope ≡ scope_given (locals_of part.fragment.directives) given)

abbrev pub IsSoundShown : Project → Option PartShown → Type 0
IsSoundShown p None = Unit {0}
IsSoundShown p (Some part) = IsSoundPart p part

pub record IsSoundWatch (p : Project) (w : Watch) : Type 0 where
  pub name : IsName w.name
  pub part : IsSoundShown p w.part

-- ---- states

pub record IsSound (p : Project) (s : State) : Type 0 where
  pub named : IsNamed s
  pub entries : AllByRecursion (IsSoundConfirmation p) s.entries
  pub layers : AllByRecursion (IsSoundLayer p) s.layers
  pub handles : AllByRecursion (IsSoundHandle p) s.handles
  pub released : AllByRecursion (IsSoundRetained p) s.released
  pub watches : AllByRecursion (IsSoundWatch p) s.watches
  pub most_layers : length s.layers ≤ refusals.most refusals.layers
  pub most_handles : length s.handles ≤ refusals.most refusals.handles
  pub most_watches : length s.watches ≤ refusals.most refusals.watches
