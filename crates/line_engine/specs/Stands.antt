-- When an engine stands for a state of the machine.
use Rattle.std.specs.Prelude.{◌≡◌, false, List, [], ◌∷◌, map, Option, None, Some}
use Rattle.plan_ir.specs.Expansion.{name_or}
use Rattle.plan_project.specs.Lookups.{operation_in}
use Rattle.line_engine.specs.Kept.{HandleKept, Kept, OperationKept}
use Rattle.relay_machine.specs.Machine as machine
use Rattle.relay_machine.specs.Machine.{Handle, Layer, PartShown, Project, Retained, State, base, is_layer, last_of, root_type, shown}
use Rattle.relay_machine.specs.relay_model.Readings.{with_marked}
use Rattle.plan_ir.specs.schema_tables.Types.{Text, root}
use Rattle.plan_ir.specs.schema_types.Environments.{Values}
use Rattle.store_layers.specs.Layered as layered
use Rattle.store_layers.specs.Layered.{view_of}
use Rattle.plan_ir.specs.store_model.Records.{Records}
use Rattle.plan_ir.specs.store_record.Keys as keys
use Rattle.store_watch.specs.store_read.Reading.{slots}
use Rattle.store_watch.specs.Watching as watching
use Rattle.store_watch.specs.Watching.{AreShown, Look, shows}

-- ---- handles

-- an operation of the project is kept by its name, with its root type and the values of its variables
pub record KeepsHandle (p : Project) (k : HandleKept) (h : Handle) : Type 0 where
  pub name : k.name ≡ h.name
  pub operation : operation_in p.defs p.documents k.operation ≡ Some h.operation
  pub root : k.root ≡ name_or (root p.defs h.operation.kind)
  pub values : k.values ≡ h.values

-- one for one, in their order
abbrev pub KeepsHandles : Project → List HandleKept → List Handle → Type 0
KeepsHandles p [] [] = Unit {0}
KeepsHandles p [] (h ∷ hs) = ⊥
KeepsHandles p (k ∷ ks) [] = ⊥
KeepsHandles p (k ∷ ks) (h ∷ hs) = KeepsHandle p k h × KeepsHandles p ks hs

-- the same of an operation that was released
pub record KeepsOperation (p : Project) (k : OperationKept) (r : Retained) : Type 0 where
  pub operation : operation_in p.defs p.documents k.operation ≡ Some r.operation
  pub root : k.root ≡ name_or (root p.defs r.operation.kind)
  pub values : k.values ≡ r.values

abbrev pub KeepsReleased : Project → List OperationKept → List Retained → Type 0
KeepsReleased p [] [] = Unit {0}
KeepsReleased p [] (r ∷ rs) = ⊥
KeepsReleased p (k ∷ ks) [] = ⊥
KeepsReleased p (k ∷ ks) (r ∷ rs) = KeepsOperation p k r × KeepsReleased p ks rs

-- ---- watches

-- of a part the name of its fragment, its id, and the values under which it is read: those of the operation, and those of the local variables
-- under marked names. The operation itself is read at the root
abbrev pub fragment_shown : Option PartShown → Option Text
fragment_shown None = None
fragment_shown (Some q) = Some q.fragment.name.name

abbrev pub id_shown : Option PartShown → Text
id_shown None = keys.root
id_shown (Some q) = q.id

abbrev pub values_shown : Values → Option PartShown → Values
values_shown own None = own
values_shown own (Some q) = with_marked own q.scope

-- this is of the operation of the handle, or of the part of it, and shows what that does in all records
pub record ShowsPart (p : Project) (look : Look) (h : Handle) (part : Option PartShown) : Type 0 where
  pub handle : look.handle ≡ h.name
  pub root : look.root ≡ root_type p h
  pub values : look.environment ≡ values_shown h.values part
  pub fragment : look.fragment ≡ fragment_shown part
  pub id : look.id ≡ id_shown part
  pub shows : (m : Records) → shows (slots m) look ≡ shown p m h part

-- a watch is kept by its name, with what it shows, and its last snapshot has the data and the missing mark
pub record KeepsWatch (p : Project) (k : watching.Watch) (w : machine.Watch) : Type 0 where
  pub name : k.name ≡ w.name
  pub what : ShowsPart p k.what w.handle w.part
  pub value : k.kept.value ≡ w.value
  pub missing : k.kept.missing ≡ w.missing

abbrev pub KeepsWatches : Project → List watching.Watch → List machine.Watch → Type 0
KeepsWatches p [] [] = Unit {0}
KeepsWatches p [] (w ∷ ws) = ⊥
KeepsWatches p (k ∷ ks) [] = ⊥
KeepsWatches p (k ∷ ks) (w ∷ ws) = KeepsWatch p k w × KeepsWatches p ks ws

-- ---- layers

abbrev pub layer_of : Layer → layered.Layer
layer_of l = (l.name, l.entry)

-- no two layers have one name
abbrev pub AreApart : List Layer → Type 0
AreApart [] = Unit {0}
AreApart (l ∷ ls) = (is_layer ls l.name ≡ false) × AreApart ls

-- ---- states

-- what is kept is the project, the records that the state's entries give, its layers and its handles, the last of its released operations,
-- and its watches, whose last snapshots may be of other records
pub record StandsUntold (k : Kept) (p : Project) (s : State) : Type 0 where
  pub schema : k.defs ≡ p.defs
  pub documents : k.documents ≡ p.documents
  pub base : k.layers.base ≡ base p s
  pub layers : k.layers.live ≡ map layer_of s.layers
  pub apart : AreApart s.layers
  pub handles : KeepsHandles p k.handles s.handles
  pub released : KeepsReleased p k.released (last_of k.buffer s.released)
  pub watches : KeepsWatches p k.watches s.watches

-- the same, and the last snapshots are of the records that are seen
pub record StandsFor (k : Kept) (p : Project) (s : State) : Type 0 where
  pub schema : k.defs ≡ p.defs
  pub documents : k.documents ≡ p.documents
  pub base : k.layers.base ≡ base p s
  pub layers : k.layers.live ≡ map layer_of s.layers
  pub apart : AreApart s.layers
  pub handles : KeepsHandles p k.handles s.handles
  pub released : KeepsReleased p k.released (last_of k.buffer s.released)
  pub watches : KeepsWatches p k.watches s.watches
  pub shown : AreShown (slots (view_of k.layers)) k.watches
