-- What the target of a read or of a watch gives, as the machine sees it.
use Rattle.std.specs.Prelude.{◌≡◌, [], ◌∷◌, Option, Some}
use Rattle.line_engine.specs.Kept.{Kept}
use Rattle.line_engine.specs.Stands.{ShowsPart}
use Rattle.line_engine.specs.Steps.{IsStep}
use Rattle.line_engine.specs.declared.targets.Targeted.{Targeted}
use Rattle.line_engine.specs.declared.targets.Targeted.TheVariants as T
use Rattle.relay_machine.specs.Effects.{reads_of_fragment, reads_of_part, reads_of_target}
use Rattle.relay_machine.specs.Machine.{Handle, PartShown, Project, State, Step, handle_named}
use Rattle.plan_ir.specs.schema_types.Sites.{FragmentAt}
use Rattle.plan_ir.specs.store_model.Events as e
use Rattle.plan_ir.specs.store_model.Records.{Records}
use Rattle.store_watch.specs.store_read.Reading.{slots}
use Rattle.store_watch.specs.Rows.{look_of}
use Rattle.store_watch.specs.Watching.{read_of}

-- the step is what is made of what is shown, or the lines are the step's and nothing changes
abbrev pub Targets : Kept → Project → Step → (take : Handle → Option PartShown → Step) → Targeted → Type 0
Targets k p step take (T.Shown what) = (h : Handle) × (part : Option PartShown) × (step ≡ take h part) × ShowsPart p (look_of what) h part
Targets k p step take (T.Refused lines) = IsStep p step lines k

-- the same, where the handle is known
abbrev pub TargetsPart : Kept → Project → Step → Handle → (take : Option PartShown → Step) → Targeted → Type 0
TargetsPart k p step h take (T.Shown what) = (part : Option PartShown) × (step ≡ take part) × ShowsPart p (look_of what) h part
TargetsPart k p step h take (T.Refused lines) = IsStep p step lines k

-- ---- reads

-- in all records the read of what is shown is the one that the machine's answer takes
abbrev pub ReadsTarget : Project → State → e.Target → Targeted → Type 0
ReadsTarget p s target (T.Shown what) = (m : Records) → reads_of_target p m target (handle_named s.handles target.handle) ≡ read_of (slots m) (look_of what) ∷ []
ReadsTarget p s target (T.Refused lines) = Unit {0}

-- the same, where the handle is known
abbrev pub ReadsPart : Project → Handle → Option e.Part → Targeted → Type 0
ReadsPart p h part (T.Shown what) = (m : Records) → reads_of_part p m h part ≡ read_of (slots m) (look_of what) ∷ []
ReadsPart p h part (T.Refused lines) = Unit {0}

-- the same, where the fragment is known too
abbrev pub ReadsFragmentAt : Project → Handle → e.Part → FragmentAt → Targeted → Type 0
ReadsFragmentAt p h part f (T.Shown what) = (m : Records) → reads_of_fragment p m h part (Some f) ≡ read_of (slots m) (look_of what) ∷ []
ReadsFragmentAt p h part f (T.Refused lines) = Unit {0}
