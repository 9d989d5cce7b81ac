-- What a target gives, where more is known of it.
use Rattle.std.proofs.Common.{◌≡◌, Option, Some, ap, subst, ◌∙◌}
use Rattle.plan_project.specs.Lookups.{fragment_in}
use Rattle.line_engine.proofs.StepLaws.{same_step}
use Rattle.line_engine.specs.Kept.{Kept}
use Rattle.line_engine.specs.Stands.{ShowsPart}
use Rattle.line_engine.specs.Targets.{ReadsFragmentAt, ReadsPart, ReadsTarget, Targets, TargetsPart}
use Rattle.line_engine.specs.declared.targets.Targeted.{Targeted}
use Rattle.line_engine.specs.declared.targets.Targeted.TheVariants as T
use Rattle.relay_machine.specs.Effects.{reads_of_fragment, reads_of_part, reads_of_target}
use Rattle.relay_machine.specs.Machine.{Handle, PartShown, Project, State, Step, handle_named}
use Rattle.plan_ir.specs.schema_tables.Types.{Text}
use Rattle.plan_ir.specs.schema_types.Environments.{Values}
use Rattle.plan_ir.specs.schema_types.Sites.{FragmentAt}
use Rattle.plan_ir.specs.store_model.Events as e
use Rattle.store_watch.specs.Watching.{Look}

module _ (k : Kept) (p : Project) (other step : Step) (h : Handle) (same : other ≡ step) where
  -- the same step, written otherwise
  pub same_target : (take : Option PartShown → Step) (t : Targeted) → TargetsPart k p step h take t → TargetsPart k p other h take t
  same_target take (T.Shown what) has = (has.0, same ∙ has.1, has.2)
  same_target take (T.Refused lines) has = same_step k p step other lines same has

  -- the handle is one that is found
  pub of_handle : (take : Handle → Option PartShown → Step) (t : Targeted) → TargetsPart k p step h (take h) t → Targets k p other take t
  of_handle take (T.Shown what) has = (h, has.0, same ∙ has.1, has.2)
  of_handle take (T.Refused lines) has = same_step k p step other lines same has

-- what a fragment shows under the same values
pub under_scope : (p : Project) (look : Look) (h : Handle) (f : FragmentAt) (id : Text) (one other : Values) → one ≡ other
    → ShowsPart p look h (Some (record { fragment = f; scope = one; id = id })) → ShowsPart p look h (Some (record { fragment = f; scope = other; id = id }))
under_scope p look h f id one other same shows = subst (λ (vs : Values). ShowsPart p look h (Some (record { fragment = f; scope = vs; id = id }))) same shows

-- ---- reads

-- the fragment is the one of the name
pub reads_named : (p : Project) (h : Handle) (part : e.Part) (f : FragmentAt) → fragment_in p.defs p.documents part.fragment ≡ Some f → (t : Targeted)
    → ReadsFragmentAt p h part f t → ReadsPart p h (Some part) t
reads_named p h part f named (T.Shown what) has = λ m. ap (reads_of_fragment p m h part) named ∙ has m
reads_named p h part f named (T.Refused lines) has = tt

-- the handle is the one of the name
pub reads_known : (p : Project) (s : State) (target : e.Target) (h : Handle) (part : Option e.Part) → handle_named s.handles target.handle ≡ Some h → target.part ≡ part
    → (t : Targeted) → ReadsPart p h part t → ReadsTarget p s target t
reads_known p s target h part named is (T.Shown what) has = λ m. ap (reads_of_target p m target) named ∙ ap (reads_of_part p m h) is ∙ has m
reads_known p s target h part named is (T.Refused lines) has = tt
