-- The expansion of a fragment by itself that meets the rules that it needs is suited, also where its type is abstract; those of documents that meet
-- the rules do.
use Rattle.std.proofs.Common.{◌≡◌, ℕ, List, Some}
use Rattle.plan_ir.specs.gql_ast.declared.document.Document.{Document}
use Rattle.plan_ir.specs.gql_ast.declared.place.FilePlace.{FilePlace}
use Rattle.plan_ir.specs.gql_ast.declared.place.Placed.{Placed}
use Rattle.plan_build.proofs.CovarianceRules.{sound_meets}
use Rattle.plan_build.proofs.SuitedNodes.{expanded}
use Rattle.plan_build.proofs.SuitedOperations.{fragments_of_documents_meet}
use Rattle.plan_build.specs.Laws.{MeetsRules, definitions}
use Rattle.plan_build.specs.Meeting.{FragmentsMeet}
use Rattle.plan_build.specs.Suited.{Suited}
use Rattle.plan_ir.specs.Expansion.{Project, project_of, selections_from, spreads_in, whole_fragment}
use Rattle.plan_ir.specs.Substitution.{scope_of_own}
use Rattle.plan_ir.specs.schema_rules.Checked.{IsSound}
use Rattle.plan_ir.specs.schema_tables.Types.{Text, Defs}
use Rattle.plan_ir.specs.schema_types.NameRules.{fragment_named, fragments}
use Rattle.plan_ir.specs.schema_types.Sites.{FragmentAt}
use Rattle.plan_read.specs.Laws.{FragmentsThatMeetAreSuited}

pub fragments_that_meet_are_suited : FragmentsThatMeetAreSuited
fragments_that_meet_are_suited p f sound meets =
    expanded p (sound_meets p.defs sound) meets.fragments (spreads_in p) (scope_of_own f) (selections_from f) f.on.name f.on.name f.selections (λ T here. here) meets.selections

pub fragments_are_suited : (defs : Defs) (ps : List (Placed Document)) (place : ℕ → FilePlace) (name : Text) (f : FragmentAt) → IsSound defs → MeetsRules defs ps
    → fragment_named (fragments (definitions defs ps)) name ≡ Some f
    → Suited defs f.on.name f.on.name (whole_fragment (project_of defs place (definitions defs ps)) f).expanded.selections
fragments_are_suited defs ps place name f sound meet found =
    let p : Project = project_of defs place (definitions defs ps) in
    let all : FragmentsMeet p = fragments_of_documents_meet defs ps place sound meet in
    fragments_that_meet_are_suited p f sound (record { selections = all name f found; fragments = all })
