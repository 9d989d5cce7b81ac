-- Of the definitions so far the first fragment of each name is put.
use Rattle.std.proofs.Common.{take}
use Rattle.std.specs.BTreeMap.{get_by_text}
use Rattle.plan_project.proofs.listing.put_fragments.Given as goal
use Rattle.plan_project.specs.Filling.{IsFragmentOf, Takes, first_of, fragment_under}

abbrev pub invariant-definitions : goal.invariant-definitions
invariant-definitions l =
    Takes (IsFragmentOf l.planner.expander.schema.now l.planner.expander.documents.now) (λ n. first_of (fragment_under n) (take l.definition-index l.definitions))
    (get_by_text l.initial.fragments) (get_by_text l.fragments)
