-- Of the documents so far the first fragment of each name is put.
use Rattle.std.proofs.Common.{take}
use Rattle.std.specs.BTreeMap.{get_by_text}
use Rattle.plan_project.proofs.Looking.{in_document}
use Rattle.plan_project.proofs.listing.fragments_of.Given as goal
use Rattle.plan_project.specs.Filling.{IsFragmentOf, Takes, first_of, fragment_under}

abbrev pub invariant-documents : goal.invariant-documents
invariant-documents l =
    Takes (IsFragmentOf l.planner.expander.schema.now l.planner.expander.documents.now) (λ n. first_of (in_document (fragment_under n)) (take l.document-index l.document-items))
    (get_by_text l.initial.fragments) (get_by_text l.fragments)
