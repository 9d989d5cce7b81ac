-- Of the definitions so far the first operation of each name is put.
use Rattle.std.proofs.Common.{take}
use Rattle.std.specs.BTreeMap.{get_by_text}
use Rattle.plan_project.proofs.listing.put_operations.Given as goal
use Rattle.plan_project.specs.Filling.{IsOperationOf, Takes, first_of, operation_under}

abbrev pub invariant-definitions : goal.invariant-definitions
invariant-definitions l =
    Takes (IsOperationOf l.planner.expander.schema.now l.planner.expander.documents.now) (λ n. first_of (operation_under n) (take l.definition-index l.definitions))
    (get_by_text l.initial.operations) (get_by_text l.operations)
