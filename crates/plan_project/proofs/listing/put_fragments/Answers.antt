-- One definition more, and all of them.
use Rattle.std.specs.BTreeMap.{get_by_text}
use Rattle.plan_project.proofs.Looking.{found-at, takes_all, takes_next, takes_nothing}
use Rattle.plan_project.proofs.listing.put_fragments.Goals as goal
use Rattle.plan_project.specs.Filling.{IsFragmentOf, fragment_under}

pub definitions-init : goal.definitions-init
definitions-init c = takes_nothing (IsFragmentOf c.args.planner.now.expander.schema.now c.args.planner.now.expander.documents.now) (get_by_text c.args.fragments.now)

pub put_fragment-requires-clause-there : goal.put_fragment-requires-clause-there
put_fragment-requires-clause-there c = λ n h.
    c.requires.there n
    (found-at (fragment_under n) c.args.definitions.now c.definitions.definition-index c.definition-item.result c.definitions-test.true c.definition-item.is h)

pub definitions-preserved : goal.definitions-preserved
definitions-preserved c =
    takes_next (IsFragmentOf c.args.planner.now.expander.schema.now c.args.planner.now.expander.documents.now) fragment_under c.args.definitions.now c.definitions.definition-index
    c.definition-item.result (get_by_text c.args.fragments.now) (get_by_text c.definitions.fragments) (get_by_text c.put_fragment.new.fragments) c.definitions-test.true
    c.definition-item.is c.definitions.invariant c.in_ok-put_fragment.ensures

pub returns : goal.returns
returns c =
    takes_all (IsFragmentOf c.args.planner.now.expander.schema.now c.args.planner.now.expander.documents.now) fragment_under c.args.definitions.now c.definitions.definition-index
    (get_by_text c.args.fragments.now) (get_by_text c.definitions.fragments) c.definitions-test.false c.definitions.invariant
