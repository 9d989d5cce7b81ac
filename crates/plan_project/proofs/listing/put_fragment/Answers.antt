-- A fragment is put under its name; operations are passed over.
use Rattle.std.specs.BTreeMap.{get_by_text}
use Rattle.plan_project.proofs.Putting.{fragment_put, no_fragment, own_fragment}
use Rattle.plan_project.proofs.listing.put_fragment.Goals as goal
use Rattle.plan_project.specs.Filling.{IsFragmentOf}

pub compile_fragment-requires-clause-there : goal.compile_fragment-requires-clause-there
compile_fragment-requires-clause-there c =
    c.requires.there c.in-Fragment.fragment.name (own_fragment c.args.definition.now c.in-Fragment.fragment c.in-Fragment.is)

pub returns-in-Operation : goal.returns-in-Operation
returns-in-Operation c =
    no_fragment (IsFragmentOf c.args.planner.now.expander.schema.now c.args.planner.now.expander.documents.now) c.args.definition.now (get_by_text c.args.fragments.now) _ c.in-Operation.is

pub returns-in_ok-put_new-in-Fragment : goal.returns-in_ok-put_new-in-Fragment
returns-in_ok-put_new-in-Fragment c =
    fragment_put (IsFragmentOf c.args.planner.now.expander.schema.now c.args.planner.now.expander.documents.now) c.args.definition.now (get_by_text c.args.fragments.now)
    c.in-Fragment.fragment _ c.in_ok-compiled-in-Fragment.compiled _ c.in-Fragment.is c.as_str.ensures (λ n. c.in_ok-put_new-in-Fragment.ensures n) c.in_ok-compiled-in-Fragment.ensures
