-- One that is given, and one that is not.
use Rattle.std.proofs.Common.{[], get_or, sym, ◌∙◌, arith}
use Rattle.constant_values.specs.gql_graph.Texts.{Text}
use Rattle.gql_syntax.specs.gql_plain.Order.{has_text}
use Rattle.constant_values.proofs.schema_rules_laws.FoundAt.{get_or_own}
use Rattle.relay_dirs.proofs.SpreadSteps.{all_end, all_next, all_stop}
use Rattle.relay_dirs.proofs.spread_arguments.are_given.Goals as goal
use denote.Ref.{Bor}

none : Bor Text
none = record { ref_ptr = (0, 0); now = [] }

pub returns-then-not-contains : goal.returns-then-not-contains
unfolding none
returns-then-not-contains c = λ ns k.
    sym (all_stop (λ (n : Bor Text). n.now) (has_text ns) c.args.required.now c.required.name-index (get_or c.args.required.now c.required.name-index none) (omega arith)
    (get_or_own c.args.required.now c.required.name-index none (omega arith)) (sym (c.contains.ensures ns k) ∙ c.if-not-contains.true))
    ∙ c.required.invariant ns k

pub required-preserved : goal.required-preserved
unfolding none
required-preserved c = λ ns k.
    sym (all_next (λ (n : Bor Text). n.now) (has_text ns) c.args.required.now c.required.name-index (get_or c.args.required.now c.required.name-index none) (omega arith)
    (get_or_own c.args.required.now c.required.name-index none (omega arith)) (sym (c.contains.ensures ns k) ∙ c.if-not-contains.false))
    ∙ c.required.invariant ns k

pub returns : goal.returns
returns c = λ ns k. all_end (λ (n : Bor Text). n.now) (has_text ns) c.args.required.now c.required.name-index (omega arith) ∙ c.required.invariant ns k
