-- One more name, and all of them.
use Rattle.std.proofs.Common.{◌≡◌, true, true≢false, [], List, Option, get_or, sym, subst, ◌∙◌, arith}
use Rattle.doc_sites.specs.schema_types.ArgumentRules as rules
use Rattle.doc_sites.specs.gql_graph.Texts.{Text}
use Rattle.doc_uses.specs.Needs.{IsKnownHarmless, uses_needed}
use Rattle.doc_uses.proofs.NeedSteps.{name_next, none_left}
use Rattle.doc_uses.proofs.wrong_uses.are_met.Goals as goal
use denote.Ref.{Bor}

none : Bor Text
none = record { ref_ptr = (0, 0); now = [] }

pub names-init : goal.names-init
names-init c = λ vs t m h k. absurd (true≢false (sym h ∙ k))

pub names-preserved : goal.names-preserved
unfolding none
names-preserved c = λ vs t m h.
    let is_met : c.is_met.result ≡ true = grind arith in
    let next : IsKnownHarmless vs c.args.least.now.at (uses_needed c.args.needs.now (get_or c.args.names.now c.names.name-index none).now) =
    subst (λ (o : Option (List rules.Use)). IsKnownHarmless vs c.args.least.now.at o) c.find.ensures (c.is_met.ensures vs t is_met) in
    name_next (λ (n : Text). IsKnownHarmless vs c.args.least.now.at (uses_needed c.args.needs.now n)) c.args.names.now c.names.name-index none m (omega arith) next (c.names.invariant vs t m h)

pub returns : goal.returns
returns c = λ vs t e m h. c.names.invariant vs t m h (none_left c.args.names.now c.names.name-index m (omega arith))
