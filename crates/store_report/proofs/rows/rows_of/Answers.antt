use Rattle.std.proofs.Common.{◌≡◌, List, [], ◌∷◌, map, Option, Some, sym, subst, ◌∙◌}
use Rattle.store_report.proofs.RowLoop.{Rowing, can_take_at, rowing_next, last_named, no_items, facts_rise, facts_named}
use Rattle.store_report.proofs.rows.rows_of.Goals as goal
use Rattle.store_report.specs.SaidFacts.{fact_of}
use Rattle.store_report.specs.declared.rows.OpenRow.{OpenRow}
use Rattle.store_report.specs.declared.said.SaidFact.{SaidFact}

pub take-requires : goal.take-requires
take-requires c =
    let all = map fact_of c.args.facts.items in
    let rest = map fact_of c.next.new.self.rest.items in
    let row : Rowing all c.facts.rows c.facts.begun (fact_of c.in-Some.fact ∷ rest) = subst (λ fs. Rowing all c.facts.rows c.facts.begun (map fact_of fs)) c.in-Some.ensures.steps.0 c.facts.invariant in
    can_take_at all c.facts.rows c.facts.begun (fact_of c.in-Some.fact) rest row (facts_rise c.args.facts.items c.requires.order) (facts_named c.args.facts.items c.requires.named)

pub facts-preserved : goal.facts-preserved
facts-preserved c =
    let all = map fact_of c.args.facts.items in
    let rest = map fact_of c.next.new.self.rest.items in
    let row : Rowing all c.facts.rows c.facts.begun (fact_of c.in-Some.fact ∷ rest) = subst (λ fs. Rowing all c.facts.rows c.facts.begun (map fact_of fs)) c.in-Some.ensures.steps.0 c.facts.invariant in
    rowing_next all c.facts.rows c.take.new.rows c.facts.begun c.take.new.begun (fact_of c.in-Some.fact) rest row c.in_ok-take.ensures.facts c.in_ok-take.ensures.row

pub close-requires-clause-named : goal.close-requires-clause-named
close-requires-clause-named c =
    let all = map fact_of c.args.facts.items in
    let left = c.facts.fact-iterator.rest in
    let gone : left.items ≡ [] = no_items left.items (sym left.ok.0 ∙ c.in-None.ensures.steps.0) in
    let row : Rowing all c.facts.rows (Some c.in-Some-begun.row) []
    = subst (λ (o : Option OpenRow). Rowing all c.facts.rows o []) c.in-Some-begun.is
    (subst (λ (fs : List SaidFact). Rowing all c.facts.rows c.facts.begun (map fact_of fs)) gone c.facts.invariant) in
    last_named all c.facts.rows c.in-Some-begun.row row (facts_named c.args.facts.items c.requires.named)
