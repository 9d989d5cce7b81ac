use Rattle.std.proofs.Common.{◌≡◌, List, None, Some, Option, map, option_map, sym, ap, subst, ◌∙◌}
use Rattle.store_model.specs.Verdicts.{content, first_conflict, seats}
use Rattle.store_report.proofs.Takings.{named_kept, taken_content, taken_refusal}
use Rattle.store_report.proofs.gathered.Gathered.verdict.Goals as goal
use Rattle.store_report.specs.Gathering.{Gathering, AreNamed, verdict_of}
use Rattle.store_report.specs.SaidFacts.{fault_of, put_of}
use Rattle.store_report.specs.declared.said.SaidFact.{SaidFact}
use Rattle.store_report.specs.declared.said.SaidFault.{SaidFault}

pub returns-in-Some-found-clause-fault : goal.returns-in-Some-found-clause-fault
returns-in-Some-found-clause-fault c =
    let inside = c.self.inside in
    let given = inside.facts.items in
    let sorted = c.in-Ok.facts.items in
    let none : inside.fault ≡ None = c.in_default.is in
    let some : first_conflict (seats (map put_of sorted)) ≡ Some c.in-Some-found.fault
    = ap (λ (fs : List SaidFact). first_conflict (seats (map put_of fs))) (sym c.deref.ensures.value) ∙ sym c.in-Ok-conflict.ensures ∙ c.in-Some-found.is in
    ap verdict_of (sym c.self.view_is)
    ∙ ap (λ (f : Option SaidFault). verdict_of (record { puts = map put_of given; pages = inside.pages.items; fault = option_map fault_of f })) none
    ∙ taken_refusal given sorted c.in-Ok.ensures.order c.in-Ok.ensures.stable inside.pages.items c.in-Some-found.fault some

pub taken-requires-clause-named : goal.taken-requires-clause-named
taken-requires-clause-named c =
    let given = c.self.inside.facts.items in
    named_kept given c.in-Ok.facts.items c.in-Ok.ensures.order c.in-Ok.ensures.stable
    (subst (λ (g : Gathering). AreNamed g.puts) (sym c.self.view_is) c.requires.named)

pub returns-in-Ok-taken-clause-content : goal.returns-in-Ok-taken-clause-content
returns-in-Ok-taken-clause-content c =
    let inside = c.self.inside in
    let given = inside.facts.items in
    let sorted = c.in-Ok.facts.items in
    let none : inside.fault ≡ None = c.in_default.is in
    let no_conflict : first_conflict (seats (map put_of sorted)) ≡ None
    = ap (λ (fs : List SaidFact). first_conflict (seats (map put_of fs))) (sym c.deref.ensures.value) ∙ sym c.in-Ok-conflict.ensures ∙ c.in_default-found.is in
    ap verdict_of (sym c.self.view_is)
    ∙ ap (λ (f : Option SaidFault). verdict_of (record { puts = map put_of given; pages = inside.pages.items; fault = option_map fault_of f })) none
    ∙ taken_content given sorted c.in-Ok.ensures.order c.in-Ok.ensures.stable inside.pages.items no_conflict
    ∙ ap content (sym c.in-Ok-taken.ensures)
