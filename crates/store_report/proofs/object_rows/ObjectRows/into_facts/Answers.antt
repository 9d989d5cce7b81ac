use Rattle.std.proofs.Common.{◌≡◌, List, [], ◌++◌, length, None, option_map, sym, ap, subst, ◌∙◌, arith}
use Rattle.std.proofs.lemmas.List.{append-nil, nil_from_length}
use Rattle.std.proofs.lemmas.Result.{err_from_is_err_and}
use Rattle.store_model.proofs.FactRowOrder.{facts_rise}
use Rattle.store_model.proofs.Seated.{among_left}
use Rattle.store_model.specs.Alike.{Among}
use Rattle.store_model.specs.FactOrder.{handle_cmp}
use Rattle.store_model.specs.FactRows.{facts_of}
use Rattle.store_model.specs.Said.{HaveHandleKeys}
use Rattle.store_model.specs.Verdicts.{content, fault_cmp, in_order, least}
use Rattle.store_model.specs.declared.facts.HandleFact.{HandleFact}
use Rattle.store_report.proofs.ClashVerdicts.{clash_untaken, torn_rows_clash, unjoined_untaken}
use Rattle.store_report.proofs.RowVerdicts.{rows_verdict}
use Rattle.store_report.proofs.SameMembers.{same_trans}
use Rattle.store_report.proofs.Takings.{order_keeps}
use Rattle.store_report.proofs.object_rows.ObjectRows.into_facts.Goals as goal
use Rattle.store_report.specs.Joining.{torn_facts}
use Rattle.store_report.specs.ObjectRows.{HaveClash, HaveTypeNames, Held, HoldSame, facts_said}
use Rattle.store_report.specs.SaidFacts.{fault_of}
use Rattle.store_report.specs.declared.object_row.BegunRow.{BegunRow}

pub returns-then-not-is_empty-clause-untaken : goal.returns-then-not-is_empty-clause-untaken
returns-then-not-is_empty-clause-untaken c = λ r adds.
    let inside = c.self.inside in
    let facts : facts_of inside.rows.items ++ torn_facts inside.torn.items ≡ c.args.self.facts = ap (λ (s : Held). s.facts) c.self.view_is in
    let some : inside.torn.items ≡ [] → ⊥ = λ e. let none : length inside.torn.items ≡ 0 = ap length e in grind (arith, none, c.is_empty.ensures) in
    clash_untaken c.args.self r (sym (ap (λ (s : Held). s.fault) c.self.view_is) ∙ ap (option_map fault_of) c.in_default.is) adds
    (subst HaveClash facts (torn_rows_clash (facts_of inside.rows.items) inside.torn.items c.self.invariant.1 (subst HaveTypeNames (sym facts) c.requires.named) some))

pub returns-in_err-rows-clause-untaken : goal.returns-in_err-rows-clause-untaken
returns-in_err-rows-clause-untaken c =
    let inside = c.self.inside in
    let facts : facts_of inside.rows.items ++ torn_facts inside.torn.items ≡ c.args.self.facts = ap (λ (s : Held). s.facts) c.self.view_is in
    let e = err_from_is_err_and c.from_residual.result c.from_residual.ensures.1 in
    rw (e.1, e.2)
    (unjoined_untaken c.args.self (facts_of inside.rows.items) c.in_err-rows.field-0.0
    (sym (ap (λ (s : Held). s.fault) c.self.view_is) ∙ ap (option_map fault_of) c.in_default.is)
    (λ f h. subst (Among f) facts (among_left f (facts_of inside.rows.items) (torn_facts inside.torn.items) h)) c.in_err-rows.ensures.clash)

pub returns-in_err-handles-clause-untaken : goal.returns-in_err-handles-clause-untaken
returns-in_err-handles-clause-untaken c =
    let e = err_from_is_err_and c.from_residual-in_err-handles.result c.from_residual-in_err-handles.ensures.1 in
    rw (e.1, e.2) (λ r adds. tt)

pub invariant_of-result-2 : goal.invariant_of-result-2
invariant_of-result-2 c =
    let pages : c.self.inside.pages.items ≡ c.args.self.handles = ap (λ (s : Held). s.handles) c.self.view_is in
    subst HaveHandleKeys (sym c.in_ok-handles.ensures) (order_keeps handle_cmp _ c.self.inside.pages.items (subst HaveHandleKeys (sym pages) c.requires.keys))

pub returns-clause-facts : goal.returns-clause-facts
returns-clause-facts c = λ r adds.
    let inside = c.self.inside in
    let rows = c.in_ok-rows.rows.items in
    let before = inside.rows.items in
    let untorn : inside.torn.items ≡ [] = nil_from_length inside.torn.items (grind (arith, c.is_empty.ensures)) in
    let held : facts_of before ≡ c.args.self.facts
    = sym (append-nil (facts_of before)) ∙ ap (λ (bs : List BegunRow). facts_of before ++ torn_facts bs) (sym untorn) ∙ ap (λ (s : Held). s.facts) c.self.view_is in
    let pages : inside.pages.items ≡ r.pages = ap (λ (s : Held). s.handles) c.self.view_is ∙ adds.pages in
    let none : least fault_cmp r.faults ≡ None
    = sym adds.fault ∙ sym (ap (λ (s : Held). s.fault) c.self.view_is) ∙ ap (option_map fault_of) c.in_default.is in
    let same : HoldSame (facts_of rows) (facts_said r)
    = same_trans (facts_of rows) (facts_of before) (facts_said r) c.in_ok-rows.ensures.same (subst (λ fs. HoldSame fs (facts_said r)) (sym held) adds.facts) in
    rows_verdict r (facts_of rows) none (facts_rise rows c.in_ok-rows.ensures.rows c.in_ok-rows.ensures.fields) same
    ∙ ap (λ (hs : List HandleFact). content (record { facts = facts_of rows; handles = hs })) (ap (in_order handle_cmp) (sym pages) ∙ sym c.in_ok-handles.ensures)
