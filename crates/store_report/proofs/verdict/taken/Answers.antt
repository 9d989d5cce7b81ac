use Rattle.std.proofs.Common.{◌≡◌, map, rules, sym, ap, subst, ◌∙◌}
use Rattle.std.proofs.lemmas.Fn.{dedup_same}
use Rattle.std.specs.List.{dedup}
use Rattle.std.specs.List.Sorted.{IsStrictlySortedBy}
use Rattle.store_model.specs.FactOrder.{handle_cmp}
use Rattle.store_model.specs.Said.{HaveHandleKeys}
use Rattle.store_model.specs.Verdicts.{same_place}
use Rattle.store_report.proofs.Clashes.{place_tied}
use Rattle.store_model.proofs.InOrder.{dedup_rises}
use Rattle.store_report.proofs.Takings.{facts_placed, order_keeps}
use Rattle.store_report.proofs.verdict.taken.Goals as goal
use Rattle.store_report.specs.Gathering.{AreNamed}
use Rattle.store_report.specs.SaidFacts.{fact_of, put_of, place_cmp, is_same_fact}

pub rows_of-requires-clause-order : goal.rows_of-requires-clause-order
rows_of-requires-clause-order c =
    let kept = c.dedup_by.new.self.items in
    let firsts : kept ≡ dedup is_same_fact c.args.facts.items
    = dedup_same _ is_same_fact _ (λ x y b k x' y' called. (let e : b ≡ same_place (put_of x) (put_of y) = search rules in e ∙ place_tied (put_of x) (put_of y), search rules, search rules, search rules))
    c.args.facts.items kept c.dedup_by.ensures.filtered in
    subst (IsStrictlySortedBy place_cmp) (sym firsts) (dedup_rises place_cmp facts_placed c.args.facts.items c.requires.order)

pub rows_of-requires-clause-named : goal.rows_of-requires-clause-named
rows_of-requires-clause-named c =
    let kept = c.dedup_by.new.self.items in
    let firsts : kept ≡ dedup is_same_fact c.args.facts.items
    = dedup_same _ is_same_fact _ (λ x y b k x' y' called. (let e : b ≡ same_place (put_of x) (put_of y) = search rules in e ∙ place_tied (put_of x) (put_of y), search rules, search rules, search rules))
    c.args.facts.items kept c.dedup_by.ensures.filtered in
    subst (λ fs. AreNamed (map put_of fs)) (sym firsts) c.requires.named

pub invariant_of-result : goal.invariant_of-result
invariant_of-result c =
    subst HaveHandleKeys (sym c.in_ok-handles.ensures) (order_keeps handle_cmp _ c.args.pages.items c.requires.keys)

pub returns : goal.returns
returns c =
    let kept = c.dedup_by.new.self.items in
    let firsts : kept ≡ dedup is_same_fact c.args.facts.items
    = dedup_same _ is_same_fact _ (λ x y b k x' y' called. (let e : b ≡ same_place (put_of x) (put_of y) = search rules in e ∙ place_tied (put_of x) (put_of y), search rules, search rules, search rules))
    c.args.facts.items kept c.dedup_by.ensures.filtered in
    let facts = c.in_ok-facts.ensures ∙ ap (map fact_of) firsts in
    (λ i. record { facts = facts i; handles = c.in_ok-handles.ensures i })
