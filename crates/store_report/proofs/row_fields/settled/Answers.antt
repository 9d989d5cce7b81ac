-- Neither a sort nor a `dedup` of equal fields changes the members; where keys do not rise after them, one has two values.
use Rattle.std.proofs.Common.{◌≡◌, rules, sym, subst}
use Rattle.std.proofs.lemmas.Fn.{dedup_same}
use Rattle.std.specs.List.{dedup}
use Rattle.std.specs.List.Sorted.{IsSorted}
use Rattle.store_model.specs.store_record.Equal.{entry_eq}
use Rattle.store_report.proofs.TornFields.{AreApart, entry_cmp, once_apart, ordered_same, torn_where}
use Rattle.store_report.proofs.row_fields.settled.Goals as goal
use Rattle.store_report.specs.ObjectRows.{HoldSame}
use Rattle.store_report.specs.RowFields.{DoFall}

pub returns-then-do_rise-clause-same : goal.returns-then-do_rise-clause-same
returns-then-do_rise-clause-same c =
    let given = c.args.fields.items in
    let sorted = c.in_ok-sorted.sorted.items in
    let kept = c.dedup_by.new.self.items in
    let once : kept ≡ dedup entry_eq sorted = dedup_same _ entry_eq _ (λ x y b k x' y' called. search rules) sorted kept c.dedup_by.ensures.filtered in
    subst (λ es. HoldSame es given) (sym c.from_entries.ensures) (ordered_same given sorted kept c.in_ok-sorted.ensures.same once)

pub returns-clause-same : goal.returns-clause-same
returns-clause-same c =
    let sorted = c.in_ok-sorted.sorted.items in
    let kept = c.dedup_by.new.self.items in
    let once : kept ≡ dedup entry_eq sorted = dedup_same _ entry_eq _ (λ x y b k x' y' called. search rules) sorted kept c.dedup_by.ensures.filtered in
    ordered_same c.args.fields.items sorted kept c.in_ok-sorted.ensures.same once

pub returns-clause-order : goal.returns-clause-order
returns-clause-order c =
    let sorted = c.in_ok-sorted.sorted.items in
    let kept = c.dedup_by.new.self.items in
    let once : kept ≡ dedup entry_eq sorted = dedup_same _ entry_eq _ (λ x y b k x' y' called. search rules) sorted kept c.dedup_by.ensures.filtered in
    let up : IsSorted entry_cmp sorted = c.in_ok-sorted.ensures.order in
    let apart : AreApart kept = subst AreApart (sym once) (once_apart sorted up) in
    let seen : c.deref.result.now ≡ kept = search rules in
    torn_where kept apart (subst DoFall seen (c.do_rise.ensures.fall (search rules)))
