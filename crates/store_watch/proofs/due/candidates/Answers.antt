use Rattle.std.proofs.Common.{◌≡◌, true, sym, ap, subst, ◌∙◌, arith}
use Rattle.std.proofs.lemmas.Result.{IfOk-weaker}
use Rattle.store_watch.proofs.Found.{complete_has, passes_within}
use Rattle.store_watch.specs.Lists.{under}
use Rattle.store_watch.specs.Numbers.{has, number_at}
use Rattle.store_watch.specs.Rows.{met_by, seen_of}
use Rattle.store_watch.proofs.due.candidates.Goals as goal

pub returns-then-all : goal.returns-then-all
returns-then-all c =
    IfOk-weaker c.all_places.result _ _ (λ v all place h. all place (passes_within (met_by c.args.touched.now) c.args.rows.now place h)) c.all_places.ensures

pub returns : goal.returns
returns c =
    let rows = c.args.rows.now in
    IfOk-weaker c.places_of.result _ _ (λ v all place h. all place (passes_within (met_by c.args.touched.now) rows place h)
    (subst (λ ns. has ns (number_at (seen_of rows) place) ≡ true) (sym (c.deref.ensures.value ∙ c.in_ok-numbers.ensures))
    (complete_has (under c.args.index.now.lists) c.args.late.now c.args.touched.now rows (c.requires.complete c.if-all.false) place h))) c.places_of.ensures
