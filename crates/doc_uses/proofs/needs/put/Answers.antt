-- A use that is there stands before the new one, or after it.
use Rattle.std.proofs.Common.{◌≡◌, List, get_or, ap, sym, subst, ◌∙◌, arith}
use Rattle.doc_uses.specs.Needs.{HasNeed}
use Rattle.doc_uses.specs.declared.uses.Use.{Use}
use Rattle.doc_uses.proofs.NeedSteps.{put_before, put_later, same_at}
use Rattle.doc_uses.proofs.needs.put.Goals as goal

pub returns-then-index-one : goal.returns-then-index-one
returns-then-index-one c =
    let all : List Use = c.args.all.now.items in
    let has : HasNeed all c.args.one.now c.in-Some.at = subst (λ (us : List Use). HasNeed us c.args.one.now c.in-Some.at) c.deref.ensures.value c.in-Some.ensures in
    let is : get_or all c.in-Some.at c.args.one.now ≡ c.index.result.now = same_at all c.in-Some.at c.args.one.now c.index.result.now has.within ∙ sym c.index.ensures in
    put_later all c.args.one.now c.in-Some.at has (omega (arith, ap (λ (u : Use). u.name.at) is, c.if-index-one.true))

pub returns-else-index-one : goal.returns-else-index-one
returns-else-index-one c =
    let all : List Use = c.args.all.now.items in
    let has : HasNeed all c.args.one.now c.in-Some.at = subst (λ (us : List Use). HasNeed us c.args.one.now c.in-Some.at) c.deref.ensures.value c.in-Some.ensures in
    let is : get_or all c.in-Some.at c.args.one.now ≡ c.index.result.now = same_at all c.in-Some.at c.args.one.now c.index.result.now has.within ∙ sym c.index.ensures in
    put_before all c.args.one.now c.in-Some.at has (omega (arith, ap (λ (u : Use). u.name.at) is, c.if-index-one.false))
