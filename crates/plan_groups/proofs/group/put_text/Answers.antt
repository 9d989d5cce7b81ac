-- The text is there, or it goes to the place that the search found.
use Rattle.std.proofs.Common.{◌≡◌, ◌<◌, length, get_or, Equal, nat_cmp, rules, sym, ap, subst, ◌∙◌}
use Rattle.std.proofs.lemmas.Fn.{always_returns_same}
use Rattle.std.specs.Cmp.Lexicographic.{slice_cmp}
use Rattle.std.specs.List.{insert}
use Rattle.plan_ir.specs.gql_plain.Order.{with_text, AreInOrder}
use Rattle.plan_groups.proofs.TextSteps.{with_text-found, with_text-searched}
use Rattle.plan_groups.proofs.group.put_text.Goals as goal

pub returns-in-Ok-clause-ok : goal.returns-in-Ok-clause-ok
returns-in-Ok-clause-ok c =
    let ts = c.args.texts.now.items in
    let at = c.in-Ok.field-0 in
    let facts = c.in-Ok.ensures in
    let equal = facts.position (λ t. slice_cmp nat_cmp t c.args.text) (always_returns_same _ _ _ (λ a r g called. (search rules, search rules))) in
    let within : at < length ts = subst (λ xs. at < length xs) c.deref.ensures.value facts.bound in
    let here : slice_cmp nat_cmp (get_or ts at c.args.text) c.args.text ≡ Equal = subst (λ xs. slice_cmp nat_cmp (get_or xs at c.args.text) c.args.text ≡ Equal) c.deref.ensures.value (equal c.args.text) in
    sym (with_text-found c.args.text ts at c.args.text c.requires within here)

pub returns-in_ok-insert-in-Err-clause-ok : goal.returns-in_ok-insert-in-Err-clause-ok
returns-in_ok-insert-in-Err-clause-ok c =
    let ts = c.deref.result.now in
    let facts = c.in-Err.ensures in
    let parted = facts.position (λ t. slice_cmp nat_cmp t c.args.text) (always_returns_same _ _ _ (λ a r g called. (search rules, search rules))) in
    let sorted : AreInOrder ts = rw c.deref.ensures.value c.requires in
    c.in_ok-insert-in-Err.ensures.items
    ∙ ap (λ xs. insert xs c.in-Err.at c.args.text) (sym c.deref.ensures.value)
    ∙ sym (with_text-searched c.args.text ts c.in-Err.at sorted facts.bound parted)
    ∙ ap (with_text c.args.text) c.deref.ensures.value
