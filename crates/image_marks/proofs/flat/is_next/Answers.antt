use Rattle.std.proofs.Common.{◌≡◌, ◌-◌, length, Some, option_copied, sym, ap, ◌∙◌}
use Rattle.std.specs.Cmp.Lexicographic.{slice_cmp}
use Rattle.std.specs.List.{slice_get}
use Rattle.std.specs.Ordering.{nat_cmp, is_lt}
use Rattle.image_marks.proofs.LastKeys.{next_by_last, after_shown}
use Rattle.image_marks.specs.Flat.{is_next}
use Rattle.image_marks.proofs.flat.is_next.Goals as goal

-- what is found is whether the key is next
is : (c : goal.After-key-in-Some-1) → c.lt.result ≡ is_next c.args.pairs.now c.args.key.now
is c =
    let es = c.pairs.inside.entries.items in
    let got : slice_get es (length es - 1) ≡ Some c.in-Some.field-0.now =
    sym (ap (λ xs. slice_get xs (length xs - 1)) c.deref.ensures.value) ∙ sym c.last.ensures.value ∙ ap option_copied c.in-Some.is in
    c.lt.ensures ∙ ap (λ t. is_lt (slice_cmp nat_cmp t c.args.key.now)) c.as_str.ensures
    ∙ sym (next_by_last es c.in-Some.field-0.now c.args.key.now got) ∙ ap (λ ms. is_next ms c.args.key.now) c.pairs.view_is

pub returns-in-Some-clause-is : goal.returns-in-Some-clause-is
returns-in-Some-clause-is c = is c

pub returns-in-Some-clause-after : goal.returns-in-Some-clause-after
returns-in-Some-clause-after c h = after_shown c.pairs.inside.entries.items c.args.pairs.now c.args.key.now c.pairs.view_is c.pairs.invariant (sym (is c) ∙ h)
