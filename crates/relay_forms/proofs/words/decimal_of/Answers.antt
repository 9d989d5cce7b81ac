use Rattle.std.proofs.Common.{rules, ◌+◌, ◌-◌, ◌*◌, ◌<◌, ◌≤◌, ◌^◌, length, get_or, ◌∙◌, arith}
use Rattle.relay_forms.proofs.Decimals.{none_behind, some_behind}
use Rattle.relay_forms.proofs.words.decimal_of.Goals as goal

pub returns-in_err-checked_mul : goal.returns-in_err-checked_mul
returns-in_err-checked_mul c =
    let low : c.digits.digit-index < length c.args.digits.now = omega (arith, c.digits-test.true) in
    let few : c.digits.number * 10 < 2 ^ 64 → ⊥ = c.in_err-checked_mul.ensures in
    let above : 2 ^ 64 ≤ c.digits.number * 10 = omega (arith, few) in
    c.from_residual.ensures ∙ none_behind c.args.digits.now c.digits.digit-index c.digits.number low (omega (arith, above)) c.digits.invariant.so_far

pub returns-in_err-number : goal.returns-in_err-number
returns-in_err-number c =
    let low : c.digits.digit-index < length c.args.digits.now = omega (arith, c.digits-test.true) in
    let few : c.digits.number * 10 + (get_or c.args.digits.now c.digits.digit-index 0 - 48) < 2 ^ 64 → ⊥ = search rules in
    let above : 2 ^ 64 ≤ c.digits.number * 10 + (get_or c.args.digits.now c.digits.digit-index 0 - 48) = omega (arith, few) in
    c.from_residual-in_err-number.ensures ∙ none_behind c.args.digits.now c.digits.digit-index c.digits.number low (omega (arith, above)) c.digits.invariant.so_far

pub returns : goal.returns
returns c =
    let end : length c.args.digits.now ≤ c.digits.digit-index = omega (arith, c.digits-test.false) in
    some_behind c.args.digits.now c.digits.digit-index c.digits.number end c.digits.invariant.fits c.digits.invariant.so_far
