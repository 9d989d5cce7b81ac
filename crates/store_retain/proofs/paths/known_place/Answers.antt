-- What stands there is what is sought.
use Rattle.std.proofs.Common.{rules, ◌≡◌, ◌<◌, ◌&&◌, true, length, bytes_eq}
use Rattle.store_retain.proofs.PathSteps.{for_both, made_found}
use Rattle.store_retain.proofs.paths.known_place.Goals as goal

pub returns-then-are_for : goal.returns-then-are_for
returns-then-are_for c =
    let k = c.index-made-place.result in
    let within : c.in_ok-place.field-0.now < length c.args.made.now = search rules in
    let both : (bytes_eq k.object.now c.args.object.now && bytes_eq k.numbers.now c.args.numbers.now) ≡ true = search rules in
    made_found c.args.made.now c.in_ok-place.field-0.now k c.args.object.now c.args.numbers.now within c.index-made-place.is (for_both k c.args.object.now c.args.numbers.now both)
