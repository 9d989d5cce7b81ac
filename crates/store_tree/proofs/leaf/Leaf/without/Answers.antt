use Rattle.std.proofs.Common.{◌≡◌, ◌<◌, length, get_or, ◌∙◌, subst}
use Rattle.std.specs.Prelude.{IfOk, remove}
use Rattle.store_tree.proofs.Places.{remove-at, without-absent}
use Rattle.store_tree.proofs.leaf.Leaf.without.Goals as goal

pub returns-in_ok-rest-in-Ok : goal.returns-in_ok-rest-in-Ok
returns-in_ok-rest-in-Ok g c =
    let pairs = c.args.self.now in
    let at = c.in-Ok.at in
    let e = c.remove.result in
    let copied : c.in_ok-rest-in-Ok.rest ≡ pairs = cc c.in_ok-rest-in-Ok.ensures in
    let within : at < length pairs = c.in-Ok.ensures.0 in
    let made : c.remove.new.self.items ≡ remove pairs at = cc in
    let read : e ≡ get_or pairs at e = cc in
    made ∙ remove-at pairs c.args.key.now c.requires.in_order at e within read c.in-Ok.ensures

pub returns-in-Err : goal.returns-in-Err
returns-in-Err g c =
    subst (λ ps. IfOk c.copy-in-Err.result (λ l. l ≡ ps))
    (without-absent c.args.self.now c.args.key.now c.in-Err.field-0 c.in-Err.ensures) c.copy-in-Err.ensures
