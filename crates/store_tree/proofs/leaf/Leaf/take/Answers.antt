use Rattle.std.proofs.Common.{◌≡◌, ◌<◌, length, get_or, ◌∙◌}
use Rattle.std.specs.Prelude.{remove}
use Rattle.store_tree.proofs.Places.{remove-at, without-absent}
use Rattle.store_tree.proofs.leaf.Leaf.take.Goals as goal

pub returns-in-Ok : goal.returns-in-Ok
returns-in-Ok g c =
    let pairs = c.args.self.now in
    let at = c.in-Ok.at in
    let e = c.remove.result in
    let within : at < length pairs = c.in-Ok.ensures.0 in
    let made : c.remove.new.self.items ≡ remove pairs at = cc in
    let read : e ≡ get_or pairs at e = cc in
    made ∙ remove-at pairs c.args.key.now c.requires.in_order at e within read c.in-Ok.ensures

pub returns-in-Err : goal.returns-in-Err
returns-in-Err g c = without-absent c.args.self.now c.args.key.now c.in-Err.field-0 c.in-Err.ensures
