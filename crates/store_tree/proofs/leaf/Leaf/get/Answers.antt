use Rattle.std.proofs.Common.{◌≡◌, ◌<◌, length, get_or, sym}
use Rattle.store_tree.proofs.Places.{found-at, absent}
use Rattle.store_tree.proofs.leaf.Leaf.get.Goals as goal

pub returns-in-Ok : goal.returns-in-Ok
returns-in-Ok g c =
    let e = c.index.result.now in
    let within : c.in-Ok.at < length c.args.self.now = c.in-Ok.ensures.0 in
    let read : e ≡ get_or c.args.self.now c.in-Ok.at e = cc in
    cc (found-at c.args.self.now c.args.key.now c.requires.in_order c.in-Ok.at e within read c.in-Ok.ensures)

pub returns-in-Err : goal.returns-in-Err
returns-in-Err g c = sym (absent c.args.self.now c.args.key.now c.in-Err.field-0 c.in-Err.ensures)
