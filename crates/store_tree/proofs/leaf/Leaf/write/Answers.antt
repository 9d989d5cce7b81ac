use Rattle.std.proofs.Common.{◌≡◌, ◌<◌, ◌+◌, length, get_or, set, ap, ◌∙◌, length-set, arith}
use Rattle.std.proofs.lemmas.List.{get_or_default}
use Rattle.std.specs.Prelude.{Ok, Err, insert}
use Rattle.std.specs.FinMap.{put}
use Rattle.std.specs.Vec.{vec_len}
use Rattle.store_tree.specs.KeyOrder.{key_cmp}
use Rattle.store_tree.specs.Place.{IsPlace}
use Rattle.store_tree.proofs.Places.{set-at, insert-at}
use Rattle.store_tree.proofs.leaf.Leaf.write.Goals as goal

pub returns-in-Ok : goal.returns-in-Ok
returns-in-Ok g c =
    let pairs = c.args.self.now in
    let at = c.in-Ok.at in
    let item = c.args.item in
    let place : IsPlace item.0 pairs (Ok at) = rw c.key.ensures at c.in-Ok.ensures in
    let within : at < length pairs = place.0 in
    let e = get_or pairs at item in
    let made : set pairs at item ≡ put key_cmp item.0 item.1 pairs = set-at pairs item.0 c.requires.in_order at e within (get_or_default pairs at item e within) item.1 place in
    rw c.self.view_is (made, (omega (arith, length-set pairs at item), omega (arith, length-set pairs at item)))

pub returns : goal.returns
returns g c =
    let pairs = c.self.inside.items.items in
    let at = c.in-Err.at in
    let item = c.args.item in
    let place : IsPlace item.0 c.args.self.now (Err at) = rw c.key.ensures at c.in-Err.ensures in
    let placed : c.insert.new.self.items ≡ insert pairs at item = rw c.in_default.is at c.insert.ensures.items in
    let longer : vec_len c.insert.new.self ≡ vec_len c.self.inside.items + 1 = rw c.in_default.is at c.insert.ensures.len in
    (placed ∙ ap (λ ps. insert ps at item) c.self.view_is ∙ insert-at c.args.self.now item.0 at place item.1, (omega arith, omega arith))
