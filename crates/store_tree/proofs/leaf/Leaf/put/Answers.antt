use Rattle.std.proofs.Common.{◌≡◌, ◌<◌, length, get_or, set, sym, ◌∙◌, length-set, arith}
use Rattle.std.proofs.lemmas.List.{get_or_default}
use Rattle.std.specs.Prelude.{Ok, Err, insert}
use Rattle.std.specs.FinMap.{put}
use Rattle.store_tree.specs.KeyOrder.{key_cmp}
use Rattle.store_tree.specs.Place.{IsPlace}
use Rattle.store_tree.proofs.Places.{set-at, insert-at}
use Rattle.store_tree.proofs.leaf.Leaf.put.Goals as goal

pub returns-in-Ok : goal.returns-in-Ok
returns-in-Ok g c =
    let pairs = c.args.self.now in
    let at = c.in-Ok.at in
    let item = c.args.item in
    let place : IsPlace item.0 pairs (Ok at) = rw c.key.ensures at c.in-Ok.ensures in
    let within : at < length pairs = place.0 in
    let e = get_or pairs at item in
    let made : set pairs at item ≡ put key_cmp item.0 item.1 pairs = set-at pairs item.0 c.requires.in_order at e within (get_or_default pairs at item e within) item.1 place in
    rw c.self.view_is (made, (omega (arith, length-set pairs at item), omega (arith, length-set pairs at item)))

pub returns-then-len-le-MOST : goal.returns-then-len-le-MOST
returns-then-len-le-MOST g c =
    let pairs = c.args.self.now in
    let at = c.in-Err.at in
    let item = c.args.item in
    let place : IsPlace item.0 pairs (Err at) = rw c.key.ensures at c.in-Err.ensures in
    let placed : c.insert.new.self.items ≡ insert pairs at item = cc c.in_ok-insert-in-Err.ensures.items in
    let longer = c.in_ok-insert-in-Err.ensures.len in
    (placed ∙ insert-at pairs item.0 at place item.1, (omega arith, omega arith))

pub returns-in_ok-part-in-Err : goal.returns-in_ok-part-in-Err
returns-in_ok-part-in-Err g c =
    let pairs = c.args.self.now in
    let at = c.in-Err.at in
    let item = c.args.item in
    let place : IsPlace item.0 pairs (Err at) = rw c.key.ensures at c.in-Err.ensures in
    let placed : c.insert.new.self.items ≡ insert pairs at item = cc c.in_ok-insert-in-Err.ensures.items in
    (sym c.in_ok-part-in-Err.ensures.pairs ∙ placed ∙ insert-at pairs item.0 at place item.1, c.in_ok-part-in-Err.ensures.first, c.in_ok-part-in-Err.ensures.later)
