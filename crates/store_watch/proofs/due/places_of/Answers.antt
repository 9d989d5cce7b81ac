use Rattle.std.proofs.Common.{◌≡◌, true, true≢false, get_or, sym, ◌∙◌}
use Rattle.store_watch.proofs.Found.{places_step, places_end}
use Rattle.store_watch.proofs.Held.{item_is}
use Rattle.store_watch.specs.Numbers.{has, number_at}
use Rattle.store_watch.specs.Rows.{seen_of}
use Rattle.store_watch.proofs.due.places_of.Goals as goal

pub numbers-init : goal.numbers-init
numbers-init c = λ place lt h none. absurd (true≢false (sym h ∙ none))

pub numbers-preserved : goal.numbers-preserved
numbers-preserved c = λ place lt h none.
    let ns = c.args.numbers.now in
    let at = c.numbers.number-index in
    places_step ns at (get_or ns at 0) (number_at (seen_of c.args.rows.now) place) (has c.put_place.new.places.items place ≡ true) c.numbers-test.true (item_is ns at 0 c.numbers-test.true)
    (λ is. c.in_ok-put_place.ensures.put place lt is) (λ left. c.in_ok-put_place.ensures.keeps place (c.numbers.invariant place lt h left)) none

pub returns : goal.returns
returns c = λ place lt h. c.numbers.invariant place lt h (places_end c.args.numbers.now c.numbers.number-index (number_at (seen_of c.args.rows.now) place) c.numbers-test.false)
