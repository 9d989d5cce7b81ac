use Rattle.std.proofs.Common.{◌≡◌, true, false}
use Rattle.gql_syntax.specs.Nexts.{next_is}
use Rattle.gql_sdl.proofs.ListReads.{locations-led-reads, locations-unled-reads}
use Rattle.gql_sdl.proofs.lists.read_locations.Goals as goal

pub returns : goal.returns
returns c =
    let n : next_is 124 c.args.cursor.now.source ≡ false = cc in
    record { reads = locations-unled-reads c.args.cursor.now c.read_led_locations-2.new.cursor c.read_led_locations-2.result n c.read_led_locations-2.ensures.reads }

pub returns-then-next_is : goal.returns-then-next_is
returns-then-next_is c =
    let n : next_is 124 c.args.cursor.now.source ≡ true = cc in
    record {
      reads = locations-led-reads c.args.cursor.now c.skip.new.self c.read_led_locations.new.cursor c.read_led_locations.result n c.in_ok-skip.ensures.source c.in_ok-skip.ensures.places c.skip.ensures.same
          c.read_led_locations.ensures.reads c.read_led_locations.ensures.some;
    }
