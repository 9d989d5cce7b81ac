use Rattle.std.proofs.Common.{◌≡◌, true, false}
use Rattle.gql_syntax.specs.Nexts.{next_is}
use Rattle.gql_sdl.proofs.ListReads.{names-led-reads, names-unled-reads}
use Rattle.gql_sdl.proofs.lists.read_names.Goals as goal

pub returns-clause-reads : goal.returns-clause-reads
returns-clause-reads c =
    let n : next_is c.args.separator c.args.cursor.now.source ≡ false = cc in
    names-unled-reads c.args.separator c.args.cursor.now c.read_led_names-2.new.cursor c.read_led_names-2.result n c.read_led_names-2.ensures.reads

pub returns-then-next_is-clause-reads : goal.returns-then-next_is-clause-reads
returns-then-next_is-clause-reads c =
    let n : next_is c.args.separator c.args.cursor.now.source ≡ true = cc in
    names-led-reads c.args.separator c.args.cursor.now c.skip.new.self c.read_led_names.new.cursor c.read_led_names.result n c.in_ok-skip.ensures.source c.in_ok-skip.ensures.places c.skip.ensures.same
    c.read_led_names.ensures.reads c.read_led_names.ensures.some
