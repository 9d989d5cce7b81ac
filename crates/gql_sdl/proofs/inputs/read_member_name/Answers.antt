use Rattle.std.proofs.Common.{◌≡◌, true, false}
use Rattle.gql_syntax.specs.Nexts.{next_is_text}
use Rattle.gql_sdl.proofs.InputReads.{plain-name, described-name}
use Rattle.gql_sdl.proofs.inputs.read_member_name.Goals as goal

pub returns-then-not-next_is_text-clause-reads : goal.returns-then-not-next_is_text-clause-reads
returns-then-not-next_is_text-clause-reads c =
    let e = c.read_name.ensures in
    let n : next_is_text c.args.cursor.now.source ≡ false = cc in
    plain-name c.args.cursor.now c.read_name.new.cursor c.read_name.result n e.name e.source e.places e.same e.fault

pub returns-clause-reads : goal.returns-clause-reads
returns-clause-reads c =
    let e = c.read_name-2.ensures in
    let n : next_is_text c.args.cursor.now.source ≡ true = cc in
    described-name c.args.cursor.now c.skip.new.self c.read_name-2.new.cursor c.read_name-2.result n c.in_ok-skip.ensures.source c.in_ok-skip.ensures.places c.skip.ensures.same
    e.name e.source e.places e.same e.fault
