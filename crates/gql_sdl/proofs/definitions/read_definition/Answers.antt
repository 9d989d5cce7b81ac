use Rattle.std.proofs.Common.{◌≡◌, true, false, ap, arith}
use Rattle.gql_syntax.specs.Nexts.{next_is_text, token_count}
use Rattle.gql_sdl.proofs.InputReads.{behind-count}
use Rattle.gql_sdl.proofs.DefinitionReads.{plain-definition, described-definition, fewer-behind}
use Rattle.gql_sdl.proofs.definitions.read_definition.Goals as goal

pub returns-clause-reads : goal.returns-clause-reads
returns-clause-reads c =
    let n : next_is_text c.args.cursor.now.source ≡ false = cc in
    plain-definition c.args.nodes c.args.cursor.now c.read_described-2.new.cursor c.read_described-2.result n c.read_described-2.ensures.reads

pub returns-then-next_is_text-clause-reads : goal.returns-then-next_is_text-clause-reads
returns-then-next_is_text-clause-reads c =
    let n : next_is_text c.args.cursor.now.source ≡ true = cc in
    described-definition c.args.nodes c.args.cursor.now c.skip.new.self c.read_described.new.cursor c.read_described.result n c.in_ok-skip.ensures.source c.in_ok-skip.ensures.places c.skip.ensures.same
    c.read_described.ensures.reads

pub returns-then-next_is_text-clause-taken : goal.returns-then-next_is_text-clause-taken
returns-then-next_is_text-clause-taken c =
    fewer-behind c.read_described.result (token_count c.read_described.new.cursor.source) (token_count c.skip.new.self.source) (token_count c.args.cursor.now.source) c.read_described.ensures.taken
    (omega (arith, ap token_count c.in_ok-skip.ensures.source, behind-count c.args.cursor.now.source))
