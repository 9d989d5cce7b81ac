use Rattle.std.proofs.Common.{ap, ◌∙◌}
use Rattle.std.proofs.lemmas.List.{take_rest}
use Rattle.gql_lex.specs.Heads.{head}
use Rattle.gql_lex.proofs.Extents.{head-sound_at}
use Rattle.gql_lex.proofs.heads.head.Goals as goal

pub returns-clause-sound : goal.returns-clause-sound
returns-clause-sound c =
    let e = c.head_of.ensures ∙ ap (λ bs. head bs) (take_rest c.args.bytes.now c.args.at) in
    rw e (head-sound_at c.args.bytes.now c.args.at c.requires)
