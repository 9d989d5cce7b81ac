use Rattle.std.proofs.Common.{◌≡◌, ◌+◌, ◌-◌, drop, ap, ◌∙◌, refl, arith}
use Rattle.std.proofs.lemmas.List.{take_rest}
use Rattle.gql_lex.specs.Values.{escaped_len, escape_char}
use Rattle.gql_lex.proofs.Texts.{escaped_from}
use Rattle.gql_lex.proofs.text_values.unescape.Goals as goal

pub escape_char-requires : goal.escape_char-requires
escape_char-requires c =
    let p = escaped_from c.args.bytes.now c.args.at (escaped_len (drop (c.args.at + 1) c.args.bytes.now)) refl c.requires.rest c.requires.within c.requires.escape in
    rw take_rest p.ok

pub returns : goal.returns
returns c =
    let n = c.escaped_len.ensures ∙ ap (λ bs. escaped_len bs) (take_rest c.args.bytes.now (c.args.at + 1)) in
    let d = c.escape_char.ensures ∙ ap (λ bs. escape_char bs) (take_rest c.args.bytes.now (c.args.at + 1)) in
    let p = escaped_from c.args.bytes.now c.args.at c.escaped_len.result n c.requires.rest c.requires.within c.requires.escape in
    let i : c.args.at + (1 + c.escaped_len.result) - 1 ≡ c.args.at + c.escaped_len.result = omega arith in
    record { within = (omega arith, p.within); rest = p.rest; ascii = rw i p.last; value = rw d p.value }
