use Rattle.std.proofs.Common.{◌≡◌, length, refl, true, false, bytes_eq, arith}
use Rattle.std.proofs.lemmas.Grind.{common_steps}
use Rattle.gql_lex.specs.Toks as tok
use Rattle.gql_syntax.specs.Machine.{word_value}
use Rattle.gql_syntax.specs.Words.{true_word, false_word, null_word}
use Rattle.gql_syntax.proofs.ValueMoves.{scalar, word_true, word_false, word_null, word_enum}
use Rattle.gql_syntax.proofs.values.read_word.Goals as goal

pub returns-then-eq-clause-reads : goal.returns-then-eq-clause-reads
returns-then-eq-clause-reads c =
    let e : bytes_eq c.args.word.now true_word ≡ true = grind (arith, common_steps) in
    λ b r p. scalar (length c.args.cursor.now.text) b c.args.cursor.now.source r p (word_value c.args.word.now) _
    (tok.name c.args.word.now) _ c.requires refl (word_true c.args.word.now e) c.in_ok-skip.ensures.source

pub returns-then-eq-2-clause-reads : goal.returns-then-eq-2-clause-reads
returns-then-eq-2-clause-reads c =
    let e : bytes_eq c.args.word.now true_word ≡ false = grind (arith, common_steps) in
    let f : bytes_eq c.args.word.now false_word ≡ true = grind (arith, common_steps) in
    λ b r p. scalar (length c.args.cursor.now.text) b c.args.cursor.now.source r p (word_value c.args.word.now) _
    (tok.name c.args.word.now) _ c.requires refl (word_false c.args.word.now e f) c.in_ok-skip-2.ensures.source

pub returns-then-eq-3-clause-reads : goal.returns-then-eq-3-clause-reads
returns-then-eq-3-clause-reads c =
    let e : bytes_eq c.args.word.now true_word ≡ false = grind (arith, common_steps) in
    let f : bytes_eq c.args.word.now false_word ≡ false = grind (arith, common_steps) in
    let g : bytes_eq c.args.word.now null_word ≡ true = grind (arith, common_steps) in
    λ b r p. scalar (length c.args.cursor.now.text) b c.args.cursor.now.source r p (word_value c.args.word.now) _
    (tok.name c.args.word.now) _ c.requires refl (word_null c.args.word.now e f g) c.in_ok-skip-3.ensures.source

pub returns-clause-reads : goal.returns-clause-reads
returns-clause-reads c =
    let e : bytes_eq c.args.word.now true_word ≡ false = grind (arith, common_steps) in
    let f : bytes_eq c.args.word.now false_word ≡ false = grind (arith, common_steps) in
    let g : bytes_eq c.args.word.now null_word ≡ false = grind (arith, common_steps) in
    λ b r p. scalar (length c.args.cursor.now.text) b c.args.cursor.now.source r p (word_value c.args.word.now) _
    (tok.name c.args.word.now) _ c.requires refl (word_enum _ c.args.word.now c.in_ok-name.ensures e f g) c.in_ok-skip-4.ensures.source
