use Rattle.std.proofs.Common.{◌≡◌, ◌≢◌, true, false, bytes_eq, Some, refl, sym, ap, ◌∙◌}
use Rattle.std.proofs.lemmas.Result.{err_from_is_err_and}
use Rattle.std.proofs.lemmas.Slice.Eq.{bytes_eq-Decides}
use Rattle.gql_syntax.specs.Nexts.{next_word}
use Rattle.gql_sdl.specs.Machine.{repeatable_word}
use Rattle.gql_sdl.proofs.ListReads.{no_word_there, no_on, repeatable-no_on, on-read, repeatable-read, not-true, not-false}
use Rattle.gql_sdl.proofs.Spellings.{same_word}
use Rattle.gql_sdl.proofs.lists.read_repeatable.Goals as goal

pub returns-in_default : goal.returns-in_default
returns-in_default c = record { reads = rw c.fault.ensures (no_word_there c.args.cursor.now (c.in_default.ensures.none refl)) }

pub returns-in_err-expect_word : goal.returns-in_err-expect_word
returns-in_err-expect_word c =
    let e = err_from_is_err_and c.from_residual.result c.from_residual.ensures.1 in
    let w = c.in-Some.word.now in
    let other : bytes_eq w repeatable_word ≡ false = not-true (bytes_eq w repeatable_word) c.if-ne.ensures in
    let never : next_word c.args.cursor.now.source ≢ Some repeatable_word =
    λ h. let both : Some w ≡ Some repeatable_word = sym c.in-Some.ensures.some ∙ h in
    let same : w ≡ repeatable_word = cc in
    let t : bytes_eq w repeatable_word ≡ true = (bytes_eq-Decides w repeatable_word).1 same in
    absurd (cc) in
    record { reads = rw (e.1, e.2) (no_on c.args.cursor.now c.in_err-expect_word.field-0.0 never c.in_err-expect_word.ensures.fault) }

pub returns-in_err-expect_word-2 : goal.returns-in_err-expect_word-2
returns-in_err-expect_word-2 c =
    let e = err_from_is_err_and c.from_residual-in_err-expect_word-2.result c.from_residual-in_err-expect_word-2.ensures.1 in
    let w = c.in-Some.word.now in
    let word : w ≡ repeatable_word = same_word w repeatable_word (not-false (bytes_eq w repeatable_word) c.if-ne.ensures) in
    record {
      reads = rw (e.1, e.2) (repeatable-no_on c.args.cursor.now c.skip.new.self c.in_err-expect_word-2.field-0.0 (c.in-Some.ensures.some ∙ ap (λ w. Some w) word)
          c.in_ok-skip.ensures.source c.skip.ensures.same c.in_err-expect_word-2.ensures.fault);
    }

pub returns-then-ne : goal.returns-then-ne
returns-then-ne c = record {
  reads = on-read c.args.cursor.now c.expect_word.new.cursor c.in_ok-expect_word.ensures.found c.in_ok-expect_word.ensures.source c.in_ok-expect_word.ensures.places c.expect_word.ensures.same;
}

pub returns : goal.returns
returns c =
    let w = c.in-Some.word.now in
    let word : w ≡ repeatable_word = same_word w repeatable_word (not-false (bytes_eq w repeatable_word) c.if-ne.ensures) in
    record {
      reads = repeatable-read c.args.cursor.now c.skip.new.self c.expect_word-2.new.cursor (c.in-Some.ensures.some ∙ ap (λ w. Some w) word)
          c.in_ok-skip.ensures.source c.in_ok-skip.ensures.places c.skip.ensures.same
          c.in_ok-expect_word-2.ensures.found c.in_ok-expect_word-2.ensures.source c.in_ok-expect_word-2.ensures.places c.expect_word-2.ensures.same;
    }
