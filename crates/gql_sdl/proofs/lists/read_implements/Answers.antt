use Rattle.std.proofs.Common.{◌≡◌, false, bytes_eq, Some, None, refl, sym, ap, subst, ◌∙◌}
use Rattle.gql_sdl.specs.Machine.{implements_word}
use Rattle.gql_sdl.proofs.ListReads.{implements-absent, implements-reads, not-true, not-false}
use Rattle.gql_sdl.proofs.Spellings.{same_word}
use Rattle.gql_sdl.proofs.lists.read_implements.Goals as goal

pub returns-in_default : goal.returns-in_default
returns-in_default c = record {
  reads = implements-absent c.args.cursor.now c.new.result c.new.ensures (λ m e. let h : None ≡ Some m = sym (c.in_default.ensures.none refl) ∙ e in absurd (cc));
}

pub returns-then-ne : goal.returns-then-ne
returns-then-ne c =
    let came = c.in-Some.ensures.some in
    record {
      reads = implements-absent c.args.cursor.now c.new-then-ne.result c.new-then-ne.ensures (λ m e.
          let both : Some c.in-Some.word.now ≡ Some m = sym came ∙ e in
          let same : c.in-Some.word.now ≡ m = cc in
          subst (λ m. bytes_eq m implements_word ≡ false) same (not-true (bytes_eq c.in-Some.word.now implements_word) c.if-ne.ensures));
    }

pub returns : goal.returns
returns c =
    let word : c.in-Some.word.now ≡ implements_word = same_word c.in-Some.word.now implements_word (not-false (bytes_eq c.in-Some.word.now implements_word) c.if-ne.ensures) in
    record {
      reads = implements-reads c.args.cursor.now c.skip.new.self c.read_names.new.cursor c.read_names.result (c.in-Some.ensures.some ∙ ap (λ w. Some w) word)
          c.in_ok-skip.ensures.source c.in_ok-skip.ensures.places c.skip.ensures.same c.read_names.ensures.reads c.read_names.ensures.some;
    }
