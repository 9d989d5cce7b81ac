use Rattle.std.proofs.Common.{◌∷◌, [], false, refl, ap}
use Rattle.std.proofs.lemmas.Result.{err_from_is_err_and}
use Rattle.gql_syntax.specs.gql_ast.declared.document.Fragment.{Fragment}
use Rattle.gql_parse.specs.Machine.{of_fragment, on_fragment, fragment_begun, fragment_on, in_directives}
use Rattle.gql_parse.specs.Reads.{MaySet, before_set}
use Rattle.gql_syntax.specs.Answers.{node_count}
use Rattle.gql_syntax.specs.Machine.{further}
use Rattle.gql_syntax.specs.Reads.{Anywhere}
use Rattle.gql_syntax.specs.Spelling.{spell_directives}
use Rattle.gql_syntax.specs.Texts.{nesting_limit}
use Rattle.gql_syntax.specs.Words.{on_word}
use Rattle.gql_parse.proofs.Heads.{titled_of, fragment_condition_missed, fragment_type_missed}
use Rattle.gql_parse.proofs.Members.{set_closed}
use Rattle.gql_parse.proofs.Passing.{at_start, pass-name, pass-part, pass-directives, all_read, fails_in, fails_missed, fails_directives}
use Rattle.gql_parse.proofs.definitions.read_fragment.Goals as goal

pub returns-in_err-name : goal.returns-in_err-name
returns-in_err-name c =
    let e = err_from_is_err_and c.from_residual.result c.from_residual.ensures.1 in
    let p0 = at_start Anywhere fragment_begun c.args.cursor.now in
    record { reads = rw (e.1, e.2) (fails_in p0 Anywhere fragment_begun (λ ws. ws) (λ ws. refl) (λ ws m. tt) c.in_err-name.field-0.0 c.in_err-name.ensures.reads) }

pub returns-in_err-expect_word : goal.returns-in_err-expect_word
returns-in_err-expect_word c =
    let e = err_from_is_err_and c.from_residual-in_err-expect_word.result c.from_residual-in_err-expect_word.ensures.1 in
    let p0 = at_start Anywhere fragment_begun c.args.cursor.now in
    let n = c.in_ok-name.name in
    let p1 = pass-part p0 c.in_ok-name.ensures.reads (λ ws. ws) (λ ws. refl) (λ ws m. tt) in
    record { reads = rw (e.1, e.2) (fails_missed p1 c.in_err-expect_word.field-0.0 _ c.in_err-expect_word.ensures.fault (λ ws size m x. fragment_condition_missed size ws n c.read_fragment_name.new.cursor.source x)) }

pub returns-in_err-on : goal.returns-in_err-on
returns-in_err-on c =
    let e = err_from_is_err_and c.from_residual-in_err-on.result c.from_residual-in_err-on.ensures.1 in
    let p0 = at_start Anywhere fragment_begun c.args.cursor.now in
    let n = c.in_ok-name.name in
    let p1 = pass-part p0 c.in_ok-name.ensures.reads (λ ws. ws) (λ ws. refl) (λ ws m. tt) in
    let p2 = pass-name p1 on_word (λ ws. fragment_on ws n) 0 c.expect_word.new.cursor c.in_ok-expect_word.ensures.found c.in_ok-expect_word.ensures.source c.in_ok-expect_word.ensures.places c.expect_word.ensures.same (λ ws. refl) in
    record { reads = rw (e.1, e.2) (fails_missed p2 c.in_err-on.field-0.0 _ c.in_err-on.ensures.fault (λ ws size m x. fragment_type_missed size ws n c.expect_word.new.cursor.source x)) }

pub returns-in_err-directives : goal.returns-in_err-directives
returns-in_err-directives c =
    let e = err_from_is_err_and c.from_residual-in_err-directives.result c.from_residual-in_err-directives.ensures.1 in
    let p0 = at_start Anywhere fragment_begun c.args.cursor.now in
    let n = c.in_ok-name.name in
    let p1 = pass-part p0 c.in_ok-name.ensures.reads (λ ws. ws) (λ ws. refl) (λ ws m. tt) in
    let p2 = pass-name p1 on_word (λ ws. fragment_on ws n) 0 c.expect_word.new.cursor c.in_ok-expect_word.ensures.found c.in_ok-expect_word.ensures.source c.in_ok-expect_word.ensures.places c.expect_word.ensures.same (λ ws. refl) in
    let o = c.in_ok-on.on in
    let p3 = pass-name p2 o (λ ws. in_directives (further false [] (on_fragment (titled_of n o ws)))) 1 c.read_name.new.cursor c.in_ok-on.ensures.name c.in_ok-on.ensures.source c.in_ok-on.ensures.places c.read_name.ensures.same (λ ws. refl) in
    record { reads = rw (e.1, e.2) (fails_directives p3 false (λ ws. on_fragment (titled_of n o ws)) c.in_err-directives.field-0.0 c.in_err-directives.ensures.reads (λ ws. refl)) }

pub returns-in_err-selections : goal.returns-in_err-selections
returns-in_err-selections c =
    let e = err_from_is_err_and c.from_residual-in_err-selections.result c.from_residual-in_err-selections.ensures.1 in
    let p0 = at_start Anywhere fragment_begun c.args.cursor.now in
    let n = c.in_ok-name.name in
    let p1 = pass-part p0 c.in_ok-name.ensures.reads (λ ws. ws) (λ ws. refl) (λ ws m. tt) in
    let p2 = pass-name p1 on_word (λ ws. fragment_on ws n) 0 c.expect_word.new.cursor c.in_ok-expect_word.ensures.found c.in_ok-expect_word.ensures.source c.in_ok-expect_word.ensures.places c.expect_word.ensures.same (λ ws. refl) in
    let o = c.in_ok-on.on in
    let p3 = pass-name p2 o (λ ws. in_directives (further false [] (on_fragment (titled_of n o ws)))) 1 c.read_name.new.cursor c.in_ok-on.ensures.name c.in_ok-on.ensures.source c.in_ok-on.ensures.places c.read_name.ensures.same (λ ws. refl) in
    let ds = c.in_ok-directives.directives in
    let p4 = pass-directives p3 false (λ ws. on_fragment (titled_of n o ws)) ds c.read_directives.new.cursor c.in_ok-directives.ensures.reads c.in_ok-directives.ensures.places c.in_ok-directives.ensures.taken c.in_ok-directives.ensures.same (λ ws. refl) in
    record { reads = rw (e.1, e.2) (fails_in p4 (MaySet nesting_limit) (before_set nesting_limit) (λ ws. of_fragment (titled_of n o ws) ds) (λ ws. refl) (λ ws m. (refl, c.in_ok-directives.ensures.last)) c.in_err-selections.field-0.0 c.in_err-selections.ensures.reads) }

pub returns : goal.returns
returns c =
    let p0 = at_start Anywhere fragment_begun c.args.cursor.now in
    let n = c.in_ok-name.name in
    let p1 = pass-part p0 c.in_ok-name.ensures.reads (λ ws. ws) (λ ws. refl) (λ ws m. tt) in
    let p2 = pass-name p1 on_word (λ ws. fragment_on ws n) 0 c.expect_word.new.cursor c.in_ok-expect_word.ensures.found c.in_ok-expect_word.ensures.source c.in_ok-expect_word.ensures.places c.expect_word.ensures.same (λ ws. refl) in
    let o = c.in_ok-on.on in
    let p3 = pass-name p2 o (λ ws. in_directives (further false [] (on_fragment (titled_of n o ws)))) 1 c.read_name.new.cursor c.in_ok-on.ensures.name c.in_ok-on.ensures.source c.in_ok-on.ensures.places c.read_name.ensures.same (λ ws. refl) in
    let ds = c.in_ok-directives.directives in
    let p4 = pass-directives p3 false (λ ws. on_fragment (titled_of n o ws)) ds c.read_directives.new.cursor c.in_ok-directives.ensures.reads c.in_ok-directives.ensures.places c.in_ok-directives.ensures.taken c.in_ok-directives.ensures.same (λ ws. refl) in
    let s = c.in_ok-selections.selections in
    let f : Fragment = record { name = n; on = o; directives = ds; selections = s } in
    record {
      reads = all_read (pass-part p4 c.in_ok-selections.ensures.reads (λ ws. of_fragment (titled_of n o ws) ds) (λ ws. refl) (λ ws m. (refl, c.in_ok-directives.ensures.last))) f refl (λ ws. refl)
          (λ ns. ap (λ r. 1 ∷ 0 ∷ 1 ∷ spell_directives node_count ds r) (set_closed s ns c.in_ok-selections.ensures.some));
    }
