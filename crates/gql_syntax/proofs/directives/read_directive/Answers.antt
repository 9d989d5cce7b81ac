use Rattle.std.proofs.Common.{◌≡◌, ◌∷◌, length, sym, ap, ◌∙◌, subst, Ok, arith}
use Rattle.std.proofs.lemmas.Result.{err_from_is_err_and}
use Rattle.gql_syntax.specs.Answers.{Tells, call_read, node_count}
use Rattle.gql_syntax.specs.Machine.{at_name, applied}
use Rattle.gql_syntax.specs.Nexts.{token_count}
use Rattle.gql_syntax.specs.Parts.{goes}
use Rattle.gql_syntax.specs.Spelling.{spell_arguments}
use Rattle.gql_syntax.specs.Steps.{directives_on}
use Rattle.gql_syntax.proofs.DirectiveMoves.{directive_begins, names_directive, call_read_ok, call_fault}
use Rattle.gql_syntax.proofs.Tokens.{behind_fewer, taken_fewer}
use Rattle.gql_syntax.proofs.ValueMoves.{tells_by}
use Rattle.gql_syntax.proofs.directives.read_directive.Goals as goal

pub returns-in_err-arguments-clause-reads : goal.returns-in_err-arguments-clause-reads
returns-in_err-arguments-clause-reads c =
    let size = length c.args.cursor.now.text in
    let n = c.in_ok-name.name in
    let e = err_from_is_err_and c.from_residual-in_err-arguments.result c.from_residual-in_err-arguments.ensures.1 in
    let text : c.read_name.new.cursor.text ≡ c.args.cursor.now.text = c.read_name.ensures.same ∙ c.skip.ensures.same in
    λ ds. rw (e.1, e.2) (tells_by c.in_err-arguments.field-0.0 _ _
    (directive_begins size c.args.constant ds c.args.cursor.now.source c.requires
    ∙ ap (λ s. directives_on size (goes (at_name c.args.constant ds tt)) s) (sym c.in_ok-skip.ensures.source)
    ∙ names_directive size c.args.constant ds c.skip.new.self.source n c.in_ok-name.ensures.name
    ∙ ap (λ s. directives_on size (goes (applied (record { constant = c.args.constant; before = ds; name = n; on = tt }))) s) (sym c.in_ok-name.ensures.source))
    (call_fault size (record { constant = c.args.constant; before = ds; name = n; on = tt }) c.read_name.new.cursor.source c.in_err-arguments.field-0.0
    (subst (λ k. Tells c.in_err-arguments.field-0.0 (call_read c.args.constant k c.read_name.new.cursor.source)) (ap length text) c.in_err-arguments.ensures.reads)))

pub returns-clause-reads : goal.returns-clause-reads
returns-clause-reads c =
    let size = length c.args.cursor.now.text in
    let n = c.in_ok-name.name in
    let text : c.read_name.new.cursor.text ≡ c.args.cursor.now.text = c.read_name.ensures.same ∙ c.skip.ensures.same in
    λ ds. directive_begins size c.args.constant ds c.args.cursor.now.source c.requires
    ∙ ap (λ s. directives_on size (goes (at_name c.args.constant ds tt)) s) (sym c.in_ok-skip.ensures.source)
    ∙ names_directive size c.args.constant ds c.skip.new.self.source n c.in_ok-name.ensures.name
    ∙ ap (λ s. directives_on size (goes (applied (record { constant = c.args.constant; before = ds; name = n; on = tt }))) s) (sym c.in_ok-name.ensures.source)
    ∙ call_read_ok size (record { constant = c.args.constant; before = ds; name = n; on = tt }) c.read_name.new.cursor.source c.in_ok-arguments.arguments c.read_call.new.cursor.source
    (subst (λ k. call_read c.args.constant k c.read_name.new.cursor.source ≡ Ok (c.in_ok-arguments.arguments, c.read_call.new.cursor.source)) (ap length text) c.in_ok-arguments.ensures.reads)

pub returns-clause-places : goal.returns-clause-places
returns-clause-places c =
    λ ns. c.in_ok-skip.ensures.places (1 ∷ spell_arguments node_count c.in_ok-arguments.arguments ns)
    ∙ c.in_ok-name.ensures.places (spell_arguments node_count c.in_ok-arguments.arguments ns) ∙ c.in_ok-arguments.ensures.places ns

pub returns-clause-taken : goal.returns-clause-taken
returns-clause-taken c =
    omega (
      arith,
      taken_fewer 64 c.args.cursor.now.source c.requires,
      ap token_count c.in_ok-skip.ensures.source,
      behind_fewer c.skip.new.self.source,
      ap token_count c.in_ok-name.ensures.source,
      c.in_ok-arguments.ensures.taken,
    )
