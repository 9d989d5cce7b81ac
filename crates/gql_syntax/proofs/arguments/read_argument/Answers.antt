use Rattle.std.proofs.Common.{◌≡◌, ◌∷◌, length, sym, ap, ◌∙◌, subst, Ok}
use Rattle.gql_ast.specs.ValueView.{value_of}
use Rattle.gql_syntax.specs.Answers.{Tells, node_count}
use Rattle.gql_syntax.specs.Machine.{called, inside, want, outer}
use Rattle.gql_syntax.specs.Parts.{goes, value_read}
use Rattle.gql_syntax.specs.Spelling.{spell_value}
use Rattle.gql_syntax.specs.Steps.{arguments_on}
use Rattle.gql_syntax.proofs.ArgumentMoves.{argument_begins, value_begins, value_read_inside, value_fault_inside}
use Rattle.gql_syntax.proofs.ValueMoves.{tells_by}
use Rattle.std.proofs.lemmas.Result.{err_from_is_err_and}
use Rattle.gql_syntax.proofs.arguments.read_argument.Goals as goal

pub returns-in_err-value-clause-reads : goal.returns-in_err-value-clause-reads
returns-in_err-value-clause-reads c =
    let size = length c.args.cursor.now.text in
    let n = c.in_ok-name.name in
    let e = err_from_is_err_and c.from_residual-in_err-value.result c.from_residual-in_err-value.ensures.1 in
    let text : c.expect.new.cursor.text ≡ c.args.cursor.now.text = c.expect.ensures.same ∙ c.read_name.ensures.same in
    λ xs. rw (e.1, e.2) (tells_by c.in_err-value.field-0.0 _ _
    (argument_begins size c.args.constant xs n c.args.cursor.now.source c.in_ok-name.ensures.name
    ∙ ap (λ s. arguments_on size (goes (called (record { constant = c.args.constant; before = xs; name = n; on = tt }))) s) (sym c.in_ok-name.ensures.source)
    ∙ value_begins size (record { constant = c.args.constant; before = xs; name = n; on = tt }) c.read_name.new.cursor.source c.in_ok-expect.ensures.found
    ∙ ap (λ s. arguments_on size (goes (inside (want c.args.constant 60 (outer (record { constant = c.args.constant; before = xs; name = n; on = tt }))))) s) (sym c.in_ok-expect.ensures.source))
    (value_fault_inside size (record { constant = c.args.constant; before = xs; name = n; on = tt }) c.expect.new.cursor.source c.args.constant 60 c.in_err-value.field-0.0
    (subst (λ k. Tells c.in_err-value.field-0.0 (value_read c.args.constant 60 k c.expect.new.cursor.source)) (ap length text) c.in_err-value.ensures.reads)))

pub returns-clause-reads : goal.returns-clause-reads
returns-clause-reads c =
    let size = length c.args.cursor.now.text in
    let n = c.in_ok-name.name in
    let text : c.expect.new.cursor.text ≡ c.args.cursor.now.text = c.expect.ensures.same ∙ c.read_name.ensures.same in
    λ xs. argument_begins size c.args.constant xs n c.args.cursor.now.source c.in_ok-name.ensures.name
    ∙ ap (λ s. arguments_on size (goes (called (record { constant = c.args.constant; before = xs; name = n; on = tt }))) s) (sym c.in_ok-name.ensures.source)
    ∙ value_begins size (record { constant = c.args.constant; before = xs; name = n; on = tt }) c.read_name.new.cursor.source c.in_ok-expect.ensures.found
    ∙ ap (λ s. arguments_on size (goes (inside (want c.args.constant 60 (outer (record { constant = c.args.constant; before = xs; name = n; on = tt }))))) s) (sym c.in_ok-expect.ensures.source)
    ∙ value_read_inside size (record { constant = c.args.constant; before = xs; name = n; on = tt }) c.expect.new.cursor.source c.args.constant 60 (value_of c.in_ok-value.value) c.read_value.new.cursor.source
    (subst (λ k. value_read c.args.constant 60 k c.expect.new.cursor.source ≡ Ok (value_of c.in_ok-value.value, c.read_value.new.cursor.source)) (ap length text) c.in_ok-value.ensures.reads)

pub returns-clause-places : goal.returns-clause-places
returns-clause-places c =
    λ ns. c.in_ok-name.ensures.places (0 ∷ spell_value node_count (value_of c.in_ok-value.value) 0 ns)
    ∙ c.in_ok-expect.ensures.places (spell_value node_count (value_of c.in_ok-value.value) 0 ns) ∙ c.in_ok-value.ensures.places ns
