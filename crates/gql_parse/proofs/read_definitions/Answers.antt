use Rattle.std.proofs.Common.{◌≡◌, ◌∷◌, ◌++◌, [], ap, ◌∙◌, arith}
use Rattle.std.proofs.lemmas.Grind.{common_steps}
use Rattle.std.proofs.lemmas.Result.{err_from_is_err_and}
use Rattle.gql_parse.proofs.SoFar.{one_read, further_read, first_fails, further_fails, document_read}
use Rattle.gql_parse.proofs.read_definitions.Goals as goal

pub returns-in_err-read_definition : goal.returns-in_err-read_definition
returns-in_err-read_definition c =
    let e = err_from_is_err_and c.from_residual.result c.from_residual.ensures.1 in
    record { reads = rw (e.1, e.2) (first_fails c.args.cursor.now c.in_err-read_definition.field-0.0 c.in_err-read_definition.ensures.reads) }

pub definitions-init : goal.definitions-init
definitions-init c =
    let d = c.in_ok-read_definition.field-0 in
    let pushed : c.push.new.self ≡ d ∷ [] = c.in_ok-push.ensures.ok ∙ ap (λ xs. xs ++ d ∷ []) c.new-definitions.ensures in
    record { reads = one_read c.args.cursor.now c.read_definition.new.cursor d c.push.new.self pushed c.in_ok-read_definition.ensures.reads }

pub returns-in_err-read_definition-2 : goal.returns-in_err-read_definition-2
returns-in_err-read_definition-2 c =
    let e = err_from_is_err_and c.from_residual-in_err-read_definition-2.result c.from_residual-in_err-read_definition-2.ensures.1 in
    record { reads = rw (e.1, e.2) (further_fails c.args.cursor.now c.definitions.cursor c.definitions.definitions c.in_err-read_definition-2.field-0.0 c.definitions.invariant.reads (c.is_at_end.ensures.not c.definitions-test.true) c.in_err-read_definition-2.ensures.reads) }

pub definitions-preserved : goal.definitions-preserved
definitions-preserved c = record {
  reads = further_read c.args.cursor.now c.definitions.cursor c.read_definition-in-definitions.new.cursor c.in_ok-read_definition-2.field-0 c.definitions.definitions c.push-in-definitions.new.self
      c.in_ok-push-2.ensures.ok c.definitions.invariant.reads (c.is_at_end.ensures.not c.definitions-test.true) c.in_ok-read_definition-2.ensures.reads;
}

pub returns : goal.returns
returns c =
    let fitted : c.shrink_to_fit.new.self.items ≡ c.definitions.definitions = grind (arith, common_steps) in
    record { reads = rw fitted (document_read c.args.cursor.now c.definitions.cursor c.definitions.definitions c.definitions.invariant.reads (c.is_at_end.ensures.is c.definitions-test.false)) }
