use Rattle.std.proofs.Common.{◌≡◌, ◌++◌, ◌∷◌, [], ap, ◌∙◌, arith}
use Rattle.std.proofs.lemmas.Result.{err_from_is_err_and}
use Rattle.gql_sdl.proofs.Loops.{some-then}
use Rattle.gql_sdl.proofs.DefinitionReads.{first-definition, next-definition, first-fails, next-fails, schema-read}
use Rattle.gql_sdl.proofs.definitions.read_definitions.Goals as goal

pub definitions-init : goal.definitions-init
definitions-init c =
    let pushed : c.push.new.self ≡ c.in_ok-first.first ∷ [] = c.in_ok-push.ensures.ok ∙ ap (λ xs. xs ++ c.in_ok-first.first ∷ []) c.new-definitions.ensures in
    record { reads = first-definition c.args.cursor.now c.read_definition.new.cursor c.in_ok-first.first c.push.new.self c.in_ok-first.ensures.reads pushed; some = rw pushed tt }

pub definitions-preserved : goal.definitions-preserved
definitions-preserved c = record {
  reads = next-definition c.args.cursor.now c.definitions.cursor c.read_definition-in-definitions.new.cursor c.definitions.definitions c.push-in-definitions.new.self c.in_ok-definition.definition
      c.definitions.invariant.reads c.definitions.invariant.some (c.is_at_end.ensures.not c.definitions-test.true) c.in_ok-definition.ensures.reads c.in_ok-push-2.ensures.ok;
  some = rw c.in_ok-push-2.ensures.ok (some-then c.definitions.definitions c.in_ok-definition.definition);
}

pub definitions-smaller : goal.definitions-smaller
definitions-smaller c = omega (arith, c.in_ok-definition.ensures.taken)

pub returns-in_err-first : goal.returns-in_err-first
returns-in_err-first c =
    let e = err_from_is_err_and c.from_residual.result c.from_residual.ensures.1 in
    record { reads = rw (e.1, e.2) (first-fails c.args.cursor.now c.in_err-first.field-0.0 c.in_err-first.ensures.reads) }

pub returns-in_err-definition : goal.returns-in_err-definition
returns-in_err-definition c =
    let e = err_from_is_err_and c.from_residual-in_err-definition.result c.from_residual-in_err-definition.ensures.1 in
    record { reads = rw (e.1, e.2) (next-fails c.args.cursor.now c.definitions.cursor c.definitions.definitions c.in_err-definition.field-0.0 c.definitions.invariant.reads (c.is_at_end.ensures.not c.definitions-test.true) c.in_err-definition.ensures.reads) }

pub returns : goal.returns
returns c =
    let fitted : c.shrink_to_fit.new.self.items ≡ c.definitions.definitions = cc in
    record { reads = rw fitted (schema-read c.args.cursor.now c.definitions.cursor c.definitions.definitions c.definitions.invariant.reads c.definitions.invariant.some (c.is_at_end.ensures.is c.definitions-test.false)) }
