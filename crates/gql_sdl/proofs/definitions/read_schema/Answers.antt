use Rattle.std.proofs.Common.{◌∷◌, ℕ, List, codes, refl, ap, ◌∙◌, arith}
use Rattle.std.proofs.lemmas.Result.{err_from_is_err_and}
use Rattle.gql_syntax.specs.gql_lex.Toks as tok
use Rattle.gql_syntax.specs.Answers.{node_count}
use Rattle.gql_syntax.specs.Nexts.{token_count}
use Rattle.gql_syntax.specs.Spelling.{spell_directives}
use Rattle.gql_syntax.proofs.Tokens.{comes_word}
use Rattle.gql_syntax.specs.gql_ast.declared.schema.SchemaDef.TheVariants as S
use Rattle.gql_sdl.specs.Reads as reads
use Rattle.gql_sdl.specs.Schemas as written
use Rattle.gql_sdl.proofs.InputReads.{behind-count, behind-fewer}
use Rattle.gql_sdl.proofs.DefinitionReads as D
use Rattle.gql_sdl.proofs.definitions.read_schema.Goals as goal

pub returns-in_err-directives-clause-reads : goal.returns-in_err-directives-clause-reads
returns-in_err-directives-clause-reads c =
    let e = err_from_is_err_and c.from_residual-in_err-directives.result c.from_residual-in_err-directives.ensures.1 in
    rw (e.1, e.2) (D.schema-no_directives c.args.cursor.now c.skip.new.self c.in_err-directives.field-0.0 c.in_ok-skip.ensures.source c.skip.ensures.same c.in_err-directives.ensures.reads)

pub returns-in_err-roots-clause-reads : goal.returns-in_err-roots-clause-reads
returns-in_err-roots-clause-reads c =
    let e = err_from_is_err_and c.from_residual-in_err-roots.result c.from_residual-in_err-roots.ensures.1 in
    rw (e.1, e.2) (D.fails-rest (codes "schema") c.args.cursor.now c.read_directives.new.cursor reads.NoDirective reads.unopened_roots (λ f. record { front = f; directives = c.in_ok-directives.directives }) (c.in_ok-directives.ensures.same ∙ c.skip.ensures.same) (D.to_roots c.args.cursor.now c.skip.new.self c.read_directives.new.cursor c.in_ok-directives.directives c.in_ok-skip.ensures.source c.skip.ensures.same c.in_ok-directives.ensures.reads) (λ f. c.in_ok-directives.ensures.last) c.in_err-roots.field-0.0 c.in_err-roots.ensures.reads)

pub returns-clause-reads : goal.returns-clause-reads
returns-clause-reads c =
    let r = c.in_ok-roots.ensures.reads in
    D.reads-rest (codes "schema") c.args.nodes c.args.cursor.now c.read_directives.new.cursor c.read_roots.new.cursor reads.NoDirective reads.unopened_roots reads.closed_roots
    (λ rs (ns : List ℕ). 0 ∷ written.spell_roots node_count rs (0 ∷ ns)) (λ rs. rs) (λ f. record { front = f; directives = c.in_ok-directives.directives })
    c.in_ok-roots.roots r (λ rs. written.schema c.in_ok-directives.directives rs) _ (c.in_ok-directives.ensures.same ∙ c.skip.ensures.same)
    (omega (arith, behind-count c.args.cursor.now.source, ap token_count c.in_ok-skip.ensures.source, c.in_ok-directives.ensures.taken))
    (D.to_roots c.args.cursor.now c.skip.new.self c.read_directives.new.cursor c.in_ok-directives.directives c.in_ok-skip.ensures.source c.skip.ensures.same c.in_ok-directives.ensures.reads) (λ f. c.in_ok-directives.ensures.last) (λ f w. refl)
    (λ ns. c.in_ok-skip.ensures.places (spell_directives node_count c.in_ok-directives.directives (0 ∷ written.spell_roots node_count r.written (0 ∷ ns)))
    ∙ c.in_ok-directives.ensures.places (0 ∷ written.spell_roots node_count r.written (0 ∷ ns)))
    (ap (λ x. S.Schema c.in_ok-directives.directives x) r.viewed)

pub returns-clause-taken : goal.returns-clause-taken
returns-clause-taken c =
    omega (
      arith,
      behind-fewer c.args.cursor.now.source (tok.name (codes "schema")) (comes_word (codes "schema") c.args.cursor.now.source c.requires),
      ap token_count c.in_ok-skip.ensures.source,
      c.in_ok-directives.ensures.taken,
      c.in_ok-roots.ensures.reads.taken,
    )
