use Rattle.std.proofs.Common.{◌∷◌, ℕ, List, codes, refl, ap, ◌∙◌, arith}
use Rattle.std.proofs.lemmas.Result.{err_from_is_err_and}
use Rattle.gql_syntax.specs.gql_lex.Toks as tok
use Rattle.gql_syntax.specs.Answers.{node_count}
use Rattle.gql_syntax.specs.Nexts.{token_count}
use Rattle.gql_syntax.specs.Spelling.{spell_directives}
use Rattle.gql_syntax.proofs.Tokens.{comes_word}
use Rattle.gql_syntax.specs.gql_ast.declared.schema.SchemaDef.TheVariants as S
use Rattle.gql_sdl.specs.Machine as machine
use Rattle.gql_sdl.specs.Reads as reads
use Rattle.gql_sdl.specs.Schemas as written
use Rattle.gql_sdl.proofs.InputReads.{behind-count, behind-fewer}
use Rattle.gql_sdl.proofs.DefinitionReads as D
use Rattle.gql_sdl.proofs.definitions.read_union.Goals as goal

pub returns-in_err-name-clause-reads : goal.returns-in_err-name-clause-reads
returns-in_err-name-clause-reads c =
    let e = err_from_is_err_and c.from_residual-in_err-name.result c.from_residual-in_err-name.ensures.1 in
    rw (e.1, e.2) (D.titled-no_name machine.a_union c.args.cursor.now c.skip.new.self c.in_ok-skip.ensures.source c.skip.ensures.same c.in_err-name.field-0.0 c.in_err-name.ensures.fault)

pub returns-in_err-directives-clause-reads : goal.returns-in_err-directives-clause-reads
returns-in_err-directives-clause-reads c =
    let e = err_from_is_err_and c.from_residual-in_err-directives.result c.from_residual-in_err-directives.ensures.1 in
    rw (e.1, e.2) (D.titled-no_directives machine.a_union c.args.cursor.now c.skip.new.self c.in_ok-skip.ensures.source c.skip.ensures.same c.read_name.new.cursor c.in_ok-name.name c.in_ok-name.ensures.name c.in_ok-name.ensures.source c.read_name.ensures.same (λ f. machine.on_union f c.in_ok-name.name) (λ f. refl) c.in_err-directives.field-0.0 c.in_err-directives.ensures.reads)

pub returns-in_err-members-clause-reads : goal.returns-in_err-members-clause-reads
returns-in_err-members-clause-reads c =
    let e = err_from_is_err_and c.from_residual-in_err-members.result c.from_residual-in_err-members.ensures.1 in
    rw (e.1, e.2) (D.fails-rest (codes "union") c.args.cursor.now c.read_directives.new.cursor reads.NoDirective reads.before_union_members (λ f. record { front = f; title = c.in_ok-name.name; directives = c.in_ok-directives.directives }) (c.in_ok-directives.ensures.same ∙ c.read_name.ensures.same ∙ c.skip.ensures.same) (D.to_directives machine.a_union c.args.cursor.now c.skip.new.self c.in_ok-skip.ensures.source c.skip.ensures.same c.read_name.new.cursor c.in_ok-name.name c.in_ok-name.ensures.name c.in_ok-name.ensures.source c.read_name.ensures.same (λ f. machine.on_union f c.in_ok-name.name) (λ f. refl) c.read_directives.new.cursor c.in_ok-directives.directives c.in_ok-directives.ensures.reads) (λ f. c.in_ok-directives.ensures.last) c.in_err-members.field-0.0 c.in_err-members.ensures.reads)

pub returns-clause-reads : goal.returns-clause-reads
returns-clause-reads c =
    let r = c.in_ok-members.ensures.reads in
    D.reads-rest (codes "union") c.args.nodes c.args.cursor.now c.read_directives.new.cursor c.read_union_members.new.cursor reads.NoDirective reads.before_union_members reads.behind_union_members (λ (w : reads.Led (List ℕ)) (ns : List ℕ). written.spell_members_part node_count w.leading w.all ns) (λ w. w.all) (λ f. record { front = f; title = c.in_ok-name.name; directives = c.in_ok-directives.directives })
    c.in_ok-members.members r (λ w. written.union c.in_ok-name.name c.in_ok-directives.directives w.leading w.all) _ (c.in_ok-directives.ensures.same ∙ c.read_name.ensures.same ∙ c.skip.ensures.same)
    (omega (arith, behind-count c.args.cursor.now.source, behind-count c.skip.new.self.source, ap token_count c.in_ok-skip.ensures.source, ap token_count c.in_ok-name.ensures.source, c.in_ok-directives.ensures.taken))
    (D.to_directives machine.a_union c.args.cursor.now c.skip.new.self c.in_ok-skip.ensures.source c.skip.ensures.same c.read_name.new.cursor c.in_ok-name.name c.in_ok-name.ensures.name c.in_ok-name.ensures.source c.read_name.ensures.same (λ f. machine.on_union f c.in_ok-name.name) (λ f. refl) c.read_directives.new.cursor c.in_ok-directives.directives c.in_ok-directives.ensures.reads) (λ f. c.in_ok-directives.ensures.last) (λ f w. refl)
    (λ ns. c.in_ok-skip.ensures.places (1 ∷ spell_directives node_count c.in_ok-directives.directives (written.spell_members_part node_count r.written.leading r.written.all ns)) ∙ c.in_ok-name.ensures.places (spell_directives node_count c.in_ok-directives.directives (written.spell_members_part node_count r.written.leading r.written.all ns))
    ∙ c.in_ok-directives.ensures.places (written.spell_members_part node_count r.written.leading r.written.all ns))
    (ap (λ x. S.Union c.in_ok-name.name c.in_ok-directives.directives x) r.viewed)

pub returns-clause-taken : goal.returns-clause-taken
returns-clause-taken c =
    omega (
      arith,
      behind-count c.args.cursor.now.source,
      ap token_count c.in_ok-skip.ensures.source,
      behind-fewer c.skip.new.self.source (tok.name c.in_ok-name.name) (comes_word c.in_ok-name.name c.skip.new.self.source c.in_ok-name.ensures.name),
      ap token_count c.in_ok-name.ensures.source,
      c.in_ok-directives.ensures.taken,
      c.in_ok-members.ensures.reads.taken,
    )
