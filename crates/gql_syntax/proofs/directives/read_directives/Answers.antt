use Rattle.std.proofs.Common.{◌≡◌, ◌∷◌, [], ◌++◌, length, sym, ap, ◌∙◌, subst, arith}
use Rattle.gql_syntax.specs.Answers.{node_count}
use Rattle.gql_syntax.specs.Machine.{further}
use Rattle.gql_syntax.specs.Parts.{goes}
use Rattle.gql_syntax.specs.Places.{lay}
use Rattle.gql_syntax.specs.Spelling.{spell_arguments, spell_directives}
use Rattle.gql_syntax.specs.Steps.{directives_on}
use Rattle.gql_syntax.proofs.Spelled.{directives_behind}
use Rattle.gql_syntax.proofs.directives.read_directives.Goals as goal

pub directives-preserved : goal.directives-preserved
directives-preserved c =
    let d = c.in_ok-directive.directive in
    record {
      reads = c.directives.invariant.reads
          ∙ subst (λ k. directives_on k (goes (further c.args.constant c.directives.directives tt)) c.directives.cursor.source
          ≡ directives_on k (goes (further c.args.constant (c.directives.directives ++ d ∷ []) tt)) c.read_directive.new.cursor.source)
          (ap length c.directives.invariant.same) (c.in_ok-directive.ensures.reads c.directives.directives)
          ∙ ap (λ ds. directives_on (length c.args.cursor.now.text) (goes (further c.args.constant ds tt)) c.read_directive.new.cursor.source) (sym c.in_ok-push.ensures.ok);
      places = λ ns. ap (λ ds. lay (spell_directives node_count ds ns) c.args.cursor.now) c.in_ok-push.ensures.ok
          ∙ ap (λ xs. lay xs c.args.cursor.now) (directives_behind node_count c.directives.directives d ns)
          ∙ c.directives.invariant.places (1 ∷ 1 ∷ spell_arguments node_count d.arguments ns) ∙ c.in_ok-directive.ensures.places ns;
      same = c.in_ok-directive.ensures.same ∙ c.directives.invariant.same;
      fewer = omega (arith, c.directives.invariant.fewer, c.in_ok-directive.ensures.taken);
    }
