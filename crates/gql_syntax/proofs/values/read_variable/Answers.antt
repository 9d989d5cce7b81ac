use Rattle.std.proofs.Common.{length, false, sym, ap, ◌∙◌, ◌∷◌}
use Rattle.gql_ast.specs.Value as value
use Rattle.gql_syntax.specs.Machine.{dollar}
use Rattle.gql_syntax.specs.Parts.{goes}
use Rattle.gql_syntax.specs.Steps.{value_on, put_alone}
use Rattle.gql_syntax.proofs.Tokens.{comes_word}
use Rattle.gql_syntax.proofs.ValueMoves.{names_dollar, names_variable}
use Rattle.gql_syntax.proofs.values.read_variable.Goals as goal

pub returns-clause-reads : goal.returns-clause-reads
returns-clause-reads c =
    λ r p. names_dollar (length c.args.cursor.now.text) c.args.cursor.now.source r p c.in_ok-expect.ensures.found
    ∙ ap (λ s. value_on (length c.args.cursor.now.text) (goes (dollar p)) s) (sym c.in_ok-expect.ensures.source)
    ∙ names_variable (length c.args.cursor.now.text) false c.expect.new.cursor.source p c.in_ok-read_name.field-0 (comes_word c.in_ok-read_name.field-0 c.expect.new.cursor.source c.in_ok-read_name.ensures.name)
    ∙ ap (λ s. value_on (length c.args.cursor.now.text) (put_alone (value.variable c.in_ok-read_name.field-0) p) s) (sym c.in_ok-read_name.ensures.source)

pub returns-clause-places : goal.returns-clause-places
returns-clause-places c = λ around ns. c.in_ok-expect.ensures.places (1 ∷ ns) ∙ c.in_ok-read_name.ensures.places ns
