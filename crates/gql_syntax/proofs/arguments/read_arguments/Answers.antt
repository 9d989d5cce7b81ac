use Rattle.std.proofs.Common.{◌≡◌, ◌∷◌, [], ◌++◌, false, length, map, sym, ap, ◌∙◌, subst, arith}
use Rattle.std.proofs.lemmas.Grind.{common_steps}
use Rattle.gql_ast.specs.Value.{members_of}
use Rattle.gql_ast.specs.ValueView.{argument_of, value_of}
use Rattle.gql_syntax.specs.Answers.{node_count}
use Rattle.gql_syntax.specs.Machine.{members_then, more}
use Rattle.gql_syntax.specs.Nexts.{next_is}
use Rattle.gql_syntax.specs.Parts.{goes}
use Rattle.gql_syntax.specs.Places.{lay}
use Rattle.gql_syntax.specs.Spelling.{spell_value, spell_members, spell_arguments}
use Rattle.gql_syntax.specs.Steps.{argument_next, arguments_on}
use Rattle.gql_syntax.proofs.ArgumentMoves.{more_wants}
use Rattle.gql_syntax.proofs.Spelled.{members_behind, arguments_some}
use Rattle.gql_syntax.proofs.ValueMoves.{members_of-behind}
use Rattle.gql_syntax.proofs.arguments.read_arguments.Goals as goal

pub returns-then-next_is-clause-places : goal.returns-then-next_is-clause-places
returns-then-next_is-clause-places c =
    let n = c.in_ok-argument.argument.name in
    let v = value_of c.in_ok-argument.argument.value in
    let pushed : members_of c.push.new.self ≡ members_then (members_of c.arguments.arguments) n v = ap members_of c.in_ok-push.ensures.ok ∙ members_of-behind c.arguments.arguments n v in
    let fitted : map argument_of c.shrink_to_fit.new.self.items ≡ c.push.new.self = grind (arith, common_steps) in
    λ d h ns. ap (λ xs. lay (spell_arguments node_count xs ns) d) (fitted ∙ c.in_ok-push.ensures.ok)
    ∙ ap (λ xs. lay xs d) (arguments_some node_count c.arguments.arguments (n, v) ns)
    ∙ h (spell_members node_count (members_of (c.arguments.arguments ++ (n, v) ∷ [])) 0 (0 ∷ ns))
    ∙ ap (λ ms. lay (spell_members node_count ms 0 (0 ∷ ns)) c.args.cursor.now) (members_of-behind c.arguments.arguments n v)
    ∙ ap (λ xs. lay xs c.args.cursor.now) (members_behind node_count 0 (0 ∷ ns) (members_of c.arguments.arguments) n v)
    ∙ c.arguments.invariant.places (2 ∷ 0 ∷ spell_value node_count v 0 (0 ∷ ns)) ∙ c.in_ok-argument.ensures.places (0 ∷ ns) ∙ c.in_ok-skip.ensures.places ns

pub arguments-preserved : goal.arguments-preserved
arguments-preserved c =
    let size = length c.args.cursor.now.text in
    let n = c.in_ok-argument.argument.name in
    let v = value_of c.in_ok-argument.argument.value in
    let last : next_is 41 c.read_argument.new.cursor.source ≡ false = grind (arith, common_steps) in
    record {
      reads = c.arguments.invariant.reads
          ∙ subst (λ k. argument_next k c.args.constant c.arguments.arguments c.arguments.cursor.source ≡ arguments_on k (goes (more c.args.constant (c.arguments.arguments ++ (n, v) ∷ []) tt)) c.read_argument.new.cursor.source)
          (ap length c.arguments.invariant.same) (c.in_ok-argument.ensures.reads c.arguments.arguments)
          ∙ more_wants size c.args.constant (c.arguments.arguments ++ (n, v) ∷ []) c.read_argument.new.cursor.source last
          ∙ ap (λ xs. argument_next size c.args.constant xs c.read_argument.new.cursor.source) (sym c.in_ok-push.ensures.ok);
      places = λ ns. ap (λ ms. lay (spell_members node_count ms 0 ns) c.args.cursor.now) (ap members_of c.in_ok-push.ensures.ok ∙ members_of-behind c.arguments.arguments n v)
          ∙ ap (λ xs. lay xs c.args.cursor.now) (members_behind node_count 0 ns (members_of c.arguments.arguments) n v)
          ∙ c.arguments.invariant.places (2 ∷ 0 ∷ spell_value node_count v 0 ns) ∙ c.in_ok-argument.ensures.places ns;
      same = c.in_ok-argument.ensures.same ∙ c.arguments.invariant.same;
      fewer = omega (arith, c.arguments.invariant.fewer, c.in_ok-argument.ensures.taken);
    }
