-- One more argument, and all of them.
use Rattle.std.proofs.Common.{map, refl, ap, ◌∷◌, [], ◌∙◌, arith}
use Rattle.std.specs.Option.{option_or}
use Rattle.plan_ir.specs.gql_ast.ValueView.{argument_of}
use Rattle.plan_ir.specs.relay_marks.Connections.{value_of_name}
use Rattle.plan_ir.specs.Substitution.{substitute, substitute_in}
use Rattle.plan_expand.specs.ScopeView.{find_gift, scope_of}
use Rattle.plan_expand.proofs.Tables.{argument_before, or_end, or_next}
use Rattle.plan_expand.proofs.scope.Gifts.put_arguments.Goals as goal

pub arguments-init : goal.arguments-init
arguments-init c = (
  c.as_slice-argument-items.ensures,
  λ n. ap (λ xs. option_or (find_gift c.args.self.now n) (value_of_name (substitute_in (scope_of c.args.scope.now) xs) n)) c.as_slice-argument-items.ensures,
)

pub arguments-preserved : goal.arguments-preserved
arguments-preserved c = (
  c.arguments.invariant.0,
  λ n.
      or_next (λ ys. value_of_name (substitute_in (scope_of c.args.scope.now) (map argument_of ys)) n)
      (λ x. value_of_name ((x.name, substitute (scope_of c.args.scope.now) (argument_of x).1) ∷ []) n) (argument_before n (scope_of c.args.scope.now))
      c.as_slice-argument-items.result.now c.arguments.argument-index c.argument-item.result _ _ _ (omega arith) c.argument-item.is
      (c.in_ok-put.ensures n ∙ (λ i. option_or (find_gift c.arguments.self n) (value_of_name ((c.as_str.ensures i, c.in_ok-value.ensures i) ∷ []) n))) (c.arguments.invariant.1 n),
)

pub returns : goal.returns
returns c = λ n.
    or_end (λ ys. value_of_name (substitute_in (scope_of c.args.scope.now) (map argument_of ys)) n) refl c.as_slice-argument-items.result.now c.arguments.argument-index _ _ (omega arith) (c.arguments.invariant.1 n)
