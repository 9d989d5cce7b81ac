-- One more argument, and all of them.
use Rattle.std.proofs.Common.{map, option_map, refl, ap, ◌∙◌, arith}
use Rattle.std.specs.Option.{option_or}
use Rattle.plan_ir.specs.gql_ast.ValueView.{argument_of, value_of}
use Rattle.plan_ir.specs.relay_marks.Connections.{value_of_name}
use Rattle.plan_expand.specs.Sizes.{size_in}
use Rattle.plan_expand.specs.SizesView.{find_size, size_named, sizes_of}
use Rattle.plan_expand.proofs.Tables.{or_end, or_next, sized_before}
use Rattle.plan_expand.proofs.sizes.GiftSizes.put_arguments.Goals as goal

pub arguments-init : goal.arguments-init
arguments-init c = (
  c.as_slice-argument-items.ensures,
  λ n. ap (λ xs. option_or (find_size c.args.self.now n) (option_map (size_in (sizes_of c.args.scope.now)) (value_of_name xs n))) c.as_slice-argument-items.ensures,
)

pub arguments-preserved : goal.arguments-preserved
arguments-preserved c = (
  c.arguments.invariant.0,
  λ n.
      or_next (λ xs. option_map (size_in (sizes_of c.args.scope.now)) (value_of_name (map argument_of xs) n))
      (λ x. size_named x.name (size_in (sizes_of c.args.scope.now) (value_of x.value)) n) (sized_before n (size_in (sizes_of c.args.scope.now)))
      c.as_slice-argument-items.result.now c.arguments.argument-index c.argument-item.result _ _ _ (omega arith) c.argument-item.is
      (c.in_ok-put.ensures n ∙ (λ i. option_or (find_size c.arguments.self n) (size_named (c.as_str.ensures i) (c.in_ok-size.ensures i) n))) (c.arguments.invariant.1 n),
)

pub returns : goal.returns
returns c = λ n.
    or_end (λ xs. option_map (size_in (sizes_of c.args.scope.now)) (value_of_name (map argument_of xs) n)) refl c.as_slice-argument-items.result.now c.arguments.argument-index _ _ (omega arith) (c.arguments.invariant.1 n)
