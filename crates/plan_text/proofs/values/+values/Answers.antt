-- What a list or an object holds is less deep than it; at the end of a loop all is written.
use Rattle.std.proofs.Common.{◌≤◌, ◌++◌, drop, map, string_bytes, sym, ap, ◌∙◌, arith}
use Rattle.std.proofs.lemmas.List.{drop_all}
use Rattle.plan_ir.specs.gql_ast.Value.{members_depth, members_of, val_depth, vals_depth, vals_of}
use Rattle.plan_ir.specs.gql_ast.ValueView.{value_of}
use Rattle.plan_ir.specs.OperationText.{join_texts, pairs_text, value_texts}
use Rattle.plan_text.proofs.Joining.{all_written}
use Rattle.plan_text.proofs.Naming.{member_texts-members_of, pair_below, pairs_told}
use Rattle.plan_text.proofs.values.+values.Goals as goal
use Rattle.plan_text.specs.Pairs.{pair_text}
use Rattle.plan_ir.proofs.schema_trees_laws.LocatedSteps.{value_below}

pub write_values-write_value-requires : goal.write_values-write_value-requires
write_values-write_value-requires t c =
    let less : val_depth (value_of c.value-item.result) ≤ vals_depth (vals_of c.args.values.now) =
    value_below _ _ c.items.value-index c.value-item.result (omega arith) c.value-item.is c.items.invariant.0 in
    (omega arith, tt)

pub write_pairs-write_value-requires : goal.write_pairs-write_value-requires
write_pairs-write_value-requires t c =
    let less : val_depth (value_of c.pair-item.result.value.now) ≤ members_depth (members_of c.args.arguments.now) =
    pair_below _ _ c.pairs.pair-index c.pair-item.result (omega arith) c.pair-item.is c.pairs.invariant.0 in
    (omega arith, tt)

pub write_values-returns : goal.write_values-returns
write_values-returns t c =
    let items = c.deref-value-items.result.now in
    all_written c.items.begun 44 (string_bytes c.args.out.now) (string_bytes c.items.out) (value_texts (vals_of (map value_of (drop c.items.value-index items)))) (value_texts (vals_of c.args.values.now))
    (ap (λ vs. value_texts (vals_of (map value_of vs))) (drop_all c.items.value-index items c.items-test.false)) c.items.invariant.1

pub write_pairs-returns : goal.write_pairs-returns
write_pairs-returns t c =
    let items = c.deref-pair-items.result.now in
    all_written c.pairs.begun 44 (string_bytes c.args.out.now) (string_bytes c.pairs.out) (map pair_text (drop c.pairs.pair-index items)) (map pair_text items)
    (ap (map pair_text) (drop_all c.pairs.pair-index items c.pairs-test.false)) c.pairs.invariant.1
    ∙ ap (λ ts. string_bytes c.args.out.now ++ join_texts 44 ts) (pairs_told c.args.arguments.now items c.pairs.invariant.0)
    ∙ ap (λ ms. string_bytes c.args.out.now ++ join_texts 44 (pairs_text ms)) (sym (member_texts-members_of c.args.arguments.now))
