-- What is noted, and what is left, is the whole.
use Rattle.std.proofs.Common.{◌≡◌, Bool, ◌||◌, List, map, OnOk, bytes_eq, refl, sym, ap, subst, ◌∙◌}
use Rattle.plan_ir.specs.gql_ast.Value.{vals_of}
use Rattle.plan_ir.specs.gql_ast.ValueView.{argument_of, value_of}
use Rattle.plan_ir.specs.gql_ast.declared.value.Argument.{Argument}
use Rattle.plan_ir.specs.gql_ast.declared.value.ValueTree.{ValueTree}
use Rattle.plan_ir.specs.OperationText.{arguments_use, value_uses, values_use}
use Rattle.plan_text.proofs.Using.{loop_noted, members_use-arguments, noted_name}
use Rattle.plan_text.proofs.usage.+values.Goals as goal
use Rattle.plan_text.specs.UsedNames.{has_name}

pub note_arguments-items-preserved : goal.note_arguments-items-preserved
note_arguments-items-preserved t c = λ n.
    loop_noted (λ (xs : List Argument). arguments_use n (map argument_of xs)) (λ (a : Argument). value_uses n (value_of a.value)) (λ a xs. refl)
    c.deref-argument-items.result.now c.items.argument-index c.argument-item.result c.items-test.true c.argument-item.is
    (has_name c.items.names n) (has_name c.note_value.new.names n) _ (c.in_ok-note_value.ensures n) (c.items.invariant n)

pub note_values-items-preserved : goal.note_values-items-preserved
note_values-items-preserved t c = λ n.
    loop_noted (λ (xs : List ValueTree). values_use n (vals_of (map value_of xs))) (λ (v : ValueTree). value_uses n (value_of v)) (λ v xs. refl)
    c.deref-value-items.result.now c.items.value-index c.value-item.result c.items-test.true c.value-item.is
    (has_name c.items.names n) (has_name c.note_value.new.names n) _ (c.in_ok-note_value.ensures n) (c.items.invariant n)

pub note_value-returns-in_ok-insert-in-Variable : goal.note_value-returns-in_ok-insert-in-Variable
note_value-returns-in_ok-insert-in-Variable t c = λ n.
    noted_name c.as_str.result.now n (has_name c.args.names.now n) (has_name c.insert.new.self n) (c.in_ok-insert-in-Variable.ensures.updates.0 (record { ref_ptr = (0, 0); now = n }))
    ∙ ap (λ k. has_name c.args.names.now n || bytes_eq k n) c.as_str.ensures
    ∙ ap (λ (v : ValueTree). has_name c.args.names.now n || value_uses n (value_of v)) (sym c.in-Variable.is)

pub note_value-returns-in-Object : goal.note_value-returns-in-Object
note_value-returns-in-Object t c = λ n.
    subst (λ (b : Bool). OnOk c.note_arguments.result (has_name c.note_arguments.new.names n ≡ (has_name c.args.names.now n || b)))
    (sym (members_use-arguments n c.in-Object.fields) ∙ ap (λ (v : ValueTree). value_uses n (value_of v)) (sym c.in-Object.is)) (c.note_arguments.ensures n)
