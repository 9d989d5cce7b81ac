-- What is left at the end is nothing; the test of the set is that of the definition.
use Rattle.std.proofs.Common.{◌≡◌, Bool, List, ◌++◌, ◌||◌, map, Bor, append-nil, sym, ap, ◌∙◌}
use Rattle.std.proofs.lemmas.List.{drop_all}
use Rattle.std.specs.List.{filter}
use Rattle.plan_ir.specs.gql_ast.declared.variable.VariableDef.{VariableDef}
use Rattle.plan_ir.specs.OperationText.{directives_use, nodes_use}
use Rattle.plan_text.proofs.Using.{filter_same, loop_kept}
use Rattle.plan_text.proofs.variables.used_variables.Goals as goal
use Rattle.plan_text.specs.UsedNames.{has_name}

pub items-preserved : goal.items-preserved
items-preserved c =
    loop_kept (λ (v : VariableDef). has_name c.in_ok-names.names v.name) c.deref-variable-items.result.now c.items.variable-index c.variable-item.result c.items-test.true c.variable-item.is
    (map (λ (v : Bor VariableDef). v.now) c.items.used.items) (map (λ (v : Bor VariableDef). v.now) c.push_used.new.used.items) _ c.in_ok-push_used.ensures c.items.invariant

pub returns : goal.returns
returns c =
    let items = c.deref-variable-items.result.now in
    let used : List VariableDef = map (λ (v : Bor VariableDef). v.now) c.items.used.items in
    let is : VariableDef → Bool = λ (v : VariableDef). has_name c.in_ok-names.names v.name in
    let wanted : VariableDef → Bool = λ (v : VariableDef). directives_use v.name c.args.expanded.now.directives || nodes_use v.name c.args.expanded.now.selections in
    let whole : items ≡ c.args.expanded.now.variables = cc in
    sym (append-nil used)
    ∙ ap (λ vs. used ++ filter is vs) (sym (drop_all c.items.variable-index items c.items-test.false))
    ∙ c.items.invariant
    ∙ filter_same is wanted items (λ v. c.in_ok-names.ensures v.name)
    ∙ ap (filter wanted) whole
