-- One more node, and all of them; one more class, and all of them.
use Rattle.std.proofs.Common.{rules, bytes_eq, cond, [], Some, ◌≡◌, ◌≤◌, true, false, ap, sym, ◌∙◌, arith}
use Rattle.std.proofs.lemmas.Result.{IfOk-weaker, on_ok_weaker}
use Rattle.std.specs.Prelude.{codes, option_map}
use Rattle.plan_ir.specs.Nodes.{set_depth}
use Rattle.plan_ir.specs.NodesView.{node_of}
use Rattle.plan_ir.specs.Normal.{Normal, normal_append}
use Rattle.plan_ir.specs.gql_ast.TypeView.{ty_of}
use Rattle.plan_ir.specs.schema_tables.Types.{Text, base_of, is_composite, possible}
use Rattle.plan_build.specs.Classes.{one_target}
use Rattle.plan_build.specs.AroundView.{types_of}
use Rattle.plan_build.specs.ClassView.{field_view, target_view}
use Rattle.plan_build.specs.Steps.{are_within, steps_of, target_step, types_at}
use Rattle.plan_build.proofs.CodeSteps.{node_below, put_field_node, put_inline_node, put_no_object, put_no_type, put_one_target, steps_end, steps_next}
use Rattle.plan_build.proofs.steps.+steps.Goals as goal

pub put_nodes-put_node-requires : goal.put_nodes-put_node-requires
put_nodes-put_node-requires t c =
    let less : set_depth (node_of c.node-item.result) ≤ set_depth c.args.nodes.now =
    node_below _ _ c.nodes.node-index c.node-item.result (omega arith) c.node-item.is c.nodes.invariant.0 in
    (omega arith, (c.nodes.invariant.2, c.nodes.invariant.3))

pub put_nodes-nodes-preserved : goal.put_nodes-nodes-preserved
put_nodes-nodes-preserved t c = (
  c.nodes.invariant.0,
  steps_next c.args.schema.now (types_of c.args.schema.now c.args.around) c.as_slice-node-items.result.now c.nodes.node-index c.node-item.result _ _ _ (omega arith) c.node-item.is c.in_ok-put_node.ensures.put c.nodes.invariant.1,
  c.in_ok-put_node.ensures.right,
  c.nodes.invariant.3,
)

pub put_nodes-returns-clause-put : goal.put_nodes-returns-clause-put
put_nodes-returns-clause-put t c = steps_end c.args.schema.now (types_of c.args.schema.now c.args.around) c.as_slice-node-items.result.now c.nodes.node-index _ _ (omega arith) c.nodes.invariant.1

pub put_node-returns-in-Field-clause-put : goal.put_node-returns-in-Field-clause-put
put_node-returns-in-Field-clause-put t c =
    on_ok_weaker c.put_field.result
    (λ e. put_field_node c.args.schema.now (types_of c.args.schema.now c.args.around) c.args.node.now _ _ _ _ _ _ _ _ c.args.steps.now c.put_field.new.steps c.in-Field.is e)
    c.put_field.ensures.put

pub put_node-returns-in-Inline-clause-put : goal.put_node-returns-in-Inline-clause-put
put_node-returns-in-Inline-clause-put t c =
    on_ok_weaker c.put_inline.result
    (λ e. put_inline_node c.args.schema.now (types_of c.args.schema.now c.args.around) c.args.node.now _ _ _ _ c.args.steps.now c.put_inline.new.steps c.in-Inline.is e)
    c.put_inline.ensures.put

pub put_on-returns-then-not-is_composite-clause-put : goal.put_on-returns-then-not-is_composite-clause-put
put_on-returns-then-not-is_composite-clause-put t c =
    let composite : is_composite c.args.schema.now c.args.on.now ≡ false =
    ap (is_composite c.args.schema.now) (sym c.as_str.ensures) ∙ sym c.is_composite.ensures ∙ c.if-not-is_composite.true in
    put_no_type c.args.schema.now (types_of c.args.schema.now c.args.around) c.args.on.now c.args.conditions (λ us. steps_of c.args.schema.now us c.args.selections.now) c.args.steps.now composite

pub put_on-returns-then-is_one-clause-put : goal.put_on-returns-then-is_one-clause-put
put_on-returns-then-is_one-clause-put t c =
    let composite : is_composite c.args.schema.now c.args.on.now ≡ true =
    ap (is_composite c.args.schema.now) (sym c.as_str.ensures) ∙ sym c.is_composite.ensures ∙ c.if-not-is_composite.false in
    let within : are_within (possible c.args.schema.now c.args.on.now) (types_of c.args.schema.now c.args.around) ≡ false =
    ap (λ (n : Text). are_within (possible c.args.schema.now n) (types_of c.args.schema.now c.args.around)) (sym c.as_str-2.ensures) ∙ sym c.in_ok-is_within.ensures.within ∙ c.if-is_within.false in
    put_no_object c.args.schema.now (types_of c.args.schema.now c.args.around) c.args.on.now c.args.conditions (λ us. steps_of c.args.schema.now us c.args.selections.now) c.args.steps.now composite within
    (sym c.is_one.ensures ∙ c.if-is_one.true)

pub put_field_steps-returns-in-Some-clause-put : goal.put_field_steps-returns-in-Some-clause-put
put_field_steps-returns-in-Some-clause-put t c =
    let own : bytes_eq c.args.field.now.name.now (codes "__typename") ≡ false = search rules in
    let one : one_target c.args.schema.now c.args.field.now.name.now (types_of c.args.schema.now c.args.around) ≡ Some (target_view c.in-Some.target) =
    ap (λ (n : Text). one_target c.args.schema.now n (types_of c.args.schema.now c.args.around)) (sym c.as_str-2.ensures) ∙ sym c.in_ok-one.ensures.target ∙ ap (option_map target_view) c.in-Some.is in
    on_ok_weaker c.put_target.result
    (λ e. put_one_target c.args.schema.now (types_of c.args.schema.now c.args.around) (field_view c.args.field.now) (steps_of c.args.schema.now (types_at c.args.schema.now (base_of (ty_of c.args.field.now.of.now))) c.args.field.now.selections.now) c.args.steps.now c.put_target.new.steps
    (target_view c.in-Some.target) own one (e ∙ ap (λ (child : Normal). normal_append c.args.steps.now (target_step c.args.schema.now (field_view c.args.field.now) child (target_view c.in-Some.target))) c.in_ok-child.ensures.put))
    c.put_target.ensures.put

pub make_child-returns-then-is_composite-clause-put : goal.make_child-returns-then-is_composite-clause-put
make_child-returns-then-is_composite-clause-put t c =
    let defs = c.args.schema.now in
    let of : Text = base_of (ty_of c.args.field.now.of.now) in
    let composite : is_composite defs of ≡ true = ap (is_composite defs) (sym c.base_of-of.ensures) ∙ sym c.is_composite.ensures ∙ c.if-is_composite.true in
    let types : possible defs c.base_of-of.result.now ≡ types_at defs of = ap (possible defs) c.base_of-of.ensures ∙ sym (ap (λ b. cond b (possible defs of) []) composite) in
    IfOk-weaker c.make_steps.result _ _ (λ child h. h ∙ ap (λ ts. steps_of defs ts c.args.field.now.selections.now) types) c.make_steps.ensures.put

pub make_child-returns-clause-put : goal.make_child-returns-clause-put
make_child-returns-clause-put t c =
    let defs = c.args.schema.now in
    let of : Text = base_of (ty_of c.args.field.now.of.now) in
    let composite : is_composite defs of ≡ false = ap (is_composite defs) (sym c.base_of-of.ensures) ∙ sym c.is_composite.ensures ∙ c.if-is_composite.false in
    let types : c.new-none.result ≡ types_at defs of = c.new-none.ensures ∙ sym (ap (λ b. cond b (possible defs of) []) composite) in
    IfOk-weaker c.make_steps-2.result _ _ (λ child h. h ∙ ap (λ ts. steps_of defs ts c.args.field.now.selections.now) types) c.make_steps-2.ensures.put
