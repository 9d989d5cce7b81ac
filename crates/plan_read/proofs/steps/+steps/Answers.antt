-- One more selection, and all of them; a spread that may be entered, or may not.
use Rattle.std.proofs.Common.{rules, ◌≡◌, ◌≤◌, true, false, cond, [], Option, Some, bytes_eq, ap, sym, ◌∙◌, arith}
use Rattle.std.proofs.lemmas.Result.{IfOk-weaker, on_ok_weaker}
use Rattle.std.specs.Prelude.{codes, option_copied, option_map}
use Rattle.plan_ir.specs.gql_ast.SelectionView.{sel_of}
use Rattle.plan_build.specs.Classes.{one_target}
use Rattle.plan_build.specs.AroundView.{types_of}
use Rattle.plan_build.specs.ClassView.{target_view}
use Rattle.plan_build.specs.Conditions.{conditions_of}
use Rattle.plan_build.specs.Steps.{types_at}
use Rattle.plan_expand.specs.ScopeView.{scope_of}
use Rattle.plan_ir.specs.Expansion.{name_or, printed_conditions}
use Rattle.plan_ir.specs.Additions.{type_or}
use Rattle.plan_ir.specs.Reader.{Reader, reader_append}
use Rattle.plan_read.specs.FieldView.{field_view}
use Rattle.plan_read.specs.Reading.{entering, reading}
use Rattle.plan_read.specs.ReadyView.{find_in, ready_of}
use Rattle.plan_read.specs.Steps.{inline_steps, target_step}
use Rattle.plan_read.specs.WalkView.{below_field, inside_in}
use Rattle.plan_read.proofs.CodeSteps.{base_below, put_field_selection, put_found, put_inline_selection, put_missing, put_no_object, put_no_type, put_none, put_one_target, steps_end, steps_next}
use Rattle.plan_expand.proofs.Depths.{selection_below}
use Rattle.plan_read.proofs.Depths.{spread_depth}
use Rattle.plan_read.proofs.WalkDepths.{depth_in}
use Rattle.plan_read.proofs.steps.+steps.Goals as goal
use Rattle.plan_ir.specs.schema_tables.Types.{Text, base_of, is_composite, possible}
use Rattle.plan_ir.specs.schema_types.Sites.{below, condition_or, field_type}

pub put_set-put_selection-requires : goal.put_set-put_selection-requires
put_set-put_selection-requires t c =
    let less : depth_in c.args.walk (sel_of c.selection-item.result) ≤ depth_in c.args.walk c.args.selections.now =
    selection_below (spread_depth c.args.walk.spreads (find_in c.args.walk.fragments.now)) _ _ c.selections.selection-index c.selection-item.result (omega arith) c.selection-item.is c.selections.invariant.0 in
    (omega arith, (c.selections.invariant.2, c.selections.invariant.3))

pub put_set-selections-preserved : goal.put_set-selections-preserved
put_set-selections-preserved t c = (
  c.selections.invariant.0,
  steps_next (entering c.args.walk.spreads c.args.walk.schema.now (find_in c.args.walk.fragments.now) (scope_of c.args.walk.scope.now)) c.args.walk.schema.now (scope_of c.args.walk.scope.now) (option_copied c.args.walk.over) (types_of c.args.walk.schema.now c.args.around)
      c.as_slice-selection-items.result.now c.selections.selection-index c.selection-item.result _ _ _ (omega arith) c.selection-item.is c.in_ok-put_selection.ensures.put c.selections.invariant.1,
  c.in_ok-put_selection.ensures.right,
  c.selections.invariant.3,
)

pub put_set-returns-clause-put : goal.put_set-returns-clause-put
put_set-returns-clause-put t c =
    steps_end (entering c.args.walk.spreads c.args.walk.schema.now (find_in c.args.walk.fragments.now) (scope_of c.args.walk.scope.now)) c.args.walk.schema.now (scope_of c.args.walk.scope.now) (option_copied c.args.walk.over) (types_of c.args.walk.schema.now c.args.around)
    c.as_slice-selection-items.result.now c.selections.selection-index _ _ (omega arith) c.selections.invariant.1

pub put_selection-returns-in-Field-clause-put : goal.put_selection-returns-in-Field-clause-put
put_selection-returns-in-Field-clause-put t c =
    on_ok_weaker c.put_field.result
    (λ e. put_field_selection (entering c.args.walk.spreads c.args.walk.schema.now (find_in c.args.walk.fragments.now) (scope_of c.args.walk.scope.now)) c.args.walk.schema.now (scope_of c.args.walk.scope.now) (option_copied c.args.walk.over) (types_of c.args.walk.schema.now c.args.around)
    c.args.selection.now _ _ _ _ _ c.args.steps.now c.put_field.new.steps c.in-Field.is e)
    c.put_field.ensures.put

pub put_selection-returns-in-Inline-clause-put : goal.put_selection-returns-in-Inline-clause-put
put_selection-returns-in-Inline-clause-put t c =
    let w = c.args.walk in
    let over : option_copied c.condition_or.result ≡ condition_or (option_copied w.over) c.in-Inline.on = c.condition_or.ensures ∙ ap (condition_or (option_copied w.over)) c.text_of-on.ensures in
    on_ok_weaker c.put_inline.result
    (λ e. put_inline_selection (entering w.spreads w.schema.now (find_in w.fragments.now) (scope_of w.scope.now)) w.schema.now (scope_of w.scope.now) (option_copied w.over) (types_of w.schema.now c.args.around)
    c.args.selection.now _ _ _ c.args.steps.now c.put_inline.new.steps c.in-Inline.is
    (e ∙ (λ i. reader_append c.args.steps.now (inline_steps w.schema.now (types_of w.schema.now c.args.around) (c.text_of-on.ensures i) (conditions_of (printed_conditions (scope_of w.scope.now) c.in-Inline.directives))
    (λ us. reading w.spreads w.schema.now (find_in w.fragments.now) (scope_of w.scope.now) (over i) us c.in-Inline.selections)))))
    c.put_inline.ensures.put

pub put_field_steps-returns-in-Some-clause-put : goal.put_field_steps-returns-in-Some-clause-put
put_field_steps-returns-in-Some-clause-put t c =
    let own : bytes_eq c.args.field.name.now (codes "__typename") ≡ false = search rules in
    let one : one_target c.args.walk.schema.now c.args.field.name.now (types_of c.args.walk.schema.now c.args.around) ≡ Some (target_view c.in-Some.target) =
    ap (λ (n : Text). one_target c.args.walk.schema.now n (types_of c.args.walk.schema.now c.args.around)) (sym c.as_str-2.ensures) ∙ sym c.in_ok-one.ensures.target ∙ ap (option_map target_view) c.in-Some.is in
    on_ok_weaker c.put_target.result
    (λ e. put_one_target c.args.walk.schema.now (types_of c.args.walk.schema.now c.args.around) (field_view (scope_of c.args.walk.scope.now) c.args.field) (below_field c.args.walk c.args.field) c.args.steps.now c.put_target.new.steps
    (target_view c.in-Some.target) own one (e ∙ ap (λ (child : Reader). reader_append c.args.steps.now (target_step c.args.walk.schema.now (field_view (scope_of c.args.walk.scope.now) c.args.field) child (target_view c.in-Some.target))) c.in_ok-child.ensures.made))
    c.put_target.ensures.put

pub put_spread-returns-then-walk-eq0-clause-put : goal.put_spread-returns-then-walk-eq0-clause-put
put_spread-returns-then-walk-eq0-clause-put t c =
    put_none c.args.walk.spreads c.args.walk.schema.now (find_in c.args.walk.fragments.now) (scope_of c.args.walk.scope.now) (option_copied c.args.walk.over) (types_of c.args.walk.schema.now c.args.around) c.args.name.now c.args.directives.now c.args.steps.now (omega arith)

pub put_spread-returns-in-None-clause-put : goal.put_spread-returns-in-None-clause-put
put_spread-returns-in-None-clause-put t c =
    put_missing c.args.walk.spreads c.args.walk.schema.now (find_in c.args.walk.fragments.now) (scope_of c.args.walk.scope.now) (option_copied c.args.walk.over) (types_of c.args.walk.schema.now c.args.around) c.args.name.now c.args.directives.now c.args.steps.now
    (ap (find_in c.args.walk.fragments.now) (sym c.as_str.ensures) ∙ sym c.find.ensures ∙ ap (option_map (λ f. ready_of f.now)) c.in-None.is)

pub put_spread-returns-in-Some-clause-put : goal.put_spread-returns-in-Some-clause-put
put_spread-returns-in-Some-clause-put t c =
    on_ok_weaker c.put_inline.result
    (λ e. put_found c.args.walk.spreads c.args.walk.schema.now (find_in c.args.walk.fragments.now) (scope_of c.args.walk.scope.now) (option_copied c.args.walk.over) (types_of c.args.walk.schema.now c.args.around) c.args.name.now c.args.directives.now (ready_of c.in-Some.fragment.now)
    c.args.steps.now c.put_inline.new.steps (omega arith)
    (ap (find_in c.args.walk.fragments.now) (sym c.as_str.ensures) ∙ sym c.find.ensures ∙ ap (option_map (λ f. ready_of f.now)) c.in-Some.is) e)
    c.put_inline.ensures.put

pub put_on-returns-then-not-is_composite-clause-put : goal.put_on-returns-then-not-is_composite-clause-put
put_on-returns-then-not-is_composite-clause-put t c =
    put_no_type c.args.walk.schema.now (types_of c.args.walk.schema.now c.args.around) c.args.on.now c.args.conditions (inside_in c.args.walk c.args.inside) c.args.steps.now (sym c.is_composite.ensures ∙ c.if-not-is_composite.true)

pub put_on-returns-then-is_one-clause-put : goal.put_on-returns-then-is_one-clause-put
put_on-returns-then-is_one-clause-put t c =
    put_no_object c.args.walk.schema.now (types_of c.args.walk.schema.now c.args.around) c.args.on.now c.args.conditions (inside_in c.args.walk c.args.inside) c.args.steps.now
    (sym c.is_composite.ensures ∙ c.if-not-is_composite.false) (sym c.in_ok-is_within.ensures.within ∙ c.if-is_within.false) (sym c.is_one.ensures ∙ c.if-is_one.true)

pub put_fragment-returns-clause-put : goal.put_fragment-returns-clause-put
put_fragment-returns-clause-put t c =
    on_ok_weaker c.put_set.result
    (λ e. e ∙ (λ i. reader_append c.args.steps.now (reading c.args.spreads c.args.walk.schema.now (find_in c.args.walk.fragments.now) (λ n. c.in_ok-scope.ensures n i) (Some c.args.fragment.now.on.now) (types_of c.args.walk.schema.now c.args.around) c.args.fragment.now.selections.now)))
    c.put_set.ensures.put

pub make_child-returns-then-is_composite-clause-made : goal.make_child-returns-then-is_composite-clause-made
make_child-returns-then-is_composite-clause-made t c =
    let defs = c.args.walk.schema.now in
    let over : Option Text = below defs (option_copied c.args.walk.over) c.args.field.name.now in
    let of : Text = base_of (type_or (field_type defs (option_copied c.args.walk.over) c.args.field.name.now)) in
    let around : option_copied c.below-over.result ≡ over = c.below-over.ensures ∙ ap (below defs (option_copied c.args.walk.over)) c.as_str.ensures in
    let named : c.text_or_empty-of.result.now ≡ of = c.text_or_empty-of.ensures ∙ ap name_or around ∙ base_below (field_type defs (option_copied c.args.walk.over) c.args.field.name.now) in
    let composite : is_composite defs of ≡ true = ap (is_composite defs) (sym named) ∙ sym c.is_composite.ensures ∙ c.if-is_composite.true in
    let types : possible defs c.text_or_empty-of.result.now ≡ types_at defs of = ap (possible defs) named ∙ sym (ap (λ b. cond b (possible defs of) []) composite) in
    IfOk-weaker c.make_set.result _ _
    (λ child h. h ∙ (λ i. reading c.args.walk.spreads defs (find_in c.args.walk.fragments.now) (scope_of c.args.walk.scope.now) (around i) (types i) c.args.field.selections.now))
    c.make_set.ensures.made

pub make_child-returns-clause-made : goal.make_child-returns-clause-made
make_child-returns-clause-made t c =
    let defs = c.args.walk.schema.now in
    let over : Option Text = below defs (option_copied c.args.walk.over) c.args.field.name.now in
    let of : Text = base_of (type_or (field_type defs (option_copied c.args.walk.over) c.args.field.name.now)) in
    let around : option_copied c.below-over.result ≡ over = c.below-over.ensures ∙ ap (below defs (option_copied c.args.walk.over)) c.as_str.ensures in
    let named : c.text_or_empty-of.result.now ≡ of = c.text_or_empty-of.ensures ∙ ap name_or around ∙ base_below (field_type defs (option_copied c.args.walk.over) c.args.field.name.now) in
    let composite : is_composite defs of ≡ false = ap (is_composite defs) (sym named) ∙ sym c.is_composite.ensures ∙ c.if-is_composite.false in
    let types : c.new-none.result ≡ types_at defs of = c.new-none.ensures ∙ sym (ap (λ b. cond b (possible defs of) []) composite) in
    IfOk-weaker c.make_set-2.result _ _
    (λ child h. h ∙ (λ i. reading c.args.walk.spreads defs (find_in c.args.walk.fragments.now) (scope_of c.args.walk.scope.now) (around i) (types i) c.args.field.selections.now))
    c.make_set-2.ensures.made
