-- One more selection, and all of them; a spread that may be entered, or may not; what stands in the place of a spread.
use Rattle.std.proofs.Common.{◌≡◌, ◌<◌, ◌-◌, get_or, Some, ap, sym, ◌∙◌, arith}
use Rattle.std.specs.Prelude.{option_copied, option_map}
use Rattle.plan_ir.specs.gql_ast.declared.place.FilePlace.{FilePlace}
use Rattle.plan_ir.specs.Nodes.{end, inline}
use Rattle.plan_ir.specs.Projects.{first_place}
use Rattle.plan_expand.specs.Making.{Ready, making, ready_scope, spread_node}
use Rattle.plan_expand.proofs.Depths.{entered_deep, selection_below, spread_depth}
use Rattle.plan_expand.specs.ReadyView.{find_in, ready_of}
use Rattle.plan_expand.specs.ScopeView.{scope_of}
use Rattle.plan_expand.proofs.MakingSteps.{count_end, count_next, make_end, make_next, put_found, put_missing, put_none}
use Rattle.plan_expand.proofs.making.+make.Goals as goal

pub make_set-put_selection-requires : goal.make_set-put_selection-requires
make_set-put_selection-requires t c =
    let less = selection_below (spread_depth (λ (r : Ready). r.selections) c.args.walk.spreads (find_in c.args.walk.fragments.now)) _ _ c.selections.selection-index c.selection-item.result (omega arith) c.selection-item.is c.selections.invariant.0 in
    (omega (arith, less), c.requires)

pub put_spread-make_spread-requires : goal.put_spread-make_spread-requires
put_spread-make_spread-requires t c =
    let some : 0 < c.args.walk.spreads = omega arith in
    let less = entered_deep (λ (r : Ready). r.selections) c.args.walk.spreads (find_in c.args.walk.fragments.now) c.args.name.now (ready_of c.in-Some.fragment.now) some
    (ap (find_in c.args.walk.fragments.now) (sym c.as_str.ensures) ∙ sym c.find.ensures ∙ ap (option_map (λ f. ready_of f.now)) c.in-Some.is) in
    (omega (arith, less), (c.requires, some))

pub make_set-selections-preserved : goal.make_set-selections-preserved
make_set-selections-preserved t c = (
  c.selections.invariant.0,
  make_next c.args.walk.spreads c.args.walk.adding.now.schema.now (find_in c.args.walk.fragments.now) (scope_of c.args.walk.scope.now) c.args.walk.places.now (option_copied c.args.around)
      c.as_slice-selection-items.result.now c.selections.selection-index _ _ c.selection-item.result _ _ _ (omega arith) c.selection-item.is c.in_ok-put_selection.ensures.made c.in_ok-put_selection.ensures.passed
      c.selections.invariant.1,
  count_next c.as_slice-selection-items.result.now c.selections.selection-index _ _ c.selection-item.result _ (omega arith) c.selection-item.is c.in_ok-put_selection.ensures.passed c.selections.invariant.2,
)

pub make_set-returns-clause-made : goal.make_set-returns-clause-made
make_set-returns-clause-made t c =
    make_end c.args.walk.spreads c.args.walk.adding.now.schema.now (find_in c.args.walk.fragments.now) (scope_of c.args.walk.scope.now) c.args.walk.places.now (option_copied c.args.around)
    c.as_slice-selection-items.result.now c.selections.selection-index _ _ _ (omega arith) c.selections.invariant.1

pub make_set-returns-clause-passed : goal.make_set-returns-clause-passed
make_set-returns-clause-passed t c = count_end c.as_slice-selection-items.result.now c.selections.selection-index _ _ (omega arith) c.selections.invariant.2

pub put_spread-returns-then-walk-eq0-clause-made : goal.put_spread-returns-then-walk-eq0-clause-made
put_spread-returns-then-walk-eq0-clause-made t c =
    put_none c.args.walk.spreads c.args.walk.adding.now.schema.now (find_in c.args.walk.fragments.now) (scope_of c.args.walk.scope.now) (get_or c.args.walk.places.now c.args.at.now first_place) c.args.name.now c.args.directives.now c.args.nodes.now (omega arith)

pub put_spread-returns-in_ok-push-in-Some-clause-made : goal.put_spread-returns-in_ok-push-in-Some-clause-made
put_spread-returns-in_ok-push-in-Some-clause-made t c =
    put_found c.args.walk.spreads c.args.walk.adding.now.schema.now (find_in c.args.walk.fragments.now) (scope_of c.args.walk.scope.now) (get_or c.args.walk.places.now c.args.at.now first_place) c.args.name.now c.args.directives.now
    (ready_of c.in-Some.fragment.now) c.args.nodes.now _ _ (omega arith)
    (ap (find_in c.args.walk.fragments.now) (sym c.as_str.ensures) ∙ sym c.find.ensures ∙ ap (option_map (λ f. ready_of f.now)) c.in-Some.is) c.in_ok-push-in-Some.ensures.ok
    (c.in_ok-node-in-Some.ensures
    ∙ ap (λ (h : FilePlace). spread_node (c.args.walk.spreads - 1) c.args.walk.adding.now.schema.now (find_in c.args.walk.fragments.now) (scope_of c.args.walk.scope.now) h (ready_of c.in-Some.fragment.now) c.args.directives.now) c.place_at-place.ensures)

pub put_spread-returns-in-None-clause-made : goal.put_spread-returns-in-None-clause-made
put_spread-returns-in-None-clause-made t c =
    put_missing c.args.walk.spreads c.args.walk.adding.now.schema.now (find_in c.args.walk.fragments.now) (scope_of c.args.walk.scope.now) (get_or c.args.walk.places.now c.args.at.now first_place) c.args.name.now c.args.directives.now c.args.nodes.now
    (ap (find_in c.args.walk.fragments.now) (sym c.as_str.ensures) ∙ sym c.find.ensures ∙ ap (option_map (λ f. ready_of f.now)) c.in-None.is)

pub make_spread-returns : goal.make_spread-returns
make_spread-returns t c =
    let inside : c.in_ok-inside.inside ≡ making (c.args.walk.spreads - 1) c.args.walk.adding.now.schema.now (find_in c.args.walk.fragments.now) (ready_scope (scope_of c.args.walk.scope.now) c.args.directives.now (ready_of c.args.fragment.now)) c.args.fragment.now.places.items 0 (Some c.args.fragment.now.on.now) c.args.fragment.now.selections.now =
    c.in_ok-inside.ensures.made ∙ (λ i. making (c.args.walk.spreads - 1) c.args.walk.adding.now.schema.now (find_in c.args.walk.fragments.now) (λ n. c.in_ok-scope.ensures n i) (c.deref.ensures.value i) 0 (Some c.args.fragment.now.on.now) c.args.fragment.now.selections.now) in
    λ i. inline (Some (c.in_ok-condition.ensures i)) (c.in_ok-printed.ensures i) (inside i) c.args.place end
