-- What is made and what is left are the whole; what stands inside is less deep.
use Rattle.std.proofs.Common.{◌≡◌, ℕ, ◌+◌, ◌-◌, ◌*◌, drop}
use Rattle.std.specs.Prelude.{option_copied}
use Rattle.plan_ir.specs.gql_ast.SelectionView.{sel_of, sels_of}
use Rattle.plan_ir.specs.gql_ast.Sels.{Sels}
use Rattle.plan_ir.specs.schema_tables.Types.{Text}
use Rattle.plan_ir.specs.Nodes.{nodes_append}
use Rattle.plan_expand.specs.Making.{Ready, making, selections_count}
use Rattle.plan_expand.specs.declared.making.Walk.{Walk}
use Rattle.plan_expand.proofs.Depths.{depth_with, spread_depth, walk_depth}
use Rattle.plan_expand.specs.ReadyView.{find_in}
use Rattle.plan_expand.specs.ScopeView.{scope_of}
use Rattle.plan_expand.proofs.making.+make.Given as goal

abbrev entered : Walk → Text → ℕ
entered w n = spread_depth (λ (r : Ready). r.selections) w.spreads (find_in w.fragments.now) n

abbrev depth_in : Walk → Sels → ℕ
depth_in w s = depth_with (entered w) s

abbrev pub decreases-make_set : goal.decreases-make_set
decreases-make_set l = 8 * depth_in l.walk l.selections.now + 1

abbrev pub decreases-put_selection : goal.decreases-put_selection
decreases-put_selection l = 8 * depth_in l.walk (sel_of l.selection.now)

abbrev pub decreases-make_field : goal.decreases-make_field
decreases-make_field l = 8 * depth_in l.walk l.selections.now + 3

abbrev pub decreases-make_inline : goal.decreases-make_inline
decreases-make_inline l = 8 * depth_in l.walk l.selections.now + 3

abbrev pub decreases-put_spread : goal.decreases-put_spread
decreases-put_spread l = 8 * entered l.walk l.name.now + 7

abbrev pub decreases-make_spread : goal.decreases-make_spread
decreases-make_spread l = 8 * walk_depth (λ (r : Ready). r.selections) (l.walk.spreads - 1) (find_in l.walk.fragments.now) l.fragment.now.selections.now + 3

abbrev pub invariant-make_set-selections : goal.invariant-make_set-selections
invariant-make_set-selections l =
    (sels_of l.selection-items ≡ l.selections)
    × (nodes_append l.nodes (making l.walk.spreads l.walk.adding.now.schema.now (find_in l.walk.fragments.now) (scope_of l.walk.scope.now) l.walk.places.now l.at (option_copied l.around) (sels_of (drop l.selection-index l.selection-items)))
    ≡ making l.walk.spreads l.walk.adding.now.schema.now (find_in l.walk.fragments.now) (scope_of l.walk.scope.now) l.walk.places.now l.initial.at (option_copied l.around) l.selections)
    × (l.at + selections_count (sels_of (drop l.selection-index l.selection-items)) ≡ l.initial.at + selections_count l.selections)
