-- What is put and what is left are the whole; what stands inside is less deep.
use Rattle.std.proofs.Common.{◌≡◌, ◌+◌, ◌*◌, drop}
use Rattle.plan_ir.specs.gql_ast.SelectionView.{sel_of, sels_of}
use Rattle.plan_build.specs.AroundView.{IsOfComposite, types_of}
use Rattle.plan_build.specs.KeptView.{IsRight}
use Rattle.plan_ir.specs.Reader.{reader_append}
use Rattle.plan_read.specs.ReadyView.{find_in}
use Rattle.plan_read.specs.WalkView.{steps_in}
use Rattle.plan_read.proofs.Depths.{spread_depth}
use Rattle.plan_read.proofs.WalkDepths.{depth_in, fragment_depth, inside_depth}
use Rattle.plan_read.proofs.steps.+steps.Given as goal

abbrev pub decreases-make_set : goal.decreases-make_set
decreases-make_set l = 16 * depth_in l.walk l.selections.now + 2

abbrev pub decreases-put_set : goal.decreases-put_set
decreases-put_set l = 16 * depth_in l.walk l.selections.now + 1

abbrev pub decreases-put_selection : goal.decreases-put_selection
decreases-put_selection l = 16 * depth_in l.walk (sel_of l.selection.now)

abbrev pub decreases-put_field : goal.decreases-put_field
decreases-put_field l = 16 * depth_in l.walk l.field.selections.now + 9

abbrev pub decreases-put_field_steps : goal.decreases-put_field_steps
decreases-put_field_steps l = 16 * depth_in l.walk l.field.selections.now + 8

abbrev pub decreases-make_child : goal.decreases-make_child
decreases-make_child l = 16 * depth_in l.walk l.field.selections.now + 3

abbrev pub decreases-put_spread : goal.decreases-put_spread
decreases-put_spread l = 16 * spread_depth l.walk.spreads (find_in l.walk.fragments.now) l.name.now + 15

abbrev pub decreases-put_inline : goal.decreases-put_inline
decreases-put_inline l = 16 * inside_depth l.walk l.inside + 14

abbrev pub decreases-put_on : goal.decreases-put_on
decreases-put_on l = 16 * inside_depth l.walk l.inside + 13

abbrev pub decreases-put_behind : goal.decreases-put_behind
decreases-put_behind l = 16 * inside_depth l.walk l.inside + 12

abbrev pub decreases-put_inside : goal.decreases-put_inside
decreases-put_inside l = 16 * inside_depth l.walk l.inside + 11

abbrev pub decreases-put_entered : goal.decreases-put_entered
decreases-put_entered l = 16 * fragment_depth l.walk l.fragment.now l.spreads + 10

abbrev pub decreases-make_pointer : goal.decreases-make_pointer
decreases-make_pointer l = 16 * fragment_depth l.walk l.fragment.now l.spreads + 9

abbrev pub decreases-put_fragment : goal.decreases-put_fragment
decreases-put_fragment l = 16 * fragment_depth l.walk l.fragment.now l.spreads + 8

abbrev pub invariant-put_set-selections : goal.invariant-put_set-selections
invariant-put_set-selections l =
    (sels_of l.selection-items ≡ l.selections)
    × (reader_append l.steps (steps_in l.walk (types_of l.walk.schema.now l.around) (sels_of (drop l.selection-index l.selection-items))) ≡ reader_append l.initial.steps (steps_in l.walk (types_of l.walk.schema.now l.around) l.selections))
    × IsRight l.walk.schema.now l.kept
    × IsOfComposite l.walk.schema.now l.around
