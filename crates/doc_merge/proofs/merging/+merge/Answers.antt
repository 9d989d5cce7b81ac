-- One more group, and all of them; a group, and the set below it.
use Rattle.std.proofs.Common.{◌≡◌, List, map, length, ap, sym, subst, ◌∙◌, arith}
use Rattle.std.specs.List.{filter}
use Rattle.plan_ir.specs.schema_tables.Types.{Text, Defs}
use Rattle.doc_merge.specs.Cells.{none_seen, others}
use Rattle.doc_merge.specs.GroupView as kept
use Rattle.doc_merge.specs.Joined.{every, has_key, inner_rows, own_row, rows_depth, with_patterns}
use Rattle.doc_merge.specs.Paths.{Pattern, places_of}
use Rattle.doc_merge.specs.Places.{least_from}
use Rattle.doc_merge.specs.RowView.{mark_of, pattern_items, row_of}
use Rattle.doc_merge.specs.declared.row.Row.{Row}
use Rattle.doc_merge.proofs.MergeSteps.{empty_noted, group_noted, inner_measure, turn_end, turn_first, turn_next, without}
use Rattle.doc_merge.proofs.PatternSteps.{patterns_are}
use Rattle.doc_merge.proofs.merging.+merge.Goals as goal

pub note_set-rows-init : goal.note_set-rows-init
note_set-rows-init t c = (λ n. filter (kept.has_key n) c.args.rows.now, c.in_ok-groups.ensures, turn_first c.args.schema.now c.args.rows.now c.args.least.now.at)

pub note_set-note_group-requires : goal.note_set-note_group-requires
note_set-note_group-requires t c =
    let tells = c.rows.invariant.0 in
    let key : Text = c.row-item.result.field.key.now in
    let same : c.deref.result.now ≡ tells key = c.deref.ensures.value ∙ c.take-group.ensures.taken tells c.rows.invariant.1 in
    let depth : rows_depth (map (row_of c.args.schema.now) c.deref.result.now) ≡ rows_depth (map (row_of c.args.schema.now) (tells key)) = ap (λ (rs : List Row). rows_depth (map (row_of c.args.schema.now) rs)) same in
    (omega (arith, depth, c.rows.invariant.2.deep key), tt)

pub note_set-rows-preserved : goal.note_set-rows-preserved
note_set-rows-preserved t c =
    let tells = c.rows.invariant.0 in
    let key : Text = c.row-item.result.field.key.now in
    let same : c.deref.result.now ≡ tells key = c.deref.ensures.value ∙ c.take-group.ensures.taken tells c.rows.invariant.1 in
    let has_keys : every (has_key key) (map (row_of c.args.schema.now) c.deref.result.now) = subst (λ (rs : List Row). every (has_key key) (map (row_of c.args.schema.now) rs)) (sym same) (c.rows.invariant.2.has_keys key) in (
      without key tells,
      c.take-group.ensures.left tells c.rows.invariant.1,
      turn_next c.args.schema.now c.args.rows.now c.rows.row-index c.row-item.result c.deref.result.now _ _ _ tells (omega arith) c.row-item.is same (c.in_ok-note_group.ensures key has_keys) c.rows.invariant.2,
    )

pub note_set-returns : goal.note_set-returns
note_set-returns t c =
    turn_end c.args.schema.now c.args.rows.now c.rows.row-index c.rows.least.at c.args.least.now.at c.rows.invariant.0 (omega arith) c.rows.invariant.2

pub note_group-note_set-requires : goal.note_group-note_set-requires
note_group-note_set-requires t c =
    let defs : Defs = c.args.schema.now in
    let own_is : map (row_of defs) c.in_ok-own.own.items ≡ map (own_row c.has_two_objects-is_parted.result) (map (row_of defs) c.args.group.now) =
    c.in_ok-own.ensures defs ∙ ap (λ (ps : List Pattern). with_patterns ps (map (row_of defs) c.args.group.now)) (ap (map pattern_items) c.deref.ensures.value ∙ c.in_ok-patterns.ensures) ∙ patterns_are defs c.has_two_objects-is_parted.result c.args.group.now in
    let inner_is : map (row_of defs) c.in_ok-inner.inner.items ≡ inner_rows (map (row_of defs) c.in_ok-own.own.items) = c.in_ok-inner.ensures ∙ ap (λ (rs : List Row). inner_rows (map (row_of defs) rs)) c.deref-3.ensures.value in
    let full : length c.in_ok-inner.inner.items ≡ 0 → ⊥ = λ e. grind (arith, e, c.is_empty.ensures) in
    let less = inner_measure defs c.args.group.now c.in_ok-own.own.items c.in_ok-inner.inner.items c.has_two_objects-is_parted.result own_is inner_is full in
    let same : rows_depth (map (row_of defs) c.deref-4.result.now) ≡ rows_depth (map (row_of defs) c.in_ok-inner.inner.items) = ap (λ (rs : List Row). rows_depth (map (row_of defs) rs)) c.deref-4.ensures.value in
    (omega (arith, less, same), tt)

pub note_group-returns : goal.note_group-returns
note_group-returns t c = λ k e.
    let defs : Defs = c.args.schema.now in
    let own_is : map (row_of defs) c.in_ok-own.own.items ≡ map (own_row c.has_two_objects-is_parted.result) (map (row_of defs) c.args.group.now) =
    c.in_ok-own.ensures defs ∙ ap (λ (ps : List Pattern). with_patterns ps (map (row_of defs) c.args.group.now)) (ap (map pattern_items) c.deref.ensures.value ∙ c.in_ok-patterns.ensures) ∙ patterns_are defs c.has_two_objects-is_parted.result c.args.group.now in
    let inner_is : map (row_of defs) c.in_ok-inner.inner.items ≡ inner_rows (map (row_of defs) c.in_ok-own.own.items) = c.in_ok-inner.ensures ∙ ap (λ (rs : List Row). inner_rows (map (row_of defs) rs)) c.deref-3.ensures.value in
    group_noted defs k c.args.group.now c.in_ok-own.own.items c.has_two_objects-is_parted.result (map (row_of defs) c.in_ok-inner.inner.items) c.args.least.now.at c.note_shapes.new.least.at c.note_signatures.new.least.at _
    e c.has_two_objects-is_parted.ensures own_is inner_is c.note_shapes.ensures
    (c.in_ok-note_signatures.ensures ∙ ap (λ (rs : List Row). least_from c.note_shapes.new.least.at (others none_seen (map mark_of rs))) c.deref-2.ensures.value)
    (c.in_ok-note_set.ensures ∙ ap (λ (rs : List Row). least_from c.note_signatures.new.least.at (places_of (map (row_of defs) rs))) c.deref-4.ensures.value)

pub note_group-returns-then-is_empty : goal.note_group-returns-then-is_empty
note_group-returns-then-is_empty t c = λ k e.
    let defs : Defs = c.args.schema.now in
    let own_is : map (row_of defs) c.in_ok-own.own.items ≡ map (own_row c.has_two_objects-is_parted.result) (map (row_of defs) c.args.group.now) =
    c.in_ok-own.ensures defs ∙ ap (λ (ps : List Pattern). with_patterns ps (map (row_of defs) c.args.group.now)) (ap (map pattern_items) c.deref.ensures.value ∙ c.in_ok-patterns.ensures) ∙ patterns_are defs c.has_two_objects-is_parted.result c.args.group.now in
    let inner_is : map (row_of defs) c.in_ok-inner.inner.items ≡ inner_rows (map (row_of defs) c.in_ok-own.own.items) = c.in_ok-inner.ensures ∙ ap (λ (rs : List Row). inner_rows (map (row_of defs) rs)) c.deref-3.ensures.value in
    let empty : length c.in_ok-inner.inner.items ≡ 0 = grind (arith, c.is_empty.ensures) in
    group_noted defs k c.args.group.now c.in_ok-own.own.items c.has_two_objects-is_parted.result (map (row_of defs) c.in_ok-inner.inner.items) c.args.least.now.at c.note_shapes.new.least.at c.note_signatures.new.least.at c.note_signatures.new.least.at
    e c.has_two_objects-is_parted.ensures own_is inner_is c.note_shapes.ensures
    (c.in_ok-note_signatures.ensures ∙ ap (λ (rs : List Row). least_from c.note_shapes.new.least.at (others none_seen (map mark_of rs))) c.deref-2.ensures.value)
    (empty_noted defs c.in_ok-inner.inner.items c.note_signatures.new.least.at empty)
