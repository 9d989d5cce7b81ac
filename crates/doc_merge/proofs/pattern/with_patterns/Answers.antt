-- One more row, or the end of one of both.
use Rattle.std.proofs.Common.{map, ap, ◌∙◌, arith}
use Rattle.std.proofs.lemmas.List.{map-append}
use Rattle.doc_merge.specs.Joined.{with_pattern}
use Rattle.doc_merge.specs.RowView.{pattern_items, row_of}
use Rattle.doc_merge.proofs.PatternSteps.{ParentList, parents, with_end, with_next, with_short}
use Rattle.doc_merge.proofs.pattern.with_patterns.Goals as goal

pub returns-then-at-group : goal.returns-then-at-group
returns-then-at-group c = λ defs. with_short pattern_items defs c.args.patterns.now c.args.group.now c.rows.at _ _ (omega arith) (c.rows.invariant.1 defs)

pub returns : goal.returns
returns c = λ defs. with_end pattern_items defs c.args.patterns.now c.args.group.now c.rows.at _ _ (omega arith) (c.rows.invariant.1 defs)

pub rows-preserved : goal.rows-preserved
rows-preserved c = (
  omega arith,
  λ defs. with_next pattern_items defs c.args.patterns.now c.args.group.now c.rows.at c.index-patterns-at.result c.index-group-at.result c.with_pattern-row.result _ _ _ (omega arith) (omega arith) c.index-patterns-at.is c.index-group-at.is
      (ap (map (row_of defs)) c.in_ok-push.ensures.items ∙ map-append (row_of defs) _ _) (c.with_pattern-row.ensures defs ∙ ap (λ (ps : ParentList). with_pattern (parents ps) (row_of defs c.index-group-at.result)) c.as_slice.ensures.value) (c.rows.invariant.1 defs),
)
