-- Where no level stands, none is left out.
use Rattle.std.proofs.Common.{◌≡◌, length, ap, arith}
use Rattle.doc_merge.proofs.OutSteps.{outer_rest}
use Rattle.doc_merge.proofs.PatternSteps.{out_of_none}
use Rattle.doc_merge.specs.Cells.{with_pattern}
use Rattle.doc_merge.specs.Paths.{Pattern}
use Rattle.doc_merge.specs.RowView.{mark_of}
use Rattle.doc_merge.proofs.others.one_out.Goals as goal

pub returns-then-is_empty : goal.returns-then-is_empty
returns-then-is_empty c = out_of_none c.args.row.now (grind (arith, c.is_empty.ensures))

pub returns : goal.returns
returns c =
    let full : length c.args.row.now.pattern.now ≡ 0 → ⊥ = λ e. grind (arith, e, c.is_empty.ensures) in
    ap (λ (ps : Pattern). with_pattern ps (mark_of c.args.row.now)) (outer_rest c.args.row.now.pattern.now full)
