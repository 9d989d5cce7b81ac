-- One more row, and all of them.
use Rattle.std.proofs.Common.{take, ◌∙◌, arith}
use Rattle.std.specs.List.{filter}
use Rattle.doc_merge.specs.GroupView.{has_key}
use Rattle.doc_merge.proofs.GroupSteps.{filter_all, filter_more}
use Rattle.doc_merge.proofs.groups.Groups.of.Goals as goal

pub rows-preserved : goal.rows-preserved
rows-preserved c = λ n.
    c.in_ok-put.ensures (λ m. filter (has_key m) (take c.rows.row-index c.args.rows.now)) c.rows.invariant n
    ∙ filter_more n c.args.rows.now c.rows.row-index c.row-item.result (omega arith) c.row-item.is

pub returns : goal.returns
returns c = λ n. c.rows.invariant n ∙ filter_all n c.args.rows.now c.rows.row-index (omega arith)
