-- The rows so far are kept.
use Rattle.std.proofs.Common.{take}
use Rattle.std.specs.List.{filter}
use Rattle.doc_merge.specs.GroupView.{Gathers, has_key}
use Rattle.doc_merge.proofs.groups.Groups.of.Given as goal

abbrev pub invariant-rows : goal.invariant-rows
invariant-rows l = Gathers l.groups (λ n. filter (has_key n) (take l.row-index l.rows))
