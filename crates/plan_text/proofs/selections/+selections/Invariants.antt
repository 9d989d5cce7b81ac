-- What is written, followed by what is left, is the whole.
use Rattle.std.proofs.Common.{◌≡◌, ◌++◌, false, map, drop, string_bytes}
use Rattle.plan_text.proofs.Joining.{join_from}
use Rattle.plan_text.proofs.selections.+selections.Given as goal
use Rattle.plan_text.specs.NodeTexts.{node_text}

abbrev pub invariant-write_set-items : goal.invariant-write_set-items
invariant-write_set-items l =
    string_bytes l.out ++ join_from l.begun 32 (map node_text (drop l.node-index l.node-items))
    ≡ string_bytes l.initial.out ++ join_from false 32 (map node_text l.node-items)
