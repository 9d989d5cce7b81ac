-- One more row under its key.
use Rattle.std.proofs.Common.{List, ◌∷◌, ◌++◌, [], ap, ◌∙◌}
use Rattle.std.proofs.lemmas.Map.Text.{btree_map_updates_str}
use Rattle.doc_merge.proofs.GroupSteps.{put_row}
use Rattle.doc_merge.specs.declared.row.Row.{Row}
use Rattle.doc_merge.proofs.groups.Groups.put.Goals as goal

pub returns : goal.returns
returns c = λ tells g n.
    put_row tells c.args.row.now.field.key.now n c.args.row.now c.push.new.self _ _
    (c.in_ok-push.ensures.items ∙ ap (λ (rs : List Row). rs ++ c.args.row.now ∷ []) (c.take-rows.ensures.taken tells g))
    (c.take-rows.ensures.left tells g n)
    (btree_map_updates_str c.args.row.now.field.key.now c.take-rows.new.self.by_key c.insert.new.self _ c.in_ok-insert.ensures.updates n)
