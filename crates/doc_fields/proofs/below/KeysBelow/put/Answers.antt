-- What is put is kept, and of other names what was kept before.
use Rattle.std.proofs.Common.{Option, option_map, ap, ◌∙◌}
use Rattle.std.proofs.lemmas.Map.Text.{btree_map_updates_str}
use Rattle.doc_sites.proofs.gql_graph_laws.Graphs.{map_cond}
use Rattle.doc_fields.specs.Keys.{keys_view}
use Rattle.doc_fields.specs.declared.keys.RootKeys.{RootKeys}
use Rattle.doc_fields.proofs.below.KeysBelow.put.Goals as goal

pub returns : goal.returns
returns c = λ n.
    ap (λ (o : Option RootKeys). option_map keys_view o) (btree_map_updates_str c.args.name.now c.args.self.now.by_name c.insert.new.self _ c.in_ok-_before.ensures.updates n)
    ∙ map_cond keys_view _ _ _
