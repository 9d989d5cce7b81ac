-- A name that is there, and a new one.
use Rattle.std.proofs.Common.{option_map, ap, sym, ◌∙◌}
use Rattle.std.proofs.lemmas.Map.Text.{btree_map_updates_str}
use Rattle.gql_graph.proofs.Graphs.{held_already, held_put, is_some-map, map_cond}
use Rattle.gql_graph.proofs.graph.Graph.put.Goals as goal

pub returns-then-contains_key : goal.returns-then-contains_key
returns-then-contains_key c = λ pairs h. held_already c.args.self.now pairs c.args.name.now _ h (is_some-map _ _ ∙ sym c.contains_key.ensures ∙ c.if-contains_key.true)

pub returns : goal.returns
returns c = λ pairs h.
    held_put c.args.self.now (record { links = c.insert.new.self }) pairs c.args.name.now _ h (is_some-map _ _ ∙ sym c.contains_key.ensures ∙ c.if-contains_key.false)
    (λ n. ap (option_map _) (btree_map_updates_str c.args.name.now c.args.self.now.links c.insert.new.self _ c.in_ok-insert.ensures.updates n) ∙ map_cond _ _ _ _)
