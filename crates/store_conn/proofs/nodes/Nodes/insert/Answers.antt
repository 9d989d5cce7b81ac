use Rattle.std.proofs.Common.{Some, sym, ap, ◌∙◌, option_copied}
use Rattle.store_conn.proofs.Sets.{node_put}
use Rattle.store_conn.proofs.nodes.Nodes.insert.Goals as goal
use Rattle.store_conn.specs.Nodes.{knows, and_node}

pub returns-in_ok-insert-in-Some : goal.returns-in_ok-insert-in-Some
returns-in_ok-insert-in-Some c = λ other.
    let old = c.args.self.now.ids in
    node_put c.as_str.result.now old c.insert.new.self (λ q. c.in_ok-insert-in-Some.ensures.updates.0 (record { ref_ptr = (0, 0); now = q })) other
    ∙ ap (λ id. and_node (Some id) (knows old) other) c.as_str.ensures
    ∙ ap (λ o. and_node (option_copied o) (knows old) other) (sym c.in-Some.is)
