use Rattle.std.proofs.Common.{Bool, cond, sym, ap, ◌∙◌, option_copied}
use Rattle.store_conn.proofs.nodes.Nodes.insert_wanted.Goals as goal
use Rattle.store_conn.specs.Nodes.{knows, and_node}

pub returns-then-not-contains : goal.returns-then-not-contains
returns-then-not-contains c = λ other.
    let node = option_copied c.args.node in
    let known = knows c.args.self.now.ids in
    sym (ap (λ (b : Bool). cond b (and_node node known) known other) (sym c.contains.ensures ∙ c.if-not-contains.true))

pub returns : goal.returns
returns c = λ other.
    let node = option_copied c.args.node in
    let known = knows c.args.self.now.ids in
    c.in_ok-insert.ensures other ∙ sym (ap (λ (b : Bool). cond b (and_node node known) known other) (sym c.contains.ensures ∙ c.if-not-contains.false))
