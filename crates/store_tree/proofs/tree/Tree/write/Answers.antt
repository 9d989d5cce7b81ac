use Rattle.std.proofs.Common.{◌≡◌, ap, ◌∙◌}
use Rattle.store_tree.specs.Contents.{by_bytes}
use Rattle.store_tree.proofs.Seen.{seen-put, seen-rises}
use Rattle.store_tree.proofs.Writing.{pairs-written, same-height, order-written, seen-back}
use Rattle.store_tree.proofs.tree.Tree.write.Goals as goal

pub invariant_of-self : goal.invariant_of-self
invariant_of-self g c = order-written c.args.item c.self.inside.root _ _ c.write_entry.ensures c.self.invariant

pub returns-clause-written : goal.returns-clause-written
returns-clause-written g c = λ none.
    seen-put c.self.inside.root.pairs c.args.self.now.pairs (ap (λ d. d.pairs) c.self.view_is) c.args.item.0 c.args.item.1 _
    (pairs-written c.args.item c.self.inside.root _ _ c.write_entry.ensures none)

pub returns-clause-height : goal.returns-clause-height
returns-clause-height g c = same-height c.args.item c.self.inside.root _ _ c.write_entry.ensures ∙ ap (λ d. d.height) c.self.view_is

pub returns-clause-given_back : goal.returns-clause-given_back
returns-clause-given_back g c = seen-back c.args.item c.self.inside.root _ c.args.self.now c.self.view_is _ c.write_entry.ensures

pub returns-clause-in_order : goal.returns-clause-in_order
returns-clause-in_order g c = seen-rises c.self.inside.root _ c.self.view_is

pub returns-then-count-clause-in_order : goal.returns-then-count-clause-in_order
returns-then-count-clause-in_order g c = seen-rises c.self.inside.root _ c.self.view_is
