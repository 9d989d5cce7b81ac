use Rattle.std.proofs.Common.{◌≡◌, ◌+◌, ◌/◌, [], ◌∷◌, ◌++◌, sym, ap, ◌∙◌}
use Rattle.std.specs.Prelude.{take, drop}
use Rattle.std.proofs.lemmas.List.{take-append-drop, append_assoc}
use Rattle.store_tree.specs.declared.leaf.TheConstants.{MOST}
use Rattle.store_tree.proofs.leaf.Leaf.part.Goals as goal

pub returns-clause-pairs : goal.returns-clause-pairs
returns-clause-pairs g c =
    let pairs = c.args.self.now in
    let half = MOST / 2 + 1 in
    let later = c.reserve_exact.new.self.items in
    let first_half : c.split_off.new.self.items ≡ take half pairs = cc (c.in_ok-items.ensures.items, c.self.view_is) in
    let later_half : later ≡ drop half pairs = cc (c.in_ok-reserve_exact.ensures.items, c.in_ok-items.ensures.tail, c.self.view_is) in
    let popped : c.split_off.new.self.items ≡ c.pop.new.self.items ++ c.in-Some.middle ∷ [] = c.in-Some.ensures.items in
    sym (take-append-drop half pairs)
    ∙ (λ i. sym first_half i ++ sym later_half i)
    ∙ ap (λ first. first ++ later) popped
    ∙ append_assoc c.pop.new.self.items (c.in-Some.middle ∷ []) later
