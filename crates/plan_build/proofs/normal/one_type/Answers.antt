-- One name is in order.
use Rattle.std.proofs.Common.{◌≡◌, [], ◌∷◌, ◌++◌, ap, ◌∙◌}
use Rattle.plan_ir.proofs.gql_plain_laws.SortedTexts.{AreSortedOf-is}
use Rattle.plan_ir.specs.gql_plain.Order.{sorted_texts}
use Rattle.plan_build.proofs.normal.one_type.Goals as goal

pub returns : goal.returns
returns c =
    let names : c.push.new.self.items ≡ c.args.name.now ∷ [] = c.in_ok-push.ensures.items ∙ (λ i. c.new-names.ensures.items i ++ c.in_ok-copy.ensures i ∷ []) in
    AreSortedOf-is c.push.new.self.items c.in_ok-ids.ids c.in_ok-ids.ensures ∙ ap sorted_texts names
