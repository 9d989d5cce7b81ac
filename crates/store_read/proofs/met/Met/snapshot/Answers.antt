-- The ids are the distinct ones in byte order.
use Rattle.std.proofs.Common.{◌≡◌, ap, ◌∙◌}
use Rattle.plan_ir.proofs.gql_plain_laws.SortedTexts.{AreSortedOf-is}
use Rattle.plan_ir.specs.gql_plain.Order.{sorted_texts}
use Rattle.store_read.proofs.met.Met.snapshot.Goals as goal
use Rattle.store_read.specs.Meeting.{Meeting}

pub returns : goal.returns
returns c =
    let met = c.self.view_is in
    let seen : c.in_ok-sorted_ids.field-0 ≡ sorted_texts c.args.self.seen =
    AreSortedOf-is _ c.in_ok-sorted_ids.field-0 c.in_ok-sorted_ids.ensures ∙ ap (λ (m : Meeting). sorted_texts m.seen) met in
    λ i. record { shown = c.args.shown; missing = (ap (λ (m : Meeting). m.missing) met) i; seen = seen i }
