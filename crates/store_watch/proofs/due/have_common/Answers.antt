use Rattle.std.proofs.Common.{◌≡◌, ap, ◌∙◌}
use Rattle.std.specs.List.{list_any}
use Rattle.plan_ir.specs.gql_plain.Order.{has_text}
use Rattle.store_watch.proofs.Found.{meets_swap}
use Rattle.store_watch.proofs.due.have_common.Goals as goal

pub returns-then-len : goal.returns-then-len
returns-then-len c = c.has_any.ensures ∙ ap (list_any (has_text c.args.seen.now)) c.as_slice.ensures ∙ meets_swap c.args.seen.now c.args.touched.now
