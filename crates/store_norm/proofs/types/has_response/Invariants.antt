-- Whether it is among those that are left is whether it is among all.
use Rattle.std.proofs.Common.{◌≡◌, drop}
use Rattle.plan_ir.specs.gql_plain.Order.{has_text}
use Rattle.plan_ir.specs.store_model.Says.{responses}
use Rattle.store_norm.proofs.types.has_response.Given as goal

abbrev pub invariant-groups : goal.invariant-groups
invariant-groups l = has_text (responses l.groups) l.key ≡ has_text (responses (drop l.group-index l.groups)) l.key
