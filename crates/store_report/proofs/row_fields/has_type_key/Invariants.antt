use Rattle.std.proofs.Common.{◌≡◌, drop}
use Rattle.gql_order.specs.gql_plain.Order.{member_at}
use Rattle.store_model.specs.Records.{typename}
use Rattle.store_report.proofs.row_fields.has_type_key.Given as goal

abbrev pub invariant-fields : goal.invariant-fields
invariant-fields l = member_at (drop l.field-index l.fields) typename ≡ member_at l.fields typename
