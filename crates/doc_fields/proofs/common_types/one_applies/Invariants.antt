-- None so far applies.
use Rattle.std.proofs.Common.{◌≡◌, drop}
use Rattle.std.specs.List.{list_any}
use Rattle.doc_sites.specs.schema_tables.Types.{applies}
use Rattle.doc_fields.proofs.common_types.one_applies.Given as goal

abbrev pub invariant-objects : goal.invariant-objects
invariant-objects l = list_any (λ object. applies l.schema object l.to) (drop l.object-index l.object-items) ≡ list_any (λ object. applies l.schema object l.to) l.objects
