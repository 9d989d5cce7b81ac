-- The node stands behind the documents that are passed, and is one of those that are left.
use Rattle.std.proofs.Common.{◌≡◌, ◌<◌, length, drop}
use Rattle.plan_project.proofs.places.documents_fault.Given as goal
use Rattle.plan_project.specs.Faults.{place_at}
use Rattle.plan_ir.specs.schema_types.DocumentRules.{places_of}

abbrev pub invariant-documents : goal.invariant-documents
invariant-documents l = record {
  same : place_at (places_of (drop l.document-index l.document-items)) l.left ≡ place_at (places_of l.documents) l.fault.node;
  within : l.left < length (places_of (drop l.document-index l.document-items));
}
