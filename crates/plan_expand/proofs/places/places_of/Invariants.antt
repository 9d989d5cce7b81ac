-- What is put and what is left are the whole.
use Rattle.std.proofs.Common.{◌≡◌, ◌++◌, drop}
use Rattle.plan_ir.specs.schema_types.DocumentRules.{places_of}
use Rattle.plan_expand.proofs.places.places_of.Given as goal

abbrev pub invariant-documents : goal.invariant-documents
invariant-documents l = l.places.items ++ places_of (drop l.document-index l.document-items) ≡ places_of l.documents
