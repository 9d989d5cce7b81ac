use Rattle.std.proofs.Common.{◌≡◌, ◌+◌, drop}
use Rattle.plan_project.proofs.DocumentLaws.{ReadSoFar}
use Rattle.plan_project.proofs.parsing.parse_documents.Given as goal
use Rattle.plan_project.specs.Verdicts.{texts_of}

abbrev pub invariant-documents : goal.invariant-documents
invariant-documents l = record {
  so_far : ReadSoFar 1 (texts_of l.documents) l.trees (l.file + 1) (texts_of (drop l.document-index l.documents));
  numbered : l.file ≡ l.document-index;
}
