-- What is located and what is left are the whole.
use Rattle.std.proofs.Common.{◌≡◌, ◌++◌, map, drop}
use Rattle.schema_types.specs.DocumentRules.{trees_of}
use Rattle.schema_types.specs.Sites.{documents_at}
use Rattle.doc_sites.specs.SitesView.{definition_of}
use Rattle.doc_sites.proofs.defining.definitions_at.Given as goal

abbrev pub invariant-documents : goal.invariant-documents
invariant-documents l =
    map definition_of l.definitions.items ++ documents_at l.schema l.at (trees_of (drop l.document-index l.document-items))
    ≡ documents_at l.schema 0 (trees_of l.documents)
