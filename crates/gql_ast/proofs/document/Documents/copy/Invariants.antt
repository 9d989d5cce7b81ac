-- The documents copied so far are those that the loop has passed.
use Rattle.std.proofs.Common.{◌≡◌, take}
use Rattle.gql_ast.proofs.document.Documents.copy.Given as goal

abbrev pub invariant-documents : goal.invariant-documents
invariant-documents l = l.items.items ≡ take l.document-index l.document-items
