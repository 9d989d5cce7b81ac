-- The selections copied so far are those that the loop has passed.
use Rattle.std.proofs.Common.{◌≡◌, take}
use Rattle.gql_ast.specs.SelectionView.{sels_of}
use Rattle.gql_ast.proofs.selection.+copy.Given as goal

abbrev pub invariant-Selections::copy-selections : goal.invariant-Selections::copy-selections
invariant-Selections::copy-selections l = sels_of l.items.items ≡ sels_of (take l.selection-index l.selection-items)
