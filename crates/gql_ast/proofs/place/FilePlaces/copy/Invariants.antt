-- The places copied so far are those that the loop has passed.
use Rattle.std.proofs.Common.{◌≡◌, take}
use Rattle.gql_ast.proofs.place.FilePlaces.copy.Given as goal

abbrev pub invariant-places : goal.invariant-places
invariant-places l = l.items.items ≡ take l.place-index l.place-items
