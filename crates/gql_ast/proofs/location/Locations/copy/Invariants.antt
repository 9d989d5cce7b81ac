-- The locations copied so far are those that the loop has passed.
use Rattle.std.proofs.Common.{◌≡◌, take}
use Rattle.gql_ast.proofs.location.Locations.copy.Given as goal

abbrev pub invariant-locations : goal.invariant-locations
invariant-locations l = l.items.items ≡ take l.location-index l.location-items
