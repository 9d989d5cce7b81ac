use Rattle.std.proofs.Common.{◌≡◌, ◌++◌, is_some, take}
use Rattle.schema_tables.specs.Objects.{names_object}
use Rattle.schema_tables.specs.Places.{first_at}
use Rattle.std.specs.List.{filter}
use Rattle.schema_tables.proofs.possible.with_objects.Given as goal

abbrev pub invariant-members : goal.invariant-members
invariant-members l = l.names ≡ l.initial.names ++ filter (λ n. is_some (first_at (names_object n) l.definitions)) (take l.member-index l.members)
