use Rattle.std.proofs.Common.{◌≡◌, take}
use Rattle.gql_plain.specs.Shown.{shown_members}
use Rattle.store_record.proofs.keys.connection_arguments.Given as goal
use Rattle.store_record.specs.Keys.{is_kept, kept_by}

abbrev pub invariant-arguments : goal.invariant-arguments
invariant-arguments l = l.kept ≡ kept_by (is_kept l.connection.filters) (shown_members (take l.argument-index l.argument-items))
