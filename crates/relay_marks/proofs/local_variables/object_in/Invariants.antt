-- What is said and what is left say what all say.
use Rattle.std.proofs.Common.{◌≡◌, map, drop}
use Rattle.gql_syntax.specs.gql_ast.Value.{members_of}
use Rattle.gql_syntax.specs.gql_ast.ValueView.{argument_of}
use Rattle.relay_marks.specs.Locals.{members_from, empty_object}
use Rattle.relay_marks.specs.View.{object_view}
use Rattle.relay_marks.proofs.local_variables.object_in.Given as goal

abbrev pub invariant-members : goal.invariant-members
invariant-members l = members_from (object_view l.object) (members_of (map argument_of (drop l.member-index l.member-items))) ≡ members_from empty_object (members_of l.members)
