-- None so far is that one.
use Rattle.std.proofs.Common.{◌≡◌, map, drop}
use Rattle.std.specs.List.{list_any}
use Rattle.plan_ir.specs.gql_ast.ValueView.{argument_of}
use Rattle.doc_merge.specs.Signatures.{same_argument}
use Rattle.doc_merge.proofs.signature.has_argument.Given as goal

abbrev pub invariant-others : goal.invariant-others
invariant-others l = list_any (same_argument (argument_of l.one)) (map argument_of (drop l.other-index l.other-items)) ≡ list_any (same_argument (argument_of l.one)) l.others
