-- Each so far is one of the others.
use Rattle.std.proofs.Common.{◌≡◌, map, drop}
use Rattle.plan_ir.specs.gql_ast.ValueView.{argument_of}
use Rattle.doc_merge.specs.Signatures.{are_within}
use Rattle.doc_merge.proofs.signature.are_within.Given as goal

abbrev pub invariant-ones : goal.invariant-ones
invariant-ones l = are_within (map argument_of (drop l.one-index l.one-items)) l.others ≡ are_within l.ones l.others
