-- One more argument in front.
use Rattle.std.proofs.Common.{◌≡◌, ◌+◌, ◌-◌, ◌<◌, ◌++◌, List, length, map, drop, subst, arith}
use Rattle.std.specs.Prelude.{ℕ}
use Rattle.constant_values.specs.gql_graph.Seen.{Knows}
use Rattle.constant_values.specs.gql_graph.Texts.{Text}
use Rattle.doc_uses.specs.doc_sites.SitesView.{argument_of}
use Rattle.relay_dirs.specs.GivenNames.{given_name, given_names}
use Rattle.relay_dirs.proofs.SpreadSteps.{each_from}
use Rattle.relay_dirs.proofs.spread_arguments.given_names.Goals as goal

pub given-preserved : goal.given-preserved
given-preserved c =
    let low : c.given.left - 1 < length c.args.given.now = omega (arith, c.given.invariant.0) in
    let next : c.given.left ≡ (c.given.left - 1) + 1 = omega arith in
    let rest : List Text = given_names (map argument_of (drop ((c.given.left - 1) + 1) c.args.given.now)) in
    let passed : Knows c.given.seen.names rest = subst (λ (k : ℕ). Knows c.given.seen.names (given_names (map argument_of (drop k c.args.given.now)))) next c.given.invariant.1 in
    let all : given_name (argument_of c.index-given-left.result) ++ rest ≡ given_names (map argument_of (drop (c.given.left - 1) c.args.given.now)) =
    each_from argument_of given_name c.args.given.now (c.given.left - 1) c.index-given-left.result low c.index-given-left.is in (
      omega (arith, c.given.invariant.0),
      subst (λ (ns : List Text). Knows c.put_given_name.new.seen.names ns) all (c.in_ok-put_given_name.ensures rest passed),
    )
