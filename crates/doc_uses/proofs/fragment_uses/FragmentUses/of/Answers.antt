-- Each part is what is wanted of it.
use Rattle.std.proofs.Common.{◌≡◌, length, map, arith}
use Rattle.doc_sites.specs.schema_types.NameRules.{fragments}
use Rattle.doc_sites.specs.gql_graph.Texts.{Text}
use Rattle.doc_sites.specs.SitesView.{definition_of}
use Rattle.doc_uses.proofs.UseSteps.{count_names}
use Rattle.doc_uses.proofs.fragment_uses.FragmentUses.of.Goals as goal
use denote.Ref.{Bor}

pub returns : goal.returns
returns c = λ uses g.
    let same : length c.in_ok-names.names.items ≡ length (fragments (map definition_of c.args.definitions.now)) =
    count_names (λ (n : Bor Text). n.now) c.in_ok-names.names.items (map definition_of c.args.definitions.now) c.in_ok-names.ensures in
    record {
      graph = c.in_ok-graph.ensures;
      count = omega (arith, same);
      gathered = g;
      needs = c.in_ok-needs.ensures _ c.in_ok-graph.ensures _ g;
    }
