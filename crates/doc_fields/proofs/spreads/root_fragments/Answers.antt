-- What is found.
use Rattle.std.proofs.Common.{map, List, subst, ◌∙◌}
use Rattle.doc_sites.specs.gql_graph.Graphs.{Tells}
use Rattle.doc_sites.specs.schema_types.NameRules.{fragments}
use Rattle.doc_sites.specs.schema_types.Sites.{FragmentAt}
use Rattle.doc_sites.specs.SitesView.{definition_of}
use Rattle.doc_fields.specs.Heads.{keys_of_name, AreBelow}
use Rattle.doc_fields.specs.Keys.{next_at_root, sum_of}
use Rattle.doc_fields.proofs.BelowSteps.{spreads_at_once}
use Rattle.doc_fields.proofs.spreads.root_fragments.Goals as goal

pub returns : goal.returns
returns c =
    let fs : List FragmentAt = fragments (map definition_of c.args.definitions.now) in
    let tells : Tells c.in_ok-spreads.spreads (next_at_root c.args.schema.now c.args.root.now fs) = λ n. c.in_ok-spreads.ensures n ∙ spreads_at_once c.args.schema.now c.args.root.now fs n in
    record {
      spreads = tells;
      heads = c.in_ok-heads.ensures;
      count = c.in_ok-count.ensures;
      below = subst (λ count. AreBelow (next_at_root c.args.schema.now c.args.root.now fs) (λ n. sum_of (keys_of_name c.args.schema.now c.args.root.now fs n)) count c.in_ok-below.below) c.in_ok-count.ensures
          (c.in_ok-below.ensures (next_at_root c.args.schema.now c.args.root.now fs) tells (λ n. sum_of (keys_of_name c.args.schema.now c.args.root.now fs n)) c.in_ok-heads.ensures);
    }
