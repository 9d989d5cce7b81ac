-- Of each name, what is found and what is left are the whole.
use Rattle.std.proofs.Common.{◌≡◌, map, drop}
use Rattle.doc_sites.specs.schema_types.NameRules.{fragments}
use Rattle.doc_sites.specs.gql_graph.Texts.{Text}
use Rattle.doc_sites.specs.SitesView.{definition_of}
use Rattle.doc_sites.specs.Definitions.{on_fragment}
use Rattle.doc_fields.specs.Heads.{all_of, keys_found, keys_named, keys_of_name}
use Rattle.doc_fields.specs.Keys.{join_sums, sum_of}
use Rattle.doc_fields.proofs.heads.heads_of_each.Given as goal

abbrev pub invariant-definitions : goal.invariant-definitions
invariant-definitions l = (n : Text)
    → join_sums (keys_found l.heads n) (all_of (λ d. sum_of (on_fragment (keys_named l.schema l.root n) d)) (map definition_of (drop l.definition-index l.definitions))) ≡ sum_of (keys_of_name l.schema l.root (fragments (map definition_of l.definitions)) n)
