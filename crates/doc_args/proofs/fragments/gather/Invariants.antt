-- What is gathered and what is left are the whole.
use Rattle.std.proofs.Common.{◌≡◌, ◌++◌, List, map, drop}
use Rattle.doc_uses.specs.schema_types.ArgumentRules.{Use}
use Rattle.gql_graph.specs.Rules.{each}
use Rattle.gql_graph.specs.Texts.{Text}
use Rattle.doc_uses.specs.doc_sites.SitesView.{definition_of}
use Rattle.doc_uses.specs.UsesByName.{Gathers, named_in}
use Rattle.doc_args.specs.UsesIn.{uses_in_fragment}
use Rattle.doc_args.proofs.fragments.gather.Given as goal

abbrev pub invariant-definitions : goal.invariant-definitions
invariant-definitions l =
    (tells : Text → List Use) × Gathers l.gathered tells
    × ((n : Text) → tells n ++ each (λ d. named_in (uses_in_fragment l.schema) d n) (map definition_of (drop l.definition-index l.definitions))
    ≡ each (λ d. named_in (uses_in_fragment l.schema) d n) (map definition_of l.definitions))
