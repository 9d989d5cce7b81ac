-- What is gathered and what is left are the whole.
use Rattle.std.proofs.Common.{◌≡◌, ◌++◌, List, map, drop}
use Rattle.constant_values.specs.schema_types.ArgumentRules.{Use}
use Rattle.constant_values.specs.schema_types.Sites.{FragmentAt}
use Rattle.constant_values.specs.gql_graph.Rules.{each}
use Rattle.constant_values.specs.gql_graph.Texts.{Text}
use Rattle.doc_uses.specs.doc_sites.SitesView.{definition_of}
use Rattle.doc_uses.specs.UsesByName.{Gathers, named_in}
use Rattle.relay_rules.specs.Spreads.{uses_in_fragment}
use Rattle.relay_dirs.specs.Tables.{Suits}
use Rattle.relay_dirs.proofs.fragment_uses.gather.Given as goal

abbrev pub invariant-definitions : goal.invariant-definitions
invariant-definitions l = (fs : List FragmentAt) → Suits l.table fs
    → (tells : Text → List Use) × Gathers l.gathered tells
    × ((n : Text) → tells n ++ each (λ d. named_in (uses_in_fragment l.schema fs) d n) (map definition_of (drop l.definition-index l.definitions))
    ≡ each (λ d. named_in (uses_in_fragment l.schema fs) d n) (map definition_of l.definitions))
