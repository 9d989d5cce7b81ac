-- What is noted and what is left are the whole.
use Rattle.std.proofs.Common.{◌≡◌, List, map, drop}
use Rattle.doc_sites.specs.schema_types.FieldRules as rules
use Rattle.doc_sites.specs.gql_graph.Graphs.{Tells}
use Rattle.doc_sites.specs.gql_graph.Leasts.{least_from}
use Rattle.doc_sites.specs.gql_graph.Rules.{each}
use Rattle.doc_sites.specs.schema_types.Sites.{FragmentAt}
use Rattle.doc_sites.specs.SitesView.{site_of}
use Rattle.doc_fields.specs.Common.{AreCommon}
use Rattle.doc_fields.specs.Fragments.{conditions_of}
use Rattle.doc_fields.proofs.rules.conditions.note_never_in.Given as goal

abbrev pub invariant-sites : goal.invariant-sites
invariant-sites l = AreCommon l.schema l.initial.common
    → AreCommon l.schema l.common
    × ((fs : List FragmentAt) → Tells l.conditions (conditions_of fs)
    → least_from l.least.at (each (rules.never_applies_at l.schema fs) (map site_of (drop l.site-index l.sites))) ≡ least_from l.initial.least.at (each (rules.never_applies_at l.schema fs) (map site_of l.sites)))
