-- What is noted and what is left are the whole.
use Rattle.std.proofs.Common.{◌≡◌, map, drop}
use Rattle.doc_sites.specs.schema_types.FieldRules as rules
use Rattle.doc_sites.specs.gql_graph.Leasts.{least_from}
use Rattle.doc_sites.specs.gql_graph.Rules.{each}
use Rattle.doc_sites.specs.SitesView.{site_of}
use Rattle.doc_fields.proofs.rules.undefined.note_undefined_in.Given as goal

abbrev pub invariant-sites : goal.invariant-sites
invariant-sites l = least_from l.least.at (each (rules.undefined_at l.schema) (map site_of (drop l.site-index l.sites))) ≡ least_from l.initial.least.at (each (rules.undefined_at l.schema) (map site_of l.sites))
