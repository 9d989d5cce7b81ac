-- The spreads of the fragment.
use Rattle.std.proofs.Common.{◌≡◌, OnOk, List, map, ap, subst, ◌∙◌}
use Rattle.doc_sites.specs.SitesView.{fragment_of, site_of}
use Rattle.doc_sites.specs.declared.site.Site.{Site}
use Rattle.doc_sites.specs.gql_graph.Leasts.{least_from}
use Rattle.doc_sites.specs.schema_trees.LocatedView.{name_of}
use Rattle.doc_sites.specs.schema_trees.Located.{Located}
use Rattle.doc_sites.specs.schema_types.NameRules.{spreads_in}
use Rattle.doc_sites.specs.gql_graph.Texts.{Text}
use Rattle.doc_names.specs.Cycles.{leading_back}
use Rattle.doc_names.proofs.rules.cycles.note_cycles_of.Goals as goal

pub returns : goal.returns
returns c = λ next t s.
    let n : Text = (fragment_of c.args.fragment.now).name.name in
    let ss : List Located = spreads_in (fragment_of c.args.fragment.now).sites in
    let same : map name_of c.deref-2.result.now ≡ ss =
    ap (map name_of) c.deref-2.ensures.value ∙ c.in_ok-spreads.ensures ∙ ap (λ (sites : List Site). spreads_in (map site_of sites)) c.deref.ensures.value in
    subst (λ (ms : List Located). OnOk c.note_leading_back.result (c.note_leading_back.new.least.at ≡ least_from c.args.least.now.at (leading_back next c.args.steps n ms))) same (c.note_leading_back.ensures next t s)
