-- A spread may be wrong; other selections are not.
use Rattle.std.proofs.Common.{◌≡◌, OnOk, List, map, ap, sym, subst}
use Rattle.constant_values.specs.gql_graph.Leasts.{least_from}
use Rattle.constant_values.specs.schema_trees.LocatedView.{name_of}
use Rattle.doc_uses.specs.doc_sites.SitesView.{directive_of, site_of}
use Rattle.doc_uses.specs.doc_sites.declared.site.DirectiveAt.{DirectiveAt}
use Rattle.doc_uses.specs.doc_sites.declared.site.Site.{Site}
use Rattle.relay_rules.specs.Spreads.{given_wrong_at, spread_wrong}
use Rattle.relay_dirs.proofs.rules.spreads.note_given_at.Goals as goal

pub returns-in-Field : goal.returns-in-Field
returns-in-Field c = λ fs h. sym (ap (λ (s : Site). least_from c.args.least.now.at (given_wrong_at c.args.schema.now fs (site_of s))) c.in-Field.is)

pub returns-in-Inline : goal.returns-in-Inline
returns-in-Inline c = λ fs h. sym (ap (λ (s : Site). least_from c.args.least.now.at (given_wrong_at c.args.schema.now fs (site_of s))) c.in-Inline.is)

pub returns-in-Spread : goal.returns-in-Spread
returns-in-Spread c = λ fs h.
    let by : OnOk c.note_given_by.result (c.note_given_by.new.least.at ≡ least_from c.args.least.now.at (spread_wrong c.args.schema.now fs (name_of c.in-Spread.name) (map directive_of c.in-Spread.directives.items))) =
    subst (λ (ds : List DirectiveAt). OnOk c.note_given_by.result (c.note_given_by.new.least.at ≡ least_from c.args.least.now.at (spread_wrong c.args.schema.now fs (name_of c.in-Spread.name) (map directive_of ds))))
    c.deref.ensures.value (c.note_given_by.ensures fs h) in
    subst (λ (s : Site). OnOk c.note_given_by.result (c.note_given_by.new.least.at ≡ least_from c.args.least.now.at (given_wrong_at c.args.schema.now fs (site_of s)))) (sym c.in-Spread.is) by
