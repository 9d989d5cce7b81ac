-- The uses in the spreads, by the local variables.
use Rattle.std.proofs.Common.{◌≡◌, List, map, ap, ◌∙◌}
use Rattle.constant_values.specs.gql_graph.Leasts.{least_from}
use Rattle.constant_values.specs.gql_graph.Rules.{each}
use Rattle.constant_values.specs.schema_types.ArgumentRules as rules
use Rattle.constant_values.specs.schema_types.Sites as sites
use Rattle.gql_syntax.specs.gql_ast.declared.variable.VariableDef.{VariableDef}
use Rattle.doc_uses.specs.doc_sites.SitesView.{directive_of, fragment_of, site_of}
use Rattle.doc_uses.specs.doc_sites.declared.site.DirectiveAt.{DirectiveAt}
use Rattle.doc_uses.specs.doc_sites.declared.site.Site.{Site}
use Rattle.relay_marks.specs.Locals.{Local, locals_of}
use Rattle.relay_rules.specs.Spreads.{local_use_wrong, uses_in_spreads}
use Rattle.doc_uses.specs.UseView.{use_of}
use Rattle.relay_marks.specs.View.{local_view}
use Rattle.doc_uses.specs.declared.uses.Use.{Use}
use Rattle.relay_dirs.proofs.rules.local_uses.note_fragment.Goals as goal

pub returns : goal.returns
returns c = λ fs s.
    let defs = c.args.schema.now in
    let f : sites.FragmentAt = fragment_of c.args.fragment.now in
    let ls : List Local = map local_view c.as_slice.result.now in
    let locals : ls ≡ locals_of f.directives =
    ap (λ (vs : List VariableDef). map local_view vs) c.as_slice.ensures ∙ c.in_ok-locals.ensures
    ∙ ap (λ (ds : List DirectiveAt). locals_of (map directive_of ds)) c.deref-2.ensures.value in
    let uses : map use_of c.deref-3.result.now ≡ uses_in_spreads defs fs f.sites =
    ap (λ (us : List Use). map use_of us) c.deref-3.ensures.value ∙ c.in_ok-uses.ensures fs s
    ∙ ap (λ (ss : List Site). uses_in_spreads defs fs (map site_of ss)) c.deref.ensures.value in
    c.note_uses.ensures ls c.in_ok-own.ensures
    ∙ ap (λ (ms : List Local). least_from c.args.least.now.at (each (local_use_wrong ms) (map use_of c.deref-3.result.now))) locals
    ∙ ap (λ (us : List rules.Use). least_from c.args.least.now.at (each (local_use_wrong (locals_of f.directives)) us)) uses
