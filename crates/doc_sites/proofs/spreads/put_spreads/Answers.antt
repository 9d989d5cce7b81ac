-- A fragment with those that it spreads.
use Rattle.std.proofs.Common.{◌≡◌, OnOk, List, [], ◌∷◌, ◌++◌, map, ap, sym, subst, ◌∙◌}
use Rattle.doc_sites.specs.SitesView.{definition_of, fragment_of, site_of}
use Rattle.doc_sites.specs.declared.site.DefinitionAt.{DefinitionAt}
use Rattle.doc_sites.specs.declared.site.Site.{Site}
use Rattle.schema_types.specs.gql_graph.Graphs.{Holds}
use Rattle.schema_types.specs.NameRules.{names_of_all, spreads_in}
use Rattle.schema_types.specs.gql_graph.Texts.{Text}
use Rattle.doc_sites.specs.Definitions.{spreading}
use denote.Ref.{Bor}
use Rattle.doc_sites.proofs.spreads.put_spreads.Goals as goal

pub returns-in_ok-next-in-Fragment : goal.returns-in_ok-next-in-Fragment
returns-in_ok-next-in-Fragment c = λ pairs h.
    let name : Text = (fragment_of c.in-Fragment.fragment).name.name in
    let next : List Text = map (λ (n : Bor Text). n.now) c.in_ok-next-in-Fragment.next.items in
    let sent : next ≡ names_of_all (spreads_in (map site_of c.in-Fragment.fragment.sites.items)) =
    c.in_ok-next-in-Fragment.ensures ∙ ap (λ (ss : List Site). names_of_all (spreads_in (map site_of ss))) c.deref.ensures.value in
    let same : pairs ++ (name, next) ∷ [] ≡ pairs ++ spreading (definition_of c.args.definition.now) =
    ap (λ (ns : List Text). pairs ++ (name, ns) ∷ []) sent ∙ sym (ap (λ (d : DefinitionAt). pairs ++ spreading (definition_of d)) c.in-Fragment.is) in
    subst (λ (ps : List (Text × List Text)). OnOk c.put.result (Holds c.put.new.self ps)) same (c.put.ensures pairs h)
