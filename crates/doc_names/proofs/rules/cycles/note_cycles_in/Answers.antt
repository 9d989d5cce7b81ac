-- A fragment.
use Rattle.std.proofs.Common.{◌≡◌, ℕ, OnOk, List, ap, sym, subst, ◌∙◌}
use Rattle.doc_sites.specs.SitesView.{definition_of, fragment_of}
use Rattle.doc_sites.specs.declared.site.DefinitionAt.{DefinitionAt}
use Rattle.doc_sites.specs.gql_graph.Leasts.{least_from}
use Rattle.doc_sites.specs.schema_types.NameRules.{spread_by, spreads_in}
use Rattle.doc_sites.specs.schema_types.Sites as spec
use Rattle.doc_names.specs.Cycles.{leading_back, leads_back_in}
use Rattle.doc_sites.specs.Definitions.{on_fragment}
use Rattle.doc_names.proofs.rules.cycles.note_cycles_in.Goals as goal

pub returns-in-Fragment : goal.returns-in-Fragment
returns-in-Fragment c = λ fs t steps s.
    let f : spec.FragmentAt = fragment_of c.in-Fragment.fragment in
    let same : leading_back (spread_by fs) c.args.steps f.name.name (spreads_in f.sites) ≡ on_fragment (leads_back_in fs) (definition_of c.args.definition.now) =
    ap (λ (n : ℕ). leading_back (spread_by fs) n f.name.name (spreads_in f.sites)) steps ∙ sym (ap (λ (d : DefinitionAt). on_fragment (leads_back_in fs) (definition_of d)) c.in-Fragment.is) in
    subst (λ (places : List ℕ). OnOk c.note_cycles_of.result (c.note_cycles_of.new.least.at ≡ least_from c.args.least.now.at places)) same (c.note_cycles_of.ensures (spread_by fs) t s)
