-- The uses that are looked at are those of the spreads.
use Rattle.std.proofs.Common.{◌≡◌, OnOk, ℕ, [], List, ◌++◌, map, ap, subst, ◌∙◌}
use Rattle.constant_values.specs.gql_graph.Leasts.{least_from}
use Rattle.constant_values.specs.gql_graph.Rules.{each}
use Rattle.constant_values.specs.schema_types.ArgumentRules as rules
use Rattle.constant_values.specs.schema_types.Sites as parts
use Rattle.doc_uses.specs.doc_sites.SitesView.{operation_of, site_of}
use Rattle.doc_uses.specs.doc_sites.declared.site.Site.{Site}
use Rattle.doc_uses.specs.Parts.{uses_wrong_in}
use Rattle.doc_uses.specs.UseView.{use_of}
use Rattle.doc_uses.specs.declared.uses.Use.{Use}
use Rattle.relay_rules.specs.Spreads.{uses_in_fragment, uses_in_spreads}
use Rattle.relay_dirs.proofs.rules.variable_uses.note_operation.Goals as goal

pub returns : goal.returns
returns c = λ fs s d.
    let o : parts.OperationAt = operation_of c.args.operation.now in
    let beyond : List ℕ = each (uses_wrong_in (uses_in_fragment c.args.schema.now fs) fs o) fs in
    let uses : map use_of c.deref-2.result.now ≡ uses_in_spreads c.args.schema.now fs o.sites =
    ap (λ (us : List Use). map use_of us) c.deref-2.ensures.value ∙ c.in_ok-uses.ensures fs s
    ∙ ap (λ (ss : List Site). uses_in_spreads c.args.schema.now fs (map site_of ss)) c.deref.ensures.value in
    subst (λ (us : List rules.Use). OnOk c.note_wrong_uses.result (c.note_wrong_uses.new.least.at ≡ least_from c.args.least.now.at (each (rules.use_wrong o.variables []) us ++ beyond))) uses
    (c.note_wrong_uses.ensures fs (uses_in_fragment c.args.schema.now fs) d)
