-- The uses that are looked at are those of the operation.
use Rattle.std.proofs.Common.{◌≡◌, [], List, ◌++◌, map, OnOk, ap, subst, ◌∙◌}
use Rattle.doc_uses.specs.schema_types.ArgumentRules as rules
use Rattle.doc_uses.specs.schema_types.Sites as spec
use Rattle.gql_graph.specs.Leasts.{least_from}
use Rattle.gql_graph.specs.Rules.{each}
use Rattle.doc_uses.specs.doc_sites.SitesView.{directive_of, operation_of, site_of}
use Rattle.doc_uses.specs.UseView.{use_of}
use Rattle.doc_args.specs.UsesIn.{uses_in_fragment, uses_in_operation}
use Rattle.doc_args.proofs.rules.variables.note_uses.Goals as goal

pub returns : goal.returns
returns c = λ fs d.
    let o : spec.OperationAt = operation_of c.args.operation.now in
    let own : map use_of c.deref-3.result.now ≡ uses_in_operation c.args.schema.now o =
    ap (map use_of) c.deref-3.ensures.value ∙ c.in_ok-uses.ensures
    ∙ (λ k. rules.uses_of c.args.schema.now (map directive_of (c.deref.ensures.value k)) (map site_of (c.deref-2.ensures.value k))) in
    subst (λ (us : List rules.Use). OnOk c.note_wrong_uses.result (c.note_wrong_uses.new.least.at ≡ least_from c.args.least.now.at (each (rules.use_wrong o.variables []) us ++ each (rules.uses_wrong_in c.args.schema.now fs o) fs)))
    own (c.note_wrong_uses.ensures fs (uses_in_fragment c.args.schema.now) d)
