-- The two parts in turn.
use Rattle.std.proofs.Common.{ℕ, [], List, Option, map, ap, sym, ◌∙◌}
use Rattle.doc_sites.specs.gql_graph.Leasts.{least_from}
use Rattle.doc_sites.specs.gql_graph.Rules.{each}
use Rattle.doc_sites.proofs.gql_graph_laws.LeastSteps.{noted-append}
use Rattle.doc_sites.specs.schema_types.ArgumentRules as rules
use Rattle.doc_sites.specs.schema_types.Sites as spec
use Rattle.doc_sites.specs.SitesView.{operation_of}
use Rattle.doc_uses.specs.Parts.{uses_wrong_in}
use Rattle.doc_uses.specs.UseView.{use_of}
use Rattle.doc_uses.proofs.wrong_uses.note_wrong_uses.Goals as goal

pub returns : goal.returns
returns c = λ fs used d.
    let o : spec.OperationAt = operation_of c.args.operation.now in
    let own : List ℕ = each (rules.use_wrong o.variables []) (map use_of c.args.uses.now) in
    let beyond : List ℕ = each (uses_wrong_in used fs o) fs in
    c.in_ok-note_beyond.ensures fs used d c.in_ok-table.ensures
    ∙ ap (λ (q : Option ℕ). least_from q beyond) (c.note_uses.ensures o.variables c.in_ok-table.ensures)
    ∙ sym (noted-append c.args.least.now.at own beyond)
