-- The three parts in turn.
use Rattle.std.proofs.Common.{◌≡◌, ℕ, OnOk, List, ◌++◌, Option, map, ap, sym, subst, ◌∙◌}
use Rattle.constant_values.specs.gql_graph.Leasts.{least_from}
use Rattle.constant_values.specs.gql_graph.Rules.{each}
use Rattle.constant_values.specs.gql_graph.Texts.{Text}
use Rattle.constant_values.proofs.gql_graph_laws.LeastSteps.{noted-append}
use Rattle.constant_values.specs.schema_tables.Types.{Defs}
use Rattle.constant_values.specs.schema_types.NameRules.{fragments, operations}
use Rattle.constant_values.specs.schema_types.Sites.{FragmentAt, DefinitionAt}
use Rattle.doc_uses.specs.doc_sites.SitesView.{definition_of}
use Rattle.relay_marks.specs.Locals.{Local}
use Rattle.relay_rules.specs.Spreads.{given_wrong, local_uses_wrong, uses_of_operation_wrong}
use Rattle.relay_dirs.specs.Tables.{Finds, Suits, fragment_locals, locals_among, pair_of, table_found}
use Rattle.doc_uses.proofs.doc_sites_laws.DefinitionSteps.{over_fragments, over_operations}
use Rattle.relay_dirs.proofs.SpreadSteps.{locals_found}
use Rattle.relay_dirs.proofs.rules.spreads.spreads_wrong.Goals as goal

pub returns : goal.returns
returns c =
    let ds : List DefinitionAt = map definition_of c.args.definitions.now in
    let fs : List FragmentAt = fragments ds in
    let defs : Defs = c.args.schema.now in
    let pairs : map pair_of c.deref.result.now ≡ each fragment_locals ds = ap (map pair_of) c.deref.ensures.value ∙ c.in_ok-all.ensures in
    let suits : Suits c.in_ok-table.table fs = λ n.
    subst (λ (ls : List Local). Finds (table_found c.in_ok-table.table n) ls)
    (ap (λ (ps : List (Text × List Local)). locals_among ps n) pairs ∙ locals_found ds n) (c.in_ok-table.ensures n) in
    let given : List ℕ = given_wrong defs fs ds in
    let locals : List ℕ = each (local_uses_wrong defs fs) fs in
    let variables : List ℕ = each (uses_of_operation_wrong defs fs) (operations ds) in
    let start : Option ℕ = c.args.least.now.at in
    let two : c.note_local_uses.new.least.at ≡ least_from start (given ++ locals) =
    c.in_ok-note_local_uses.ensures fs suits ∙ ap (least_from c.note_given.new.least.at) (sym (over_fragments (local_uses_wrong defs fs) ds))
    ∙ ap (λ (o : Option ℕ). least_from o locals) (c.in_ok-note_given.ensures fs suits) ∙ sym (noted-append start given locals) in
    subst (λ (o : Option ℕ). OnOk c.note_variable_uses.result (c.note_variable_uses.new.least.at ≡ o))
    (ap (least_from c.note_local_uses.new.least.at) (sym (over_operations (uses_of_operation_wrong defs fs) ds))
    ∙ ap (λ (o : Option ℕ). least_from o variables) two ∙ sym (noted-append start (given ++ locals) variables))
    (c.note_variable_uses.ensures suits)
