-- A fragment and an operation without a name are passed over, and an operation is put under its name.
use Rattle.std.proofs.Common.{Option, option_map, ap, sym, ◌∙◌}
use Rattle.std.specs.Option.{option_or}
use Rattle.doc_sites.specs.SitesView.{definition_of, operation_of}
use Rattle.doc_sites.specs.declared.site.DefinitionAt.{DefinitionAt}
use Rattle.plan_ir.specs.schema_trees.Located.{Located}
use Rattle.plan_ir.specs.schema_trees.LocatedView.{name_of}
use Rattle.plan_ir.specs.Projects.{place_in}
use Rattle.plan_expand.specs.OperationsView.{ReadyOperation, find_operation, ready_operation, operation_in, operation_under, ready_named}
use Rattle.plan_expand.proofs.Tables.{or_none}
use Rattle.plan_expand.proofs.operations.Operations.put_definition.Goals as goal

pub returns-in-Fragment : goal.returns-in-Fragment
returns-in-Fragment c = λ n.
    or_none (find_operation c.args.self.now n)
    ∙ sym (ap (λ (d : DefinitionAt). option_or (find_operation c.args.self.now n) (operation_in c.args.schema.now (place_in c.args.nodes.now) (definition_of d) n)) c.in-Fragment.is)

pub returns-in_ok-put-in-Some : goal.returns-in_ok-put-in-Some
returns-in_ok-put-in-Some c = λ n.
    let old : Option ReadyOperation = find_operation c.args.self.now n in
    let one : ReadyOperation = ready_operation c.args.schema.now (place_in c.args.nodes.now) (operation_of c.in-Operation.operation) in
    c.in_ok-put-in-Some.ensures n
    ∙ ap (λ (r : ReadyOperation). option_or old (ready_named c.in-Some.name.name.now r n)) c.in_ok-ready-in-Some.ensures
    ∙ sym (ap (λ (m : Option Located). option_or old (operation_under m one n)) (ap (option_map name_of) c.in-Some.is))
    ∙ sym (ap (λ (d : DefinitionAt). option_or old (operation_in c.args.schema.now (place_in c.args.nodes.now) (definition_of d) n)) c.in-Operation.is)

pub returns-in-None : goal.returns-in-None
returns-in-None c = λ n.
    let old : Option ReadyOperation = find_operation c.args.self.now n in
    let one : ReadyOperation = ready_operation c.args.schema.now (place_in c.args.nodes.now) (operation_of c.in-Operation.operation) in
    or_none old
    ∙ sym (ap (λ (m : Option Located). option_or old (operation_under m one n)) (ap (option_map name_of) c.in-None.is))
    ∙ sym (ap (λ (d : DefinitionAt). option_or old (operation_in c.args.schema.now (place_in c.args.nodes.now) (definition_of d) n)) c.in-Operation.is)
