-- A fragment and an operation without a name are passed over, and an operation is put under its name.
use Rattle.std.proofs.Common.{Option, option_map, ap, sym, ◌∙◌}
use Rattle.std.specs.Option.{option_or}
use Rattle.plan_expand.specs.doc_sites.SitesView.{definition_of, operation_of}
use Rattle.plan_expand.specs.doc_sites.declared.site.DefinitionAt.{DefinitionAt}
use Rattle.plan_read.specs.OperationsView.{ReadyOperation, find_operation, operation_in, operation_under, ready_operation}
use Rattle.plan_ir.specs.schema_trees.Located.{Located}
use Rattle.plan_ir.specs.schema_trees.LocatedView.{name_of}
use Rattle.plan_read.proofs.Tables.{or_none}
use Rattle.plan_read.proofs.operations.Operations.put_definition.Goals as goal

pub returns-in-Fragment : goal.returns-in-Fragment
returns-in-Fragment c = λ n.
    or_none (find_operation c.args.self.now n)
    ∙ sym (ap (λ (d : DefinitionAt). option_or (find_operation c.args.self.now n) (operation_in (definition_of d) n)) c.in-Fragment.is)

pub returns-in_ok-put-in-Some : goal.returns-in_ok-put-in-Some
returns-in_ok-put-in-Some c = λ n.
    let old : Option ReadyOperation = find_operation c.args.self.now n in
    let one : ReadyOperation = ready_operation (operation_of c.in-Operation.operation) in
    c.in_ok-put-in-Some.ensures n
    ∙ sym (ap (λ (m : Option Located). option_or old (operation_under m one n)) (ap (option_map name_of) c.in-Some.is))
    ∙ sym (ap (λ (d : DefinitionAt). option_or old (operation_in (definition_of d) n)) c.in-Operation.is)

pub returns-in-None : goal.returns-in-None
returns-in-None c = λ n.
    let old : Option ReadyOperation = find_operation c.args.self.now n in
    let one : ReadyOperation = ready_operation (operation_of c.in-Operation.operation) in
    or_none old
    ∙ sym (ap (λ (m : Option Located). option_or old (operation_under m one n)) (ap (option_map name_of) c.in-None.is))
    ∙ sym (ap (λ (d : DefinitionAt). option_or old (operation_in (definition_of d) n)) c.in-Operation.is)
