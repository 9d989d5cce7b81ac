-- What is put and what is left are the whole.
use Rattle.std.proofs.Common.{◌≡◌, map, drop, option_map}
use Rattle.std.specs.Option.{option_or}
use Rattle.doc_sites.specs.SitesView.{definition_of}
use Rattle.plan_ir.specs.Expansion.{operation_named}
use Rattle.plan_ir.specs.schema_types.NameRules.{operations}
use Rattle.plan_ir.specs.schema_tables.Types.{Text}
use Rattle.plan_ir.specs.Projects.{place_in}
use Rattle.plan_expand.specs.OperationsView.{find_operation, ready_operation}
use Rattle.plan_expand.proofs.operations.Operations.of.Given as goal

abbrev pub invariant-definitions : goal.invariant-definitions
invariant-definitions l =
    (n : Text) → option_or (find_operation l.operations n) (option_map (ready_operation l.schema (place_in l.nodes)) (operation_named (operations (map definition_of (drop l.definition-index l.definitions))) n))
    ≡ option_map (ready_operation l.schema (place_in l.nodes)) (operation_named (operations (map definition_of l.definitions)) n)
