-- What a response says to an operation of the documents: its first fault, or its facts and pages.
use Rattle.std.specs.Prelude.{[], ◌∷◌}
use Rattle.plan_ir.specs.gql_ast.declared.place.FilePlace.{FilePlace}
use Rattle.plan_ir.specs.Expansion.{Project, name_or}
pub use Rattle.plan_collect.specs.Collection.{whole_setting}
use Rattle.plan_collect.specs.Collection.{collect, part_of}
use Rattle.plan_ir.specs.schema_tables.Types.{root}
use Rattle.plan_ir.specs.schema_types.Environments.{Values}
use Rattle.plan_ir.specs.schema_types.Sites.{OperationAt}
use Rattle.serde_json.specs.Data as J
use Rattle.plan_ir.specs.store_model.Verdicts.{Verdict, says}

-- under this environment of the operation
abbrev pub operation_says : Project → FilePlace → OperationAt → Values → J.Data → Verdict
operation_says p place o own response = says (collect (whole_setting p place own)) (name_or (root p.defs o.kind)) (part_of (whole_setting p place own) o ∷ []) response
