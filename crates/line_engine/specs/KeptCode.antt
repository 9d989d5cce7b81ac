-- The code of what an engine keeps.
use Rattle.std.specs.Prelude.{ℕ, List, refl}
use Rattle.std.specs.Coded.{Coded, code_by, coded×, coded_list, coded_ℕ}
use Rattle.plan_ir.specs.gql_ast.contracts.document.Document as document_row
use Rattle.plan_ir.specs.gql_ast.contracts.place.Placed as placed_row
use Rattle.plan_ir.specs.gql_ast.contracts.schema.SchemaDef as definition_row
use Rattle.plan_ir.specs.gql_ast.declared.document.Document.{Document}
use Rattle.plan_ir.specs.gql_ast.declared.place.Placed.{Placed}
use Rattle.plan_ir.specs.gql_plain.Codes.{coded_members, coded_text}
use Rattle.line_engine.specs.Kept.{HandleKept, Kept, OperationKept}
use Rattle.plan_ir.specs.schema_tables.Types.{Text, Defs}
use Rattle.plan_ir.specs.schema_types.Environments.{Values}
use Rattle.store_layers.specs.Layered.{Layered}
use Rattle.store_layers.specs.LayeredCode.{layered_code}
use Rattle.store_watch.specs.Codes.{coded_watch}
use Rattle.store_watch.specs.Watching.{Watch}

abbrev pub handle_code : Coded HandleKept
handle_code =
    code_by (Text × (Text × (Text × Values))) (coded× coded_text (coded× coded_text (coded× coded_text coded_members)))
    (λ h. (h.name, (h.operation, (h.root, h.values)))) (λ p. record { name = p.0; operation = p.1.0; root = p.1.1.0; values = p.1.1.1 }) (λ _. refl)

abbrev pub operation_code : Coded OperationKept
operation_code =
    code_by (Text × (Text × Values)) (coded× coded_text (coded× coded_text coded_members))
    (λ h. (h.operation, (h.root, h.values))) (λ p. record { operation = p.0; root = p.1.0; values = p.1.1 }) (λ _. refl)

abbrev pub kept_code : Coded Kept
kept_code =
    code_by (Defs × (List (Placed Document) × (ℕ × (Layered × (List HandleKept × (List OperationKept × List Watch))))))
    (coded× (coded_list definition_row.the_row.coded) (coded× (coded_list (placed_row.the_row document_row.the_row).coded)
    (coded× coded_ℕ (coded× layered_code (coded× (coded_list handle_code) (coded× (coded_list operation_code) (coded_list coded_watch)))))))
    (λ k. (k.defs, (k.documents, (k.buffer, (k.layers, (k.handles, (k.released, k.watches)))))))
    (λ p. record { defs = p.0; documents = p.1.0; buffer = p.1.1.0; layers = p.1.1.1.0; handles = p.1.1.1.1.0; released = p.1.1.1.1.1.0; watches = p.1.1.1.1.1.1 })
    (λ _. refl)
