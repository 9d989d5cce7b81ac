-- The plans by which operations and fragments of documents are read, by their names.
use Rattle.std.specs.Prelude.{List, Option, option_map}
use Rattle.plan_ir.specs.gql_ast.declared.document.Document.{Document}
use Rattle.plan_ir.specs.gql_ast.declared.place.Placed.{Placed}
use Rattle.plan_ir.specs.Projects.{definitions_in, project}
use Rattle.plan_ir.specs.Expansion.{operation_named}
use Rattle.plan_ir.specs.Reader.{Reader}
use Rattle.plan_ir.specs.declared.form.Form.{Form}
use Rattle.plan_ir.specs.declared.form.Form.TheVariants as F
use Rattle.plan_read.specs.Steps.{fragment_reader, operation_reader}
use Rattle.plan_ir.specs.schema_tables.Types.{Text, Defs}
use Rattle.plan_ir.specs.schema_types.NameRules.{fragment_named, fragments, operations}

-- the plan of the operation or the fragment of that name, where there is one
abbrev pub reader_in : Defs → List (Placed Document) → Form → Text → Option Reader
reader_in defs ps F.Operation n = option_map (operation_reader (project defs ps)) (operation_named (operations (definitions_in defs ps)) n)
reader_in defs ps F.Fragment n = option_map (fragment_reader (project defs ps)) (fragment_named (fragments (definitions_in defs ps)) n)
