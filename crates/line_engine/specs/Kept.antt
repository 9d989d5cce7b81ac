-- What an engine keeps (this project's own).
use Rattle.std.specs.Prelude.{ℕ, List, []}
use Rattle.plan_ir.specs.gql_ast.declared.document.Document.{Document}
use Rattle.plan_ir.specs.gql_ast.declared.place.Placed.{Placed}
use Rattle.plan_ir.specs.schema_tables.Types.{Text, Defs}
use Rattle.plan_ir.specs.schema_types.Environments.{Values}
use Rattle.store_layers.specs.Layered.{Layered}
use Rattle.plan_ir.specs.store_model.Records.{no_records}
use Rattle.store_watch.specs.Watching.{Watch}

-- a live handle: the name of its operation, the operation's root type, and the values of its variables
pub record HandleKept : Type 0 where
  pub name : Text
  pub operation : Text
  pub root : Text
  pub values : Values

-- the same of an operation that was released
pub record OperationKept : Type 0 where
  pub operation : Text
  pub root : Text
  pub values : Values

-- the project, how many released operations are kept at most, the base with the live layers, the live handles in order of start, the released
-- operations, the latest last, and the live watches in order of start
pub record Kept : Type 0 where
  pub defs : Defs
  pub documents : List (Placed Document)
  pub buffer : ℕ
  pub layers : Layered
  pub handles : List HandleKept
  pub released : List OperationKept
  pub watches : List Watch

-- nothing is confirmed, and nothing is live
abbrev pub begun : Defs × List (Placed Document) → (buffer : ℕ) → Kept
begun project buffer = record {
  defs = project.0;
  documents = project.1;
  buffer = buffer;
  layers = record { base = no_records; live = [] };
  handles = [];
  released = [];
  watches = [];
}

-- what is kept, with other layers
abbrev pub with_layers : Kept → Layered → Kept
with_layers k ls =
    record { defs = k.defs; documents = k.documents; buffer = k.buffer; layers = ls; handles = k.handles; released = k.released; watches = k.watches }
