-- What an engine begins with stands for the machine's beginning.
use Rattle.std.proofs.Common.{ℕ, zero, suc, ◌≡◌, ◌-◌, List, [], drop, refl, subst, sym}
use Rattle.plan_ir.specs.gql_ast.declared.document.Document.{Document}
use Rattle.plan_ir.specs.gql_ast.declared.place.Placed.{Placed}
use Rattle.line_engine.specs.Kept.{begun}
use Rattle.line_engine.specs.Parts.{project_shown}
use Rattle.line_engine.specs.Stands.{KeepsReleased, StandsFor}
use Rattle.relay_machine.specs.Machine.{Project, Retained, beginning, last_of}
use Rattle.plan_ir.specs.schema_tables.Types.{Defs}

nothing_left : (i : ℕ) → drop {A = Retained} i [] ≡ []
nothing_left zero = refl
nothing_left (suc i) = refl

none_released : (p : Project) (buffer : ℕ) → KeepsReleased p [] (last_of buffer beginning.released)
none_released p buffer = subst (KeepsReleased p []) (sym (nothing_left (0 - buffer))) tt

pub begun_stands : (parts : Defs × List (Placed Document)) (buffer : ℕ) → StandsFor (begun parts buffer) (project_shown parts) beginning
begun_stands parts buffer = record {
  schema = refl;
  documents = refl;
  base = refl;
  layers = refl;
  apart = tt;
  handles = tt;
  released = none_released (project_shown parts) buffer;
  watches = tt;
  shown = tt;
}
