-- The first fault of an expanded operation or fragment (this project's own): V23, and then V24.
use Rattle.std.specs.Prelude.{◌≡◌, List, [], Option, Some, None}
use Rattle.plan_ir.specs.gql_ast.declared.document.Kind.{Kind}
use Rattle.plan_ir.specs.gql_ast.declared.place.FilePlace.{FilePlace}
use Rattle.plan_ir.specs.declared.expanded.Expanded.{Expanded}
use Rattle.plan_ir.specs.schema_rules.declared.fault.Rule.{Rule}
use Rattle.plan_ir.specs.schema_rules.declared.fault.Rule.TheVariants as R
use Rattle.plan_ir.specs.schema_tables.Types.{Defs}
use Rattle.doc_merge.specs.Gathering.{fields_in}
use Rattle.doc_merge.specs.Merging.{differences}
use Rattle.doc_merge.specs.Places.{least}
use Rattle.doc_merge.specs.Values.{nodes_unfit}
use Rattle.doc_merge.specs.declared.fault.MergeFault.{MergeFault}
use Rattle.doc_merge.specs.declared.fault.MergeFault.TheVariants as F
use Rattle.doc_merge.specs.declared.fault.PlaceFault.{PlaceFault}

-- V23, which is asked of operations alone
abbrev pub values_unfit : Defs → Option Kind → Expanded → List FilePlace
values_unfit defs None e = []
values_unfit defs (Some k) e = nodes_unfit defs e.variables e.root e.selections

-- V24
abbrev pub field_differences : Defs → Expanded → List FilePlace
field_differences defs e = differences (fields_in defs e)

abbrev pub fault_of : Rule → FilePlace → PlaceFault
fault_of r p = record { rule = r; place = p }

abbrev pub fault_or : (values fields : Option FilePlace) → Option PlaceFault
fault_or (Some p) q = Some (fault_of R.V23 p)
fault_or None (Some q) = Some (fault_of R.V24 q)
fault_or None None = None

abbrev pub first_fault : Defs → Expanded → Option PlaceFault
first_fault defs e = fault_or (least (values_unfit defs e.kind e)) (least (field_differences defs e))

-- whether a check answers this fault
abbrev pub IsFirstFault : Defs → Expanded → MergeFault → Type 0
IsFirstFault defs e F.NoMemory = Unit {0}
IsFirstFault defs e (F.Rule f) = first_fault defs e ≡ Some f
