-- What a refusal says of the variables.
use Rattle.std.specs.Prelude.{◌≡◌, List, Option, Some}
use Rattle.schema_types.specs.gql_ast.declared.variable.VariableDef.{VariableDef}
use Rattle.schema_types.specs.Environments.{Failure, Values, first_failure, missing, unfit}
use Rattle.schema_types.specs.schema_tables.Types.{Defs}
use Rattle.schema_values.specs.declared.fault.VarFault.{VarFault}
use Rattle.schema_values.specs.declared.fault.VarFault.TheVariants as F

-- the failure is the one that was found; want of memory says nothing
abbrev pub Tells : Option Failure → VarFault → Type 0
Tells found (F.Missing n) = found ≡ Some (missing n)
Tells found (F.Unfit n) = found ≡ Some (unfit n)
Tells found F.NoMemory = Unit {0}

-- the failure is that of the first variable in written order that fails
abbrev pub IsFailure : Defs → List VariableDef → (given : Values) → VarFault → Type 0
IsFailure defs ds given fault = Tells (first_failure defs ds given) fault
