-- What the steps of a plan that reads say of types and of connections.
use Rattle.std.specs.Prelude.{◌≡◌, Bool, true, not, ◌&&◌, Option, Some, None}
use Rattle.plan_build.specs.Meeting.{FragmentMeetsRules, OperationMeetsRules}
use Rattle.plan_build.specs.NormalTypes.{are_tested, are_types}
use Rattle.plan_build.specs.Plans.{HaveNames}
use Rattle.plan_ir.specs.Expansion.{Project}
use Rattle.plan_ir.specs.Reader as reader
use Rattle.plan_ir.specs.Reader.{Reader}
use Rattle.plan_ir.specs.gql_plain.declared.ids.Conn.{Conn}
use Rattle.plan_ir.specs.schema_rules.Checked.{IsSound}
use Rattle.plan_ir.specs.schema_types.Sites.{FragmentAt, OperationAt}
use Rattle.plan_read.specs.Steps.{fragment_reader, operation_reader}

-- the type of a connection is not open
abbrev pub is_closed : Option Conn → (open_type : Bool) → Bool
is_closed None o = true
is_closed (Some c) o = not o

-- the types of steps and of guards are Names, and a step whose type is not open has exactly one, as that of a connection; so too in the bodies of
-- pointers
abbrev pub is_typed : Reader → Bool
is_typed reader.done = true
is_typed (reader.typename r rest) = is_typed rest
is_typed (reader.leaf r n xs rest) = is_typed rest
is_typed (reader.object r n xs m ts is o c child rest) = (are_types o ts && is_closed c o) && (is_typed child && is_typed rest)
is_typed (reader.guarded g child rest) = are_tested g.types && (is_typed child && is_typed rest)
is_typed (reader.pointer f xs rest) = is_typed rest
is_typed (reader.pointer_inline f xs body rest) = is_typed body && is_typed rest

-- under a sound schema whose object types have Names, the plan of an operation that meets the rules that it needs is typed
abbrev pub OperationReadersAreTyped : Type 0
OperationReadersAreTyped = (p : Project) (o : OperationAt) → HaveNames p.defs → IsSound p.defs → OperationMeetsRules p o → is_typed (operation_reader p o) ≡ true

-- and that of a fragment
abbrev pub FragmentReadersAreTyped : Type 0
FragmentReadersAreTyped = (p : Project) (f : FragmentAt) → HaveNames p.defs → IsSound p.defs → FragmentMeetsRules p f → is_typed (fragment_reader p f) ≡ true
