-- Plans by which a response is normalized (this project's own): a step stands with the plan below it, and with the
-- steps that follow it.
use Rattle.std.specs.Prelude.{ℕ, ◌+◌, Bool, List, Option, max}
use Rattle.relay_marks.specs.gql_ast.Value.{Val}
use Rattle.store_model.specs.gql_plain.declared.ids.Conn.{Conn}
use Rattle.plan_ir.specs.declared.guard.Guard.{Guard}

-- the type name, a leaf, a field of objects or of lists of objects, or steps behind a guard
pub data Normal : Type 0 where
  done : Normal
  typename : (response : List ℕ) (rest : Normal) → Normal
  leaf : (response name : List ℕ) (arguments : List (List ℕ × Val)) (rest : Normal) → Normal
  object : (response name : List ℕ) (arguments : List (List ℕ × Val)) (many : Bool) (types identified : List (List ℕ)) (open_type : Bool) (connection : Option Conn) (child rest : Normal) → Normal
  guarded : (guard : Guard) (child rest : Normal) → Normal

-- the first steps, and then the second ones
abbrev pub normal_append : Normal → Normal → Normal
normal_append done t = t
normal_append (typename r rest) t = typename r (normal_append rest t)
normal_append (leaf r n xs rest) t = leaf r n xs (normal_append rest t)
normal_append (object r n xs m ts is o c child rest) t = object r n xs m ts is o c child (normal_append rest t)
normal_append (guarded g child rest) t = guarded g child (normal_append rest t)

-- twice the number of plans that stand in one another, for each its steps and their owners; 0 where it has no step
abbrev pub depth : Normal → ℕ
depth done = 0
depth (typename r rest) = max 1 (depth rest)
depth (leaf r n xs rest) = max 1 (depth rest)
depth (object r n xs m ts is o c child rest) = max (depth child + 2) (depth rest)
depth (guarded g child rest) = max (depth child + 2) (depth rest)

-- how many steps the plan has, those inside them not counted
abbrev pub number_of : Normal → ℕ
number_of done = 0
number_of (typename r rest) = number_of rest + 1
number_of (leaf r n xs rest) = number_of rest + 1
number_of (object r n xs m ts is o c child rest) = number_of rest + 1
number_of (guarded g child rest) = number_of rest + 1
