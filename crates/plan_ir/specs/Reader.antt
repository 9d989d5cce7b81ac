-- Plans by which records are read (this project's own): a step stands with the plan below it, and with the
-- steps that follow it.
use Rattle.std.specs.Prelude.{ℕ, ◌+◌, Bool, List, Option, max}
use Rattle.relay_marks.specs.gql_ast.Value.{Val}
use Rattle.store_model.specs.gql_plain.declared.ids.Conn.{Conn}
use Rattle.plan_ir.specs.declared.guard.Guard.{Guard}

-- the type name, a leaf, a field of objects or of lists of objects, steps behind a guard, or a pointer to a fragment,
-- with the plan of a fragment that is read where it stands
pub data Reader : Type 0 where
  done : Reader
  typename : (response : List ℕ) (rest : Reader) → Reader
  leaf : (response name : List ℕ) (arguments : List (List ℕ × Val)) (rest : Reader) → Reader
  object : (response name : List ℕ) (arguments : List (List ℕ × Val)) (many : Bool) (types identified : List (List ℕ)) (open_type : Bool) (connection : Option Conn) (child rest : Reader) → Reader
  guarded : (guard : Guard) (child rest : Reader) → Reader
  pointer : (fragment : List ℕ) (arguments : List (List ℕ × Val)) (rest : Reader) → Reader
  pointer_inline : (fragment : List ℕ) (arguments : List (List ℕ × Val)) (child rest : Reader) → Reader

-- the first steps, and then the second ones
abbrev pub reader_append : Reader → Reader → Reader
reader_append done t = t
reader_append (typename r rest) t = typename r (reader_append rest t)
reader_append (leaf r n xs rest) t = leaf r n xs (reader_append rest t)
reader_append (object r n xs m ts is o c child rest) t = object r n xs m ts is o c child (reader_append rest t)
reader_append (guarded g child rest) t = guarded g child (reader_append rest t)
reader_append (pointer f xs rest) t = pointer f xs (reader_append rest t)
reader_append (pointer_inline f xs child rest) t = pointer_inline f xs child (reader_append rest t)

-- twice the number of plans that stand in one another, for each its steps and their owners; 0 where it has no step
abbrev pub depth : Reader → ℕ
depth done = 0
depth (typename r rest) = max 1 (depth rest)
depth (leaf r n xs rest) = max 1 (depth rest)
depth (object r n xs m ts is o c child rest) = max (depth child + 2) (depth rest)
depth (guarded g child rest) = max (depth child + 2) (depth rest)
depth (pointer f xs rest) = max 1 (depth rest)
depth (pointer_inline f xs child rest) = max (depth child + 2) (depth rest)

-- how many steps the plan has, those inside them not counted
abbrev pub number_of : Reader → ℕ
number_of done = 0
number_of (typename r rest) = number_of rest + 1
number_of (leaf r n xs rest) = number_of rest + 1
number_of (object r n xs m ts is o c child rest) = number_of rest + 1
number_of (guarded g child rest) = number_of rest + 1
number_of (pointer f xs rest) = number_of rest + 1
number_of (pointer_inline f xs child rest) = number_of rest + 1
