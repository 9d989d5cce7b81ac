-- Types as they are written (GraphQL, October 2021, section 2.11).
use Rattle.std.specs.Prelude.{ℕ, ◌+◌, List}

-- a named type, a list type or a type that is never null
pub data Ty : Type 0 where
  named : List ℕ → Ty
  list : Ty → Ty
  non_null : Ty → Ty

-- how many types the type holds in one another
abbrev pub ty_depth : Ty → ℕ
ty_depth (named n) = 0
ty_depth (list t) = ty_depth t + 1
ty_depth (non_null t) = ty_depth t + 1
