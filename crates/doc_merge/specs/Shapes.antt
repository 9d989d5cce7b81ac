-- The shape of a type, as far as a response shows it (GraphQL, October 2021, section 5.3.2, SameResponseShape).
use Rattle.std.specs.Prelude.{Bool, true, false, cond, Option, Some, None, bytes_eq}
use Rattle.plan_ir.specs.gql_ast.Ty as ty
use Rattle.plan_ir.specs.gql_ast.Ty.{Ty}
use Rattle.plan_ir.specs.schema_tables.Types.{Text, Defs, is_composite}

-- lists and non-null forms at each level; inside them a leaf by its name, or none for a composite type
pub data Shape : Type 0 where
  base : Option Text → Shape
  list : Shape → Shape
  non_null : Shape → Shape

abbrev pub base_shape : Defs → Text → Option Text
base_shape defs n = cond (is_composite defs n) None (Some n)

abbrev pub shape_of : Defs → Ty → Shape
shape_of defs (ty.named n) = base (base_shape defs n)
shape_of defs (ty.list t) = list (shape_of defs t)
shape_of defs (ty.non_null t) = non_null (shape_of defs t)

abbrev pub same_base : Option Text → Option Text → Bool
same_base (Some m) (Some n) = bytes_eq m n
same_base None None = true
same_base a b = false

abbrev pub same_shape : Shape → Shape → Bool
same_shape (base a) (base b) = same_base a b
same_shape (list a) (list b) = same_shape a b
same_shape (non_null a) (non_null b) = same_shape a b
same_shape a b = false
