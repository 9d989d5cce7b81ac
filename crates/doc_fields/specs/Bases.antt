-- What is wrong with a field, by the name inside its type.
use Rattle.std.specs.Prelude.{Bool, true, false, codes, Option, Some, None, bytes_eq}
use Rattle.doc_sites.specs.schema_tables.Types.{Text, Defs, is_leaf, is_composite}

-- whether a field has a set too many, or one too few
abbrev pub set_wrong_of : Defs → (base : Option Text) → (has_set : Bool) → Bool
set_wrong_of defs None has_set = false
set_wrong_of defs (Some b) true = is_leaf defs b
set_wrong_of defs (Some b) false = is_composite defs b

abbrev pub float_of : (base : Option Text) → Bool
float_of None = false
float_of (Some b) = bytes_eq b (codes "Float")
