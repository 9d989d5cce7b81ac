-- The keys of the fields of steps, as far as no variable changes them.
use Rattle.std.specs.Prelude.{List, [], ◌∷◌, Option, None}
use Rattle.plan_ir.specs.FieldKeys.{constant_key}
use Rattle.plan_ir.specs.Reader.{Reader, done, typename, leaf, object, guarded, pointer, pointer_inline}
use Rattle.relay_marks.specs.schema_tables.Types.{Text}

-- one for each step: none for the type name of a record, for steps behind a guard, and for pointers
abbrev pub keys_of : Reader → List (Option Text)
keys_of done = []
keys_of (typename r rest) = None ∷ keys_of rest
keys_of (leaf r n xs rest) = constant_key n xs ∷ keys_of rest
keys_of (object r n xs m ts is o c child rest) = constant_key n xs ∷ keys_of rest
keys_of (guarded g child rest) = None ∷ keys_of rest
keys_of (pointer f xs rest) = None ∷ keys_of rest
keys_of (pointer_inline f xs child rest) = None ∷ keys_of rest
