-- The response keys and the fragments of a plan's steps, those behind guards among them.
use Rattle.std.specs.Prelude.{List, [], ◌∷◌, ◌++◌}
use Rattle.plan_ir.specs.Reader.{Reader, done, typename, leaf, object, guarded, pointer, pointer_inline}
use Rattle.plan_ir.specs.schema_tables.Types.{Text}

-- the response keys of the fields, in the order of the steps
abbrev pub responses : Reader → List Text
responses done = []
responses (typename r rest) = r ∷ responses rest
responses (leaf r n xs rest) = r ∷ responses rest
responses (object r n xs m ts is o c child rest) = r ∷ responses rest
responses (guarded g child rest) = responses child ++ responses rest
responses (pointer f xs rest) = responses rest
responses (pointer_inline f xs child rest) = responses rest

-- the fragments of the pointers, in the order of the steps
abbrev pub fragments : Reader → List Text
fragments done = []
fragments (typename r rest) = fragments rest
fragments (leaf r n xs rest) = fragments rest
fragments (object r n xs m ts is o c child rest) = fragments rest
fragments (guarded g child rest) = fragments child ++ fragments rest
fragments (pointer f xs rest) = f ∷ fragments rest
fragments (pointer_inline f xs child rest) = f ∷ fragments rest
