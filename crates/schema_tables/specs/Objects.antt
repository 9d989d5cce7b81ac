-- The object types that a type may be, by the places of definitions.
use Rattle.std.specs.Prelude.{ℕ, zero, suc, nat_eq, Bool, false, ◌&&◌, ◌||◌, List, [], ◌∷◌, Option, Some, None, bytes_eq}
use Rattle.std.specs.List.{list_any}
use Rattle.gql_ast.specs.declared.schema.SchemaDef.{SchemaDef}
use Rattle.gql_ast.specs.declared.schema.SchemaDef.TheVariants as S
use Rattle.schema_tables.specs.Parts.{is_type}
use Rattle.schema_tables.specs.Places.{first_at}
use Rattle.schema_tables.specs.Types.{Text, Defs, type_named, object_name, interfaces_named, union_members_of}

-- whether a definition defines the object type of that name
abbrev pub names_object : Text → SchemaDef → Bool
names_object n (S.Object m is ds fs) = bytes_eq m n
names_object n d = false

-- whether it is this place
abbrev pub is_place : Option ℕ → ℕ → Bool
is_place None k = false
is_place (Some at) k = nat_eq at k

-- whether the type at a place is one of these
abbrev pub is_among : Defs → List Text → ℕ → Bool
is_among defs ns k = list_any (λ n. is_place (first_at (is_type n) defs) k) ns

-- whether an object type is the type at a place, or says that it implements it
abbrev pub reaches : Defs → (object : Text) → ℕ → Bool
reaches defs m k = is_place (first_at (is_type m) defs) k || is_among defs (interfaces_named (type_named defs m)) k

abbrev pub reaches_named : Defs → Option Text → ℕ → Text → Bool
reaches_named defs None k n = false
reaches_named defs (Some m) k n = reaches defs m k && bytes_eq m n

-- whether a definition defines the object type of that name, and this is the type at a place or implements it
abbrev pub adds : Defs → ℕ → Text → SchemaDef → Bool
adds defs k n d = reaches_named defs (object_name d) k n

-- the members of the union at a place
abbrev pub members_at : List SchemaDef → ℕ → List Text
members_at [] k = []
members_at (d ∷ ds) zero = union_members_of d
members_at (d ∷ ds) (suc k) = members_at ds k
