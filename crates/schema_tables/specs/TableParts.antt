-- What the tables keep of a definition.
use Rattle.std.specs.Prelude.{◌≡◌, ℕ, Bool, true, false, List, [], ◌∷◌, ◌++◌, map, Option, Some, None, slice_get, bytes_eq}
use Rattle.gql_graph.specs.gql_plain.Order.{sorted_texts}
use Rattle.gql_ast.specs.declared.member.EnumValue.{EnumValue}
use Rattle.gql_ast.specs.declared.member.FieldTree.{FieldTree}
use Rattle.gql_ast.specs.declared.member.InputTree.{InputTree}
use Rattle.gql_ast.specs.declared.schema.SchemaDef.{SchemaDef}
use Rattle.gql_ast.specs.declared.schema.SchemaDef.TheVariants as S
use Rattle.schema_tables.specs.declared.members.FieldTable.{FieldTable}
use Rattle.schema_tables.specs.declared.part.Part.{Part}
use Rattle.schema_tables.specs.declared.part.Part.TheVariants as P
use Rattle.schema_tables.specs.declared.places.InputPlaces as kept
use Rattle.schema_tables.specs.Indexes.{IsIndexOf}
pub use Rattle.schema_tables.specs.Indexes.{field_name, own_name}
use Rattle.schema_tables.specs.InputPlaces.{ArePlaced}
use Rattle.schema_tables.specs.Types.{Text, Defs, is_empty}

abbrev pub is_field_named : Text → FieldTree → Bool
is_field_named n f = bytes_eq f.name n

abbrev pub is_text : Text → Text → Bool
is_text n m = bytes_eq m n

-- what is kept at a place is that of these arguments
abbrev pub ArePlacesOf : FieldTree → Option kept.InputPlaces → Type 0
ArePlacesOf f None = ⊥
ArePlacesOf f (Some p) = ArePlaced f.arguments p.names.places.items p.required.places.items

-- what is kept of the arguments of a field, where it has any
abbrev pub IsKept : FieldTree → Option kept.InputPlaces → Type 0
IsKept f p = is_empty f.arguments ≡ false → ArePlacesOf f p

-- what is kept of the arguments of each field
abbrev pub AreKept : List FieldTree → List ℕ → List kept.InputPlaces → Type 0
AreKept [] [] ps = Unit {0}
AreKept [] (k ∷ ks) ps = ⊥
AreKept (f ∷ fs) [] ps = ⊥
AreKept (f ∷ fs) (k ∷ ks) ps = IsKept f (slice_get ps k) × AreKept fs ks ps

-- fields and their arguments are found by the table
pub record IsFieldTable (fs : List FieldTree) (t : FieldTable) : Type 0 where
  pub names : IsIndexOf field_name is_field_named fs t.names.places.items
  pub arguments : AreKept fs t.kept.items t.arguments.items

-- the places of the arguments of a field that has any are put at the end
abbrev pub IsPutFor : FieldTree → (old new : List kept.InputPlaces) → Type 0
IsPutFor f old new =
    (is_empty f.arguments ≡ true → new ≡ old)
    × (is_empty f.arguments ≡ false → (p : kept.InputPlaces) × (new ≡ old ++ p ∷ []) × ArePlaced f.arguments p.names.places.items p.required.places.items)

abbrev pub AreFields : List Text → List FieldTree → Part → Type 0
AreFields is fs (P.Fields interfaces t) = IsIndexOf own_name is_text is interfaces.places.items × IsFieldTable fs t
AreFields is fs p = ⊥

abbrev pub AreMembers : List Text → Part → Type 0
AreMembers ms (P.Members members) = IsIndexOf own_name is_text ms members.places.items
AreMembers ms p = ⊥

abbrev pub AreInputs : List InputTree → Part → Type 0
AreInputs is (P.Inputs p) = ArePlaced is p.names.places.items p.required.places.items
AreInputs is p = ⊥

-- what is kept of a definition
abbrev pub IsPartOf : SchemaDef → Part → Type 0
IsPartOf (S.Schema ds rs) p = p ≡ P.Bare
IsPartOf (S.Scalar n ds) p = p ≡ P.Bare
IsPartOf (S.Object n is ds fs) p = AreFields is fs p
IsPartOf (S.Interface n is ds fs) p = AreFields is fs p
IsPartOf (S.Union n ds ms) p = AreMembers ms p
IsPartOf (S.Enum n ds vs) p = p ≡ P.Values (sorted_texts (map (λ (v : EnumValue). v.name) vs))
IsPartOf (S.Input n ds fs) p = AreInputs fs p
IsPartOf (S.Directive n xs r ls) p = AreInputs xs p

-- what is kept of each definition
abbrev pub AreParts : Defs → List Part → Type 0
AreParts [] [] = Unit {0}
AreParts [] (p ∷ ps) = ⊥
AreParts (d ∷ ds) [] = ⊥
AreParts (d ∷ ds) (p ∷ ps) = IsPartOf d p × AreParts ds ps
