-- The places of names in lists.
use Rattle.std.specs.Prelude.{◌≡◌, ℕ, Bool, List, [], map, Option, Some, None, option_map, slice_get, bytes_eq}
use Rattle.gql_graph.specs.gql_plain.Order.{AreInOrder}
use Rattle.gql_graph.specs.Texts.{Text}
use Rattle.gql_ast.specs.declared.member.FieldTree.{FieldTree}
use Rattle.gql_ast.specs.declared.member.InputTree.{InputTree}
use Rattle.gql_ast.specs.declared.schema.SchemaDef.{SchemaDef}
use Rattle.gql_ast.specs.declared.schema.SchemaDef.TheVariants as S
use Rattle.schema_tables.specs.declared.index.Index.{Index}
use Rattle.schema_tables.specs.declared.index.NamePlace.{NamePlace}
use Rattle.schema_tables.specs.Places.{first_at, first_that}

abbrev pub own_name : Text → Text
own_name n = n

abbrev pub field_name : FieldTree → Text
field_name f = f.name

abbrev pub input_name : InputTree → Text
input_name i = i.name

-- the name of a definition; a `schema` definition has none
abbrev pub definition_name : SchemaDef → Text
definition_name (S.Schema ds rs) = []
definition_name (S.Scalar n ds) = n
definition_name (S.Object n is ds fs) = n
definition_name (S.Interface n is ds fs) = n
definition_name (S.Union n ds ms) = n
definition_name (S.Enum n ds vs) = n
definition_name (S.Input n ds fs) = n
definition_name (S.Directive n xs r ls) = n

-- a name and its place
abbrev pub pair_of : NamePlace → Text × ℕ
pair_of p = (p.name.now, p.at)

-- the place that is given first for a name
abbrev pub place_among : List (Text × ℕ) → Text → Option ℕ
place_among ps n = option_map (λ (p : Text × ℕ). p.1) (first_that (λ (p : Text × ℕ). bytes_eq p.0 n) ps)

-- the places are those that are given first, in the byte order of the names
pub record IsSortedFrom (given : List (Text × ℕ)) (places : List ℕ) : Type 0 where
  pub pairs : List (Text × ℕ)
  pub are : places ≡ map (λ (p : Text × ℕ). p.1) pairs
  pub in_order : AreInOrder (map (λ (p : Text × ℕ). p.0) pairs)
  pub finds : (n : Text) → place_among pairs n ≡ place_among given n

abbrev pub name_or_none : {X : Type 0} → (X → Text) → Option X → Text
name_or_none name None = []
name_or_none name (Some x) = name x

-- the name at a place
abbrev pub name_at : {X : Type 0} → (X → Text) → List X → ℕ → Text
name_at name xs at = name_or_none name (slice_get xs at)

-- the place of a name among these places
abbrev pub place_of : {X : Type 0} → (X → Text) → List X → List ℕ → Text → Option ℕ
place_of name xs places n = first_that (λ at. bytes_eq (name_at name xs at) n) places

-- the places are those of the first element of each name that passes a test, in the byte order of the names
pub record IsIndexOf {X : Type 0} (name : X → Text) (passes : Text → X → Bool) (xs : List X) (places : List ℕ) : Type 0 where
  pub in_order : AreInOrder (map (name_at name xs) places)
  pub finds : (n : Text) → place_of name xs places n ≡ first_at (passes n) xs

-- whether it has that name
abbrev pub is_named : {X : Type 0} → (X → Text) → Text → X → Bool
is_named name n x = bytes_eq (name x) n

-- the places are those of the first element of each name
abbrev pub IsNameIndex : {X : Type 0} → (X → Text) → List X → Index → Type 0
IsNameIndex name xs index = IsIndexOf name (is_named name) xs index.places.items
