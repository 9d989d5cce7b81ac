-- Fields that are collected for one object, and have one form where all fields can merge (GraphQL, October 2021, sections 5.3.2 and 6.3.2).
use Rattle.std.specs.Prelude.{◌≡◌, Bool, true, false, ◌&&◌, List, [], ◌∷◌, Option, Some, None, bytes_eq}
use Rattle.std.specs.List.{All}
use Rattle.plan_ir.specs.schema_tables.Types.{Text}
use Rattle.doc_merge.specs.Merging.{Field}
use Rattle.doc_merge.specs.Paths.{Path, here, under}
use Rattle.doc_merge.specs.Signatures.{same_signature}

-- a field of an object of this type may stand on this parent: that type, or none that is an object type
abbrev pub may_be_on : (object : Text) → (parent : Option Text) → Bool
may_be_on t None = true
may_be_on t (Some p) = bytes_eq t p

-- a path whose fields may be collected for objects of these types, the outermost first
abbrev pub is_collected : (objects : List Text) → Path → Bool
is_collected [] s = false
is_collected (t ∷ ts) (here a) = may_be_on t a.parent
is_collected (t ∷ ts) (under a s) = may_be_on t a.parent && is_collected ts s

-- the response keys from the outermost field on
abbrev pub keys_of : Path → List Text
keys_of (here a) = a.key ∷ []
keys_of (under a s) = a.key ∷ keys_of s

abbrev pub last_field : Path → Field
last_field (here a) = a
last_field (under a s) = last_field s

-- two fields have one shape, one name and the same arguments
pub record HaveOneForm (a b : Field) : Type 0 where
  pub shape : a.shape ≡ b.shape
  pub signature : same_signature a.signature b.signature ≡ true

-- wherever both are collected for the same objects under the same keys, they have one form
abbrev pub AreAlike : Path → Path → Type 0
AreAlike s u = (objects : List Text) → is_collected objects s ≡ true → is_collected objects u ≡ true → keys_of s ≡ keys_of u → HaveOneForm (last_field s) (last_field u)

-- a relation holds of each element and each that comes after it
abbrev pub Pairwise : {A : Type 0} → (A → A → Type 0) → List A → Type 0
Pairwise r [] = Unit {0}
Pairwise r (x ∷ xs) = All (r x) xs × Pairwise r xs
