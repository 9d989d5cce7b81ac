-- The word that a name is told as, is that name.
use Rattle.std.proofs.Common.{◌≡◌, ℕ, Bool, true, false, cond, bytes_eq, List, [], ◌∷◌, Some, refl}
use Rattle.std.proofs.lemmas.Slice.Eq.{bytes_eq-Decides}
use Rattle.gql_syntax.specs.gql_ast.declared.document.Kind.{Kind}
use Rattle.gql_syntax.specs.gql_ast.declared.document.Kind.TheVariants as K
use Rattle.gql_syntax.specs.gql_ast.declared.location.Location.{Location}
use Rattle.gql_syntax.specs.gql_ast.declared.location.Location.TheVariants as L
use Rattle.gql_syntax.specs.Words.{kind_word, IsEnumName, true_word, false_word, null_word}
use Rattle.gql_sdl.specs.Machine.{an_object, an_interface, a_scalar, with_fields, a_union, an_enum, an_input, Word, a_schema, titled, a_directive, word_text, find_by, words, word_of, kinds, kind_of, all_locations, location_of, is_reserved}
use Rattle.gql_sdl.specs.Schemas.{location_word}

pub same_word : (m n : List ℕ) → bytes_eq m n ≡ true → m ≡ n
same_word m n e = (bytes_eq-Decides m n).0 e

module _ {A : Type 0} (word : A → List ℕ) where
  on_test : (b : A) (more : List A) (n : List ℕ) (a : A) (t : Bool) → (t ≡ true → n ≡ word b) → (find_by word more n ≡ Some a → n ≡ word a)
      → cond t (Some b) (find_by word more n) ≡ Some a → n ≡ word a
  on_test b more n a true same go e = let h : a ≡ b = cc in let k = same refl in cc
  on_test b more n a false same go e = go e

  pub told_by-word : (all : List A) (n : List ℕ) (a : A) → find_by word all n ≡ Some a → n ≡ word a
  told_by-word [] n a e = absurd (cc)
  told_by-word (b ∷ more) n a e = on_test b more n a (bytes_eq n (word b)) (same_word n (word b)) (told_by-word more n a) e

pub word_of-word : (n : List ℕ) (w : Word) → word_of n ≡ Some w → n ≡ word_text w
word_of-word n w e = told_by-word word_text words n w e

pub kind_of-word : (n : List ℕ) (k : Kind) → kind_of n ≡ Some k → n ≡ kind_word k
kind_of-word n k e = told_by-word kind_word kinds n k e

pub location_of-word : (n : List ℕ) (l : Location) → location_of n ≡ Some l → n ≡ location_word l
location_of-word n l e = told_by-word location_word all_locations n l e

pub word_of-spelled : (w : Word) → word_of (word_text w) ≡ Some w
word_of-spelled a_schema = refl
word_of-spelled (titled a_scalar) = refl
word_of-spelled (titled (with_fields an_object)) = refl
word_of-spelled (titled (with_fields an_interface)) = refl
word_of-spelled (titled a_union) = refl
word_of-spelled (titled an_enum) = refl
word_of-spelled (titled an_input) = refl
word_of-spelled a_directive = refl

pub kind_of-kind : (k : Kind) → kind_of (kind_word k) ≡ Some k
kind_of-kind K.Query = refl
kind_of-kind K.Mutation = refl
kind_of-kind K.Subscription = refl

pub location_of-location : (l : Location) → location_of (location_word l) ≡ Some l
location_of-location L.Query = refl
location_of-location L.Mutation = refl
location_of-location L.Subscription = refl
location_of-location L.Field = refl
location_of-location L.FragmentDefinition = refl
location_of-location L.FragmentSpread = refl
location_of-location L.InlineFragment = refl
location_of-location L.VariableDefinition = refl
location_of-location L.Schema = refl
location_of-location L.Scalar = refl
location_of-location L.Object = refl
location_of-location L.FieldDefinition = refl
location_of-location L.ArgumentDefinition = refl
location_of-location L.Interface = refl
location_of-location L.Union = refl
location_of-location L.Enum = refl
location_of-location L.EnumValue = refl
location_of-location L.InputObject = refl
location_of-location L.InputFieldDefinition = refl

enum_name : (n : List ℕ) (a b c : Bool) → cond a true (cond b true c) ≡ false → (a ≡ false) × (b ≡ false) × (c ≡ false)
enum_name n true b c e = absurd (cc)
enum_name n false true c e = absurd (cc)
enum_name n false false c e = (refl, refl, e)

pub is_reserved-enum_name : (n : List ℕ) → is_reserved n ≡ false → IsEnumName n
is_reserved-enum_name n e =
    let h = enum_name n (bytes_eq n true_word) (bytes_eq n false_word) (bytes_eq n null_word) e in
    record { no_true = h.0; no_false = h.1; no_null = h.2 }

pub enum_name-is_reserved : (n : List ℕ) → IsEnumName n → is_reserved n ≡ false
enum_name-is_reserved n h = rw (h.no_true, h.no_false, h.no_null) refl
