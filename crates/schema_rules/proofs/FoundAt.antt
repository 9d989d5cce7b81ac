-- The elements at the places of names.
use Rattle.std.proofs.Common.{◌≡◌, ℕ, ◌<◌, zero, suc, Bool, true, false, cond, List, [], ◌∷◌, map, length, get_or, Option, Some, None, option_copied, option_map, is_some, bytes_eq, refl, ap, sym, ◌∙◌, arith}
use Rattle.schema_trees.specs.gql_ast.declared.member.InputTree.{InputTree}
use Rattle.schema_trees.specs.Located.{InputAt, FieldAt}
use Rattle.schema_trees.specs.LocatedView.{input_of, input_text, field_of, field_text}
use Rattle.schema_trees.specs.declared.located.FieldAt as field_code
use Rattle.schema_trees.specs.declared.located.InputAt as input_code
use Rattle.schema_rules.specs.NamedAt.{field_place}
use Rattle.schema_trees.specs.schema_tables.Indexes.{is_named}
use Rattle.schema_trees.specs.schema_tables.Places.{first_at, first_that}
use Rattle.schema_rules.specs.Rules.{field_found, input_found}
use Rattle.schema_trees.specs.schema_tables.Types.{Text, input_named}
use Rattle.schema_trees.proofs.schema_tables_laws.Finding.{first_at-map}
use denote.Ref.{Bor}

pub get_or_of : {X A : Type 0} (view : X → A) (xs : List X) (i : ℕ) (d : X) → get_or (map view xs) i (view d) ≡ view (get_or xs i d)
get_or_of view [] i d = refl
get_or_of view (x ∷ xs) zero d = refl
get_or_of view (x ∷ xs) (suc i) d = get_or_of view xs i d

pub field_found-first : (fs : List FieldAt) (n : Text) → field_found fs n ≡ first_that (λ (f : FieldAt). bytes_eq f.name.name n) fs
field_found-first [] n = refl
field_found-first (f ∷ fs) n = ap (cond (bytes_eq f.name.name n) (Some f)) (field_found-first fs n)

pub input_found-first : (is : List InputAt) (n : Text) → input_found is n ≡ first_that (λ (i : InputAt). bytes_eq i.name.name n) is
input_found-first [] n = refl
input_found-first (i ∷ is) n = ap (cond (bytes_eq i.name.name n) (Some i)) (input_found-first is n)

pub input_named-first : (is : List InputTree) (n : Text) → input_named is n ≡ first_that (λ (i : InputTree). bytes_eq i.name n) is
input_named-first [] n = refl
input_named-first (i ∷ is) n = ap (cond (bytes_eq i.name n) (Some i)) (input_named-first is n)

some_place : (r : Option ℕ) → is_some (option_map suc r) ≡ is_some r
some_place None = refl
some_place (Some k) = refl

-- what has a place is there
pub placed_is_there : {X : Type 0} (passes : X → Bool) (xs : List X) → is_some (first_at passes xs) ≡ is_some (first_that passes xs)
placed_is_there passes [] = refl
placed_is_there passes (x ∷ xs) = on (passes x) (placed_is_there passes xs) where
  on : (b : Bool) → is_some (first_at passes xs) ≡ is_some (first_that passes xs) → is_some (cond b (Some 0) (option_map suc (first_at passes xs))) ≡ is_some (cond b (Some x) (first_that passes xs))
  on true e = refl
  on false e = some_place (first_at passes xs) ∙ e

pub get_or_own : {X : Type 0} (xs : List X) (i : ℕ) (d : X) → i < length xs → get_or xs i d ≡ get_or xs i (get_or xs i d)
get_or_own [] i d h = absurd (omega arith)
get_or_own (x ∷ xs) zero d h = refl
get_or_own (x ∷ xs) (suc i) d h = next_own xs i d (get_or xs i d) (omega arith) where
  next_own : {X : Type 0} (ys : List X) (k : ℕ) (a b : X) → k < length ys → get_or ys k a ≡ get_or ys k b
  next_own [] k a b g = absurd (omega arith)
  next_own (y ∷ ys) zero a b g = refl
  next_own (y ∷ ys) (suc k) a b g = next_own ys k a b (omega arith)

-- the first place among fields with their numbers is that among those of the code
pub field_places : (fs : List field_code.FieldAt) (n : Text) → first_at (is_named field_text n) fs ≡ field_place (map field_of fs) n
field_places fs n = sym (first_at-map field_of (λ (f : FieldAt). bytes_eq f.name.name n) fs)

pub ruleset named_places = (field_places)

first_mapped : {X A : Type 0} (view : X → A) (passes : A → Bool) (xs : List X) → option_map view (first_that (λ x. passes (view x)) xs) ≡ first_that passes (map view xs)
first_mapped view passes [] = refl
first_mapped view passes (x ∷ xs) = on (passes (view x)) (first_mapped view passes xs) where
  on : (b : Bool) → option_map view (first_that (λ y. passes (view y)) xs) ≡ first_that passes (map view xs)
      → option_map view (cond b (Some x) (first_that (λ y. passes (view y)) xs)) ≡ cond b (Some (view x)) (first_that passes (map view xs))
  on true e = refl
  on false e = e

seen : {X A : Type 0} (view : X → A) (o : Option (Bor X)) → option_map (λ (b : Bor X). view b.now) o ≡ option_map view (option_copied o)
seen view None = refl
seen view (Some b) = refl

-- what is found among those of the code is what is found among those with their numbers
pub field_there : (fs : List field_code.FieldAt) (n : Text) (o : Option (Bor field_code.FieldAt)) → option_copied o ≡ first_that (is_named field_text n) fs
    → option_map (λ (b : Bor field_code.FieldAt). field_of b.now) o ≡ field_found (map field_of fs) n
field_there fs n o e =
    seen field_of o ∙ ap (option_map field_of) e ∙ first_mapped field_of (λ (f : FieldAt). bytes_eq f.name.name n) fs ∙ sym (field_found-first (map field_of fs) n)

pub input_there : (is : List input_code.InputAt) (n : Text) (o : Option (Bor input_code.InputAt)) → option_copied o ≡ first_that (is_named input_text n) is
    → option_map (λ (b : Bor input_code.InputAt). input_of b.now) o ≡ input_found (map input_of is) n
input_there is n o e =
    seen input_of o ∙ ap (option_map input_of) e ∙ first_mapped input_of (λ (i : InputAt). bytes_eq i.name.name n) is ∙ sym (input_found-first (map input_of is) n)
