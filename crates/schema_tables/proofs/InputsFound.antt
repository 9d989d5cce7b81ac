-- Inputs by their names, and how many have to be given, from the places of their names.
use Rattle.std.proofs.Common.{◌≡◌, ℕ, suc, Bool, true, false, cond, ◌&&◌, ◌||◌, List, [], ◌∷◌, ◌++◌, length, map, get_or, Option, Some, None, option_map, is_some, bytes_eq, refl, ap, sym, ◌∙◌}
use Rattle.std.proofs.lemmas.List.{length-map}
use Rattle.gql_ast.specs.declared.member.InputTree.{InputTree}
use Rattle.gql_graph.specs.Rules.{each}
use Rattle.gql_ast.proofs.gql_plain_laws.SortedTexts.{same_texts, AreInOrder-sorted_texts, has_text-sorted_texts}
use Rattle.gql_graph.specs.gql_plain.Order.{has_text}
use Rattle.schema_tables.proofs.Finding.{finds, missing}
use Rattle.schema_tables.specs.Indexes.{name_at, place_of}
use Rattle.schema_tables.specs.InputPlaces.{ArePlaced, input_name, is_named, is_needed}
use Rattle.schema_tables.specs.Inputs.{input_among, must_be_given}
use Rattle.schema_tables.specs.Places.{first_at, first_that}
use Rattle.schema_tables.specs.Required.{required_name, required_names}
use Rattle.schema_tables.specs.Types.{Text, input_def}

among : (is : List InputTree) (n : Text) → input_among (map input_def is) n ≡ option_map input_def (first_that (is_named n) is)
among [] n = refl
among (i ∷ is) n = on (among is n) (bytes_eq i.name n)
  where
    on : input_among (map input_def is) n ≡ option_map input_def (first_that (is_named n) is) → (b : Bool)
        → cond b (Some (input_def i)) (input_among (map input_def is) n) ≡ option_map input_def (cond b (Some i) (first_that (is_named n) is))
    on rest true = refl
    on rest false = rest

pub input_there : (is : List InputTree) (n : Text) (at : ℕ) (d : InputTree) → first_at (is_named n) is ≡ Some at → input_among (map input_def is) n ≡ Some (input_def (get_or is at d))
input_there is n at d e = among is n ∙ ap (option_map input_def) (finds (is_named n) is at d e)

pub input_gone : (is : List InputTree) (n : Text) → first_at (is_named n) is ≡ None → input_among (map input_def is) n ≡ None
input_gone is n e = among is n ∙ ap (option_map input_def) (missing (is_named n) is e)

-- ---- those that have to be given

later_there : (r : Option ℕ) → is_some (option_map suc r) ≡ is_some r
later_there None = refl
later_there (Some k) = refl

has_needed : (is : List InputTree) (n : Text) → is_some (first_at (is_needed n) is) ≡ has_text (each required_name (map input_def is)) n
has_needed [] n = refl
has_needed (i ∷ is) n = on (must_be_given (input_def i)) (later_there (first_at (is_needed n) is) ∙ has_needed is n)
  where
    named : (b : Bool) → is_some (option_map suc (first_at (is_needed n) is)) ≡ has_text (each required_name (map input_def is)) n
        → is_some (cond b (Some 0) (option_map suc (first_at (is_needed n) is))) ≡ (b || has_text (each required_name (map input_def is)) n)
    named true rest = refl
    named false rest = rest

    on : (m : Bool) → is_some (option_map suc (first_at (is_needed n) is)) ≡ has_text (each required_name (map input_def is)) n
        → is_some (cond (m && bytes_eq i.name n) (Some 0) (option_map suc (first_at (is_needed n) is))) ≡ has_text (cond m (i.name ∷ []) [] ++ each required_name (map input_def is)) n
    on true rest = named (bytes_eq i.name n) rest
    on false rest = rest

pub names_there : {X : Type 0} (name : X → Text) (xs : List X) (places : List ℕ) (n : Text) → has_text (map (name_at name xs) places) n ≡ is_some (place_of name xs places n)
names_there name xs [] n = refl
names_there name xs (at ∷ places) n = on (names_there name xs places n) (bytes_eq (name_at name xs at) n)
  where
    on : has_text (map (name_at name xs) places) n ≡ is_some (place_of name xs places n) → (b : Bool)
        → (b || has_text (map (name_at name xs) places) n) ≡ is_some (cond b (Some at) (place_of name xs places n))
    on rest true = refl
    on rest false = rest

pub needed : (is : List InputTree) (names required : List ℕ) (n : Text) → ArePlaced is names required → is_some (place_of input_name is required n) ≡ has_text (required_names (map input_def is)) n
needed is names required n placed =
    ap is_some (placed.required.finds n) ∙ has_needed is n ∙ sym (has_text-sorted_texts (each required_name (map input_def is)) n)

pub needed_count : (is : List InputTree) (names required : List ℕ) → ArePlaced is names required → length required ≡ length (required_names (map input_def is))
needed_count is names required placed =
    sym (length-map required (name_at input_name is))
    ∙ ap length
    (same_texts (map (name_at input_name is) required) (required_names (map input_def is)) placed.required.in_order (AreInOrder-sorted_texts (each required_name (map input_def is)))
    (λ n. names_there input_name is required n ∙ needed is names required n placed))

-- ---- names of a list

pub has_name : (ns : List Text) (n : Text) → is_some (first_at (λ m. bytes_eq m n) ns) ≡ has_text ns n
has_name [] n = refl
has_name (m ∷ ns) n = on (later_there (first_at (λ k. bytes_eq k n) ns) ∙ has_name ns n) (bytes_eq m n)
  where
    on : is_some (option_map suc (first_at (λ k. bytes_eq k n) ns)) ≡ has_text ns n → (b : Bool)
        → is_some (cond b (Some 0) (option_map suc (first_at (λ k. bytes_eq k n) ns))) ≡ (b || has_text ns n)
    on rest true = refl
    on rest false = rest
