-- What is put at the end of a list, element by element, and what is left.
use Rattle.std.proofs.Common.{◌≡◌, ℕ, ◌+◌, ◌<◌, ◌≤◌, Bool, true, false, ◌||◌, List, [], ◌∷◌, ◌++◌, drop, length, get_or, append-nil, append_assoc, bytes_eq, refl, sym, ap, ◌∙◌}
use Rattle.std.proofs.lemmas.List.{drop_all, drop_more}
use Rattle.store_model.specs.gql_plain.Order.{AreSortedOf, has_text}
use Rattle.store_model.specs.store_record.Keys.{Text}
use Rattle.store_model.proofs.gql_plain_laws.SortedTexts.{AreSortedOf-is, has_text-sorted_texts}

pub or_assoc : (a b c : Bool) → ((a || b) || c) ≡ (a || (b || c))
or_assoc true b c = refl
or_assoc false b c = refl

pub or_false : (a : Bool) → (a || false) ≡ a
or_false true = refl
or_false false = refl

pub has_append : (xs ys : List Text) (j : Text) → has_text (xs ++ ys) j ≡ (has_text xs j || has_text ys j)
has_append [] ys j = refl
has_append (x ∷ xs) ys j = ap (λ b. bytes_eq x j || b) (has_append xs ys j) ∙ sym (or_assoc (bytes_eq x j) (has_text xs j) (has_text ys j))

-- what one element puts, and what all of a list put
module _ {X : Type 0} (own : X → List Text) (all : List X → List Text) (all_cons : (x : X) (xs : List X) → all (x ∷ xs) ≡ own x ++ all xs) where
  split : (xs : List X) (i : ℕ) (x : X) → i < length xs → x ≡ get_or xs i x → all (drop i xs) ≡ own x ++ all (drop (i + 1) xs)
  split xs i x within is = ap all (drop_more xs i x within ∙ ap (λ one. one ∷ drop (i + 1) xs) (sym is)) ∙ all_cons x (drop (i + 1) xs)

  pub written_next : (xs : List X) (i : ℕ) (x : X) (old new whole : List Text) → i < length xs → x ≡ get_or xs i x → new ≡ old ++ own x
      → old ++ all (drop i xs) ≡ whole → new ++ all (drop (i + 1) xs) ≡ whole
  written_next xs i x old new whole within is put before =
      ap (λ ids. ids ++ all (drop (i + 1) xs)) put
      ∙ append_assoc old (own x) (all (drop (i + 1) xs))
      ∙ ap (λ ids. old ++ ids) (sym (split xs i x within is)) ∙ before

  pub written_end : all [] ≡ [] → (xs : List X) (i : ℕ) (old whole : List Text) → length xs ≤ i → old ++ all (drop i xs) ≡ whole → old ≡ whole
  written_end none xs i old whole past before = sym (append-nil old) ∙ ap (λ ids. old ++ ids) (sym (ap all (drop_all i xs past) ∙ none)) ∙ before

  -- and whether an id is among them
  pub noted_next : (xs : List X) (i : ℕ) (x : X) (old new : List Text) (whole : Bool) (j : Text) → i < length xs → x ≡ get_or xs i x → has_text new j ≡ (has_text old j || has_text (own x) j)
      → (has_text old j || has_text (all (drop i xs)) j) ≡ whole → (has_text new j || has_text (all (drop (i + 1) xs)) j) ≡ whole
  noted_next xs i x old new whole j within is put before =
      ap (λ b. b || has_text (all (drop (i + 1) xs)) j) put
      ∙ or_assoc (has_text old j) (has_text (own x) j) (has_text (all (drop (i + 1) xs)) j)
      ∙ ap (λ b. has_text old j || b) (sym (has_append (own x) (all (drop (i + 1) xs)) j) ∙ ap (λ ids. has_text ids j) (sym (split xs i x within is)))
      ∙ before

  pub noted_end : all [] ≡ [] → (xs : List X) (i : ℕ) (old : List Text) (whole : Bool) (j : Text) → length xs ≤ i → (has_text old j || has_text (all (drop i xs)) j) ≡ whole → has_text old j ≡ whole
  noted_end none xs i old whole j past before =
      sym (or_false (has_text old j)) ∙ ap (λ ids. has_text old j || has_text ids j) (sym (ap all (drop_all i xs past) ∙ none)) ∙ before

-- texts that are sorted are the same texts
pub sorted_has : (xs sorted : List Text) (j : Text) → AreSortedOf xs sorted → has_text sorted j ≡ has_text xs j
sorted_has xs sorted j h = ap (λ ts. has_text ts j) (AreSortedOf-is xs sorted h) ∙ has_text-sorted_texts xs j
