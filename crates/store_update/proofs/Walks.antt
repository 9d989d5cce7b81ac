-- One step of going over rows, pages, commands and ids.
use Rattle.std.proofs.Common.{◌≡◌, ℕ, ◌+◌, ◌<◌, List, [], ◌∷◌, ◌++◌, map, length, get_or, drop, take, sym, ap, ◌∙◌}
use Rattle.std.proofs.lemmas.List.{drop_more, map-append, take_more}
use Rattle.store_conn.specs.store_record.Keys.{Text}
use Rattle.store_conn.specs.store_model.Entries.{asked_by_page, asked_by_pages, merge_all, number_asked, weights}
use Rattle.store_conn.specs.store_model.FactRows.{with_row, put_rows}
use Rattle.store_conn.specs.store_model.Merge.{merge}
use Rattle.store_conn.specs.store_model.Records.{Records}
use Rattle.store_conn.specs.store_model.declared.facts.FactRow.{FactRow}
use Rattle.store_conn.specs.store_model.declared.facts.HandleFact.{HandleFact}

module _ {X : Type 0} where
  pub next_of : (xs : List X) (i : ℕ) (x : X) → i < length xs → x ≡ get_or xs i x → drop i xs ≡ x ∷ drop (i + 1) xs
  next_of xs i x within is = drop_more xs i x within ∙ ap (λ y. y ∷ drop (i + 1) xs) (sym is)

pub ids_next : {X : Type 0} (id : X → Text) (xs : List X) (i : ℕ) (x : X) → i < length xs → x ≡ get_or xs i x → map id (take i xs) ++ id x ∷ [] ≡ map id (take (i + 1) xs)
ids_next id xs i x within is =
    sym (ap (map id) (take_more xs i x within ∙ ap (λ y. take i xs ++ y ∷ []) (sym is)) ∙ map-append id (take i xs) (x ∷ []))

pub rows_next : (rows : List FactRow) (i : ℕ) (row : FactRow) (m : Records) → i < length rows → row ≡ get_or rows i row
    → put_rows (drop (i + 1) rows) (with_row row m) ≡ put_rows (drop i rows) m
rows_next rows i row m within is = sym (ap (λ rs. put_rows rs m) (next_of rows i row within is))

module _ (handles : List HandleFact) (i : ℕ) (h : HandleFact) (m : Records) (within : i < length handles) (is : h ≡ get_or handles i h) where
  pub merges_next : merge_all (drop (i + 1) handles) (merge h m) ≡ merge_all (drop i handles) m
  merges_next = sym (ap (λ hs. merge_all hs m) (next_of handles i h within is))

  pub pages_weigh : weights (asked_by_pages (drop i handles) m) ≡ 1 + number_asked (asked_by_page h m) + weights (asked_by_pages (drop (i + 1) handles) (merge h m))
  pages_weigh = ap (λ hs. weights (asked_by_pages hs m)) (next_of handles i h within is)
