-- Rows that are kept under their response keys, and taken out in turn.
use Rattle.std.proofs.Common.{◌≡◌, ℕ, ◌+◌, ◌<◌, ◌≤◌, Bool, true, false, cond, List, [], ◌∷◌, ◌++◌, take, length, get_or, Option, Some, bytes_eq, Vec, Global, refl, ap, sym, ◌∙◌}
use Rattle.std.proofs.lemmas.List.{append-nil, take_all, take_more}
use Rattle.std.specs.List.{filter}
use Rattle.plan_ir.proofs.gql_graph_laws.TextSteps.{same_text}
use Rattle.plan_ir.specs.schema_tables.Types.{Text}
use Rattle.doc_merge.proofs.Classes.{filter-append}
use Rattle.doc_merge.proofs.Levels.{text_turned}
use Rattle.doc_merge.proofs.MapSteps.{found}
use Rattle.doc_merge.specs.GroupView.{has_key}
use Rattle.doc_merge.specs.declared.row.Row.{Row}

abbrev pub Rows : Type 0
Rows = Vec Row Global

abbrev row_items : Rows → List Row
row_items rows = rows.items

pub put_row : (tells : Text → List Row) (key n : Text) (row : Row) (rows : Rows) (old new : Option Rows) → rows.items ≡ tells key ++ row ∷ [] → found row_items old ≡ cond (bytes_eq key n) [] (tells n)
    → new ≡ cond (bytes_eq key n) (Some rows) old → found row_items new ≡ tells n ++ cond (bytes_eq n key) (row ∷ []) []
put_row tells key n row rows old new e f g = on (bytes_eq key n) refl f g where
  on : (b : Bool) → bytes_eq key n ≡ b → found row_items old ≡ cond b [] (tells n) → new ≡ cond b (Some rows) old → found row_items new ≡ tells n ++ cond (bytes_eq n key) (row ∷ []) []
  on true h u v = ap (found row_items) v ∙ e ∙ ap (λ (m : Text). tells m ++ row ∷ []) (same_text key n h) ∙ sym (ap (λ b. tells n ++ cond b (row ∷ []) []) (text_turned n key ∙ h))
  on false h u v = ap (found row_items) v ∙ u ∙ sym (append-nil (tells n)) ∙ sym (ap (λ b. tells n ++ cond b (row ∷ []) []) (text_turned n key ∙ h))

-- one more row of the list
pub filter_more : (n : Text) (rows : List Row) (i : ℕ) (row : Row) → i < length rows → row ≡ get_or rows i row
    → filter (has_key n) (take i rows) ++ cond (has_key n row) (row ∷ []) [] ≡ filter (has_key n) (take (i + 1) rows)
filter_more n rows i row h e = sym (ap (filter (has_key n)) (take_more rows i row h ∙ ap (λ (r : Row). take i rows ++ r ∷ []) (sym e)) ∙ filter-append (has_key n) (take i rows) (row ∷ []))

pub filter_all : (n : Text) (rows : List Row) (i : ℕ) → length rows ≤ i → filter (has_key n) (take i rows) ≡ filter (has_key n) rows
filter_all n rows i h = ap (filter (has_key n)) (take_all i rows h)
