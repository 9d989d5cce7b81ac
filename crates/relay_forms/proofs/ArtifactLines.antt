-- What is written of artifact lines, one definition after another.
use Rattle.std.proofs.Common.{◌≡◌, ◌+◌, ◌<◌, ◌++◌, ◌∷◌, ℕ, [], List, map, length, get_or, take, drop, drop-cons, add-one, refl, sym, ap, inl, inr, ◌∙◌, append_assoc}
use Rattle.std.proofs.lemmas.List.{take-append-drop}
use Rattle.plan_ir.specs.gql_ast.declared.document.Document.{Document}
use Rattle.plan_ir.specs.gql_ast.declared.place.Placed.{Placed}
use Rattle.plan_ir.specs.gql_graph.Rules.{each}
use Rattle.plan_project.specs.Expansions.{line_lists, lines_at}
use Rattle.plan_ir.specs.Projects.{definitions_in}
use Rattle.plan_ir.specs.schema_tables.Types.{Text}
use Rattle.relay_forms.specs.Artifacts.{EndsLine, artifacts_text, text_of_lines}
use Rattle.relay_forms.proofs.WholeLines.{both_end}
use Rattle.plan_ir.specs.schema_tables.Types.{Defs}

-- the lines of several definitions
abbrev pub text_of_lists : List (List Text) → Text
text_of_lists [] = []
text_of_lists (lines ∷ lists) = text_of_lines lines ++ text_of_lists lists

lines_append : (xs ys : List Text) → text_of_lines (xs ++ ys) ≡ text_of_lines xs ++ text_of_lines ys
lines_append [] ys = refl
lines_append (x ∷ xs) ys = ap (λ t. (x ++ 10 ∷ []) ++ t) (lines_append xs ys) ∙ sym (append_assoc (x ++ 10 ∷ []) (text_of_lines xs) (text_of_lines ys))

lists_each : {D : Type 0} (f : D → List Text) (ds : List D) → text_of_lines (each f ds) ≡ text_of_lists (map f ds)
lists_each f [] = refl
lists_each f (d ∷ ds) = lines_append (f d) (each f ds) ∙ ap (λ t. text_of_lines (f d) ++ t) (lists_each f ds)

-- all of them
pub artifacts_whole : (defs : Defs) (ps : List (Placed Document)) → artifacts_text defs ps ≡ text_of_lists (line_lists defs ps)
artifacts_whole defs ps = lists_each (lines_at defs ps) (definitions_in defs ps)

pub lines_end : (lines : List Text) → EndsLine (text_of_lines lines)
lines_end [] = inl refl
lines_end (l ∷ ls) = both_end (l ++ 10 ∷ []) (text_of_lines ls) (inr (l, refl)) (lines_end ls)

-- the lines of the next definition
module _ (lists : List (List Text)) (n : ℕ) (within : n < length lists) (all added : Text) (so_far : added ++ text_of_lists (drop n lists) ≡ all) where
  abbrev next_text : Text
  next_text = text_of_lines (get_or lists n [])

  abbrev rest_text : Text
  rest_text = text_of_lists (drop (n + 1) lists)

  next_then : added ++ (next_text ++ rest_text) ≡ all
  next_then = ap (λ (ls : List (List Text)). added ++ text_of_lists ls) (sym (drop-cons lists n [] within ∙ (λ j. get_or lists n [] ∷ drop (sym (add-one n) j) lists))) ∙ so_far

  pub put_next : (added ++ next_text) ++ rest_text ≡ all
  put_next = append_assoc added next_text rest_text ∙ next_then

  -- a part of them
  pub put_part : (k : ℕ) → (added ++ take k next_text) ++ (drop k next_text ++ rest_text) ≡ all
  put_part k =
      append_assoc added (take k next_text) (drop k next_text ++ rest_text)
      ∙ ap (λ t. added ++ t) (sym (append_assoc (take k next_text) (drop k next_text) rest_text) ∙ ap (λ t. t ++ rest_text) (take-append-drop k next_text)) ∙ next_then

-- there is no further definition
pub put_all_lists : (lists : List (List Text)) (n : ℕ) (all added : Text) → drop n lists ≡ [] → added ++ text_of_lists (drop n lists) ≡ all → added ++ [] ≡ all
put_all_lists lists n all added none so_far = ap (λ (ls : List (List Text)). added ++ text_of_lists ls) (sym none) ∙ so_far
