-- The lines of notices, one after another.
use Rattle.std.proofs.Common.{◌≡◌, ℕ, ◌+◌, ◌<◌, ◌≤◌, zero, suc, true, false, List, [], ◌∷◌, ◌++◌, length, map, drop, get_or, append_assoc, append-nil, sym, ap, ◌∙◌, arith}
use Rattle.std.proofs.lemmas.List.{drop_all, drop_more}
use Rattle.std.specs.List.{AllByRecursion}
use Rattle.line_engine.specs.Notices.{line_of, told_lines}
use Rattle.line_engine.specs.Steps.{written}
use Rattle.relay_machine.specs.Printed.{notice_line}
use Rattle.plan_ir.specs.schema_tables.Types.{Text}
use Rattle.std.specs.Prelude.{cond, slice_index_or}
use Rattle.store_watch.specs.Rows.{telling_of}
use Rattle.store_watch.specs.Watching.{Telling}
use Rattle.store_watch.specs.declared.notices.Notice.{Notice}

written-push : (ts : List Text) (t : Text) → written (ts ++ t ∷ []) ≡ written ts ++ (t ++ 10 ∷ [])
written-push [] t = append-nil (t ++ 10 ∷ [])
written-push (x ∷ ts) t = ap (λ w. (x ++ 10 ∷ []) ++ w) (written-push ts t) ∙ sym (append_assoc (x ++ 10 ∷ []) (written ts) (t ++ 10 ∷ []))

-- ---- one notice

module _ (names : List Text) (n : ℕ) where
  pub not_told : (ts : List Text) (t : Telling) → t.told ≡ false → written ts ≡ written ts ++ line_of names n t
  not_told ts t none = sym (append-nil (written ts)) ∙ ap (λ b. written ts ++ cond b (notice_line n (slice_index_or names t.place []) t.gives) []) (sym none)

  pub is_told : (old new : List Text) (text name : Text) (t : Telling) → new ≡ old ++ text ∷ [] → text ++ 10 ∷ [] ≡ notice_line n name t.gives → name ≡ slice_index_or names t.place []
      → t.told ≡ true → written new ≡ written old ++ line_of names n t
  is_told old new text name t pushed is named told =
      ap written pushed ∙ written-push old text
      ∙ ap (λ l. written old ++ l) (is ∙ ap (λ x. notice_line n x t.gives) named ∙ ap (λ b. cond b (notice_line n (slice_index_or names t.place []) t.gives) []) (sym told))

-- ---- all of them

module _ (names : List Text) (n : ℕ) (ns : List Notice) where
  pub told_step : (i : ℕ) (notice : Notice) (old new whole : Text) → i < length ns → notice ≡ get_or ns i notice → old ++ told_lines names n (map telling_of (drop i ns)) ≡ whole
      → new ≡ old ++ line_of names n (telling_of notice) → new ++ told_lines names n (map telling_of (drop (i + 1) ns)) ≡ whole
  told_step i notice old new whole h is kept added =
      let left : drop i ns ≡ notice ∷ drop (i + 1) ns = drop_more ns i notice h ∙ ap (λ y. y ∷ drop (i + 1) ns) (sym is) in
      ap (λ t. t ++ told_lines names n (map telling_of (drop (i + 1) ns))) added
      ∙ append_assoc old (line_of names n (telling_of notice)) (told_lines names n (map telling_of (drop (i + 1) ns)))
      ∙ ap (λ qs. old ++ told_lines names n (map telling_of qs)) (sym left) ∙ kept

  pub told_end : (i : ℕ) (last whole : Text) → length ns ≤ i → last ++ told_lines names n (map telling_of (drop i ns)) ≡ whole → last ≡ whole
  told_end i last whole h kept = sym (append-nil last) ∙ ap (λ qs. last ++ told_lines names n (map telling_of qs)) (sym (drop_all i ns h)) ∙ kept

-- each notice is of a watch that there is
pub place_within : (count : ℕ) (ns : List Notice) (i : ℕ) (d : Notice) → AllByRecursion (λ (t : Telling). t.place < count) (map telling_of ns) → i < length ns → (get_or ns i d).place < count
place_within count [] i d all h = absurd (omega arith)
place_within count (x ∷ ns) zero d all h = all.0
place_within count (x ∷ ns) (suc i) d all h = place_within count ns i d all.1 (omega (arith, h))
