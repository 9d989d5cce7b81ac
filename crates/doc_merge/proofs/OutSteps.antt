-- The innermost level of a pattern, and the levels further out.
use Rattle.std.proofs.Common.{◌≡◌, [], ◌∷◌, length, Option, Some, None, slice_get, refl, ap, sym, ◌∙◌, arith}
use Rattle.std.specs.List.{between}
use Rattle.std.specs.Prelude.{option_copied}
use Rattle.std.proofs.lemmas.Slice.{first_rest}
use denote.Ref.{Bor}
use Rattle.plan_ir.specs.schema_tables.Types.{Text}
use Rattle.doc_merge.proofs.PatternSteps.{ParentList, parents}
use Rattle.doc_merge.specs.Cells.{innermost, outer}

inside_some : {X : Type 0} (x y : X) → Some x ≡ Some y → x ≡ y
inside_some x y e = cc

none_some : {X : Type 0} (x : X) → None ≡ Some x → ⊥
none_some x e = cc

pub first_level : (ps : ParentList) (o : Option (Bor (Option (Bor Text)))) (r : Bor (Option (Bor Text))) → o ≡ Some r → option_copied o ≡ slice_get ps 0 → option_copied r.now ≡ innermost (parents ps)
first_level [] o r e f = absurd (none_some r.now (sym f ∙ ap option_copied e))
first_level (p ∷ ps) o r e f = ap option_copied (inside_some r.now p (sym (ap option_copied e) ∙ f))

pub no_level : (ps : ParentList) (o : Option (Bor (Option (Bor Text)))) → o ≡ None → option_copied o ≡ slice_get ps 0 → None ≡ innermost (parents ps)
no_level [] o e f = refl
no_level (p ∷ ps) o e f = absurd (none_some p (sym (ap option_copied e) ∙ f))

pub outer_rest : (ps : ParentList) → (length ps ≡ 0 → ⊥) → parents (between 1 (length ps) ps) ≡ outer (parents ps)
outer_rest [] h = absurd (h refl)
outer_rest (p ∷ ps) h = sym (ap (λ (qs : ParentList). outer (parents qs)) (first_rest (p ∷ ps) None (omega arith)))
