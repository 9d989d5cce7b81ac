-- Texts that are put one after the other.
use Rattle.std.proofs.Common.{◌≡◌, ◌⊎◌, ◌≤◌, ◌+◌, ◌++◌, ℕ, List, [], ◌∷◌, length, take, drop, Option, refl, sym, ap, subst, inl, inr, ◌∙◌, arith, append_assoc, length-append, length-take}
use Rattle.std.proofs.lemmas.List.{append-nil, take-append-drop}
use Rattle.relay_io.specs.Streams.{append}
use Rattle.relay_io.proofs.Streaming.{append-none}
use Rattle.relay_forms.specs.Artifacts.{EndsLine, text_of_lines}
use Rattle.relay_forms.specs.Puts.{IsPut, IsPutInPart}
use Rattle.plan_ir.specs.schema_tables.Types.{Text}
use Rattle.relay_forms.specs.declared.put.Stop.{Stop}
use Rattle.relay_forms.specs.declared.put.Stop.TheVariants.{NoMemory, WriteFault}
use Rattle.relay_forms.proofs.Pieces.{added_more}
use Rattle.relay_forms.proofs.WholeLines.{both_end}

pub lines_end : (lines : List Text) → EndsLine (text_of_lines lines)
lines_end [] = inl refl
lines_end (line ∷ lines) = both_end (line ++ 10 ∷ []) (text_of_lines lines) (inr (line, refl)) (lines_end lines)

pub put_nothing : (h : Option Text) (c : ℕ) → IsPut [] h h c c
put_nothing h c = record { adds = sym (append-none h); calls = omega arith; ends = inl refl }

pub put_both : (a b : Text) (h0 h1 h2 : Option Text) (c0 c1 c2 : ℕ) → IsPut a h0 h1 c0 c1 → IsPut b h1 h2 c1 c2 → IsPut (a ++ b) h0 h2 c0 c2
put_both a b h0 h1 h2 c0 c1 c2 x y = record {
  adds = added_more h0 h1 h2 a b x.adds y.adds;
  calls = omega (arith, x.calls, y.calls, length-append a b);
  ends = both_end a b x.ends y.ends;
}

pub nothing_of : (text : Text) (fails : Type 0) (h : Option Text) (c : ℕ) → IsPutInPart text fails h h c c
nothing_of text fails h c = record { part = []; rest = text; parts = refl; adds = sym (append-none h); calls = omega arith; ends = inr (inl refl) }

pub all_of : (text : Text) (fails : Type 0) (h0 h1 : Option Text) (c0 c1 : ℕ) → IsPut text h0 h1 c0 c1 → (put : IsPutInPart text fails h0 h1 c0 c1) × (put.rest ≡ [])
all_of text fails h0 h1 c0 c1 x = (record { part = text; rest = []; parts = append-nil text; adds = x.adds; calls = omega (arith, x.calls); ends = inr x.ends }, refl)

-- more is due
pub put_of : (all text rest : Text) (fails : Type 0) (h0 h1 : Option Text) (c0 c1 : ℕ) → all ≡ text ++ rest → IsPut text h0 h1 c0 c1 → IsPutInPart all fails h0 h1 c0 c1
put_of all text rest fails h0 h1 c0 c1 same x = record { part = text; rest = rest; parts = sym same; adds = x.adds; calls = omega (arith, x.calls); ends = inr x.ends }

-- a part is put behind whole lines, and more is due
pub stopped : (all said text rest : Text) (fails : Type 0) (h0 h1 h2 : Option Text) (c0 c1 c2 : ℕ) → all ≡ (said ++ text) ++ rest → IsPut said h0 h1 c0 c1 → IsPutInPart text fails h1 h2 c1 c2
    → IsPutInPart all fails h0 h2 c0 c2
stopped all said text rest fails h0 h1 h2 c0 c1 c2 same x y = record {
  part = said ++ y.part;
  rest = y.rest ++ rest;
  parts =
      append_assoc said y.part (y.rest ++ rest) ∙ ap (λ t. said ++ t) (sym (append_assoc y.part y.rest rest) ∙ ap (λ t. t ++ rest) y.parts)
      ∙ sym (append_assoc said text rest) ∙ sym same;
  adds = added_more h0 h1 h2 said y.part x.adds y.adds;
  calls = omega (arith, x.calls, y.calls, length-append said y.part);
  ends = elim y.ends [ inl f ↦ inl f | inr e ↦ inr (both_end said y.part x.ends e) ];
}

-- the sink failed for this cause
pub failing_so : (text : Text) (fails other : Type 0) (h0 h1 : Option Text) (c0 c1 : ℕ) → (fails → other) → IsPutInPart text fails h0 h1 c0 c1 → IsPutInPart text other h0 h1 c0 c1
failing_so text fails other h0 h1 c0 c1 so x = record {
  part = x.part;
  rest = x.rest;
  parts = x.parts;
  adds = x.adds;
  calls = x.calls;
  ends = elim x.ends [ inl f ↦ inl (so f) | inr e ↦ inr e ];
}

-- what is put of one piece
whole_lines : (stop : Stop) (text : Text) (k : ℕ) → (stop ≡ NoMemory → k ≡ 0) → (stop ≡ WriteFault) ⊎ EndsLine (take k text)
whole_lines WriteFault text k none = inl refl
whole_lines NoMemory text k none = inr (inl (ap (λ n. take n text) (none refl)))

pub part_of : (stop : Stop) (text : Text) (h0 h1 : Option Text) (c0 c1 : ℕ) (k : ℕ) → k ≤ length text → h1 ≡ append h0 (take k text) → c1 ≤ c0 + k + 1 → (stop ≡ NoMemory → k ≡ 0)
    → IsPutInPart text (stop ≡ WriteFault) h0 h1 c0 c1
part_of stop text h0 h1 c0 c1 k most adds calls none = record {
  part = take k text;
  rest = drop k text;
  parts = take-append-drop k text;
  adds = adds;
  calls = omega (arith, calls, most, length-take k text);
  ends = whole_lines stop text k none;
}
