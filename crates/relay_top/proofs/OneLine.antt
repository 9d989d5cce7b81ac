-- What is put of one line.
use Rattle.std.proofs.Common.{◌≡◌, ◌≤◌, ◌+◌, ◌++◌, ℕ, [], ◌∷◌, length, take, drop, Option, refl, sym, ap, inl, inr, ◌∙◌, arith, length-take}
use Rattle.std.proofs.lemmas.List.{append-nil, take-append-drop}
use Rattle.relay_forms.proofs.relay_io_laws.Streaming.{append-none}
use Rattle.relay_forms.specs.relay_io.Streams.{append}
use Rattle.relay_top.specs.Answers.{Wrote}
use Rattle.relay_forms.specs.declared.status.Status.{Status}
use Rattle.relay_forms.specs.declared.status.Status.TheVariants.{Done, WriteFault, NoMemory}
use Rattle.plan_ir.specs.schema_tables.Types.{Text}

no_memory : NoMemory ≡ Done → ⊥
no_memory e = cc

no_fault : WriteFault ≡ Done → ⊥
no_fault e = cc

-- nothing is put
pub nothing_put : (text : Text) (h : Option Text) (c : ℕ) → Wrote text NoMemory h h c c
nothing_put text h c = record {
  added = [];
  adds = sym (append-none h);
  puts_most = omega arith;
  ends = inr (inl refl);
  more = text;
  part = refl;
  whole = λ d. absurd (no_memory d);
}

module _ (h0 h1 : Option Text) (c0 c1 : ℕ) (line text : Text) (same : line ++ 10 ∷ [] ≡ text) where
  abbrev bytes : Text
  bytes = line ++ 10 ∷ []

  pub whole : h1 ≡ append h0 bytes → c1 ≤ c0 + length bytes → Wrote text Done h0 h1 c0 c1
  whole held calls = record {
    added = bytes;
    adds = held;
    puts_most = omega (arith, calls);
    ends = inr (inr (line, refl));
    more = [];
    part = append-nil bytes ∙ same;
    whole = λ d. refl;
  }

  pub cut_off : (k : ℕ) → k ≤ length bytes → h1 ≡ append h0 (take k bytes) → c1 ≤ c0 + k + 1 → Wrote text WriteFault h0 h1 c0 c1
  cut_off k within held calls = record {
    added = take k bytes;
    adds = held;
    puts_most = omega (arith, calls, within, length-take k bytes);
    ends = inl refl;
    more = drop k bytes;
    part = take-append-drop k bytes ∙ same;
    whole = λ d. absurd (no_fault d);
  }

  pub not_begun : (k : ℕ) → k ≡ 0 → h1 ≡ append h0 (take k bytes) → c1 ≤ c0 + k + 1 → Wrote text NoMemory h0 h1 c0 c1
  not_begun k none held calls = record {
    added = [];
    adds = held ∙ ap (λ n. append h0 (take n bytes)) none;
    puts_most = omega (arith, calls, none);
    ends = inr (inl refl);
    more = text;
    part = refl;
    whole = λ d. absurd (no_memory d);
  }
