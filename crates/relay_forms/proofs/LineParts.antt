-- What is kept of a line, and what of a piece is parts of lines.
use Rattle.std.proofs.Common.{◌≡◌, ℕ, ◌+◌, ◌-◌, ◌≤◌, ◌++◌, length, take, min, inl, inr, sym, ap, ◌∙◌, arith, length-take}
use Rattle.std.proofs.lemmas.Bool.{cases_lt}
use Rattle.std.proofs.lemmas.List.{take-take, take_all}
use Rattle.std.proofs.Math.Seq.{take-append-add}
use Rattle.plan_ir.specs.schema_tables.Types.{Text}

-- more bytes, as far as they are looked at, behind those that are kept
pub kept_more : (most n : ℕ) (part items bytes more new : Text) → items ≡ part → length part ≤ most → n ≡ length items → more ≡ take (most - n) bytes → new ≡ items ++ more
    → new ≡ take most (part ++ bytes)
kept_more most n part items bytes more new same short n_is more_is new_is =
    let left : length part + (most - n) ≡ most = omega (arith, short, n_is, ap length same) in
    new_is ∙ ap (λ xs. xs ++ more) same ∙ ap (λ xs. part ++ xs) more_is ∙ sym (take-append-add part bytes (most - n)) ∙ ap (λ k. take k (part ++ bytes)) left

-- of the first bytes of some room, as many as are parts of lines
pub piece_of : (count most least : ℕ) (room : Text) → least ≡ min count most → take least room ≡ take most (take count room)
piece_of count most least room is = elim (cases_lt count most) [
  | inl few ↦ let same : least ≡ count = omega (arith, is, few) in
      ap (λ n. take n room) same ∙ sym (take_all most (take count room) (omega (arith, length-take count room, few)))
  | inr many ↦ let same : least ≡ most = omega (arith, is, many) in ap (λ n. take n room) same ∙ sym (take-take most count room many)
]
