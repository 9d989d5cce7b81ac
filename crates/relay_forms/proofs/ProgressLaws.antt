-- What is written byte by byte is what the machine writes line by line.
use Rattle.std.proofs.Common.{◌≡◌, ℕ, zero, suc, ◌+◌, ◌-◌, ◌≤◌, [], ◌∷◌, ◌++◌, length, take, Bool, true, false, ◌||◌, ◌==◌, cond, refl, sym, ap, ◌∙◌, arith, append_assoc, length-take}
use Rattle.std.proofs.Math.Seq.{take-append-add}
use Rattle.std.proofs.lemmas.Bool.{true≢false}
use Rattle.std.proofs.lemmas.List.{append-nil, take_all}
use Rattle.plan_ir.specs.gql_plain.Limits.{max_line}
use Rattle.relay_machine.specs.Machine.{Project, State, beginning, step, output, output_from, refused_from, some_refused}
use Rattle.relay_forms.specs.Progress.{Progress, start, step_of, longer, ended_line, behind, after, told, ended, ended_part, told_at_end, told_of_part, answers_of}
use Rattle.relay_machine.specs.Script.{lines_from, lines_of, cut}
use Rattle.relay_forms.specs.Scripts.{HasNoEnd}
use Rattle.plan_ir.specs.schema_tables.Types.{Text}

abbrev most : ℕ
most = max_line + 1

pub cut_twice : (n : ℕ) (xs ys : Text) → take n (take n xs ++ ys) ≡ take n (xs ++ ys)
cut_twice zero xs ys = refl
cut_twice (suc n) [] ys = refl
cut_twice (suc n) (x ∷ xs) ys = ap (λ l. x ∷ l) (cut_twice n xs ys)

abbrev with_part : Progress → Text → Progress
with_part q part = record { state = q.state; number = q.number; part = part; refused = q.refused }

-- no more is kept than is looked at
pub kept_short : (q : Progress) (xs : Text) → length (longer q xs).part ≤ max_line + 1
kept_short q xs = omega (arith, length-take most (q.part ++ xs))

longer_more : (q : Progress) (xs ys : Text) → longer (longer q xs) ys ≡ longer q (xs ++ ys)
longer_more q xs ys = ap (with_part q) (cut_twice most (q.part ++ xs) ys ∙ ap (take most) (append_assoc q.part xs ys))

longer_none : (q : Progress) → length q.part ≤ max_line + 1 → q ≡ longer q []
longer_none q short = ap (with_part q) (sym (ap (take most) (append-nil q.part) ∙ take_all most q.part short))

module _ (p : Project) (buffer : ℕ) where
  -- ---- bytes, one after the other

  pub after_more : (q : Progress) (xs ys : Text) → after p buffer q (xs ++ ys) ≡ after p buffer (after p buffer q xs) ys
  after_more q [] ys = refl
  after_more q (x ∷ xs) ys = after_more (behind p buffer q x) xs ys

  pub told_more : (q : Progress) (xs ys : Text) → told p buffer q (xs ++ ys) ≡ told p buffer q xs ++ told p buffer (after p buffer q xs) ys
  told_more q [] ys = refl
  told_more q (x ∷ xs) ys =
      let answer : Text = cond (x == 10) (step_of p buffer q).text [] in
      ap (λ t. answer ++ t) (told_more (behind p buffer q x) xs ys) ∙ sym (append_assoc answer (told p buffer (behind p buffer q x) xs) _)

  -- a piece behind what was given, up to a limit
  both_parts : (n : ℕ) (given more : Text) → length given ≤ n → take n (given ++ more) ≡ take n given ++ take (n - length given) more
  both_parts n given more within =
      let left : length given + (n - length given) ≡ n = omega (arith, within) in
      ap (λ k. take k (given ++ more)) (sym left) ∙ take-append-add given more (n - length given) ∙ ap (λ xs. xs ++ take (n - length given) more) (sym (take_all n given within))

  pub after_piece : (q : Progress) (n : ℕ) (given more : Text) → length given ≤ n
      → after p buffer (after p buffer q (take n given)) (take (n - length given) more) ≡ after p buffer q (take n (given ++ more))
  after_piece q n given more within = sym (ap (after p buffer q) (both_parts n given more within) ∙ after_more q (take n given) (take (n - length given) more))

  pub told_piece : (q : Progress) (n : ℕ) (given more : Text) → length given ≤ n
      → told p buffer q (take n (given ++ more)) ≡ told p buffer q (take n given) ++ told p buffer (after p buffer q (take n given)) (take (n - length given) more)
  told_piece q n given more within = ap (told p buffer q) (both_parts n given more within) ∙ told_more q (take n given) (take (n - length given) more)

  -- ---- the bytes of one line

  pub after_plain : (q : Progress) (xs : Text) → HasNoEnd xs → length q.part ≤ max_line + 1 → after p buffer q xs ≡ longer q xs
  after_plain q [] plain short = longer_none q short
  after_plain q (x ∷ xs) plain short =
      ap (λ t. after p buffer (cond t (ended_line p buffer q) (longer q (x ∷ []))) xs) plain.0
      ∙ after_plain (longer q (x ∷ [])) xs plain.1 (kept_short q (x ∷ [])) ∙ longer_more q (x ∷ []) xs

  pub told_plain : (q : Progress) (xs : Text) → HasNoEnd xs → told p buffer q xs ≡ []
  told_plain q [] plain = refl
  told_plain q (x ∷ xs) plain =
      ap (λ t. cond t (step_of p buffer q).text [] ++ told p buffer (cond t (ended_line p buffer q) (longer q (x ∷ []))) xs) plain.0
      ∙ told_plain (longer q (x ∷ [])) xs plain.1

  pub after_line : (q : Progress) (line rest : Text) → HasNoEnd line → length q.part ≤ max_line + 1
      → after p buffer q (line ++ 10 ∷ rest) ≡ after p buffer (ended_line p buffer (longer q line)) rest
  after_line q line rest plain short =
      after_more q line (10 ∷ rest) ∙ ap (λ r. after p buffer r (10 ∷ rest)) (after_plain q line plain short)

  pub told_line : (q : Progress) (line rest : Text) → HasNoEnd line → length q.part ≤ max_line + 1
      → told p buffer q (line ++ 10 ∷ rest) ≡ (step_of p buffer (longer q line)).text ++ told p buffer (ended_line p buffer (longer q line)) rest
  told_line q line rest plain short =
      told_more q line (10 ∷ rest) ∙ ap (λ t. t ++ told p buffer (after p buffer q line) (10 ∷ rest)) (told_plain q line plain)
      ∙ ap (λ r. told p buffer r (10 ∷ rest)) (after_plain q line plain short)

  -- ---- a part that is not empty

  pub ended_some : (q : Progress) (part : Text) → (length part == 0) ≡ false → ended_line p buffer q ≡ ended_part p buffer q part
  ended_some q [] some = absurd (true≢false some)
  ended_some q (b ∷ part) some = refl

  pub told_some : (q : Progress) (part : Text) → (length part == 0) ≡ false → (step_of p buffer q).text ≡ told_of_part p buffer q part
  told_some q [] some = absurd (true≢false some)
  told_some q (b ∷ part) some = refl

  -- ---- the lines

  abbrev at : State → ℕ → Text → Bool → Progress
  at s n part r = record { state = s; number = n; part = take most part; refused = r }

  longer_at : (s : State) (n : ℕ) (part : Text) (r : Bool) (x : ℕ) → longer (at s n part r) (x ∷ []) ≡ at s n (part ++ x ∷ []) r
  longer_at s n part r x = ap (with_part (at s n part r)) (cut_twice most part (x ∷ []))

  -- where the script goes on
  abbrev IsOpen : Text → Type 0
  IsOpen xs = (part : Text) (s : State) (n : ℕ) (r : Bool) → output_from p buffer s n (cut (lines_from part xs false)) ≡ told p buffer (at s n part r) xs

  open_byte : (x : ℕ) (xs : Text) → IsOpen xs → (part : Text) (s : State) (n : ℕ) (r : Bool) (t : Bool)
      → output_from p buffer s n (cut (cond t (part ∷ lines_from [] xs false) (lines_from (part ++ x ∷ []) xs false)))
      ≡ cond t (step_of p buffer (at s n part r)).text [] ++ told p buffer (cond t (ended_line p buffer (at s n part r)) (longer (at s n part r) (x ∷ []))) xs
  open_byte x xs next part s n r true =
      let now = step p buffer s n (take most part) in
      ap (λ t. now.text ++ t) (next [] now.state (n + 1) (r || now.refused))
  open_byte x xs next part s n r false = next (part ++ x ∷ []) s n r ∙ sym (ap (λ q. told p buffer q xs) (longer_at s n part r x))

  open_lines : (xs : Text) → IsOpen xs
  open_lines [] [] s n r = refl
  open_lines [] (b ∷ part) s n r = refl
  open_lines (x ∷ xs) part s n r = open_byte x xs (open_lines xs) part s n r (x == 10)

  -- where the script has ended
  abbrev IsClosed : Text → Type 0
  IsClosed xs = (part : Text) (s : State) (n : ℕ) (r : Bool) → output_from p buffer s n (cut (lines_from part xs true)) ≡ answers_of p buffer (at s n part r) xs true

  closed_byte : (x : ℕ) (xs : Text) → IsClosed xs → (part : Text) (s : State) (n : ℕ) (r : Bool) (t : Bool)
      → output_from p buffer s n (cut (cond t (part ∷ lines_from [] xs true) (lines_from (part ++ x ∷ []) xs true)))
      ≡ (cond t (step_of p buffer (at s n part r)).text [] ++ told p buffer (cond t (ended_line p buffer (at s n part r)) (longer (at s n part r) (x ∷ []))) xs)
      ++ told_at_end p buffer (after p buffer (cond t (ended_line p buffer (at s n part r)) (longer (at s n part r) (x ∷ []))) xs)
  closed_byte x xs next part s n r true =
      let now = step p buffer s n (take most part) in
      ap (λ t. now.text ++ t) (next [] now.state (n + 1) (r || now.refused)) ∙ sym (append_assoc now.text (told p buffer (ended_line p buffer (at s n part r)) xs) _)
  closed_byte x xs next part s n r false =
      next (part ++ x ∷ []) s n r ∙ sym (ap (λ q. answers_of p buffer q xs true) (longer_at s n part r x))

  closed_lines : (xs : Text) → IsClosed xs
  closed_lines [] [] s n r = refl
  closed_lines [] (b ∷ part) s n r = append-nil (step p buffer s n (take most (b ∷ part))).text
  closed_lines (x ∷ xs) part s n r = closed_byte x xs (closed_lines xs) part s n r (x == 10)

  -- ---- refusals

  or_none : (a : Bool) → (a || false) ≡ a
  or_none true = refl
  or_none false = refl

  or_or : (a b c : Bool) → (a || (b || c)) ≡ ((a || b) || c)
  or_or true b c = refl
  or_or false b c = refl

  abbrev AreRefused : Text → Type 0
  AreRefused xs =
      (part : Text) (s : State) (n : ℕ) (r : Bool) → (r || refused_from p buffer s n (cut (lines_from part xs true))) ≡ (ended p buffer (after p buffer (at s n part r) xs)).refused

  refused_byte : (x : ℕ) (xs : Text) → AreRefused xs → (part : Text) (s : State) (n : ℕ) (r : Bool) (t : Bool)
      → (r || refused_from p buffer s n (cut (cond t (part ∷ lines_from [] xs true) (lines_from (part ++ x ∷ []) xs true))))
      ≡ (ended p buffer (after p buffer (cond t (ended_line p buffer (at s n part r)) (longer (at s n part r) (x ∷ []))) xs)).refused
  refused_byte x xs next part s n r true =
      let now = step p buffer s n (take most part) in
      or_or r now.refused _ ∙ next [] now.state (n + 1) (r || now.refused)
  refused_byte x xs next part s n r false =
      next (part ++ x ∷ []) s n r ∙ sym (ap (λ q. (ended p buffer (after p buffer q xs)).refused) (longer_at s n part r x))

  refused_lines : (xs : Text) → AreRefused xs
  refused_lines [] [] s n r = or_none r
  refused_lines [] (b ∷ part) s n r = ap (λ t. r || t) (or_none (step p buffer s n (take most (b ∷ part))).refused)
  refused_lines (x ∷ xs) part s n r = refused_byte x xs (refused_lines xs) part s n r (x == 10)

  -- ---- the whole script

  pub written_is : (bytes : Text) (is_ended : Bool) → output p buffer (cut (lines_of bytes is_ended)) ≡ answers_of p buffer (start beginning 1) bytes is_ended
  written_is bytes true = closed_lines bytes [] beginning 1 false
  written_is bytes false = open_lines bytes [] beginning 1 false ∙ sym (append-nil (told p buffer (start beginning 1) bytes))

  pub refused_is : (bytes : Text) → some_refused p buffer (cut (lines_of bytes true)) ≡ (ended p buffer (after p buffer (start beginning 1) bytes)).refused
  refused_is bytes = refused_lines bytes [] beginning 1 false
