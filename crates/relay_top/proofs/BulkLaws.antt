-- What is written for the lines of the large script, one after the other.
use Rattle.std.proofs.Common.{◌≡◌, ℕ, suc, ◌+◌, ◌-◌, ◌<◌, ◌≤◌, List, [], ◌∷◌, ◌++◌, ◌==◌, length, cond, ap, ◌∙◌, arith, length-append}
use Rattle.std.proofs.lemmas.List.Sums.{sum_by-append}
use Rattle.relay_forms.specs.relay_machine.Bulk.{Bulk, begun, bulk_lines, line_count, lines_from, next_bulk, next_line, refusals_from}
use Rattle.relay_forms.specs.relay_machine.Machine.{Project, State, beginning, output_from, step}
use Rattle.plan_ir.specs.schema_tables.Types.{Text}

-- the next line of so many
next_of : (b : Bulk) (count n : ℕ) → n < count → lines_from b (count - n) ≡ next_line b ∷ lines_from (next_bulk b) (count - (n + 1))
next_of b count n within = let more : count - n ≡ suc (count - (n + 1)) = omega (arith, within) in ap (lines_from b) more

line_count-append : (xs ys : Text) → line_count (xs ++ ys) ≡ line_count xs + line_count ys
line_count-append xs ys = sum_by-append (λ b. cond (b == 10) 1 0) xs ys

module _ (p : Project) (buffer : ℕ) (s : State) (at : ℕ) (b : Bulk) (count n : ℕ) (within : n < count) where
  abbrev taken : Text
  taken = (step p buffer s at (next_line b)).text

  abbrev after : State
  after = (step p buffer s at (next_line b)).state

  abbrev rest : List Text
  rest = lines_from (next_bulk b) (count - (n + 1))

  pub bytes_next : (all sum sum_now : ℕ) → all ≡ sum + length (output_from p buffer s at (lines_from b (count - n))) → sum_now ≡ sum + length taken
      → all ≡ sum_now + length (output_from p buffer after (at + 1) rest)
  bytes_next all sum sum_now so_far more =
      let next = ap (λ ls. length (output_from p buffer s at ls)) (next_of b count n within) in
      let parts = length-append taken (output_from p buffer after (at + 1) rest) in
      omega (arith, so_far, more, next, parts)

  pub lines_next : (all sum sum_now : ℕ) → all ≡ sum + line_count (output_from p buffer s at (lines_from b (count - n))) → sum_now ≡ sum + line_count taken
      → all ≡ sum_now + line_count (output_from p buffer after (at + 1) rest)
  lines_next all sum sum_now so_far more =
      let next = ap (λ ls. line_count (output_from p buffer s at ls)) (next_of b count n within) in
      let parts = line_count-append taken (output_from p buffer after (at + 1) rest) in
      omega (arith, so_far, more, next, parts)

  pub refusals_next : (all sum sum_now : ℕ) → all ≡ sum + refusals_from p buffer s at (lines_from b (count - n))
      → sum_now ≡ sum + cond (step p buffer s at (next_line b)).refused 1 0 → all ≡ sum_now + refusals_from p buffer after (at + 1) rest
  refusals_next all sum sum_now so_far more =
      let next = ap (λ ls. refusals_from p buffer s at ls) (next_of b count n within) in
      omega (arith, so_far, more, next)

-- ---- the first line, and the last

pub first_lines : (b : Bulk) (seed count : ℕ) → b ≡ begun seed → lines_from b (count - 0) ≡ bulk_lines seed count
first_lines b seed count e = let all : count - 0 ≡ count = omega arith in ap (λ x. lines_from x (count - 0)) e ∙ ap (lines_from (begun seed)) all

pub none_more : (b : Bulk) (count n : ℕ) → count ≤ n → lines_from b (count - n) ≡ []
none_more b count n end = let none : count - n ≡ 0 = omega (arith, end) in ap (lines_from b) none

module _ (p : Project) (buffer : ℕ) (b : Bulk) (seed count : ℕ) (e : b ≡ begun seed) where
  pub bytes_first : length (output_from p buffer beginning 1 (bulk_lines seed count)) ≡ 0 + length (output_from p buffer beginning (0 + 1) (lines_from b (count - 0)))
  bytes_first = let same = ap (λ ls. length (output_from p buffer beginning 1 ls)) (first_lines b seed count e) in omega (arith, same)

  pub lines_first : line_count (output_from p buffer beginning 1 (bulk_lines seed count)) ≡ 0 + line_count (output_from p buffer beginning (0 + 1) (lines_from b (count - 0)))
  lines_first = let same = ap (λ ls. line_count (output_from p buffer beginning 1 ls)) (first_lines b seed count e) in omega (arith, same)

  pub refusals_first : refusals_from p buffer beginning 1 (bulk_lines seed count) ≡ 0 + refusals_from p buffer beginning (0 + 1) (lines_from b (count - 0))
  refusals_first = let same = ap (λ ls. refusals_from p buffer beginning 1 ls) (first_lines b seed count e) in omega (arith, same)

module _ (p : Project) (buffer : ℕ) (s : State) (at : ℕ) (b : Bulk) (count n : ℕ) (end : count ≤ n) where
  pub bytes_all : (all sum : ℕ) → all ≡ sum + length (output_from p buffer s at (lines_from b (count - n))) → sum ≡ all
  bytes_all all sum so_far =
      let none : length (output_from p buffer s at (lines_from b (count - n))) ≡ 0 = ap (λ ls. length (output_from p buffer s at ls)) (none_more b count n end) in
      omega (arith, so_far, none)

  pub lines_all : (all sum : ℕ) → all ≡ sum + line_count (output_from p buffer s at (lines_from b (count - n))) → sum ≡ all
  lines_all all sum so_far =
      let none : line_count (output_from p buffer s at (lines_from b (count - n))) ≡ 0 = ap (λ ls. line_count (output_from p buffer s at ls)) (none_more b count n end) in
      omega (arith, so_far, none)

  pub refusals_all : (all sum : ℕ) → all ≡ sum + refusals_from p buffer s at (lines_from b (count - n)) → sum ≡ all
  refusals_all all sum so_far =
      let none : refusals_from p buffer s at (lines_from b (count - n)) ≡ 0 = ap (λ ls. refusals_from p buffer s at ls) (none_more b count n end) in
      omega (arith, so_far, none)
