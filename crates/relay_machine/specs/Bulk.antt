-- The large script that is drawn from a number, the project that it is run against, and the summary of what is written for its lines.
use Rattle.std.specs.Prelude.{ℕ, zero, suc, ◌+◌, ◌*◌, ◌-◌, ◌/◌, ◌%◌, ◌^◌, List, [], ◌∷◌, ◌++◌, length, Bool, true, false, not, ◌==◌, cond, codes}
use Rattle.std.specs.Fmt.{decimal}
use Rattle.std.specs.List.{count_by}
use Rattle.relay_machine.specs.Machine.{Project, State, beginning, output, step}
use Rattle.relay_machine.specs.Printed.{summary_line}
use Rattle.plan_ir.specs.schema_tables.Types.{Text}

-- ---- the project

abbrev pub bulk_schema : Text
bulk_schema = codes "type Query{me:User} type User{id:ID! age:Int friend:User}"

abbrev pub bulk_document : Text
bulk_document = codes "query B{me{age friend{age}}}"

-- how many released operations are kept
abbrev pub bulk_buffer : ℕ
bulk_buffer = 10

-- ---- the draws

abbrev pub next_number : ℕ → ℕ
next_number x = (x * 6364136223846793005 + 1442695040888963407) % 2 ^ 64

-- what a number gives: a kind, and a number below 1,000
abbrev pub kind_of : ℕ → ℕ
kind_of x = x / 2 ^ 33 / 1000 % 4

abbrev pub age_of : ℕ → ℕ
age_of x = x / 2 ^ 33 % 1000

-- ---- the lines

abbrev pub retain_line : Text
retain_line = codes "{\"do\":\"retain\",\"handle\":\"h\",\"op\":\"B\"}"

abbrev pub watch_line : Text
watch_line = codes "{\"do\":\"watch\",\"handle\":\"h\",\"watch\":\"w\"}"

-- a friend of the age, whose id ends with it
abbrev pub friend_line : (age : ℕ) → Text
friend_line age =
    codes "{\"do\":\"payload\",\"handle\":\"h\",\"response\":{\"data\":{\"me\":{\"age\":" ++ decimal age ++ codes ",\"friend\":{\"age\":" ++ decimal age ++ codes ",\"id\":\"u"
    ++ decimal age ++ codes "\"},\"id\":\"m\"}}}}"

abbrev pub age_line : (age : ℕ) → Text
age_line age = codes "{\"do\":\"payload\",\"handle\":\"h\",\"response\":{\"data\":{\"me\":{\"age\":" ++ decimal age ++ codes ",\"id\":\"m\"}}}}"

-- the layer starts where it is not live, and else is reverted
abbrev pub layer_line : (live : Bool) → Text
layer_line false = codes "{\"do\":\"begin\",\"layer\":\"t\",\"updates\":[{\"add\":{\"by\":1,\"field\":\"age\",\"id\":\"m\"}}]}"
layer_line true = codes "{\"do\":\"revert\",\"layer\":\"t\"}"

abbrev pub collect_line : Text
collect_line = codes "{\"do\":\"collect\"}"

-- the line of a kind
abbrev pub line_of_kind : (kind age : ℕ) → (live : Bool) → Text
line_of_kind kind age live = cond (kind == 0) (friend_line age) (cond (kind == 1) (age_line age) (cond (kind == 2) (layer_line live) collect_line))

-- ---- the script

-- which line comes next: the first, the second, or a further one
pub data Stage : Type 0 where
  retaining watching drawing : Stage

-- where the script stands: the number that was drawn last, which is the seed at first, and whether the layer is live
pub record Bulk : Type 0 where
  pub stage : Stage
  pub drawn : ℕ
  pub live : Bool

abbrev pub begun : (seed : ℕ) → Bulk
begun seed = record { stage = retaining; drawn = seed; live = false }

-- after a draw
abbrev pub draw : ℕ → Bool → Bulk
draw x live = record { stage = drawing; drawn = x; live = cond (kind_of x == 2) (not live) live }

abbrev pub line_at : Stage → ℕ → Bool → Text
line_at retaining x live = retain_line
line_at watching x live = watch_line
line_at drawing x live = line_of_kind (kind_of (next_number x)) (age_of (next_number x)) live

abbrev pub after : Stage → ℕ → Bool → Bulk
after retaining x live = record { stage = watching; drawn = x; live = live }
after watching x live = record { stage = drawing; drawn = x; live = live }
after drawing x live = draw (next_number x) live

-- the next line, and where the script stands then
abbrev pub next_line : Bulk → Text
next_line b = line_at b.stage b.drawn b.live

abbrev pub next_bulk : Bulk → Bulk
next_bulk b = after b.stage b.drawn b.live

-- so many lines
abbrev pub lines_from : Bulk → (count : ℕ) → List Text
lines_from b zero = []
lines_from b (suc n) = next_line b ∷ lines_from (next_bulk b) n

abbrev pub bulk_lines : (seed count : ℕ) → List Text
bulk_lines seed count = lines_from (begun seed) count

-- ---- the summary

-- how many of the lines are refused, from a state on, numbered from n
abbrev pub refusals_from : Project → (buffer : ℕ) → State → ℕ → List Text → ℕ
refusals_from p buffer s n [] = 0
refusals_from p buffer s n (l ∷ ls) = cond (step p buffer s n l).refused 1 0 + refusals_from p buffer (step p buffer s n l).state (n + 1) ls

-- how many lines a text has, each of which LF ends
abbrev pub line_count : Text → ℕ
line_count text = count_by (λ b. b == 10) text

-- of what is written for so many lines, with so many refusals: each line has one answer, and all other lines are notices
abbrev pub summary_of : (count : ℕ) → (written : Text) → (refusals : ℕ) → Text
summary_of count written refusals = summary_line (length written) count (line_count written - count) refusals

abbrev pub bulk_output : Project → (seed count : ℕ) → Text
bulk_output p seed count = output p bulk_buffer (bulk_lines seed count)

abbrev pub bulk_refusals : Project → (seed count : ℕ) → ℕ
bulk_refusals p seed count = refusals_from p bulk_buffer beginning 1 (bulk_lines seed count)

-- what is written for the words `bulk`
abbrev pub bulk_summary : Project → (seed count : ℕ) → Text
bulk_summary p seed count = summary_of count (bulk_output p seed count) (bulk_refusals p seed count)
