-- The printed lines: compact JSON with keys in byte order, each ended by LF (this project's own).
use Rattle.std.specs.Prelude.{ℕ, false, pos, List, [], ◌∷◌, ◌++◌, map, codes}
use Rattle.plan_ir.specs.gql_plain.ToJson.{compact}
use Rattle.plan_ir.specs.gql_plain.Tree.{Tree, truth, whole, text, list, trees_of}
use Rattle.relay_machine.specs.Refusals.{Refusal, code_of, keys_of, name_of}
use Rattle.plan_ir.specs.store_model.Walks.{Reading, Shown, shown_object, with_value}
use Rattle.plan_ir.specs.store_record.Keys.{Text}

-- members put in byte order of their keys
abbrev pub in_order : List (Text × Tree) → Shown
in_order [] = []
in_order (m ∷ ms) = with_value m.0 m.1 (in_order ms)

-- a line with these members
abbrev pub line : List (Text × Tree) → Text
line members = compact (shown_object (in_order members)) ++ 10 ∷ []

abbrev pub number : ℕ → Tree
number n = whole (pos n)

-- the answer of an event that shows nothing
abbrev pub event_line : (event : Text) → ℕ → Text
event_line event n = line ((codes "n", number n) ∷ (codes "ok", text event) ∷ [])

-- a line that shows what a read gives; a member says of which event or watch
abbrev pub shown_line : ℕ → (Text × Tree) → Reading → Text
shown_line n of r =
    line ((codes "data", r.value) ∷ (codes "missing", truth r.missing) ∷ (codes "n", number n) ∷ of ∷ (codes "seen", list (trees_of (map text r.seen))) ∷ [])

-- the answer of a read
abbrev pub read_line : ℕ → Reading → Text
read_line n r = shown_line n (codes "ok", text (codes "read")) r

-- the answer of a watch that starts
abbrev pub watch_line : ℕ → Reading → Text
watch_line n r = shown_line n (codes "ok", text (codes "watch")) r

-- the notice of a watch
abbrev pub notice_line : ℕ → (name : Text) → Reading → Text
notice_line n name r = shown_line n (codes "notice", text name) r

-- the answer of a sweep: how many ids were dropped; it never waits
abbrev pub collect_line : ℕ → (dropped : ℕ) → Text
collect_line n dropped =
    line ((codes "dropped", number dropped) ∷ (codes "n", number n) ∷ (codes "ok", text (codes "collect")) ∷ (codes "waiting", truth false) ∷ [])

-- a refused line: the refusal's code and name, the number of the line, and the further keys
abbrev pub refusal_line : ℕ → Refusal → Text
refusal_line n r = line ((codes "code", number (code_of r)) ∷ (codes "error", text (name_of r)) ∷ (codes "n", number n) ∷ keys_of r)

-- a project that is refused: the file at fault with the line and the column, and the rule
abbrev pub project_fault : (file : Text) → (line column : ℕ) → (rule : Text) → Text
project_fault file at_line column rule =
    line ((codes "column", number column) ∷ (codes "file", text file) ∷ (codes "line", number at_line) ∷ (codes "rule", text rule) ∷ [])

-- the summary of a script: the bytes that are written, the lines of the script, the notices, and the lines that are refused
abbrev pub summary_line : (bytes lines notices refused : ℕ) → Text
summary_line bytes lines notices refused =
    line ((codes "bytes", number bytes) ∷ (codes "lines", number lines) ∷ (codes "notices", number notices) ∷ (codes "refused", number refused) ∷ [])
