-- The forms of the program's words.
use Rattle.std.specs.Prelude.{ℕ, length, ◌≤◌, ◌<◌, ◌+◌, ◌-◌, ◌*◌, ◌^◌, List, [], ◌∷◌, Bool, true, false, ◌&&◌, ◌||◌, ◌==◌, not, cond, codes, bytes_eq, nat_le, nat_lt, Option, Some, None, fold}
use Rattle.std.specs.List.{list_all}
use Rattle.plan_ir.specs.schema_tables.Types.{Text}

abbrev pub is_digit : ℕ → Bool
is_digit b = nat_le 48 b && nat_le b 57

abbrev pub is_there : {A : Type 0} → List A → Bool
is_there [] = false
is_there (x ∷ xs) = true

-- there is something, and no zero in front of more
abbrev pub is_plain : Text → Bool
is_plain [] = false
is_plain (b ∷ bs) = not (b == 48) || not (is_there bs)

-- decimal digits without a zero in front
abbrev pub is_decimal : Text → Bool
is_decimal text = list_all is_digit text && is_plain text

abbrev pub decimal : Text → ℕ
decimal = fold (λ n b. 10 * n + (b - 48)) 0

-- a number of released operations that are kept: 1 to 100
abbrev pub is_buffer : Text → Bool
is_buffer text = is_decimal text && nat_le 1 (decimal text) && nat_le (decimal text) 100

-- a project has 1 to 1,000 documents
abbrev pub max_documents : ℕ
max_documents = 1000

abbrev pub are_documents : List Text → Bool
are_documents names = nat_le 1 (length names) && nat_le (length names) max_documents

-- the most lines that are asked for of the large script
abbrev pub max_lines : ℕ
max_lines = 1000000

-- the number below 2^64 that digits write
abbrev pub decimal_in : Text → Option ℕ
decimal_in digits = cond (list_all is_digit digits && nat_lt (decimal digits) (2 ^ 64)) (Some (decimal digits)) None

-- the number below 2^64 that a text writes
abbrev pub seed_in : Text → Option ℕ
seed_in text = cond (is_decimal text && nat_lt (decimal text) (2 ^ 64)) (Some (decimal text)) None

-- the number of 1 to 1,000,000 that a text writes
abbrev pub count_in : Text → Option ℕ
count_in text = cond (is_decimal text && nat_le 1 (decimal text) && nat_le (decimal text) max_lines) (Some (decimal text)) None

-- What the words ask for over files. `run B SCHEMA DOC..` runs a script against the project of these files, and
-- keeps at most B released operations. `compile SCHEMA DOC..` writes the artifact lines of the project of these files.
pub data Form : Type 0 where
  run : (buffer : ℕ) (schema : Text) (documents : List Text) → Form
  compile : (schema : Text) (documents : List Text) → Form

-- What the words ask for. `bulk SEED COUNT` writes the summary of so many lines of the large script of the seed.
pub data Asked : Type 0 where
  on_files : Form → Asked
  bulk : (seed count : ℕ) → Asked

-- by the words after `run`
abbrev pub run_form : List Text → Option Asked
run_form [] = None
run_form (buffer ∷ []) = None
run_form (buffer ∷ schema ∷ documents) = cond (is_buffer buffer && are_documents documents) (Some (on_files (run (decimal buffer) schema documents))) None

-- by the words after `compile`
abbrev pub compile_form : List Text → Option Asked
compile_form [] = None
compile_form (schema ∷ documents) = cond (are_documents documents) (Some (on_files (compile schema documents))) None

abbrev pub bulk_of : (seed count : Option ℕ) → Option Asked
bulk_of None count = None
bulk_of (Some seed) None = None
bulk_of (Some seed) (Some count) = Some (bulk seed count)

-- by the words after `bulk`
abbrev pub bulk_form : List Text → Option Asked
bulk_form [] = None
bulk_form (seed ∷ []) = None
bulk_form (seed ∷ count ∷ []) = bulk_of (seed_in seed) (count_in count)
bulk_form (seed ∷ count ∷ more ∷ words) = None

abbrev pub asked_by : List Text → Option Asked
asked_by [] = None
asked_by (first ∷ words) =
    cond (bytes_eq first (codes "run")) (run_form words)
    (cond (bytes_eq first (codes "compile")) (compile_form words)
    (cond (bytes_eq first (codes "bulk")) (bulk_form words) None))

-- the names of the files that a form reads, in their order
abbrev pub file_names : Form → List Text
file_names (run buffer schema documents) = schema ∷ documents
file_names (compile schema documents) = schema ∷ documents

-- the numbers of a form are within their limits
abbrev pub IsWithin : Form → Type 0
IsWithin (run buffer schema documents) = (1 ≤ buffer) × (buffer ≤ 100) × (1 ≤ length documents) × (length documents ≤ max_documents)
IsWithin (compile schema documents) = (1 ≤ length documents) × (length documents ≤ max_documents)

abbrev pub IsAskedWithin : Asked → Type 0
IsAskedWithin (on_files form) = IsWithin form
IsAskedWithin (bulk seed count) = (seed < 2 ^ 64) × (1 ≤ count) × (count ≤ max_lines)
