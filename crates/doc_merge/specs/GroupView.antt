-- The rows that are kept under response keys.
use Rattle.std.specs.Prelude.{◌≡◌, Bool, List, [], option_map, unwrap_or, bytes_eq}
use Rattle.std.specs.BTreeMap.{get_by}
use Rattle.std.specs.Cmp.Lexicographic.{slice_cmp}
use Rattle.std.specs.Ordering.{nat_cmp}
use Rattle.plan_ir.specs.schema_tables.Types.{Text}
use Rattle.doc_merge.specs.declared.groups.Groups.{Groups}
use Rattle.doc_merge.specs.declared.row.Row.{Row}

abbrev pub has_key : Text → Row → Bool
has_key k r = bytes_eq k r.field.key.now

-- the rows that are found under a key
abbrev pub rows_found : Groups → Text → List Row
rows_found groups n = unwrap_or (option_map (λ rows. rows.items) (get_by (λ k. slice_cmp nat_cmp n k.now) groups.by_key)) []

-- of each key these rows are kept
abbrev pub Gathers : Groups → (Text → List Row) → Type 0
Gathers groups tells = (n : Text) → rows_found groups n ≡ tells n
