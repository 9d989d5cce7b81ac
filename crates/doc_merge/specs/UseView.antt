-- What tables of variables in the code stand for.
use Rattle.std.specs.Prelude.{◌≡◌, option_copied}
use Rattle.std.specs.BTreeMap.{get_by}
use Rattle.std.specs.Cmp.Lexicographic.{slice_cmp}
use Rattle.std.specs.Ordering.{nat_cmp}
use Rattle.plan_ir.specs.schema_tables.Types.{Text}
use Rattle.doc_merge.specs.Values.{variable_named}
use Rattle.doc_merge.specs.declared.variables.Variables.{Variables}

-- of each name the table has the variable
abbrev pub Names : Variables → Type 0
Names table = (n : Text) → option_copied (get_by (λ k. slice_cmp nat_cmp n k.now) table.by_name) ≡ variable_named table.defined.now n
