-- So much of V24 plans ask of an expanded operation or fragment: any two of its fields, on all levels, that may be collected for the same
-- objects under the same response keys have one name.
use Rattle.std.specs.Prelude.{◌≡◌, true, List}
use Rattle.doc_merge.specs.Collected.{is_collected, keys_of, last_field}
use Rattle.doc_merge.specs.Gathering.{fields_in}
use Rattle.doc_merge.specs.Paths.{Path, paths}
use Rattle.plan_ir.specs.declared.expanded.Expanded.{Expanded}
use Rattle.plan_ir.specs.schema_tables.Types.{Text, Defs}
use Rattle.plan_ir.specs.store_model.Alike.{Among}

-- wherever both are collected for the same objects under the same keys, they have one name
abbrev pub HaveOneName : Path → Path → Type 0
HaveOneName s u = (objects : List Text) → is_collected objects s ≡ true → is_collected objects u ≡ true → keys_of s ≡ keys_of u → (last_field s).signature.name ≡ (last_field u).signature.name

-- any two fields of an expanded set, each with the fields around it
abbrev pub FieldsAreAlike : Defs → Expanded → Type 0
FieldsAreAlike defs e = (s u : Path) → Among s (paths (fields_in defs e)) → Among u (paths (fields_in defs e)) → HaveOneName s u
