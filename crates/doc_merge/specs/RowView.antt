-- What the rows of the code stand for.
use Rattle.std.specs.Global.{Global}
use Rattle.std.specs.Prelude.{Option, map, option_copied, Vec}
use denote.Ref.{Bor}
use Rattle.plan_ir.specs.gql_ast.TypeView.{ty_of}
use Rattle.plan_ir.specs.schema_tables.Types.{Text, Defs, base_of}
use Rattle.doc_merge.specs.Cells.{Mark}
use Rattle.doc_merge.specs.Gathering.{fields_of}
use Rattle.doc_merge.specs.Merging as spec
use Rattle.doc_merge.specs.Paths as paths
use Rattle.doc_merge.specs.Paths.{Pattern}
use Rattle.doc_merge.specs.Shapes.{shape_of}
use Rattle.doc_merge.specs.Signatures.{Signature}
use Rattle.doc_merge.specs.declared.row.Field.{Field}
use Rattle.doc_merge.specs.declared.row.Row.{Row}

abbrev pub signature_of : Field → Signature
signature_of f = record { name = f.name.now; arguments = f.arguments.now }

abbrev pub field_of : Defs → Field → spec.Field
field_of defs f = record {
  key = f.key.now;
  parent = option_copied f.parent;
  shape = shape_of defs (ty_of f.of.now);
  signature = signature_of f;
  place = f.place;
}

abbrev pub parent_of : Row → Option Text
parent_of r = option_copied r.field.parent

abbrev pub pattern_of : Row → Pattern
pattern_of r = map option_copied r.pattern.now

abbrev pub row_of : Defs → Row → paths.Row
row_of defs r = (pattern_of r, field_of defs r.field, fields_of defs (base_of (ty_of r.field.of.now)) r.field.selections.now)

abbrev pub mark_of : Row → Mark
mark_of r = record { pattern = pattern_of r; signature = signature_of r.field; place = r.field.place }

-- a pattern that the code has written out
abbrev pub pattern_items : Vec (Option (Bor Text)) Global → Pattern
pattern_items v = map option_copied v.items
