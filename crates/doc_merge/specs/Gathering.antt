-- The fields of an expanded selection set, gathered through its inline fragments (GraphQL, October 2021, section 5.3.2).
use Rattle.std.specs.Prelude.{cond, Option, Some, None}
use Rattle.plan_ir.specs.Nodes as nodes
use Rattle.plan_ir.specs.Nodes.{Nodes}
use Rattle.plan_ir.specs.declared.expanded.Expanded.{Expanded}
use Rattle.plan_ir.specs.schema_rules.Rules.{is_object}
use Rattle.plan_ir.specs.schema_tables.Types.{Text, Defs, base_of}
use Rattle.doc_merge.specs.Merging.{Fields, no_fields, field}
use Rattle.doc_merge.specs.Shapes.{shape_of}

-- the type, if it is an object type
abbrev pub object_or_none : Defs → Text → Option Text
object_or_none defs t = cond (is_object defs t) (Some t) None

-- the type around what stands in an inline fragment
abbrev pub on_or : (around : Text) → (on : Option Text) → Text
on_or around None = around
on_or around (Some t) = t

-- the fields of a set on this type, and then those that come after
abbrev pub fields_before : Defs → (around : Text) → Nodes → (after : Fields) → Fields
fields_before defs around nodes.end after = after
fields_before defs around (nodes.field r n xs ds c of s p rest) after =
    field (record { key = r; parent = object_or_none defs around; shape = shape_of defs of; signature = record { name = n; arguments = xs }; place = p })
    (fields_before defs (base_of of) s no_fields) (fields_before defs around rest after)
fields_before defs around (nodes.inline o ds s p rest) after = fields_before defs (on_or around o) s (fields_before defs around rest after)

abbrev pub fields_of : Defs → (around : Text) → Nodes → Fields
fields_of defs around s = fields_before defs around s no_fields

abbrev pub fields_in : Defs → Expanded → Fields
fields_in defs e = fields_of defs e.root e.selections
