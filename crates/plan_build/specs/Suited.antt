-- What plans ask of an expanded set: on each object type that may come there, fields are what their static types say. The expansion of an
-- operation of an accepted project is so.
use Rattle.std.specs.Prelude.{◌≡◌, true, false, cond, List, [], codes, Option, Some, None, bytes_eq}
use Rattle.std.specs.List.{list_all}
use Rattle.plan_ir.specs.gql_ast.Ty.{Ty}
use Rattle.plan_ir.specs.gql_ast.Value.{Val}
use Rattle.plan_ir.specs.gql_plain.Order.{has_text}
use Rattle.plan_ir.specs.gql_plain.declared.ids.Conn.{Conn}
use Rattle.doc_merge.specs.Gathering.{on_or}
use Rattle.plan_ir.specs.Additions.{type_on}
use Rattle.plan_ir.specs.Nodes as nodes
use Rattle.plan_ir.specs.Nodes.{Nodes}
use Rattle.plan_ir.specs.declared.expanded.Expanded.{Expanded}
use Rattle.relay_model.specs.Collection.{form_on}
use Rattle.plan_ir.specs.schema_rules.Rules.{is_object}
use Rattle.plan_ir.specs.schema_tables.Types.{Text, Defs, base_of, possible}
use Rattle.plan_ir.specs.store_model.Items.{leaf}

-- a field on an object type: the type name has no arguments and is no connection, a leaf is no connection, and each object that the field may
-- lead to here is one of its static type
pub record FieldSuits (defs : Defs) (T n : Text) (xs : List (Text × Val)) (c : Option Conn) (of : Ty) : Type 0 where
  pub bare : n ≡ codes "__typename" → xs ≡ []
  pub plain : n ≡ codes "__typename" → c ≡ None
  pub leaf_is_plain : form_on defs T n ≡ leaf → c ≡ None
  pub within : bytes_eq n (codes "__typename") ≡ false → (U : Text) → has_text (possible defs (base_of (type_on defs T n))) U ≡ true → has_text (possible defs (base_of of)) U ≡ true

-- the type that plans count on inside an inline fragment: the one around it where each of its object types is of the fragment's, else the
-- fragment's
abbrev pub type_inside : Defs → (type : Text) → (on : Option Text) → Text
type_inside defs t None = t
type_inside defs t (Some o) = cond (list_all (λ T. has_text (possible defs o) T) (possible defs t)) t o

-- nodes whose static type is `around`, on the object types that `type` may be
abbrev pub Suited : Defs → (around type : Text) → Nodes → Type 0
Suited defs around t nodes.end = Unit {0}
Suited defs around t (nodes.field r n xs ds c of s p rest) =
    ((T : Text) → has_text (possible defs t) T ≡ true → FieldSuits defs T n xs c of) × Suited defs (base_of of) (base_of of) s × Suited defs around t rest
Suited defs around t (nodes.inline o ds s p rest) = Suited defs (on_or around o) (type_inside defs t o) s × Suited defs around t rest

-- the root of an operation is an object type
pub record IsSuited (defs : Defs) (e : Expanded) : Type 0 where
  pub root : is_object defs e.root ≡ true
  pub selections : Suited defs e.root e.root e.selections
