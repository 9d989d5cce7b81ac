-- What pages ask of an expanded set: a connection leads to one object type, and its set asks for the page information. The expansion of an
-- operation of an accepted project is so.
use Rattle.std.specs.Prelude.{◌≡◌, Bool, true, false, ◌&&◌, ◌||◌, codes, is_some, bytes_eq}
use Rattle.plan_ir.specs.gql_plain.Order.{has_text}
use Rattle.plan_ir.specs.Additions.{type_on}
use Rattle.plan_ir.specs.Nodes as nodes
use Rattle.plan_ir.specs.Nodes.{Nodes}
use Rattle.plan_ir.specs.declared.expanded.Expanded.{Expanded}
use Rattle.plan_ir.specs.schema_rules.Rules.{is_object}
use Rattle.plan_ir.specs.schema_tables.Types.{Text, Defs, base_of, is_empty, possible}
use Rattle.plan_build.specs.Suited.{type_inside}

-- whether the set has the field `pageInfo` itself, without conditions
abbrev pub asks_page : Nodes → Bool
asks_page nodes.end = false
asks_page (nodes.field r n xs ds c of s p rest) = (bytes_eq r (codes "pageInfo") && (bytes_eq n (codes "pageInfo") && is_empty ds)) || asks_page rest
asks_page (nodes.inline o ds s p rest) = asks_page rest

-- a connection on the object types that a type may be: on each it is of its static type, an object type, as that of its page information is,
-- for which its set asks
pub record FieldConnects (defs : Defs) (t n of : Text) (s : Nodes) : Type 0 where
  pub object : is_object defs of ≡ true
  pub same : (T : Text) → has_text (possible defs t) T ≡ true → base_of (type_on defs T n) ≡ of
  pub page : is_object defs (base_of (type_on defs of (codes "pageInfo"))) ≡ true
  pub asks : asks_page s ≡ true

-- each connection, also of inner sets, on the object types that `type` may be
abbrev pub Connected : Defs → (type : Text) → Nodes → Type 0
Connected defs t nodes.end = Unit {0}
Connected defs t (nodes.field r n xs ds c of s p rest) =
    (is_some c ≡ true → FieldConnects defs t n (base_of of) s) × Connected defs (base_of of) s × Connected defs t rest
Connected defs t (nodes.inline o ds s p rest) = Connected defs (type_inside defs t o) s × Connected defs t rest

-- the root of an operation is an object type
pub record IsConnected (defs : Defs) (e : Expanded) : Type 0 where
  pub root : is_object defs e.root ≡ true
  pub selections : Connected defs e.root e.selections
