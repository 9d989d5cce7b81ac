-- What plans ask of an operation or a fragment: of V6, V7, V8, V12 and V22, what its own fields need, and those of the fragments that its
-- spreads find. Those of documents that meet V1 to V22 meet it, and so may an operation that stands in no document.
use Rattle.std.specs.Prelude.{◌≡◌, true, List, [], codes, Option, None, Some, is_some}
use Rattle.doc_merge.specs.Gathering.{on_or}
use Rattle.plan_ir.specs.gql_ast.Sels as sels
use Rattle.plan_ir.specs.gql_ast.Sels.{Sels}
use Rattle.plan_ir.specs.gql_ast.Value.{Val}
use Rattle.plan_ir.specs.gql_plain.declared.ids.Conn.{Conn}
use Rattle.plan_ir.specs.Additions.{type_on}
use Rattle.plan_ir.specs.Expansion.{Project, name_or}
use Rattle.plan_ir.specs.relay_marks.Connections.{connection_among}
use Rattle.plan_ir.specs.schema_rules.Rules.{is_object}
use Rattle.plan_ir.specs.schema_tables.Types.{Text, Defs, base_of, root}
use Rattle.plan_ir.specs.schema_types.NameRules.{fragment_named}
use Rattle.plan_ir.specs.schema_types.Sites.{FragmentAt, OperationAt, field_type, is_set}

-- ---- fields

-- the name of a field's type, inside all lists and non-null forms
abbrev pub base_on : Defs → (of name : Text) → Text
base_on defs T n = base_of (type_on defs T n)

-- the type of a connection
pub record IsConnectionType (defs : Defs) (t : Text) : Type 0 where
  pub object : is_object defs t ≡ true
  pub edge : is_object defs (base_on defs t (codes "edges")) ≡ true
  pub page : is_object defs (base_on defs t (codes "pageInfo")) ≡ true

-- a field on a type, with its arguments, its connection and its selections
pub record FieldMeets (defs : Defs) (around n : Text) (xs : List (Text × Val)) (c : Option Conn) (s : Sels) : Type 0 where
  pub there : is_some (field_type defs (Some around) n) ≡ true
  pub bare : n ≡ codes "__typename" → xs ≡ []
  pub plain : n ≡ codes "__typename" → c ≡ None
  pub alone : n ≡ codes "__typename" → s ≡ sels.end
  pub connection : is_some c ≡ true → IsConnectionType defs (base_on defs around n)
  pub filled : is_some c ≡ true → is_set s ≡ true

-- each field, also of inner sets
abbrev pub Meets : Defs → (around : Text) → Sels → Type 0
Meets defs around sels.end = Unit {0}
Meets defs around (sels.field a n xs ds s rest) =
    FieldMeets defs around n xs (connection_among ds) s × Meets defs (base_on defs around n) s × Meets defs around rest
Meets defs around (sels.spread n ds rest) = Meets defs around rest
Meets defs around (sels.inline o ds s rest) = Meets defs (on_or around o) s × Meets defs around rest

-- ---- operations and fragments

abbrev pub FragmentMeets : Defs → FragmentAt → Type 0
FragmentMeets defs f = Meets defs f.on.name f.selections

-- each fragment that a spread may find
abbrev pub FragmentsMeet : Project → Type 0
FragmentsMeet p = (n : Text) (f : FragmentAt) → fragment_named p.fragments n ≡ Some f → FragmentMeets p.defs f

-- an operation whose kind has a root type; it need not be one of the documents that the fragments stand in
pub record OperationMeetsRules (p : Project) (o : OperationAt) : Type 0 where
  pub there : is_some (root p.defs o.kind) ≡ true
  pub selections : Meets p.defs (name_or (root p.defs o.kind)) o.selections
  pub fragments : FragmentsMeet p

-- a fragment by itself
pub record FragmentMeetsRules (p : Project) (f : FragmentAt) : Type 0 where
  pub selections : FragmentMeets p.defs f
  pub fragments : FragmentsMeet p
