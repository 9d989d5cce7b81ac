-- What the steps of a plan say of types and of connections: in every plan, and of the fields of a schema.
use Rattle.std.specs.Prelude.{◌≡◌, Bool, true, false, not, ◌&&◌, ◌||◌, List, codes, Option, Some, None, bytes_eq}
use Rattle.std.specs.List.{filter}
use Rattle.plan_ir.specs.gql_plain.Order.{has_text}
use Rattle.plan_ir.specs.gql_plain.declared.ids.Conn.{Conn}
use Rattle.plan_ir.specs.Additions.{is_abstract, type_on}
use Rattle.plan_ir.specs.Normal as n
use Rattle.plan_ir.specs.Normal.{Normal}
use Rattle.plan_ir.specs.NormalMeaning.{are_names, type_passes}
use Rattle.plan_ir.specs.schema_tables.Fits.{is_list_type}
use Rattle.plan_ir.specs.schema_tables.Types.{Text, Defs, base_of, has_id, is_composite, possible}
use Rattle.plan_build.specs.Steps.{is_one}

-- ---- types: those of steps and of guards are Names, and a step whose type is not open has exactly one

abbrev pub are_types : (open_type : Bool) → (types : List Text) → Bool
are_types o ts = are_names ts && (o || is_one ts)

abbrev pub are_tested : Option (List Text) → Bool
are_tested None = true
are_tested (Some ts) = are_names ts

abbrev pub is_typed : Normal → Bool
is_typed n.done = true
is_typed (n.typename r rest) = is_typed rest
is_typed (n.leaf r name xs rest) = is_typed rest
is_typed (n.object r name xs m ts is o c child rest) = are_types o ts && (is_typed child && is_typed rest)
is_typed (n.guarded g child rest) = are_tested g.types && (is_typed child && is_typed rest)

-- ---- connections: the type of a step that is one is not open, and below it stands a step for the page information, under its own name and
-- behind no guard, whose type is not open

abbrev pub is_page_step : (response name : Text) → (open_type : Bool) → Bool
is_page_step r name o = bytes_eq r (codes "pageInfo") && (bytes_eq name (codes "pageInfo") && not o)

abbrev pub has_page : Normal → Bool
has_page n.done = false
has_page (n.typename r rest) = has_page rest
has_page (n.leaf r name xs rest) = has_page rest
has_page (n.object r name xs m ts is o c child rest) = is_page_step r name o || has_page rest
has_page (n.guarded g child rest) = has_page rest

abbrev pub has_its_page : Option Conn → (open_type : Bool) → (child : Normal) → Bool
has_its_page None o child = true
has_its_page (Some c) o child = not o && has_page child

abbrev pub has_pages : Normal → Bool
has_pages n.done = true
has_pages (n.typename r rest) = has_pages rest
has_pages (n.leaf r name xs rest) = has_pages rest
has_pages (n.object r name xs m ts is o c child rest) = has_its_page c o child && (has_pages child && has_pages rest)
has_pages (n.guarded g child rest) = has_pages child && has_pages rest

-- ---- the fields of a schema

-- what a step says of a field on an object type: its named type is a composite one; whether it is a list of these, the object types that this
-- type may be, those of them that have an id, and whether it is abstract
pub record IsOfField (defs : Defs) (T name : Text) (m : Bool) (ts is : List Text) (o : Bool) : Type 0 where
  pub composite : is_composite defs (base_of (type_on defs T name)) ≡ true
  pub many : m ≡ is_list_type (type_on defs T name)
  pub types : ts ≡ possible defs (base_of (type_on defs T name))
  pub identified : is ≡ filter (has_id defs) ts
  pub open_type : o ≡ is_abstract defs (base_of (type_on defs T name))

-- on an object type each step whose guards let it says this of its field, a leaf is of no composite type, and so are the steps below on each
-- of its types
abbrev pub FitsSchema : Defs → (object : Text) → Normal → Type 0
FitsSchema defs T n.done = Unit {0}
FitsSchema defs T (n.typename r rest) = FitsSchema defs T rest
FitsSchema defs T (n.leaf r name xs rest) = (is_composite defs (base_of (type_on defs T name)) ≡ false) × FitsSchema defs T rest
FitsSchema defs T (n.object r name xs m ts is o c child rest) =
    IsOfField defs T name m ts is o × ((U : Text) → has_text ts U ≡ true → FitsSchema defs U child) × FitsSchema defs T rest
FitsSchema defs T (n.guarded g child rest) = (type_passes g.types T ≡ true → FitsSchema defs T child) × FitsSchema defs T rest
