-- What is written of values and members, and the walk of plans by which it is.
use Rattle.std.specs.Prelude.{ℕ, Bool, true, false, codes, List, [], ◌∷◌, ◌++◌, Option, Some, None}
use Rattle.plan_ir.specs.gql_plain.ToJson.{tree_tokens}
use Rattle.plan_ir.specs.gql_plain.Tree.{Tree}
use Rattle.json.specs.Token as token
use Rattle.json.specs.Token.{Token}
use Rattle.plan_ir.specs.Reader.{Reader}
use Rattle.plan_ir.specs.ReaderMeaning.{ReaderPart, collect_reading}
use Rattle.plan_order.specs.Walk.{Span, fields_around, fields_met, fields_shown, first_part, object_in_order, ordered_at, pointers_met, pointers_shown}
use Rattle.plan_ir.specs.schema_types.Environments.{Values}
use Rattle.plan_ir.specs.store_model.Items.{Item, asked, pointed}
use Rattle.plan_ir.specs.store_model.Walks.{Fields, Found, Next, Shown, Trace, field_of, type_of_record}
use Rattle.store_read.specs.Reading.{slots}
use Rattle.store_show.specs.declared.lead.Lead.{Lead}
use Rattle.store_show.specs.declared.lead.Lead.TheVariants.{Member, Alone}
use Rattle.store_show.specs.declared.row_at.RowAt.{RowAt}
use Rattle.plan_ir.specs.store_record.Keys.{Text}
use Rattle.plan_ir.specs.store_record.declared.record.Slot.TheVariants.{Alive}
use Rattle.store_read.specs.store_source.Records.{Records}

-- the members of an object, without its brackets
abbrev pub pairs_tokens : List (Text × Tree) → List Token
pairs_tokens [] = []
pairs_tokens (m ∷ ms) = token.key m.0 ∷ (tree_tokens m.1 ++ pairs_tokens ms)

-- the elements of a list, without its brackets
abbrev pub elements_tokens : List Tree → List Token
elements_tokens [] = []
elements_tokens (t ∷ ts) = tree_tokens t ++ elements_tokens ts

-- what stands before a value
abbrev pub lead_of : Lead → List Token
lead_of (Member key) = token.key key.now ∷ []
lead_of Alone = []

-- a value where it is led to; a missing one is left out with its key, or is null
abbrev pub led : Lead → Option Tree → List Token
led lead (Some t) = lead_of lead ++ tree_tokens t
led (Member key) None = []
led Alone None = token.null ∷ []

-- how a plan is walked, at most n records one below another
abbrev pub walks : Records → (root owner : Text) → Values → ℕ → List Text → Reader → Text → Found
walks m root owner env n types steps id = ordered_at (type_of_record root) owner (slots m) env n types steps id

-- and how the plans below are
abbrev pub below : Records → (root owner : Text) → ℕ → Next ReaderPart
below m root owner n = first_part (λ values types steps id. walks m root owner values n types steps id)

-- ---- what is written of a record

-- how what stands below a field or a pointer of the record is read
abbrev pub next_at : Records → (root owner : Text) → RowAt → Next ReaderPart
next_at m root owner at = below m root owner at.levels

abbrev pub fields_of : RowAt → Fields
fields_of at = field_of (Some (Alive at.row.now))

abbrev pub items_at : RowAt → Reader → List (Item ReaderPart)
items_at at steps = collect_reading at.env.now.values at.name.now steps

-- the members that the fields of steps show, and what they meet
abbrev pub members_at : Records → (root owner : Text) → RowAt → Span → Reader → List (Text × Tree)
members_at m root owner at span steps = fields_shown span (next_at m root owner at) at.name.now (fields_of at) (items_at at steps)

abbrev pub members_met_at : Records → (root owner : Text) → RowAt → Span → Reader → Trace
members_met_at m root owner at span steps = fields_met span (next_at m root owner at) at.name.now (fields_of at) (items_at at steps)

-- the pointers of steps, and what they meet
abbrev pub pointers_at : Records → (root owner : Text) → RowAt → Reader → List (Text × Tree)
pointers_at m root owner at steps = pointers_shown (next_at m root owner at) at.name.now at.id.now (items_at at steps)

abbrev pub pointers_met_at : Records → (root owner : Text) → RowAt → Reader → Trace
pointers_met_at m root owner at steps = pointers_met (next_at m root owner at) at.name.now at.id.now (items_at at steps)

-- all of the record
abbrev pub object_shown_at : Records → (root owner : Text) → RowAt → Reader → Shown × Trace
object_shown_at m root owner at steps = object_in_order owner (next_at m root owner at) at.name.now at.env.now.values steps at.id.now (fields_of at)

-- the fields around the pointers
abbrev pub around_at : Records → (root owner : Text) → RowAt → Reader → Shown × Trace
around_at m root owner at steps = fields_around owner (next_at m root owner at) at.name.now at.id.now (fields_of at) (items_at at steps)

-- the members that tell the id of a record with pointers, and its owner
abbrev pub identity : (owner id : Text) → List Token
identity owner id = token.key (codes "__id") ∷ token.string id ∷ token.key (codes "__owner") ∷ token.string owner ∷ []

-- whether there is a pointer among items
abbrev pub has_pointed : List (Item ReaderPart) → Bool
has_pointed [] = false
has_pointed (asked a ∷ items) = has_pointed items
has_pointed (pointed p ∷ items) = true
