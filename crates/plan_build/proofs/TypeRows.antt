-- Worked rows of what the steps of a plan say of types and of connections, computed from the definitions.
use Rattle.std.proofs.Common.{◌≡◌, Bool, true, false, refl, List, [], ◌∷◌, Some, None, codes}
use Rattle.plan_ir.specs.Normal as n
use Rattle.plan_ir.specs.Normal.{Normal}
use Rattle.plan_ir.specs.schema_tables.Types.{Text}
use Rattle.plan_build.specs.NormalTypes.{has_pages, is_typed}

-- ---- types

abbrev item : (types : List Text) → (open_type : Bool) → Normal
item ts o = n.object (codes "item") (codes "item") [] false ts [] o None n.done n.done

pub one_type_is_typed : is_typed (item (codes "A" ∷ []) false) ≡ true
one_type_is_typed = refl

pub open_types_are_typed : is_typed (item (codes "A" ∷ codes "B" ∷ []) true) ≡ true
open_types_are_typed = refl

pub two_types_are_open : is_typed (item (codes "A" ∷ codes "B" ∷ []) false) ≡ false
two_types_are_open = refl

pub no_type_is_open : is_typed (item [] false) ≡ false
no_type_is_open = refl

pub types_are_names : is_typed (item (codes "1" ∷ []) false) ≡ false
types_are_names = refl

pub tests_are_of_names : is_typed (n.guarded (record { types = Some (codes "1" ∷ []); conditions = [] }) n.done n.done) ≡ false
tests_are_of_names = refl

-- also below steps and behind guards
pub inner_steps_count : is_typed (n.guarded (record { types = None; conditions = [] }) (n.object (codes "item") (codes "item") [] false (codes "A" ∷ []) [] false None (item [] false) n.done) n.done) ≡ false
inner_steps_count = refl

-- ---- connections

abbrev friends : (open_type : Bool) → (child : Normal) → Normal
friends o child = n.object (codes "friends") (codes "friends") [] false (codes "Friends" ∷ []) [] o (Some (record { key = codes "K_friends"; filters = None })) child n.done

-- `pageInfo{endCursor}`
abbrev page : (open_type : Bool) → Normal
page o = n.object (codes "pageInfo") (codes "pageInfo") [] false (codes "PageInfo" ∷ []) [] o None (n.leaf (codes "endCursor") (codes "endCursor") [] n.done) n.done

pub connection_has_its_page : has_pages (friends false (n.typename (codes "__typename") (page false))) ≡ true
connection_has_its_page = refl

pub connection_is_not_open : has_pages (friends true (page false)) ≡ false
connection_is_not_open = refl

pub page_is_not_open : has_pages (friends false (page true)) ≡ false
page_is_not_open = refl

pub page_is_not_forgotten : has_pages (friends false (n.leaf (codes "pageInfo") (codes "pageInfo") [] n.done)) ≡ false
page_is_not_forgotten = refl

pub page_is_behind_no_guard : has_pages (friends false (n.guarded (record { types = None; conditions = [] }) (page false) n.done)) ≡ false
page_is_behind_no_guard = refl

-- another field needs none
pub other_fields_need_none : has_pages (item (codes "A" ∷ []) false) ≡ true
other_fields_need_none = refl

pub inner_connections_count : has_pages (n.object (codes "item") (codes "item") [] false (codes "A" ∷ []) [] false None (friends false n.done) n.done) ≡ false
inner_connections_count = refl
