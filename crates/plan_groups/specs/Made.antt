-- What is kept beside the fields of a group.
use Rattle.std.specs.Prelude.{◌≡◌, ◌⊎◌, List, [], ◌∷◌, ◌++◌, Option, Some, None}
use Rattle.plan_ir.specs.gql_plain.Order.{sorted_texts, with_text}
use Rattle.plan_ir.specs.NormalMeaning.{Plan}
use Rattle.plan_ir.specs.store_model.Items.{Group, asks, key_of, parts}
use Rattle.plan_ir.specs.store_model.Says.{handles}
use Rattle.plan_ir.specs.store_record.Keys.{Text}

-- what stands below the fields, where there are several, and else nothing
abbrev pub AreKept : Group Plan → List Plan → Type 0
AreKept g ps = ((g.others ≡ []) × (ps ≡ [])) ⊎ (ps ≡ parts g)

-- with what stands below one more field; what stands below the first one comes before it where nothing is kept
abbrev pub with_part : List Plan → Plan → Plan → List Plan
with_part [] first part = first ∷ part ∷ []
with_part (p ∷ ps) first part = p ∷ ps ++ part ∷ []

-- with the key of a connection, where there is one
abbrev pub with_handle : Option Text → List Text → List Text
with_handle None keys = keys
with_handle (Some key) keys = with_text key keys

-- what stands below the fields, the first field's key, and the keys of the connections
pub record IsMade (g : Group Plan) (ps : List Plan) (key : Text) (keys : List Text) : Type 0 where
  pub below : AreKept g ps
  pub stored : key ≡ key_of g.first.ask
  pub linked : keys ≡ sorted_texts (handles (asks g))
