-- Where a field is put among groups.
use Rattle.std.specs.Prelude.{ℕ, zero, suc, List, [], ◌∷◌, ◌++◌, Option, bytes_eq}
use Rattle.plan_ir.specs.schema_tables.Places.{first_at}
use Rattle.plan_ir.specs.store_model.Items.{Asked, Group}
use Rattle.plan_ir.specs.store_record.Keys.{Text}

-- the place of the group of a response key
abbrev pub place_of : {F : Type 0} → List (Group F) → Text → Option ℕ
place_of groups n = first_at (λ g. bytes_eq g.first.ask.response n) groups

abbrev pub with_other : {F : Type 0} → Group F → Asked F → Group F
with_other g a = record { first = g.first; others = g.others ++ a ∷ [] }

-- the groups with a field at the end of the group at a place
abbrev pub put_at : {F : Type 0} → ℕ → List (Group F) → Asked F → List (Group F)
put_at i [] a = []
put_at zero (g ∷ groups) a = with_other g a ∷ groups
put_at (suc i) (g ∷ groups) a = g ∷ put_at i groups a
