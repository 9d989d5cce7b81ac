-- Groups by their response keys.
use Rattle.std.specs.Prelude.{◌≡◌, List, bytes_eq}
use Rattle.std.specs.HashMap.{get_by}
use Rattle.plan_ir.specs.NormalMeaning.{Plan}
use Rattle.plan_groups.specs.Putting.{place_of}
use Rattle.plan_groups.specs.declared.gathered.Gathered.{Gathered}
use Rattle.plan_ir.specs.schema_tables.Types.{Text}
use Rattle.plan_ir.specs.store_model.Items.{Group}

abbrev pub groups_in : Gathered → List (Group Plan)
groups_in g = g.groups.items

-- each response key has the place of its group
pub record IsPlaced (g : Gathered) : Type 0 where
  pub at : (n : Text) → get_by (λ k. bytes_eq n k.now) g.places ≡ place_of (groups_in g) n
