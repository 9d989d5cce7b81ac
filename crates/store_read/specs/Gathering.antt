-- What is gathered of plans: fields by their response keys, and the first spread of each fragment.
use Rattle.std.specs.Prelude.{◌≡◌, List, map, is_some, bytes_eq}
use Rattle.std.specs.BTreeMap as tree
use Rattle.std.specs.HashMap as hash
use Rattle.std.specs.List.{All}
use Rattle.std.specs.Cmp.Lexicographic.{slice_cmp}
use Rattle.std.specs.Ordering.{nat_cmp}
use Rattle.plan_ir.specs.gql_plain.Order.{has_text}
use Rattle.plan_groups.specs.Putting.{place_of}
use Rattle.plan_ir.specs.ReaderMeaning.{ReaderPart}
use Rattle.plan_ir.specs.schema_tables.Types.{Text}
use Rattle.plan_ir.specs.store_model.Items.{Group, Pointer}
use Rattle.store_read.specs.FieldView.{asked_at, spread_at, IsKept}
use Rattle.store_read.specs.Spreads.{fragments}
use Rattle.store_read.specs.declared.gathered.Fields.{Fields}
use Rattle.store_read.specs.declared.gathered.Gathered.{Gathered}

abbrev pub group_of : Fields → Group ReaderPart
group_of g = record { first = asked_at g.first; others = map asked_at g.others.items }

abbrev pub groups_in : Gathered → List (Group ReaderPart)
groups_in g = map group_of g.groups.items

abbrev pub spreads_in : Gathered → List (Pointer ReaderPart)
spreads_in g = map spread_at g.spreads.items

-- the key that is kept with the first field of each group is the one that it is stored under
abbrev pub AreKept : List Fields → Type 0
AreKept gs = All (λ g. IsKept g.first) gs

-- each response key has the place of its group, each fragment of a spread is known, and keys are kept
pub record IsPlaced (g : Gathered) : Type 0 where
  pub keys : (n : Text) → hash.get_by (λ k. bytes_eq n k.now) g.places ≡ place_of (groups_in g) n
  pub names : (n : Text) → is_some (tree.get_by (λ k. slice_cmp nat_cmp n k.now) g.fragments) ≡ has_text (fragments (spreads_in g)) n
  pub kept : AreKept g.groups.items
