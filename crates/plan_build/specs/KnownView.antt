-- What was found out about the object types that a type may be.
use Rattle.std.specs.BTreeMap.{get_by}
use Rattle.std.specs.Cmp.Lexicographic.{slice_cmp}
use Rattle.std.specs.Ordering.{nat_cmp}
use Rattle.std.specs.Prelude.{◌≡◌, Bool, Option, Some, option_map}
use Rattle.plan_build.specs.Classes.{Target, one_target}
use Rattle.plan_build.specs.ClassView.{target_view}
use Rattle.plan_build.specs.Steps.{are_within}
use Rattle.plan_build.specs.declared.known.Known.{Known}
use Rattle.plan_ir.specs.schema_tables.Types.{Text, Defs, possible}

abbrev pub find_within : Known → (on : Text) → Option Bool
find_within known o = get_by (λ k. slice_cmp nat_cmp o k.now) known.within

abbrev pub find_target : Known → (name : Text) → Option Target
find_target known n = option_map target_view (get_by (λ k. slice_cmp nat_cmp n k.now) known.targets)

-- what is known of the object types that this type may be is right
pub record IsKnown (defs : Defs) (of : Text) (known : Known) : Type 0 where
  pub withins : (o : Text) (b : Bool) → find_within known o ≡ Some b → b ≡ are_within (possible defs o) (possible defs of)
  pub targets : (n : Text) (t : Target) → find_target known n ≡ Some t → one_target defs n (possible defs of) ≡ Some t
