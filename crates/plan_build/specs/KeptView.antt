-- What is kept of a schema while a plan is built.
use Rattle.std.specs.BTreeMap.{get_by}
use Rattle.std.specs.Cmp.Lexicographic.{slice_cmp}
use Rattle.std.specs.Ordering.{nat_cmp}
use Rattle.std.specs.Prelude.{◌≡◌, List, Option, Some}
use Rattle.plan_ir.specs.schema_tables.Types.{Text, Defs}
use Rattle.plan_build.specs.KnownView.{IsKnown}
use Rattle.plan_build.specs.Steps.{identified}
use Rattle.plan_build.specs.declared.kept.Kept.{Kept}
use Rattle.plan_build.specs.declared.known.Known.{Known}

abbrev pub find : Kept → Text → Option (List Text)
find kept n = get_by (λ k. slice_cmp nat_cmp n k.now) kept.by_type

abbrev pub find_known : Kept → Text → Option Known
find_known kept n = get_by (λ k. slice_cmp nat_cmp n k.now) kept.known

-- what is kept is right
pub record IsRight (defs : Defs) (kept : Kept) : Type 0 where
  pub ids_right : (n : Text) (ids : List Text) → find kept n ≡ Some ids → ids ≡ identified defs n
  pub known_right : (n : Text) (known : Known) → find_known kept n ≡ Some known → IsKnown defs n known
