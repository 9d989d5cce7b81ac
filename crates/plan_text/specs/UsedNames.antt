-- Names that are kept in a set.
use Rattle.std.specs.Prelude.{ℕ, Bool, List}
use Rattle.std.specs.BTreeSet.{BTreeSet, contains_by}
use Rattle.std.specs.Cmp.Lexicographic.{slice_cmp}
use Rattle.std.specs.Ordering.{nat_cmp}
use Rattle.plan_ir.specs.schema_tables.Types.{Text}
use denote.Ref.{Bor}

-- whether the set has the name
abbrev pub has_name : BTreeSet (Bor (List ℕ)) → Text → Bool
has_name set n = contains_by (λ k. slice_cmp nat_cmp n k.now) set
