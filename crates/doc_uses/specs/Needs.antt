-- What fragments need of the operations that reach them.
use Rattle.std.specs.Prelude.{◌≡◌, ℕ, ◌<◌, true, List, [], map, length, get_or, Option, Some, None, option_map}
use Rattle.std.specs.BTreeMap.{get_by}
use Rattle.std.specs.Cmp.Lexicographic.{slice_cmp}
use Rattle.std.specs.Ordering.{nat_cmp}
use Rattle.doc_sites.specs.gql_plain.Order.{has_text}
use Rattle.doc_sites.specs.schema_types.ArgumentRules.{Use, use_wrong}
use Rattle.doc_sites.specs.gql_graph.Leasts.{least_from}
use Rattle.doc_sites.specs.gql_graph.Rules.{each}
use Rattle.doc_sites.specs.schema_types.Sites.{VariableAt}
use Rattle.doc_sites.specs.gql_graph.Texts.{Text}
use Rattle.doc_uses.specs.UseView.{use_of}
use Rattle.doc_uses.specs.declared.needs.Needs.{Needs}
use Rattle.doc_uses.specs.declared.uses.Use as code

-- what is known that a name needs
abbrev pub uses_needed : Needs → Text → Option (List Use)
uses_needed needs n = option_map (λ us. map use_of us.items) (get_by (λ k. slice_cmp nat_cmp n k.now) needs.by_name)

-- with such variables, nothing is wrong with these uses before the place that is noted
abbrev pub AreHarmless : List VariableAt → (before : Option ℕ) → List Use → Type 0
AreHarmless vs before us = least_from before (each (use_wrong vs []) us) ≡ before

-- whatever the variables are and the place: where the first are harmless, the others are
abbrev pub Covers : List Use → List Use → Type 0
Covers all us = (vs : List VariableAt) → (before : Option ℕ) → AreHarmless vs before all → AreHarmless vs before us

-- what is known to be needed of a name, and is covered
abbrev pub CoversKnown : List Use → Option (List Use) → Type 0
CoversKnown all None = ⊥
CoversKnown all (Some us) = Covers all us

-- what is needed of a name is known, and is harmless
abbrev pub IsKnownHarmless : List VariableAt → (before : Option ℕ) → Option (List Use) → Type 0
IsKnownHarmless vs before None = ⊥
IsKnownHarmless vs before (Some us) = AreHarmless vs before us

-- what is needed of a name covers the uses in it, and what is needed of each name that it leads to
abbrev pub Sums : Needs → (uses : List Use) → List Text → Option (List Use) → Type 0
Sums needs uses names None = Unit {0}
Sums needs uses names (Some all) = Covers all uses × ((m : Text) → has_text names m ≡ true → CoversKnown all (uses_needed needs m))

abbrev pub SumsUp : Needs → (next : Text → List Text) → (uses : Text → List Use) → Type 0
SumsUp needs next uses = (n : Text) → Sums needs (uses n) (next n) (uses_needed needs n)

-- two uses are the same but for their places
pub record IsSameNeed (u w : Use) : Type 0 where
  pub names : u.name.name ≡ w.name.name
  pub places : u.place ≡ w.place

-- at a place in a list there is such a use
pub record HasNeed (us : List code.Use) (one : code.Use) (at : ℕ) : Type 0 where
  pub within : at < length us
  pub same : IsSameNeed (use_of (get_or us at one)) (use_of one)
