-- The order of facts: by id and then by key, and of pages: by parent, handle key and field key.
use Rattle.std.specs.Prelude.{◌≡◌, ℕ, List}
use Rattle.std.specs.Cmp.Lexicographic.{slice_cmp}
use Rattle.std.specs.List.{AllByRecursion}
use Rattle.std.specs.List.Sorted.{IsStrictlySortedBy}
use Rattle.std.specs.Ordering.{nat_cmp, ordering_then}
use Rattle.std.specs.declared.cmp.Ordering.{Ordering}
use Rattle.std.specs.declared.cmp.Ordering.TheVariants.{Less}
use Rattle.store_model.specs.declared.facts.Fact.{Fact}
use Rattle.store_model.specs.declared.facts.HandleFact.{HandleFact}

abbrev pub text_cmp : List ℕ → List ℕ → Ordering
text_cmp = slice_cmp nat_cmp

abbrev pub fact_cmp : Fact → Fact → Ordering
fact_cmp a b = ordering_then (text_cmp a.id b.id) (text_cmp a.key b.key)

abbrev pub handle_cmp : HandleFact → HandleFact → Ordering
handle_cmp a b = ordering_then (text_cmp a.parent b.parent) (ordering_then (text_cmp a.handle_key b.handle_key) (text_cmp a.field_key b.field_key))

abbrev pub AreHandlesInOrder : List HandleFact → Type 0
AreHandlesInOrder handles = IsStrictlySortedBy handle_cmp handles

-- the page stands after each of the list
abbrev pub IsHandleAfter : HandleFact → List HandleFact → Type 0
IsHandleAfter handle handles = AllByRecursion (λ before. handle_cmp before handle ≡ Less) handles
