-- Types that leave out no interface that one of their own implements.
use Rattle.std.specs.Prelude.{◌≡◌, ℕ, Bool, false, List}
use Rattle.std.specs.BTreeSet.{BTreeSet}
use Rattle.std.specs.List.{list_any}
use Rattle.gql_graph.specs.Seen.{Knows}
use Rattle.schema_rules.specs.Rules.{leaves_out}
use Rattle.schema_trees.specs.schema_tables.Types.{Text, Defs, interfaces_named, type_named}
use denote.Ref.{Bor}

-- whether a type leaves out an interface that one of its own implements
abbrev pub is_open : Defs → Text → Bool
is_open defs n = list_any (leaves_out defs (interfaces_named (type_named defs n))) (interfaces_named (type_named defs n))

-- the set has names of which none is such
abbrev pub HasNone : BTreeSet (Bor (List ℕ)) → (Text → Bool) → Type 0
HasNone set such = (names : List Text) × Knows set names × (list_any such names ≡ false)
