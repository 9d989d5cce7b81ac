-- What the fragments of names lead to.
use Rattle.std.specs.Prelude.{List, [], ◌∷◌, Option, Some, None}
use Rattle.doc_sites.specs.schema_types.FieldRules.{spreads_below}
use Rattle.doc_sites.specs.schema_types.NameRules.{fragment_named}
use Rattle.doc_sites.specs.schema_types.Sites.{FragmentAt}
use Rattle.doc_sites.specs.schema_tables.Types.{Text, Defs}

abbrev pub next_or_none : (FragmentAt → List Text) → Option FragmentAt → List Text
next_or_none next None = []
next_or_none next (Some f) = next f

-- what the fragment of a name leads to
abbrev pub next_by_name : (FragmentAt → List Text) → List FragmentAt → Text → List Text
next_by_name next fs n = next_or_none next (fragment_named fs n)

-- a fragment with what it leads to
abbrev pub leading : (FragmentAt → List Text) → FragmentAt → List (Text × List Text)
leading next f = (f.name.name, next f) ∷ []

-- its type condition
abbrev pub condition_in : FragmentAt → List Text
condition_in f = f.on.name ∷ []

abbrev pub conditions_of : List FragmentAt → Text → List Text
conditions_of fs n = next_by_name condition_in fs n

-- the fragments that it spreads at the root
abbrev pub spreads_in : Defs → (root : Text) → FragmentAt → List Text
spreads_in defs root f = spreads_below defs root (Some f)

abbrev pub spreads_of : Defs → (root : Text) → List FragmentAt → Text → List Text
spreads_of defs root fs n = next_by_name (spreads_in defs root) fs n
