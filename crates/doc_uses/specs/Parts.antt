-- Fragments with the variables that are used in them, whichever uses of them are looked at.
use Rattle.std.specs.Prelude.{ℕ, Bool, cond, List, [], ◌∷◌, length}
use Rattle.doc_sites.specs.gql_plain.Order.{has_text}
use Rattle.doc_sites.specs.schema_types.ArgumentRules.{Use, local_names, use_wrong}
use Rattle.doc_sites.specs.schema_types.NameRules.{names_of_all, spread_by, spreads_in}
use Rattle.doc_sites.specs.gql_graph.Reached.{any_leads}
use Rattle.doc_sites.specs.gql_graph.Rules.{each}
use Rattle.doc_sites.specs.gql_graph.Texts.{Text}
use Rattle.doc_sites.specs.schema_types.Sites.{FragmentAt, OperationAt, VariableAt, DefinitionAt, operation, fragment}

-- the uses of variables that are no local ones
abbrev pub free_use : (locals : List Text) → Use → List Use
free_use locals u = cond (has_text locals u.name.name) [] (u ∷ [])

abbrev pub free_uses : (locals : List Text) → List Use → List Use
free_uses locals us = each (free_use locals) us

-- the name of a fragment, and those of these uses that are of no local variables of it
abbrev pub free_part : FragmentAt → List Use → Text × List Use
free_part f us = (f.name.name, free_uses (local_names f) us)

abbrev pub part_for : (uses : FragmentAt → List Use) → FragmentAt → Text × List Use
part_for uses f = free_part f (uses f)

-- the uses that are wrong, where the fragment is one of those that are looked at
abbrev pub part_wrong : List VariableAt → (is_one : Text → Bool) → Text × List Use → List ℕ
part_wrong vs is_one p = cond (is_one p.0) (each (use_wrong vs []) p.1) []

-- the uses that are wrong in a fragment, where the operation reaches it
abbrev pub uses_wrong_in : (uses : FragmentAt → List Use) → List FragmentAt → OperationAt → FragmentAt → List ℕ
uses_wrong_in uses fs o f =
    cond (any_leads (spread_by fs) (length fs) (names_of_all (spreads_in o.sites)) f.name.name)
    (each (use_wrong o.variables (local_names f)) (uses f)) []

abbrev pub fragment_name : DefinitionAt → List Text
fragment_name (operation o) = []
fragment_name (fragment f) = f.name.name ∷ []
