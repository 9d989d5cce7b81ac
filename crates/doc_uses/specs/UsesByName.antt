-- The variables that are used in fragments, by the names of the fragments.
use Rattle.std.specs.Prelude.{◌≡◌, List, [], cond, map, Option, option_map, unwrap_or, bytes_eq}
use Rattle.std.specs.BTreeMap.{get_by}
use Rattle.std.specs.Cmp.Lexicographic.{slice_cmp}
use Rattle.std.specs.Ordering.{nat_cmp}
use Rattle.doc_sites.specs.schema_types.ArgumentRules.{Use}
use Rattle.doc_sites.specs.gql_graph.Rules.{each}
use Rattle.doc_sites.specs.gql_graph.Texts.{Text}
use Rattle.doc_sites.specs.schema_types.Sites.{FragmentAt, DefinitionAt, operation, fragment}
use Rattle.doc_uses.specs.Parts.{part_for}
use Rattle.doc_uses.specs.UseView.{use_of}
use Rattle.doc_uses.specs.declared.uses_by_name.UsesByName.{UsesByName}

abbrev pub named_uses : Text × List Use → Text → List Use
named_uses p n = cond (bytes_eq p.0 n) p.1 []

abbrev pub uses_named : List (Text × List Use) → Text → List Use
uses_named ps n = each (λ (p : Text × List Use). named_uses p n) ps

-- the uses that are found under a name
abbrev pub uses_found : UsesByName → Text → Option (List Use)
uses_found gathered n = option_map (λ us. map use_of us.items) (get_by (λ k. slice_cmp nat_cmp n k.now) gathered.by_name)

-- of each name these are gathered
abbrev pub Gathers : UsesByName → (Text → List Use) → Type 0
Gathers gathered tells = (n : Text) → unwrap_or (uses_found gathered n) [] ≡ tells n

-- the uses in the fragments of a name, without the local variables of each
abbrev pub uses_among : (uses : FragmentAt → List Use) → List FragmentAt → Text → List Use
uses_among uses fs n = uses_named (map (part_for uses) fs) n

-- the uses in a definition, where it is a fragment of a name
abbrev pub named_in : (uses : FragmentAt → List Use) → DefinitionAt → Text → List Use
named_in uses (operation o) n = []
named_in uses (fragment f) n = named_uses (part_for uses f) n
