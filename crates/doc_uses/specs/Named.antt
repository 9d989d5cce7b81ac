-- Variables that are found by their names.
use Rattle.std.specs.Prelude.{◌≡◌, List, option_map}
use Rattle.std.specs.BTreeMap.{get_by}
use Rattle.std.specs.Cmp.Lexicographic.{slice_cmp}
use Rattle.std.specs.Ordering.{nat_cmp}
use Rattle.doc_sites.specs.schema_types.ArgumentRules.{variable_named}
use Rattle.doc_sites.specs.schema_types.Sites as spec
use Rattle.doc_sites.specs.gql_graph.Texts.{Text}
use Rattle.doc_sites.specs.SitesView.{variable_of}
use Rattle.doc_uses.specs.declared.variables.Variables.{Variables}

-- the table finds these
abbrev pub NamesVariables : Variables → List spec.VariableAt → Type 0
NamesVariables table vs = (n : Text) → option_map (λ v. variable_of v.now) (get_by (λ k. slice_cmp nat_cmp n k.now) table.by_name) ≡ variable_named vs n
