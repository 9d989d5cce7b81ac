-- Local variables that are found by their names, and fragments by theirs.
use Rattle.std.specs.Prelude.{◌≡◌, cond, List, [], ◌∷◌, map, Option, Some, None, option_map, bytes_eq}
use Rattle.std.specs.BTreeMap.{get_by}
use Rattle.std.specs.Cmp.Lexicographic.{slice_cmp}
use Rattle.std.specs.Ordering.{nat_cmp}
use Rattle.constant_values.specs.gql_graph.Rules.{each}
use Rattle.constant_values.specs.gql_graph.Texts.{Text}
use Rattle.constant_values.specs.schema_types.Sites.{FragmentAt, DefinitionAt, operation, fragment}
use Rattle.relay_marks.specs.Locals.{Local, local_named, locals_of}
use Rattle.relay_rules.specs.Spreads.{locals_named, must_be_given}
use Rattle.relay_marks.specs.View.{local_view}
use Rattle.relay_dirs.specs.declared.fragments.FragmentLocals.{FragmentLocals}
use Rattle.relay_dirs.specs.declared.fragments.Fragments.{Fragments}
use Rattle.relay_dirs.specs.declared.fragments.Locals.{Locals}

-- the table finds these
abbrev pub NamesLocals : Locals → List Local → Type 0
NamesLocals table ls = (n : Text) → option_map (λ v. local_view v.now) (get_by (λ k. slice_cmp nat_cmp n k.now) table.by_name) ≡ local_named ls n

-- the name of a local variable that must be given
abbrev pub required_name : Local → List Text
required_name l = cond (must_be_given l) (l.name ∷ []) []

-- the table finds these, and lists those that must be given
pub record Serves (table : Locals) (ls : List Local) : Type 0 where
  pub names : NamesLocals table ls
  pub required : map (λ n. n.now) table.required.items ≡ each required_name ls

-- a fragment's name and its local variables
abbrev pub pair_of : FragmentLocals → Text × List Local
pair_of f = (f.name.now, map local_view f.locals)

-- a definition, where it is a fragment
abbrev pub fragment_locals : DefinitionAt → List (Text × List Local)
fragment_locals (operation o) = []
fragment_locals (fragment f) = (f.name.name, locals_of f.directives) ∷ []

-- of several fragments of one name the first counts
abbrev pub locals_among : List (Text × List Local) → Text → List Local
locals_among [] n = []
locals_among (p ∷ ps) n = cond (bytes_eq p.0 n) p.1 (locals_among ps n)

-- the table of a fragment, where there is one
abbrev pub Finds : Option Locals → List Local → Type 0
Finds None ls = ls ≡ []
Finds (Some table) ls = Serves table ls

abbrev pub table_found : Fragments → Text → Option Locals
table_found fragments n = get_by (λ k. slice_cmp nat_cmp n k.now) fragments.by_name

-- the table finds the local variables of these fragments
abbrev pub NamesFragments : Fragments → List (Text × List Local) → Type 0
NamesFragments fragments pairs = (n : Text) → Finds (table_found fragments n) (locals_among pairs n)

-- the same of fragments as they stand in documents
abbrev pub Suits : Fragments → List FragmentAt → Type 0
Suits fragments fs = (n : Text) → Finds (table_found fragments n) (locals_named fs n)
