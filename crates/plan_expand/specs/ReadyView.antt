-- The fragments that stand ready in the code.
use Rattle.std.specs.BTreeMap.{get_by}
use Rattle.std.specs.Cmp.Lexicographic.{slice_cmp}
use Rattle.std.specs.Ordering.{nat_cmp}
use Rattle.std.specs.Prelude.{◌≡◌, ℕ, cond, List, Option, Some, None, option_map, bytes_eq}
use Rattle.plan_ir.specs.gql_ast.declared.place.FilePlace.{FilePlace}
use Rattle.plan_ir.specs.relay_marks.Locals.{locals_of}
use Rattle.plan_ir.specs.Substitution.{default_named}
use Rattle.plan_ir.specs.schema_tables.Types.{Text}
use Rattle.plan_ir.specs.schema_types.NameRules.{fragment_named}
use Rattle.plan_ir.specs.schema_types.Sites.{FragmentAt, DefinitionAt, operation, fragment}
use Rattle.plan_expand.specs.Places.{site_places_in}
use Rattle.plan_expand.specs.LocalsView.{find_default}
use Rattle.plan_expand.specs.Making.{Ready, Find}
use Rattle.plan_expand.specs.declared.fragments.ReadyFragment.{ReadyFragment}
use Rattle.plan_expand.specs.declared.fragments.Fragments.{Fragments}

abbrev pub ready_of : ReadyFragment → Ready
ready_of f = record { on = f.on.now; selections = f.selections.now; locals = find_default f.locals; places = f.places.items }

abbrev pub find_in : Fragments → Find
find_in fragments n = option_map ready_of (get_by (λ k. slice_cmp nat_cmp n k.now) fragments.by_name)

abbrev pub ready_named : Text → Ready → Text → Option Ready
ready_named m r n = cond (bytes_eq m n) (Some r) None

-- what stands ready of a fragment
abbrev pub ready_fragment : (place : ℕ → FilePlace) → FragmentAt → Ready
ready_fragment place f = record { on = f.on.name; selections = f.selections; locals = default_named (locals_of f.directives); places = site_places_in place f.sites }

-- the same of a definition, under its name
abbrev pub ready_in : (place : ℕ → FilePlace) → DefinitionAt → Text → Option Ready
ready_in place (operation o) n = None
ready_in place (fragment f) n = ready_named f.name.name (ready_fragment place f) n

-- these fragments are found by their names, and no others
abbrev pub HasFragments : (ℕ → FilePlace) → Find → List FragmentAt → Type 0
HasFragments place find fs = (n : Text) → find n ≡ option_map (ready_fragment place) (fragment_named fs n)
