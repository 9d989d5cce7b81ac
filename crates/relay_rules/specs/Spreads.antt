-- What spreads give to the local variables of their fragments by `@arguments`, after Relay.
use Rattle.std.specs.Prelude.{ℕ, Bool, true, false, not, ◌&&◌, ◌||◌, cond, List, [], ◌++◌, map, codes, Option, Some, None, is_some, bytes_eq}
use Rattle.std.specs.List.{list_all}
use Rattle.doc_uses.specs.gql_ast.Ty.{Ty}
use Rattle.doc_uses.specs.gql_ast.Value.{Val}
use Rattle.doc_uses.specs.schema_types.ArgumentRules.{Place, Use, is_given, is_null, use_wrong, uses_in}
use Rattle.doc_uses.specs.schema_tables.Fits.{is_non_null, literal_fits, nullable, types_agree}
use Rattle.doc_uses.specs.schema_trees.Located.{Located}
use Rattle.doc_uses.specs.schema_types.NameRules.{operations, fragments, fragment_named, sites_of}
use Rattle.relay_marks.specs.gql_graph.Rules.{each, wrong}
use Rattle.doc_uses.specs.schema_types.Sites.{ArgumentAt, DirectiveAt, Site, field, spread, inline, OperationAt, FragmentAt, DefinitionAt}
use Rattle.doc_uses.specs.schema_tables.Types.{Text, Defs}
use Rattle.doc_uses.specs.Parts.{uses_wrong_in}
use Rattle.relay_marks.specs.Locals.{Local, locals_of, local_named}

-- ---- what is given at a spread

abbrev pub arguments_by : DirectiveAt → List ArgumentAt
arguments_by d = cond (bytes_eq d.name.name (codes "arguments")) d.arguments []

abbrev pub spread_arguments : List DirectiveAt → List ArgumentAt
spread_arguments ds = each arguments_by ds

abbrev pub locals_of_found : Option FragmentAt → List Local
locals_of_found None = []
locals_of_found (Some f) = locals_of f.directives

-- the local variables of the fragment of a name
abbrev pub locals_named : List FragmentAt → Text → List Local
locals_named fs n = locals_of_found (fragment_named fs n)

-- the value fits the local variable's type
abbrev pub fits_found : Defs → Option Local → Val → Bool
fits_found defs None v = false
fits_found defs (Some l) v = literal_fits defs v l.of

-- an argument names a local variable, and its value fits
abbrev pub fits_local : Defs → List Local → ArgumentAt → Bool
fits_local defs ls x = fits_found defs (local_named ls x.name.name) x.value.of

-- a local variable of a non-null type without default has to be given, and not as `null`
abbrev pub must_be_given : Local → Bool
must_be_given l = is_non_null l.of && not (is_some l.default)

abbrev pub is_served : List ArgumentAt → Local → Bool
is_served xs l = not (must_be_given l) || is_given xs l.name

abbrev pub are_given_well : Defs → List Local → List ArgumentAt → Bool
are_given_well defs ls xs = list_all (fits_local defs ls) xs && list_all (is_served xs) ls

-- the spread of a name with its directives
abbrev pub spread_wrong : Defs → List FragmentAt → Located → List DirectiveAt → List ℕ
spread_wrong defs fs n ds = wrong (not (are_given_well defs (locals_named fs n.name) (spread_arguments ds))) n.at

abbrev pub given_wrong_at : Defs → List FragmentAt → Site → List ℕ
given_wrong_at defs fs (field around al n xs ds has_set) = []
given_wrong_at defs fs (spread around n ds) = spread_wrong defs fs n ds
given_wrong_at defs fs (inline around first on ds) = []

-- ---- the variables in what is given, each with its place, and told at the spread's name

abbrev pub move_use : (at : ℕ) → Use → Use
move_use at u = record { name = record { name = u.name.name; at = at }; place = u.place }

-- a local variable is a place that has its type, and its default where it has one
abbrev pub place_of_local : Option Local → Option Place
place_of_local None = None
place_of_local (Some l) = Some (l.of, is_some l.default)

abbrev pub uses_of_given : Defs → (at : ℕ) → List Local → ArgumentAt → List Use
uses_of_given defs at ls x = map (move_use at) (uses_in defs x.value.at x.value.of (place_of_local (local_named ls x.name.name)))

abbrev pub uses_at_spread : Defs → List FragmentAt → Site → List Use
uses_at_spread defs fs (field around al n xs ds has_set) = []
uses_at_spread defs fs (spread around n ds) = each (uses_of_given defs n.at (locals_named fs n.name)) (spread_arguments ds)
uses_at_spread defs fs (inline around first on ds) = []

abbrev pub uses_in_spreads : Defs → List FragmentAt → List Site → List Use
uses_in_spreads defs fs ss = each (uses_at_spread defs fs) ss

-- ---- uses of local variables of the fragment around

abbrev pub is_given_default : Option Val → Bool
is_given_default None = false
is_given_default (Some v) = not (is_null v)

-- a nullable variable at a non-null place has a default that is not null, or the place has a default
abbrev pub use_allowed : (of : Ty) → (is_given : Bool) → (place : Ty) → (has_default : Bool) → Bool
use_allowed of is_given p has_default =
    cond (is_non_null p && not (is_non_null of)) ((is_given || has_default) && types_agree of (nullable p)) (types_agree of p)

abbrev pub is_allowed_at : Local → Option Place → Bool
is_allowed_at l None = true
is_allowed_at l (Some p) = use_allowed l.of (is_given_default l.default) p.0 p.1

abbrev pub is_allowed : Option Local → Option Place → Bool
is_allowed None p = true
is_allowed (Some l) p = is_allowed_at l p

abbrev pub local_use_wrong : List Local → Use → List ℕ
local_use_wrong ls u = wrong (not (is_allowed (local_named ls u.name.name) u.place)) u.name.at

abbrev pub local_uses_wrong : Defs → List FragmentAt → FragmentAt → List ℕ
local_uses_wrong defs fs f = each (local_use_wrong (locals_of f.directives)) (uses_in_spreads defs fs f.sites)

-- ---- uses of the variables of an operation, in it and in each fragment that it reaches

abbrev pub uses_in_fragment : Defs → List FragmentAt → FragmentAt → List Use
uses_in_fragment defs fs f = uses_in_spreads defs fs f.sites

abbrev pub uses_of_operation_wrong : Defs → List FragmentAt → OperationAt → List ℕ
uses_of_operation_wrong defs fs o =
    each (use_wrong o.variables []) (uses_in_spreads defs fs o.sites) ++ each (uses_wrong_in (uses_in_fragment defs fs) fs o) fs

-- ---- V18: `@arguments` gives names of the fragment's local variables, with values that fit and uses that are allowed, and each that has to
-- be given; the place is the spread's name

abbrev pub given_wrong : Defs → List FragmentAt → List DefinitionAt → List ℕ
given_wrong defs fs ds = each (λ d. each (given_wrong_at defs fs) (sites_of d)) ds

abbrev pub spreads_wrong : Defs → List DefinitionAt → List ℕ
spreads_wrong defs ds =
    given_wrong defs (fragments ds) ds ++ each (local_uses_wrong defs (fragments ds)) (fragments ds)
    ++ each (uses_of_operation_wrong defs (fragments ds)) (operations ds)
