-- The rules on the directives after Relay and on aliases, in their order. Each is the list of the places where it does not hold.
use Rattle.std.specs.Prelude.{ℕ, Bool, true, false, not, ◌&&◌, ◌||◌, cond, List, [], ◌∷◌, ◌++◌, codes, Option, Some, None, bytes_eq}
use Rattle.doc_uses.specs.gql_ast.Value.{Val, truth}
use Rattle.doc_uses.specs.schema_types.ArgumentRules.{is_input_type}
use Rattle.doc_uses.specs.schema_types.DocumentRules.{Rules, argument_rules, field_rules, name_rules}
use Rattle.doc_uses.specs.schema_tables.Fits.{literal_fits}
use Rattle.doc_uses.specs.schema_trees.Located.{Located}
use Rattle.doc_uses.specs.schema_types.NameRules.{sites_of}
use Rattle.doc_uses.specs.schema_rules.Rules.{each, wrong, begins_with_underscores}
use Rattle.doc_uses.specs.schema_types.Sites.{ArgumentAt, DirectiveAt, Site, field, spread, inline, DefinitionAt, operation, fragment}
use Rattle.doc_uses.specs.schema_tables.Types.{Text, Defs}
use Rattle.doc_uses.specs.schema_rules.declared.fault.Rule.TheVariants as R
use Rattle.doc_uses.specs.gql_ast.Ty.{Ty}
use Rattle.relay_marks.specs.Connections.{value_named, keys_wrong, connections_wrong}
use Rattle.relay_marks.specs.Locals.{Local, local_of, defines_locals}
use Rattle.relay_rules.specs.Spreads.{spreads_wrong}
use Rattle.relay_marks.specs.constant_values.Fittings.{is_constant}

-- ---- V17: each argument of `@argumentDefinitions` says a local variable of an input type, whose default is a constant that fits; the place
-- is the argument's name

abbrev pub default_fits : Defs → Ty → Option Val → Bool
default_fits defs t None = true
default_fits defs t (Some v) = is_constant v && literal_fits defs v t

abbrev pub is_good_local : Defs → Option Local → Bool
is_good_local defs None = false
is_good_local defs (Some l) = is_input_type defs l.of && default_fits defs l.of l.default

abbrev pub local_wrong : Defs → ArgumentAt → List ℕ
local_wrong defs x = wrong (not (is_good_local defs (local_of x.name.name x.value.of))) x.name.at

abbrev pub locals_wrong_in : Defs → DirectiveAt → List ℕ
locals_wrong_in defs d = cond (defines_locals d.name.name) (each (local_wrong defs) d.arguments) []

-- an operation defines no local variable
abbrev pub directives_of_fragment : DefinitionAt → List DirectiveAt
directives_of_fragment (operation o) = []
directives_of_fragment (fragment f) = f.directives

abbrev pub locals_wrong : Defs → List DefinitionAt → List ℕ
locals_wrong defs ds = each (λ d. each (locals_wrong_in defs) (directives_of_fragment d)) ds

-- ---- V19: the mask of `@relay` is a truth value, literally; the place is the directive's name

abbrev pub directives_on : Site → List DirectiveAt
directives_on (field around al n xs ds has_set) = ds
directives_on (spread around n ds) = ds
directives_on (inline around first on ds) = ds

abbrev pub is_truth : Option Val → Bool
is_truth (Some (truth b)) = true
is_truth v = false

abbrev pub mask_wrong : DirectiveAt → List ℕ
mask_wrong d = cond (bytes_eq d.name.name (codes "relay")) (wrong (not (is_truth (value_named d.arguments (codes "mask")))) d.name.at) []

abbrev pub masks_wrong_at : Site → List ℕ
masks_wrong_at s = each mask_wrong (directives_on s)

abbrev pub masks_wrong : List DefinitionAt → List ℕ
masks_wrong ds = each (λ d. each masks_wrong_at (sites_of d)) ds

-- ---- V20: an alias does not begin with `__`, and is `id` on the field `id` alone; the place is the alias

abbrev pub is_bad_alias : (alias name : Text) → Bool
is_bad_alias a n = begins_with_underscores a || (bytes_eq a (codes "id") && not (bytes_eq n (codes "id")))

abbrev pub alias_wrong : Option Located → Located → List ℕ
alias_wrong None n = []
alias_wrong (Some a) n = wrong (is_bad_alias a.name n.name) a.at

abbrev pub alias_wrong_at : Site → List ℕ
alias_wrong_at (field around al n xs ds has_set) = alias_wrong al n
alias_wrong_at (spread around n ds) = []
alias_wrong_at (inline around first on ds) = []

abbrev pub aliases_wrong : List DefinitionAt → List ℕ
aliases_wrong ds = each (λ d. each alias_wrong_at (sites_of d)) ds

-- ---- the rules in their order

abbrev pub relay_rules : Defs → List DefinitionAt → Rules
relay_rules defs ds =
    (R.V17, locals_wrong defs ds) ∷ (R.V18, spreads_wrong defs ds) ∷ (R.V19, masks_wrong ds) ∷ (R.V20, aliases_wrong ds)
    ∷ (R.V21, keys_wrong defs ds) ∷ (R.V22, connections_wrong defs ds) ∷ []

-- all rules on documents themselves, in their order: V1 to V22
abbrev pub document_rules : Defs → List DefinitionAt → Rules
document_rules defs ds = name_rules defs ds ++ (field_rules defs ds ++ (argument_rules defs ds ++ relay_rules defs ds))
