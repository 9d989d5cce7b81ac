-- The local variables of a fragment give way to the values that a spread gives them (this project's own).
use Rattle.std.specs.Prelude.{cond, List, [], ◌∷◌, ◌++◌, map, codes, Option, Some, None, bytes_eq}
use Rattle.relay_marks.specs.gql_ast.Value.{Val, Vals, Members, variable, list, object, null, no_vals, val, no_members, member}
use Rattle.relay_marks.specs.gql_ast.declared.directive.Directive.{Directive}
use Rattle.relay_marks.specs.gql_graph.Rules.{each}
use Rattle.relay_marks.specs.Connections.{value_of_name}
use Rattle.relay_marks.specs.Locals.{Local, locals_of}
use Rattle.relay_marks.specs.schema_tables.Types.{Text}
use Rattle.relay_marks.specs.schema_types.Sites.{FragmentAt}

abbrev pub Arguments : Type 0
Arguments = List (Text × Val)

-- what stands in the place of a variable of that name; a variable that is no local one stays
abbrev pub Scope : Type 0
Scope = Text → Val

-- a value with its local variables replaced; what is put in is not looked at again
abbrev mutual
  pub substitute : Scope → Val → Val
  substitute scope (variable n) = scope n
  substitute scope (list vs) = list (substitute_items scope vs)
  substitute scope (object ms) = object (substitute_members scope ms)
  substitute scope v = v

  pub substitute_items : Scope → Vals → Vals
  substitute_items scope no_vals = no_vals
  substitute_items scope (val v vs) = val (substitute scope v) (substitute_items scope vs)

  pub substitute_members : Scope → Members → Members
  substitute_members scope no_members = no_members
  substitute_members scope (member n v ms) = member n (substitute scope v) (substitute_members scope ms)

abbrev pub substitute_in : Scope → Arguments → Arguments
substitute_in scope xs = map (λ (x : Text × Val). (x.0, substitute scope x.1)) xs

-- in an operation no variable is a local one
abbrev pub operation_scope : Scope
operation_scope n = variable n

-- ---- a fragment that is spread

-- the arguments of `@arguments`
abbrev pub arguments_in : Directive → Arguments
arguments_in d = cond (bytes_eq d.name (codes "arguments")) d.arguments []

-- what a spread gives the fragment, under the scope around it
abbrev pub arguments_at_spread : Scope → List Directive → Arguments
arguments_at_spread scope ds = substitute_in scope (each arguments_in ds)

-- the default of the local variable of a name, where there is one; of several of one name the first counts
abbrev pub default_named : List Local → Text → Option (Option Val)
default_named [] n = None
default_named (l ∷ ls) n = cond (bytes_eq l.name n) (Some l.default) (default_named ls n)

-- the value that is given, else the default, else null
abbrev pub value_or : (given default : Option Val) → Val
value_or (Some v) d = v
value_or None (Some v) = v
value_or None None = null

abbrev pub value_of_local : (given : Arguments) → Text → (local : Option (Option Val)) → Val
value_of_local given n None = variable n
value_of_local given n (Some d) = value_or (value_of_name given n) d

-- the scope of a fragment that is spread
abbrev pub scope_at_spread : Scope → List Directive → FragmentAt → Scope
scope_at_spread scope ds f n = value_of_local (arguments_at_spread scope ds) n (default_named (locals_of f.directives) n)

-- ---- a fragment that is expanded by itself

abbrev pub mark_local : Text → (local : Option (Option Val)) → Val
mark_local n None = variable n
mark_local n (Some d) = variable (codes ":" ++ n)

-- a local variable `x` stands there as `:x`
abbrev pub scope_of_own : FragmentAt → Scope
scope_of_own f n = mark_local n (default_named (locals_of f.directives) n)
