-- The states of the machine of documents: what was read before each, what a token opens there, and what holds of it.
use Rattle.std.proofs.Common.{◌≡◌, ℕ, ◌+◌, Bool, true, false, List, [], ◌∷◌}
use Rattle.std.specs.List.{AllByRecursion}
use Rattle.gql_syntax.specs.gql_lex.Toks as tok
use Rattle.gql_syntax.specs.gql_lex.Toks.{Tok}
use Rattle.gql_syntax.specs.gql_ast.declared.variable.VariableDef.{VariableDef}
use Rattle.gql_parse.specs.Documents.{Written, IsSpreadName, fragment_word}
use Rattle.gql_parse.proofs.Shapes.{ShapedSelections, ShapedVariable, ShapedWritten}
use Rattle.gql_parse.specs.Machine.{Opening, VariableName, Typed, Up, of_bare, of_operation, of_fragment, of_field, of_inline, Inside, OpenField, Owner, on_variable, on_operation, on_fragment, on_field, on_spread, on_inline, State, between, kinded, called, variables, dollar, variable_named, in_type, typed, in_value, fragment_begun, fragment_named, fragment_on, set, named, aliased, field_named, dotted, on, in_arguments, in_directives, advance, finish}
use Rattle.gql_parse.proofs.Fronts.{flat, definitions_front, level_of, set_front, opening_front, variables_front, variable_front, typed_front, field_front, owner_front}
use Rattle.gql_syntax.proofs.Laws.{Leveled, Machine}
use Rattle.gql_syntax.proofs.Standing.{Ground, value_so_far, value_level, lift_value, SeatedValue, arguments_so_far, arguments_level, lift_arguments, SeatedArguments, directives_so_far, directives_level, lift_directives, SeatedDirectives, type_so_far, type_level, lift_type, SeatedType}
use Rattle.gql_syntax.proofs.Shapes.{ShapedArguments, ShapedDirectives, ShapedDefault, ShapedType}
use Rattle.gql_syntax.specs.Words.{on_word, kind_word}

-- the number of a set that the token opens
abbrev pub brace_level : (level : ℕ) → Tok → ℕ
brace_level level tok.open_brace = level
brace_level level t = 0

abbrev pub field_level : Inside → Tok → ℕ
field_level i t = brace_level (level_of i.up + 1) t

-- the set that `{` opens behind the directives: 0 where none may stand
abbrev pub owner_brace : Owner → ℕ
owner_brace (on_variable v default) = 0
owner_brace (on_operation o vs) = 1
owner_brace (on_fragment f) = 1
owner_brace (on_field f xs) = level_of f.inside.up + 1
owner_brace (on_spread i n) = 0
owner_brace (on_inline i o) = level_of i.up + 1

abbrev pub owner_level : Owner → Tok → ℕ
owner_level d t = brace_level (owner_brace d) t

-- ---- what holds of the states that are reached

abbrev pub ShapedDefinitions : List Written → Type 0
ShapedDefinitions ws = AllByRecursion ShapedWritten ws

abbrev pub ShapedUp : Up → Type 0
ShapedUp (of_bare ws) = ShapedDefinitions ws
ShapedUp (of_operation o vs ds) = ShapedDefinitions o.before × AllByRecursion ShapedVariable vs × ShapedDirectives false ds
ShapedUp (of_fragment f ds) = ShapedDefinitions f.before × IsSpreadName f.name × ShapedDirectives false ds
ShapedUp (of_field b a n xs ds up) = ShapedSelections b × ShapedArguments false xs × ShapedDirectives false ds × ShapedUp up
ShapedUp (of_inline b o ds up) = ShapedSelections b × ShapedDirectives false ds × ShapedUp up

-- as many sets may be opened in the set as are left
pub record SeatedInside (limit : ℕ) (i : Inside) : Type 0 where
  pub room : i.room + level_of i.up ≡ limit
  pub formed : ShapedSelections i.before
  pub up : ShapedUp i.up

abbrev pub ShapedVariables : Opening → List VariableDef → Type 0
ShapedVariables o vs = ShapedDefinitions o.before × AllByRecursion ShapedVariable vs

abbrev pub ShapedName : VariableName → Type 0
ShapedName v = ShapedVariables v.opening v.before

abbrev pub ShapedTyped : Typed → Type 0
ShapedTyped v = ShapedName v.variable × ShapedType v.of

abbrev pub ShapedFragmentName : List Written → List ℕ → Type 0
ShapedFragmentName ws n = ShapedDefinitions ws × IsSpreadName n

abbrev pub SeatedOwner : (limit : ℕ) → Owner → Type 0
SeatedOwner limit (on_variable v default) = ShapedTyped v × ShapedDefault default
SeatedOwner limit (on_operation o vs) = ShapedVariables o vs
SeatedOwner limit (on_fragment f) = ShapedFragmentName f.before f.name
SeatedOwner limit (on_field f xs) = SeatedInside limit f.inside × ShapedArguments false xs
SeatedOwner limit (on_spread i n) = SeatedInside limit i × IsSpreadName n
SeatedOwner limit (on_inline i o) = SeatedInside limit i

-- the directives of a variable are constants
abbrev pub owner_constant : Owner → Bool
owner_constant (on_variable v default) = true
owner_constant (on_operation o vs) = false
owner_constant (on_fragment f) = false
owner_constant (on_field f xs) = false
owner_constant (on_spread i n) = false
owner_constant (on_inline i o) = false

-- ---- the same of a machine whose limit is greater

abbrev pub lift_inside : ℕ → Inside → Inside
lift_inside k i = record { room = k + i.room; before = i.before; up = i.up }

abbrev pub lift_field : ℕ → OpenField → OpenField
lift_field k f = record { inside = lift_inside k f.inside; alias = f.alias; name = f.name }

abbrev pub lift_owner : ℕ → Owner → Owner
lift_owner k (on_variable v default) = on_variable v default
lift_owner k (on_operation o vs) = on_operation o vs
lift_owner k (on_fragment f) = on_fragment f
lift_owner k (on_field f xs) = on_field (lift_field k f) xs
lift_owner k (on_spread i n) = on_spread (lift_inside k i) n
lift_owner k (on_inline i o) = on_inline (lift_inside k i) o

-- ---- what types, defaults, arguments and directives stand on

abbrev pub variable_ground : Ground VariableName
variable_ground = record { front = variable_front; constant = λ v. true; lift = λ k v. v; Seated = λ limit v. ShapedName v }

abbrev pub typed_ground : Ground Typed
typed_ground = record { front = λ v ts. typed_front v (flat tok.equals ∷ ts); constant = λ v. true; lift = λ k v. v; Seated = λ limit v. ShapedTyped v }

abbrev pub field_ground : Ground OpenField
field_ground = record { front = field_front; constant = λ f. false; lift = lift_field; Seated = λ limit f. SeatedInside limit f.inside }

abbrev pub owner_ground : Ground Owner
owner_ground = record { front = owner_front; constant = owner_constant; lift = lift_owner; Seated = SeatedOwner }

-- ---- states

abbrev pub so_far : State → List Leveled → List Leveled
so_far (between ws) ts = definitions_front ws ts
so_far (kinded ws k) ts = definitions_front ws (flat (tok.name (kind_word k)) ∷ ts)
so_far (called o) ts = opening_front o ts
so_far (variables o vs) ts = variables_front o vs ts
so_far (dollar o vs) ts = variables_front o vs (flat tok.dollar ∷ ts)
so_far (variable_named v) ts = variables_front v.opening v.before (flat tok.dollar ∷ flat (tok.name v.name) ∷ ts)
so_far (in_type r) ts = type_so_far variable_ground r ts
so_far (typed v) ts = typed_front v ts
so_far (in_value r) ts = value_so_far typed_ground r ts
so_far (fragment_begun ws) ts = definitions_front ws (flat (tok.name fragment_word) ∷ ts)
so_far (fragment_named ws n) ts = definitions_front ws (flat (tok.name fragment_word) ∷ flat (tok.name n) ∷ ts)
so_far (fragment_on ws n) ts = definitions_front ws (flat (tok.name fragment_word) ∷ flat (tok.name n) ∷ flat (tok.name on_word) ∷ ts)
so_far (set i) ts = set_front i ts
so_far (named i n) ts = set_front i (flat (tok.name n) ∷ ts)
so_far (aliased i a) ts = set_front i (flat (tok.name a) ∷ flat tok.colon ∷ ts)
so_far (field_named f) ts = field_front f ts
so_far (dotted i) ts = set_front i (flat tok.spread ∷ ts)
so_far (on i) ts = set_front i (flat tok.spread ∷ flat (tok.name on_word) ∷ ts)
so_far (in_arguments r) ts = arguments_so_far field_ground r ts
so_far (in_directives r) ts = directives_so_far owner_ground r ts

abbrev pub level_at : State → Tok → ℕ
level_at (between ws) t = brace_level 1 t
level_at (kinded ws k) t = brace_level 1 t
level_at (called o) t = brace_level 1 t
level_at (in_type r) t = type_level (λ v x. 0) r t
level_at (in_value r) t = value_level r t
level_at (named i n) t = field_level i t
level_at (field_named f) t = field_level f.inside t
level_at (dotted i) t = field_level i t
level_at (in_arguments r) t = arguments_level r t
level_at (in_directives r) t = directives_level owner_level r t
level_at s t = 0

abbrev pub Seated : (limit : ℕ) → State → Type 0
Seated limit (between ws) = ShapedDefinitions ws
Seated limit (kinded ws k) = ShapedDefinitions ws
Seated limit (called o) = ShapedDefinitions o.before
Seated limit (variables o vs) = ShapedVariables o vs
Seated limit (dollar o vs) = ShapedVariables o vs
Seated limit (variable_named v) = ShapedName v
Seated limit (in_type r) = SeatedType variable_ground limit r
Seated limit (typed v) = ShapedTyped v
Seated limit (in_value r) = SeatedValue typed_ground limit r
Seated limit (fragment_begun ws) = ShapedDefinitions ws
Seated limit (fragment_named ws n) = ShapedFragmentName ws n
Seated limit (fragment_on ws n) = ShapedFragmentName ws n
Seated limit (set i) = SeatedInside limit i
Seated limit (named i n) = SeatedInside limit i
Seated limit (aliased i a) = SeatedInside limit i
Seated limit (field_named f) = SeatedInside limit f.inside
Seated limit (dotted i) = SeatedInside limit i
Seated limit (on i) = SeatedInside limit i
Seated limit (in_arguments r) = SeatedArguments field_ground limit r
Seated limit (in_directives r) = SeatedDirectives owner_ground limit r

abbrev pub lift : ℕ → State → State
lift k (between ws) = between ws
lift k (kinded ws n) = kinded ws n
lift k (called o) = called o
lift k (variables o vs) = variables o vs
lift k (dollar o vs) = dollar o vs
lift k (variable_named v) = variable_named v
lift k (in_type r) = in_type (lift_type variable_ground k r)
lift k (typed v) = typed v
lift k (in_value r) = in_value (lift_value typed_ground k r)
lift k (fragment_begun ws) = fragment_begun ws
lift k (fragment_named ws n) = fragment_named ws n
lift k (fragment_on ws n) = fragment_on ws n
lift k (set i) = set (lift_inside k i)
lift k (named i n) = named (lift_inside k i) n
lift k (aliased i a) = aliased (lift_inside k i) a
lift k (field_named f) = field_named (lift_field k f)
lift k (dotted i) = dotted (lift_inside k i)
lift k (on i) = on (lift_inside k i)
lift k (in_arguments r) = in_arguments (lift_arguments field_ground k r)
lift k (in_directives r) = in_directives (lift_directives owner_ground k r)

abbrev pub document_machine : Machine State (List Written)
document_machine = record { start = λ limit. between []; step = advance; finish = finish; so_far = so_far; level_at = level_at; lift = lift; Seated = Seated }
