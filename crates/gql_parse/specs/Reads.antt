-- What the parts of the parser have read: from wherever a part stands, the machine goes on behind it.
use Rattle.std.specs.Prelude.{◌≡◌, map, ℕ, true, false, List, [], ◌∷◌, ◌++◌, Option, Result}
use Rattle.gql_syntax.specs.gql_lex.Sources.{Source}
use Rattle.gql_syntax.specs.gql_ast.SelectionView.{sel_of}
use Rattle.gql_syntax.specs.gql_ast.Sels.{Sels, end, field, inline}
use Rattle.gql_syntax.specs.gql_ast.Value.{Val}
use Rattle.gql_syntax.specs.gql_ast.declared.directive.Directive.{Directive}
use Rattle.gql_syntax.specs.gql_ast.declared.document.Definition.{Definition}
use Rattle.gql_syntax.specs.gql_ast.declared.document.Definition.TheVariants as D
use Rattle.gql_syntax.specs.gql_ast.declared.document.Fragment.{Fragment}
use Rattle.gql_syntax.specs.gql_ast.declared.document.Kind.{Kind}
use Rattle.gql_syntax.specs.gql_ast.declared.document.Operation.{Operation}
use Rattle.gql_syntax.specs.gql_ast.declared.selection.Selection.{Selection}
use Rattle.gql_syntax.specs.gql_ast.declared.selection.Selection.TheVariants as S
use Rattle.gql_syntax.specs.gql_ast.declared.variable.VariableDef.{VariableDef}
use Rattle.gql_parse.specs.Documents.{Written, bare, full, definition_of, nodes_of, spell_name, spell_selections, spell_set, spell_variables}
use Rattle.gql_parse.specs.Machine.{Opening, Up, of_bare, of_operation, of_fragment, of_field, of_inline, Inside, OpenField, on_operation, on_fragment, on_field, on_inline, State, between, kinded, called, variables, set, field_named, in_directives, advance, finish, then_selection, operation_of, fragment_of}
use Rattle.gql_parse.specs.declared.selections.FieldName.{FieldName}
use Rattle.gql_syntax.specs.Answers.{node_count}
use Rattle.gql_syntax.specs.Machine.{further}
use Rattle.gql_syntax.specs.Nexts.{next_is}
use Rattle.gql_syntax.specs.Places.{Ahead}
use Rattle.gql_syntax.specs.Reads as reading
use Rattle.gql_syntax.specs.Run.{Stopped, run}
use Rattle.gql_syntax.specs.Spelling.{spell_directives}
use Rattle.gql_syntax.specs.Texts.{nesting_limit}
use Rattle.gql_syntax.specs.declared.fault.Fault.{Fault}

abbrev pub run_on : (size : ℕ) → State → Source → Result (List Written) Stopped
run_on size s ahead = run (advance nesting_limit) finish size s ahead

abbrev pub Read : {K W T : Type 0} → (May : K → Source → Type 0) → (from : K → State) → (to : K → W → State) → (spell : W → List ℕ → List ℕ) → (view : W → T) → (old new : Ahead) → T → Type 0
Read May from to spell view old new t = reading.Read run_on May from to spell view old new t

abbrev pub Fails : {K : Type 0} → (May : K → Source → Type 0) → (from : K → State) → Ahead → Fault → Type 0
Fails May from old f = reading.Fails run_on May from old f

abbrev pub Reads : {K W T : Type 0} → (May : K → Source → Type 0) → (from : K → State) → (to : K → W → State) → (spell : W → List ℕ → List ℕ) → (view : W → T) → (old new : Ahead) → Result T Fault → Type 0
Reads May from to spell view old new r = reading.Reads run_on May from to spell view old new r

-- ---- definitions

abbrev pub behind_definition : List Written → Written → State
behind_definition ws w = between (ws ++ w ∷ [])

abbrev pub behind_operation : List Written → Operation → State
behind_operation ws o = behind_definition ws (full (D.Operation o))

abbrev pub behind_fragment : List Written → Fragment → State
behind_fragment ws f = behind_definition ws (full (D.Fragment f))

-- `{` comes next
abbrev pub BeginsSet : {K : Type 0} → K → Source → Type 0
BeginsSet k ahead = next_is 123 ahead ≡ true

-- an operation that has its kind, behind the definitions before it
pub record KindedAt : Type 0 where
  pub before : List Written
  pub kind : Kind

abbrev pub kinded_at : KindedAt → State
kinded_at k = kinded k.before k.kind

abbrev pub behind_operation_name : KindedAt → Option (List ℕ) → State
behind_operation_name k n = called (record { before = k.before; kind = k.kind; name = n })

-- these definitions have been read to the end of the text
abbrev pub ReadDocument : (old new : Ahead) → List Definition → Type 0
ReadDocument old new ds = reading.ReadAll run_on (between []) nodes_of (map definition_of) old new ds

abbrev pub ReadsDocument : (old new : Ahead) → Result (List Definition) Fault → Type 0
ReadsDocument old new r = reading.ReadsAll run_on (between []) nodes_of (map definition_of) old new r

-- ---- variables

abbrev pub behind_variables : Opening → List VariableDef → State
behind_variables o vs = in_directives (further false [] (on_operation o vs))

-- variables behind those before
pub record VariablesAt : Type 0 where
  pub opening : Opening
  pub before : List VariableDef

abbrev pub variables_at : VariablesAt → State
variables_at k = variables k.opening k.before

abbrev pub variable_at : VariablesAt → VariableDef → State
variable_at k v = variables k.opening (k.before ++ v ∷ [])

-- `)` stands here only where no variable has been read, and then it closes nothing
abbrev pub MayVariable : VariablesAt → Source → Type 0
MayVariable k ahead = next_is 41 ahead ≡ true → k.before ≡ []

abbrev pub spell_variable : VariableDef → List ℕ → List ℕ
spell_variable v ns = spell_variables node_count (v ∷ []) ns

-- ---- selection sets

-- how many nodes begin at each token of the selections of a set: within other sets as many as alone
abbrev pub spell_inside : Sels → List ℕ → List ℕ
spell_inside s ns = spell_selections node_count s 1 ns

-- up to the `}` of the set
abbrev pub spell_closed : Sels → List ℕ → List ℕ
spell_closed s ns = spell_inside s (0 ∷ ns)

-- a set that is open, with the selections before
pub record SetAt : Type 0 where
  pub before : Sels
  pub up : Up

abbrev pub inside : (room : ℕ) → SetAt → Inside
inside room k = record { room = room; before = k.before; up = k.up }

abbrev pub set_at : (room : ℕ) → SetAt → State
set_at room k = set (inside room k)

abbrev pub then_selections : (room : ℕ) → SetAt → Sels → State
then_selections room k s = set (then_selection (inside room k) s)

abbrev pub selection_at : (room : ℕ) → SetAt → Selection → State
selection_at room k x = then_selections room k (sel_of x)

abbrev pub spell_selection : Selection → List ℕ → List ℕ
spell_selection x ns = spell_inside (sel_of x) ns

-- the set is not closed here
abbrev pub MaySelect : {K : Type 0} → K → Source → Type 0
MaySelect k ahead = next_is 125 ahead ≡ false

-- the set is not closed here, and no `...` stands here
abbrev pub MayField : {K : Type 0} → K → Source → Type 0
MayField k ahead = (next_is 125 ahead ≡ false) × (next_is 46 ahead ≡ false)

-- `...` comes next
abbrev pub BeginsSpread : {K : Type 0} → K → Source → Type 0
BeginsSpread k ahead = next_is 46 ahead ≡ true

-- a field with its arguments and directives, behind the selections before it
pub record FieldAt : Type 0 where
  pub at : SetAt
  pub name : FieldName
  pub arguments : List (List ℕ × Val)
  pub directives : List Directive

abbrev pub named_field : Inside → FieldName → OpenField
named_field i f = record { inside = i; alias = f.alias; name = f.name }

abbrev pub behind_field_name : Inside → FieldName → State
behind_field_name i f = field_named (named_field i f)

abbrev pub spell_field_name : FieldName → List ℕ → List ℕ
spell_field_name f ns = spell_name node_count f.alias f.name ns

abbrev pub before_field_set : (room : ℕ) → FieldAt → State
before_field_set room k = in_directives (further false k.directives (on_field (named_field (inside room k.at) k.name) k.arguments))

abbrev pub behind_field_set : (room : ℕ) → FieldAt → Sels → State
behind_field_set room k s = then_selections room k.at (field k.name.alias k.name.name k.arguments k.directives s end)

-- where a set is wanted, and so many may be opened there
abbrev pub before_set : (room : ℕ) → Up → State
before_set room (of_bare ws) = between ws
before_set room (of_operation o vs ds) = in_directives (further false ds (on_operation o vs))
before_set room (of_fragment f ds) = in_directives (further false ds (on_fragment f))
before_set room (of_field b a n xs ds up) = in_directives (further false ds (on_field (record { inside = inside room (record { before = b; up = up }); alias = a; name = n }) xs))
before_set room (of_inline b o ds up) = in_directives (further false ds (on_inline (inside room (record { before = b; up = up })) o))

-- where a set may be left out, it begins here; behind directives no further one follows
abbrev pub MaySet : (room : ℕ) → Up → Source → Type 0
MaySet room (of_bare ws) ahead = (room ≡ nesting_limit) × (next_is 123 ahead ≡ true)
MaySet room (of_operation o vs ds) ahead = (room ≡ nesting_limit) × (next_is 64 ahead ≡ false)
MaySet room (of_fragment f ds) ahead = (room ≡ nesting_limit) × (next_is 64 ahead ≡ false)
MaySet room (of_field b a n xs ds up) ahead = next_is 123 ahead ≡ true
MaySet room (of_inline b o ds up) ahead = next_is 64 ahead ≡ false

-- behind a set that was opened where so many more could be
abbrev pub behind_set : (room : ℕ) → Up → Sels → State
behind_set room (of_bare ws) s = behind_definition ws (bare s)
behind_set room (of_operation o vs ds) s = behind_operation o.before (operation_of o vs ds s)
behind_set room (of_fragment f ds) s = behind_fragment f.before (fragment_of f ds s)
behind_set room (of_field b a n xs ds up) s = then_selections room (record { before = b; up = up }) (field a n xs ds s end)
behind_set room (of_inline b o ds up) s = then_selections room (record { before = b; up = up }) (inline o ds s end)

-- a set in which nothing stands yet
abbrev pub empty_set : (room : ℕ) → Up → State
empty_set room up = set_at room (record { before = end; up = up })

-- the directives and the set of an inline fragment
pub record InlineParts : Type 0 where
  pub directives : List Directive
  pub selections : Sels

abbrev pub inline_of : Option (List ℕ) → InlineParts → Selection
inline_of o w = S.Inline o w.directives w.selections

abbrev pub before_inline : (room : ℕ) → Option (List ℕ) → SetAt → State
before_inline room o k = in_directives (further false [] (on_inline (inside room k) o))

abbrev pub behind_inline : (room : ℕ) → Option (List ℕ) → SetAt → InlineParts → State
behind_inline room o k w = selection_at room k (inline_of o w)

abbrev pub spell_inline_parts : InlineParts → List ℕ → List ℕ
spell_inline_parts w ns = spell_directives node_count w.directives (spell_set node_count w.selections ns)
