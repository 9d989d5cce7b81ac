-- The machine of documents: what may come next, and all that is open, with the trees read so far. `room` counts how many
-- more selection sets may be opened there.
use Rattle.std.specs.Prelude.{ℕ, zero, suc, Bool, true, false, cond, bytes_eq, List, [], ◌∷◌, ◌++◌, Option, Some, None, Result, Ok, Err}
use Rattle.gql_syntax.specs.gql_lex.Toks as tok
use Rattle.gql_syntax.specs.gql_lex.Toks.{Tok}
use Rattle.gql_syntax.specs.gql_ast.Sels.{Sels, end, field, spread, inline, sels_append}
use Rattle.gql_syntax.specs.gql_ast.Ty.{Ty}
use Rattle.gql_syntax.specs.gql_ast.Value.{Val}
use Rattle.gql_syntax.specs.gql_ast.declared.directive.Directive.{Directive}
use Rattle.gql_syntax.specs.gql_ast.declared.document.Definition.TheVariants as D
use Rattle.gql_syntax.specs.gql_ast.declared.document.Fragment.{Fragment}
use Rattle.gql_syntax.specs.gql_ast.declared.document.Kind.{Kind}
use Rattle.gql_syntax.specs.gql_ast.declared.document.Kind.TheVariants.{Query, Mutation, Subscription}
use Rattle.gql_syntax.specs.gql_ast.declared.document.Operation.{Operation}
use Rattle.gql_syntax.specs.gql_ast.declared.value.ValueTree.{ValueTree}
use Rattle.gql_syntax.specs.gql_ast.declared.variable.VariableDef.{VariableDef}
use Rattle.gql_syntax.specs.Built.{type_tree, value_tree}
use Rattle.gql_parse.specs.Documents.{Written, bare, full, fragment_word}
use Rattle.gql_syntax.specs.Machine.{Reading, want, outer, value_step, Arguing, first, arguments_step, Directing, further, directives_step, Typing, want_type, whole, type_step}
use Rattle.gql_syntax.specs.Run.{Halt, unexpected, too_deep}
use Rattle.gql_syntax.specs.Words.{on_word, kind_word}

-- ---- what is open

-- an operation without its variables, behind the definitions before it
pub record Opening : Type 0 where
  pub before : List Written
  pub kind : Kind
  pub name : Option (List ℕ)

-- a fragment without its directives
pub record Titled : Type 0 where
  pub before : List Written
  pub name : List ℕ
  pub on : List ℕ

-- the name of a variable of an operation, behind the variables before it
pub record VariableName : Type 0 where
  pub opening : Opening
  pub before : List VariableDef
  pub name : List ℕ

-- a variable with its type
pub record Typed : Type 0 where
  pub variable : VariableName
  pub of : Ty

-- what a selection set stands in
pub data Up : Type 0 where
  of_bare : (before : List Written) → Up
  of_operation : Opening → List VariableDef → List Directive → Up
  of_fragment : Titled → List Directive → Up
  of_field : (before : Sels) → (alias : Option (List ℕ)) → (name : List ℕ) → List (List ℕ × Val) → List Directive → Up → Up
  of_inline : (before : Sels) → (on : Option (List ℕ)) → List Directive → Up → Up

-- a set that is open, with the selections read so far
pub record Inside : Type 0 where
  pub room : ℕ
  pub before : Sels
  pub up : Up

-- a field with its name
pub record OpenField : Type 0 where
  pub inside : Inside
  pub alias : Option (List ℕ)
  pub name : List ℕ

-- what directives stand on
pub data Owner : Type 0 where
  on_variable : Typed → Option ValueTree → Owner
  on_operation : Opening → List VariableDef → Owner
  on_fragment : Titled → Owner
  on_field : OpenField → List (List ℕ × Val) → Owner
  on_spread : Inside → (name : List ℕ) → Owner
  on_inline : Inside → (on : Option (List ℕ)) → Owner

-- between definitions; a name, `(` or more of an operation; `(` or more; `$`, or `)` behind a variable; the name behind `$`;
-- the colon; in the type; `=` or more behind it; in the default; the name, the `on` and the type of a fragment; a selection, or
-- `}` behind one; the colon behind a name, or more of a field; the name behind an alias; `(` or more of a field; what follows
-- `...`; the type behind `on`; in the arguments of a field; in directives
pub data State : Type 0 where
  between : List Written → State
  kinded : List Written → Kind → State
  called : Opening → State
  variables : Opening → List VariableDef → State
  dollar : Opening → List VariableDef → State
  variable_named : VariableName → State
  in_type : Typing VariableName → State
  typed : Typed → State
  in_value : Reading Typed → State
  fragment_begun : List Written → State
  fragment_named : List Written → List ℕ → State
  fragment_on : List Written → List ℕ → State
  set : Inside → State
  named : Inside → List ℕ → State
  aliased : Inside → List ℕ → State
  field_named : OpenField → State
  dotted : Inside → State
  on : Inside → State
  in_arguments : Arguing OpenField → State
  in_directives : Directing Owner → State

-- ---- selection sets

-- the set, and one selection more in it
abbrev pub then_selection : Inside → Sels → Inside
then_selection i s = record { room = i.room; before = sels_append i.before s; up = i.up }

-- a set is opened, where there is room for it
abbrev pub open_set : (room : ℕ) → Up → Result State Halt
open_set zero up = Err too_deep
open_set (suc room) up = Ok (set (record { room = room; before = end; up = up }))

abbrev pub operation_of : Opening → List VariableDef → List Directive → Sels → Operation
operation_of o vs ds s = record { kind = o.kind; name = o.name; variables = vs; directives = ds; selections = s }

abbrev pub fragment_of : Titled → List Directive → Sels → Fragment
fragment_of f ds s = record { name = f.name; on = f.on; directives = ds; selections = s }

-- the set of these selections is closed
abbrev pub close_set : (room : ℕ) → Sels → Up → State
close_set room s (of_bare ws) = between (ws ++ bare s ∷ [])
close_set room s (of_operation o vs ds) = between (o.before ++ full (D.Operation (operation_of o vs ds s)) ∷ [])
close_set room s (of_fragment f ds) = between (f.before ++ full (D.Fragment (fragment_of f ds s)) ∷ [])
close_set room s (of_field b a n xs ds up) = set (record { room = suc room; before = sels_append b (field a n xs ds s end); up = up })
close_set room s (of_inline b o ds up) = set (record { room = suc room; before = sels_append b (inline o ds s end); up = up })

-- a set is not empty
abbrev pub may_close : (room : ℕ) → Sels → Up → Result State Halt
may_close room end up = Err unexpected
may_close room s up = Ok (close_set room s up)

abbrev pub at_set : Inside → Tok → Result State Halt
at_set i (tok.name n) = Ok (named i n)
at_set i tok.spread = Ok (dotted i)
at_set i tok.close_brace = may_close i.room i.before i.up
at_set i t = Err unexpected

-- ---- directives are over, and the token that follows is this

abbrev pub at_variables : Opening → List VariableDef → Tok → Result State Halt
at_variables o vs tok.dollar = Ok (dollar o vs)
at_variables o [] t = Err unexpected
at_variables o (v ∷ vs) tok.close_paren = Ok (in_directives (further false [] (on_operation o (v ∷ vs))))
at_variables o (v ∷ vs) t = Err unexpected

abbrev pub variable_of : Typed → Option ValueTree → List Directive → VariableDef
variable_of v default ds = record { name = v.variable.name; of = type_tree v.of; default = default; directives = ds }

-- the variables up to this one
abbrev pub variables_with : Typed → Option ValueTree → List Directive → List VariableDef
variables_with v default ds = v.variable.before ++ variable_of v default ds ∷ []

abbrev pub field_of : OpenField → List (List ℕ × Val) → List Directive → Sels
field_of f xs ds = field f.alias f.name xs ds end end

abbrev pub within_field : OpenField → List (List ℕ × Val) → List Directive → Up
within_field f xs ds = of_field f.inside.before f.alias f.name xs ds f.inside.up

abbrev pub after_directives : (limit : ℕ) → Owner → List Directive → Tok → Result State Halt
after_directives limit (on_variable v default) ds t = at_variables v.variable.opening (variables_with v default ds) t
after_directives limit (on_operation o vs) ds tok.open_brace = open_set limit (of_operation o vs ds)
after_directives limit (on_operation o vs) ds t = Err unexpected
after_directives limit (on_fragment f) ds tok.open_brace = open_set limit (of_fragment f ds)
after_directives limit (on_fragment f) ds t = Err unexpected
after_directives limit (on_field f xs) ds tok.open_brace = open_set f.inside.room (within_field f xs ds)
after_directives limit (on_field f xs) ds t = at_set (then_selection f.inside (field_of f xs ds)) t
after_directives limit (on_spread i n) ds t = at_set (then_selection i (spread n ds end)) t
after_directives limit (on_inline i o) ds tok.open_brace = open_set i.room (of_inline i.before o ds i.up)
after_directives limit (on_inline i o) ds t = Err unexpected

-- directives may follow
abbrev pub at_directives : (limit : ℕ) → (constant : Bool) → Owner → Tok → Result State Halt
at_directives limit c d t = directives_step limit in_directives (after_directives limit) (further c [] d) t

-- ---- the rest

abbrev pub at_called : (limit : ℕ) → Opening → Tok → Result State Halt
at_called limit o tok.open_paren = Ok (variables o [])
at_called limit o t = at_directives limit false (on_operation o []) t

abbrev pub at_kinded : (limit : ℕ) → List Written → Kind → Tok → Result State Halt
at_kinded limit ws k (tok.name n) = Ok (called (record { before = ws; kind = k; name = Some n }))
at_kinded limit ws k t = at_called limit (record { before = ws; kind = k; name = None }) t

-- what a definition begins with
pub data Word : Type 0 where
  kind : Kind → Word
  fragment : Word
  other : Word

abbrev pub word_of : List ℕ → Word
word_of n =
    cond (bytes_eq n fragment_word) fragment (cond (bytes_eq n (kind_word Query)) (kind Query)
    (cond (bytes_eq n (kind_word Mutation)) (kind Mutation) (cond (bytes_eq n (kind_word Subscription)) (kind Subscription) other)))

abbrev pub begin_definition : List Written → Word → Result State Halt
begin_definition ws (kind k) = Ok (kinded ws k)
begin_definition ws fragment = Ok (fragment_begun ws)
begin_definition ws other = Err unexpected

abbrev pub at_definition : (limit : ℕ) → List Written → Tok → Result State Halt
at_definition limit ws (tok.name n) = begin_definition ws (word_of n)
at_definition limit ws tok.open_brace = open_set limit (of_bare ws)
at_definition limit ws t = Err unexpected

abbrev pub typed_variable : VariableName → Ty → State
typed_variable v t = typed (record { variable = v; of = t })

abbrev pub at_typed : (limit : ℕ) → Typed → Tok → Result State Halt
at_typed limit v tok.equals = Ok (in_value (want true limit (outer v)))
at_typed limit v t = at_directives limit true (on_variable v None) t

-- a type without `!` is over
abbrev pub after_type : (limit : ℕ) → VariableName → Ty → Tok → Result State Halt
after_type limit v t x = at_typed limit (record { variable = v; of = t }) x

abbrev pub with_default : Typed → Val → State
with_default v d = in_directives (further true [] (on_variable v (Some (value_tree d))))

abbrev pub at_field : (limit : ℕ) → OpenField → Tok → Result State Halt
at_field limit f tok.open_paren = Ok (in_arguments (first false f))
at_field limit f t = at_directives limit false (on_field f []) t

abbrev pub at_named : (limit : ℕ) → Inside → List ℕ → Tok → Result State Halt
at_named limit i n tok.colon = Ok (aliased i n)
at_named limit i n t = at_field limit (record { inside = i; alias = None; name = n }) t

abbrev pub with_arguments : OpenField → List (List ℕ × Val) → State
with_arguments f xs = in_directives (further false [] (on_field f xs))

-- a Name behind `...`: whether it is `on`
abbrev pub dotted_name : Inside → List ℕ → (is_on : Bool) → State
dotted_name i n true = on i
dotted_name i n false = in_directives (further false [] (on_spread i n))

abbrev pub at_dotted : (limit : ℕ) → Inside → Tok → Result State Halt
at_dotted limit i (tok.name n) = Ok (dotted_name i n (bytes_eq n on_word))
at_dotted limit i t = at_directives limit false (on_inline i None) t

-- a fragment's name is not `on`
abbrev pub fragment_name : List Written → List ℕ → (is_on : Bool) → Result State Halt
fragment_name ws n true = Err unexpected
fragment_name ws n false = Ok (fragment_named ws n)

-- `on` stands there
abbrev pub fragment_condition : List Written → List ℕ → (is_on : Bool) → Result State Halt
fragment_condition ws n true = Ok (fragment_on ws n)
fragment_condition ws n false = Err unexpected

abbrev pub advance : (limit : ℕ) → State → Tok → Result State Halt
advance limit (between ws) t = at_definition limit ws t
advance limit (kinded ws k) t = at_kinded limit ws k t
advance limit (called o) t = at_called limit o t
advance limit (variables o vs) t = at_variables o vs t
advance limit (dollar o vs) (tok.name n) = Ok (variable_named (record { opening = o; before = vs; name = n }))
advance limit (dollar o vs) t = Err unexpected
advance limit (variable_named v) tok.colon = Ok (in_type (want_type limit (whole v)))
advance limit (variable_named v) t = Err unexpected
advance limit (in_type r) t = type_step in_type typed_variable (after_type limit) r t
advance limit (typed v) t = at_typed limit v t
advance limit (in_value r) t = value_step in_value with_default r t
advance limit (fragment_begun ws) (tok.name n) = fragment_name ws n (bytes_eq n on_word)
advance limit (fragment_begun ws) t = Err unexpected
advance limit (fragment_named ws n) (tok.name m) = fragment_condition ws n (bytes_eq m on_word)
advance limit (fragment_named ws n) t = Err unexpected
advance limit (fragment_on ws n) (tok.name m) = Ok (in_directives (further false [] (on_fragment (record { before = ws; name = n; on = m }))))
advance limit (fragment_on ws n) t = Err unexpected
advance limit (set i) t = at_set i t
advance limit (named i n) t = at_named limit i n t
advance limit (aliased i a) (tok.name n) = Ok (field_named (record { inside = i; alias = Some a; name = n }))
advance limit (aliased i a) t = Err unexpected
advance limit (field_named f) t = at_field limit f t
advance limit (dotted i) t = at_dotted limit i t
advance limit (on i) (tok.name n) = Ok (in_directives (further false [] (on_inline i (Some n))))
advance limit (on i) t = Err unexpected
advance limit (in_arguments r) t = arguments_step limit in_arguments with_arguments r t
advance limit (in_directives r) t = directives_step limit in_directives (after_directives limit) r t

abbrev pub some_written : List Written → Option (List Written)
some_written [] = None
some_written (w ∷ ws) = Some (w ∷ ws)

-- a document has a definition
abbrev pub finish : State → Option (List Written)
finish (between ws) = some_written ws
finish s = None
