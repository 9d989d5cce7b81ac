-- A part of a machine by itself: it reads tokens until it hands over what it has read, behind its last token or before a
-- token that it does not take.
use Rattle.std.specs.Prelude.{ℕ, Bool, List, [], Option, Some, None, Result, Ok, Err}
use Rattle.gql_lex.specs.Sources.{Source, ended, faulty, token}
use Rattle.gql_lex.specs.Toks.{Tok, tok_of_piece}
use Rattle.gql_ast.specs.Value.{Val}
use Rattle.gql_ast.specs.Ty.{Ty}
use Rattle.gql_ast.specs.declared.directive.Directive.{Directive}
use Rattle.gql_syntax.specs.Run.{Halt, unexpected, code_of, Stopped, stamp}
use Rattle.gql_syntax.specs.Machine.{Reading, want, outer, value_step, Arguing, first, arguments_step, Directing, further, at_name, applied, arguing, with_arguments, directives_step, Typing, want_type, typed, whole, type_step}

-- it goes on from a state; it is done behind the token; or it was done before the token
pub data Part (S V : Type 0) : Type 0 where
  goes : S → Part S V
  done : V → Part S V
  done_before : V → Part S V

-- where the tokens end, or go wrong, what could end there is done
abbrev pub stops : {V : Type 0} → Option V → Source → Stopped → Result (V × Source) Stopped
stops (Some v) ahead fault = Ok (v, ahead)
stops None ahead fault = Err fault

-- `here` is what lay ahead before the last token
abbrev pub part_from : {S V : Type 0} → (step : S → Tok → Result (Part S V) Halt) → (ends : S → Option V) → (size : ℕ) → Result (Part S V) Stopped → (here ahead : Source) → Result (V × Source) Stopped
part_from step ends size (Err f) here ahead = Err f
part_from step ends size (Ok (done v)) here ahead = Ok (v, ahead)
part_from step ends size (Ok (done_before v)) here ahead = Ok (v, here)
part_from step ends size (Ok (goes s)) here ended = stops (ends s) ended (code_of unexpected, size)
part_from step ends size (Ok (goes s)) here (faulty code at) = stops (ends s) (faulty code at) (code, at)
part_from step ends size (Ok (goes s)) here (token p rest) =
    part_from step ends size (stamp p.start (step s (tok_of_piece p))) (token p rest) rest

abbrev pub part : {S V : Type 0} → (step : S → Tok → Result (Part S V) Halt) → (ends : S → Option V) → (size : ℕ) → S → Source → Result (V × Source) Stopped
part step ends size s ahead = part_from step ends size (Ok (goes s)) ahead ahead

-- ---- a value; what stands in a list or an object that is open hands it on to what it stands in

abbrev pub One : Type 0
One = Unit {0}

abbrev pub never : {S V : Type 0} → S → Option V
never s = None

abbrev pub value_alone : Reading One → Tok → Result (Part (Reading One) Val) Halt
value_alone r t = value_step goes (λ k v. done v) r t

-- a value, with room for so many lists and objects in one another
abbrev pub value_read : (constant : Bool) → (room size : ℕ) → Source → Result (Val × Source) Stopped
value_read c room size ahead = part value_alone never size (want c room (outer tt)) ahead

-- ---- arguments, behind their `(`

abbrev pub arguments_alone : (limit : ℕ) → Arguing One → Tok → Result (Part (Arguing One) (List (List ℕ × Val))) Halt
arguments_alone limit r t = arguments_step limit goes (λ a xs. done xs) r t

abbrev pub arguments_read : (limit : ℕ) → (constant : Bool) → (size : ℕ) → Source → Result (List (List ℕ × Val) × Source) Stopped
arguments_read limit c size ahead = part (arguments_alone limit) never size (first c tt) ahead

-- ---- directives: none, or as many as stand there

abbrev pub directives_alone : (limit : ℕ) → Directing One → Tok → Result (Part (Directing One) (List Directive)) Halt
directives_alone limit r t = directives_step limit goes (λ d ds t. Ok (done_before ds)) r t

-- the directives where no more follow
abbrev pub directives_there : {D : Type 0} → Directing D → Option (List Directive)
directives_there (further c ds d) = Some ds
directives_there (at_name c ds d) = None
directives_there (applied a) = Some (with_arguments a [])
directives_there (arguing r) = None

abbrev pub directives_read : (limit : ℕ) → (constant : Bool) → (size : ℕ) → Source → Result (List Directive × Source) Stopped
directives_read limit c size ahead = part (directives_alone limit) directives_there size (further c [] tt) ahead

-- ---- a type

abbrev pub type_alone : Typing One → Tok → Result (Part (Typing One) Ty) Halt
type_alone r t = type_step goes (λ k t. done t) (λ k t x. Ok (done_before t)) r t

-- the type where `!` does not follow
abbrev pub type_there : {K : Type 0} → Typing K → Option Ty
type_there (typed t (whole k)) = Some t
type_there r = None

abbrev pub type_read : (room size : ℕ) → Source → Result (Ty × Source) Stopped
type_read room size ahead = part type_alone type_there size (want_type room (whole tt)) ahead
