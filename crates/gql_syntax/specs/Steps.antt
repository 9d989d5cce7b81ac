-- The parts of the machine alone, from wherever they stand.
use Rattle.std.specs.Prelude.{◌≡◌, ℕ, zero, suc, Bool, List, ◌++◌, ◌<◌, length, Option, Some, None, Result, Ok, Err}
use Rattle.gql_lex.specs.Sources.{Source, ended, faulty, token}
use Rattle.gql_lex.specs.Toks.{Tok, tok_of_piece}
use Rattle.gql_ast.specs.Value.{Val}
use Rattle.gql_ast.specs.Ty.{Ty}
use Rattle.gql_ast.specs.declared.directive.Directive.{Directive}
use Rattle.gql_ast.specs.declared.place.FilePlace.{FilePlace}
use Rattle.gql_syntax.specs.declared.fault.Fault.{Fault}
use Rattle.gql_syntax.specs.Answers.{Tells, node_count}
use Rattle.gql_syntax.specs.Machine.{Place, Reading, put, Arguing, called, Directing, Holder, Typing, put_type}
use Rattle.gql_syntax.specs.Nexts.{repeat, word_of}
use Rattle.gql_syntax.specs.Parts.{Part, goes, done, done_before, One, never, value_alone, arguments_alone, directives_alone, directives_there, type_alone, type_there, part_from}
use Rattle.gql_syntax.specs.Places.{Ahead, lay}
use Rattle.gql_syntax.specs.Run.{Halt, unexpected, code_of, Stopped}
use Rattle.gql_syntax.specs.Spelling.{spell_type}
use Rattle.gql_syntax.specs.Texts.{nesting_limit}

-- a part of a machine goes on
abbrev pub resume : {S V : Type 0} → (step : S → Tok → Result (Part S V) Halt) → (ends : S → Option V) → (size : ℕ) → Part S V → Source → Result (V × Source) Stopped
resume step ends size x ahead = part_from step ends size (Ok x) ahead ahead

-- the machine goes on where the answer leads it, from what lies ahead then
abbrev pub LeadsTo : {T P A : Type 0} → Result T Fault → (to : T → P) → (rest : Source) → (on : P → Source → Result A Stopped) → (wanted : Result A Stopped) → Type 0
LeadsTo (Ok t) to rest on wanted = wanted ≡ on (to t) rest
LeadsTo (Err f) to rest on wanted = Tells f wanted

abbrev pub value_on : (size : ℕ) → Part (Reading One) Val → Source → Result (Val × Source) Stopped
value_on size x ahead = resume value_alone never size x ahead

-- a value alone is there
abbrev pub put_alone : Val → Place One → Part (Reading One) Val
put_alone v p = put goes (λ k v. done v) v p

abbrev pub arguments_on : (size : ℕ) → Part (Arguing One) (List (List ℕ × Val)) → Source → Result (List (List ℕ × Val) × Source) Stopped
arguments_on size x ahead = resume (arguments_alone nesting_limit) never size x ahead

-- an argument's name has come, at this offset; or something else has
abbrev pub argument_named : (size : ℕ) → (constant : Bool) → List (List ℕ × Val) → Option (List ℕ) → (at : ℕ) → Source → Result (List (List ℕ × Val) × Source) Stopped
argument_named size c before (Some n) at rest = arguments_on size (goes (called (record { constant = c; before = before; name = n; on = tt }))) rest
argument_named size c before None at rest = Err (code_of unexpected, at)

-- an argument is wanted behind these
abbrev pub argument_next : (size : ℕ) → (constant : Bool) → List (List ℕ × Val) → Source → Result (List (List ℕ × Val) × Source) Stopped
argument_next size c before ended = Err (code_of unexpected, size)
argument_next size c before (faulty code at) = Err (code, at)
argument_next size c before (token p rest) = argument_named size c before (word_of (tok_of_piece p)) p.start rest

abbrev pub directives_on : (size : ℕ) → Part (Directing One) (List Directive) → Source → Result (List Directive × Source) Stopped
directives_on size x ahead = resume (directives_alone nesting_limit) directives_there size x ahead

abbrev pub type_on : (size : ℕ) → Part (Typing One) Ty → Source → Result (Ty × Source) Stopped
type_on size x ahead = resume type_alone type_there size x ahead

-- a type alone is there, and no `!` belongs to it
abbrev pub put_type_alone : Ty → Holder One → Part (Typing One) Ty
put_type_alone t h = put_type goes (λ k t. done t) (λ k t x. Ok (done_before t)) t h

-- ---- the places of a type

-- behind these places
abbrev pub from : List FilePlace → Ahead → Ahead
from there c = record { file = c.file; text = c.text; source = c.source; places = there }

-- the first place so many more times
abbrev pub first_again : {A : Type 0} → ℕ → List A → List A
first_again zero xs = xs
first_again (suc n) xs = repeat 0 (first_again n xs)

-- a type has been read, and its places were put behind those that were there; at its first token more nodes may begin
pub record IsTypeLaid (t : Ty) (c d : Ahead) : Type 0 where
  pub added : List FilePlace
  pub some : 0 < length added
  pub kept : d.places ≡ c.places ++ added
  pub lays : (around above : ℕ) (there : List FilePlace) (ns : List ℕ) → lay (spell_type node_count t around above ns) (from there c) ≡ lay ns (from (there ++ first_again above added) d)
