-- What a reader answers, by what is to be read.
use Rattle.std.specs.Prelude.{◌≡◌, ℕ, Bool, true, cond, List, [], Option, Some, None, Result, Ok, Err, IsCharBoundary}
use Rattle.gql_lex.specs.Lines.{place_at}
use Rattle.gql_lex.specs.Sources.{Source}
use Rattle.gql_ast.specs.Value.{Val}
use Rattle.gql_ast.specs.declared.fault.ParseFault.{ParseFault}
use Rattle.gql_ast.specs.declared.fault.ParseFault.TheVariants as parse
use Rattle.gql_syntax.specs.declared.fault.Fault.{Fault}
use Rattle.gql_syntax.specs.declared.fault.Fault.TheVariants.{Wrong, NoMemory}
use Rattle.gql_syntax.specs.Nexts.{behind, next_is}
use Rattle.gql_syntax.specs.Parts.{value_read, arguments_read}
use Rattle.gql_syntax.specs.Run.{Stopped}
use Rattle.gql_syntax.specs.Texts.{nesting_limit}

-- the fault of this code at this offset
abbrev pub wrong_at : Stopped → Fault
wrong_at s = Wrong s.0 s.1

-- the fault lies at a character of the text, or at its end
abbrev pub LiesIn : List ℕ → Fault → Type 0
LiesIn text (Wrong code at) = IsCharBoundary text at
LiesIn text NoMemory = Unit {0}

-- the fault at its place in the text of a file
abbrev pub fault_in : (file : ℕ) → List ℕ → Fault → ParseFault
fault_in file text (Wrong code at) =
    parse.Syntax (record { file = file; line = (place_at text at).line; column = (place_at text at).column; code = code })
fault_in file text NoMemory = parse.NoMemory

-- what is reported as wrong is wrong; that there is too little memory may always be reported
abbrev pub Tells : {A : Type 0} → Fault → (wanted : Result A Stopped) → Type 0
Tells (Wrong code at) wanted = wanted ≡ Err (code, at)
Tells NoMemory wanted = Unit {0}

-- what has been read, as the logic sees it, and what lies ahead then
abbrev pub Answers : {T A : Type 0} → Result T Fault → (view : T → A) → (rest : Source) → (wanted : Result (A × Source) Stopped) → Type 0
Answers (Ok t) view rest wanted = wanted ≡ Ok (view t, rest)
Answers (Err f) view rest wanted = Tells f wanted

-- what is wanted did not come, and the fault is reported where it should have come
abbrev pub Misses : Fault → (missing : Type 0) → Stopped → Type 0
Misses (Wrong code at) missing where_to = missing × (where_to ≡ (code, at))
Misses NoMemory missing where_to = Unit {0}

-- none, or `=` and a constant
abbrev pub as_default : Result (Val × Source) Stopped → Result (Option Val × Source) Stopped
as_default (Ok r) = Ok (Some r.0, r.1)
as_default (Err f) = Err f

abbrev pub default_read : (size : ℕ) → Source → Result (Option Val × Source) Stopped
default_read size ahead = cond (next_is 61 ahead) (as_default (value_read true nesting_limit size (behind ahead))) (Ok (None, ahead))

-- none, or `(` and arguments
abbrev pub call_read : (constant : Bool) → (size : ℕ) → Source → Result (List (List ℕ × Val) × Source) Stopped
call_read c size ahead = cond (next_is 40 ahead) (arguments_read nesting_limit c size (behind ahead)) (Ok ([], ahead))

-- of a token: how many nodes begin at it
abbrev pub node_count : {T : Type 0} → T → (level nodes : ℕ) → ℕ
node_count t level nodes = nodes
