-- What it is to read the text of a file by a grammar: its one tree with the places of its nodes, or its first fault.
use Rattle.std.specs.Prelude.{◌≡◌, ◌⊎◌, ◌↔◌, ℕ, List, [], Some, length, Result, Ok, Err, IsUtf8}
use Rattle.gql_lex.specs.Lines.{place_at}
use Rattle.gql_lex.specs.Sources.{lex_from}
use Rattle.gql_lex.specs.Toks.{tokens_of}
use Rattle.gql_ast.specs.declared.fault.ParseFault.{ParseFault}
use Rattle.gql_ast.specs.declared.fault.ParseFault.TheVariants.{Syntax, NoMemory}
use Rattle.gql_ast.specs.declared.fault.SyntaxFault.{SyntaxFault}
use Rattle.gql_ast.specs.declared.place.FilePlace.{FilePlace}
use Rattle.gql_syntax.specs.FirstFault.{Grammar, Shallow, IsFirstFault}
use Rattle.gql_syntax.specs.Places.{place_nodes}

-- how many selection sets, how many lists and objects, and how many list types may stand in one another
abbrev pub nesting_limit : ℕ
nesting_limit = 60

-- the tokens of the text are those of the tree, and the places those of its nodes in text order
pub record IsTree {V : Type 0} (g : Grammar V) (nodes : V → List ℕ) (file : ℕ) (text : List ℕ) (v : V) (node_places : List FilePlace) : Type 0 where
  pub utf8 : IsUtf8 text
  pub tokens : tokens_of text ≡ Some (g.tokens v)
  pub formed : g.Formed v
  pub shallow : Shallow nesting_limit (g.levels v)
  pub places : node_places ≡ place_nodes file text [] (nodes v) (lex_from 0 text)

abbrev pub not_utf8 : ℕ
not_utf8 = 7

-- a fault of the text, counted at an offset
pub record FaultAtOffset {V : Type 0} (g : Grammar V) (text : List ℕ) (f : SyntaxFault) : Type 0 where
  pub at : ℕ
  pub utf8 : IsUtf8 text
  pub first : IsFirstFault g nesting_limit (length text) (lex_from 0 text) f.code at
  pub line : f.line ≡ (place_at text at).line
  pub column : f.column ≡ (place_at text at).column

-- the bytes are no text, which is reported at the first line and column
pub record NoText (bytes : List ℕ) (f : SyntaxFault) : Type 0 where
  pub utf8 : IsUtf8 bytes → ⊥
  pub code : f.code ≡ not_utf8
  pub line : f.line ≡ 1
  pub column : f.column ≡ 1

-- the fault of bytes that are no text
abbrev pub no_text : (file : ℕ) → SyntaxFault
no_text file = record { file = file; line = 1; column = 1; code = not_utf8 }

-- the code of bytes that are no text is reported of such bytes, and of no others
abbrev pub TellsText : {T : Type 0} → List ℕ → Result T ParseFault → Type 0
TellsText bytes (Ok t) = IsUtf8 bytes
TellsText bytes (Err NoMemory) = IsUtf8 bytes
TellsText bytes (Err (Syntax f)) = (f.code ≡ not_utf8) ↔ (IsUtf8 bytes → ⊥)

abbrev pub IsParseFault : {V : Type 0} → Grammar V → (file : ℕ) → List ℕ → ParseFault → Type 0
IsParseFault g file text NoMemory = Unit {0}
IsParseFault g file text (Syntax f) = (f.file ≡ file) × (NoText text f ⊎ FaultAtOffset g text f)
