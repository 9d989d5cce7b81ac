-- What lies ahead: the next token, what lies behind it, and what is wrong where no token ahead may stand.
use Rattle.std.specs.Prelude.{◌≡◌, ℕ, zero, suc, ◌+◌, ◌≤◌, Bool, false, ◌==◌, List, [], ◌∷◌, IsCharBoundary, Option, Some, None, Result, Ok, Err}
use Rattle.gql_lex.specs.declared.tokens.Token.{Token}
use Rattle.gql_lex.specs.declared.tokens.LexFault.{LexFault}
use Rattle.gql_lex.specs.Answers.{piece_of}
use Rattle.gql_lex.specs.Heads.{IsToken}
use Rattle.gql_lex.specs.Sources.{Source, ended, faulty, token}
use Rattle.gql_lex.specs.Toks as tok
use Rattle.gql_lex.specs.Toks.{Tok, tok_of_piece}
use Rattle.gql_syntax.specs.Run.{unexpected, too_deep, code_of, Stopped}

-- what lies behind the next token
abbrev pub behind : Source → Source
behind ended = ended
behind (faulty code at) = faulty code at
behind (token p rest) = rest

-- the token is the punctuator that begins with this byte
abbrev pub is_at : ℕ → Tok → Bool
is_at c tok.bang = 33 == c
is_at c tok.dollar = 36 == c
is_at c tok.ampersand = 38 == c
is_at c tok.open_paren = 40 == c
is_at c tok.close_paren = 41 == c
is_at c tok.spread = 46 == c
is_at c tok.colon = 58 == c
is_at c tok.equals = 61 == c
is_at c tok.at_sign = 64 == c
is_at c tok.open_bracket = 91 == c
is_at c tok.close_bracket = 93 == c
is_at c tok.open_brace = 123 == c
is_at c tok.bar = 124 == c
is_at c tok.close_brace = 125 == c
is_at c (tok.name n) = false
is_at c (tok.int n) = false
is_at c (tok.text t) = false

-- the bytes of a Name
abbrev pub word_of : Tok → Option (List ℕ)
word_of (tok.name n) = Some n
word_of t = None

-- the token is a Text or a Block
abbrev pub is_text : Tok → Bool
is_text (tok.text t) = Bool.true
is_text t = false

-- the token is a punctuator
abbrev pub is_punctuator : Tok → Bool
is_punctuator (tok.name n) = false
is_punctuator (tok.int n) = false
is_punctuator (tok.text t) = false
is_punctuator t = Bool.true

-- the next token is the punctuator that begins with this byte
abbrev pub next_is : ℕ → Source → Bool
next_is c ended = false
next_is c (faulty code at) = false
next_is c (token p rest) = is_at c (tok_of_piece p)

-- the bytes of the next token where it is a Name
abbrev pub next_word : Source → Option (List ℕ)
next_word ended = None
next_word (faulty code at) = None
next_word (token p rest) = word_of (tok_of_piece p)

-- the next token is a Text or a Block
abbrev pub next_is_text : Source → Bool
next_is_text ended = false
next_is_text (faulty code at) = false
next_is_text (token p rest) = is_text (tok_of_piece p)

-- the next token is a punctuator
abbrev pub next_is_punctuator : Source → Bool
next_is_punctuator ended = false
next_is_punctuator (faulty code at) = false
next_is_punctuator (token p rest) = is_punctuator (tok_of_piece p)

-- the next token is this one
abbrev pub Comes : Source → Tok → Type 0
Comes ended t = ⊥
Comes (faulty code at) t = ⊥
Comes (token p rest) t = tok_of_piece p ≡ t

-- there is no further token
abbrev pub IsLast : Source → Type 0
IsLast ended = Unit {0}
IsLast (faulty code at) = Unit {0}
IsLast (token p rest) = ⊥

-- the fault of a text in which nothing that lies ahead may stand
abbrev pub stopped_at : (size : ℕ) → Source → Stopped
stopped_at size ended = (code_of unexpected, size)
stopped_at size (faulty code at) = (code, at)
stopped_at size (token p rest) = (code_of unexpected, p.start)

-- and of a text in which the next token would open too much
abbrev pub too_deep_at : (size : ℕ) → Source → Stopped
too_deep_at size ended = stopped_at size ended
too_deep_at size (faulty code at) = stopped_at size (faulty code at)
too_deep_at size (token p rest) = (code_of too_deep, p.start)

-- how many tokens lie ahead
abbrev pub token_count : Source → ℕ
token_count ended = 0
token_count (faulty code at) = 0
token_count (token p rest) = 1 + token_count rest

-- a lexer's answer, and what lies ahead of the lexer then
abbrev pub source_of : Result (Option Token) LexFault → Source → Source
source_of (Ok None) rest = ended
source_of (Ok (Some t)) rest = token (piece_of t) rest
source_of (Err f) rest = faulty f.code f.at

-- the tokens are whole, and each of them, and the fault, begins with a character of the text, not before `from` and
-- behind those before it
abbrev pub InOrder : List ℕ → (from : ℕ) → Source → Type 0
InOrder text from ended = Unit {0}
InOrder text from (faulty code at) = (from ≤ at) × IsCharBoundary text at
InOrder text from (token p rest) = (from ≤ p.start) × IsCharBoundary text p.start × IsToken p.kind p.text × InOrder text p.start rest

-- the place with this number stands there once more
abbrev pub repeat : {A : Type 0} → (number : ℕ) → List A → List A
repeat number [] = []
repeat zero (x ∷ xs) = x ∷ x ∷ xs
repeat (suc number) (x ∷ xs) = x ∷ repeat number xs
