-- The forms of tokens and of ignored text (GraphQL, October 2021, sections 2.1 and 2.9), apart from any reading of them.
use Rattle.std.specs.Prelude.{◌≡◌, ◌⊎◌, ◌≤◌, ℕ, ◌+◌, ◌-◌, Bool, true, false, cond, ◌&&◌, ◌==◌, List, [], ◌∷◌, ◌++◌, length, take, drop, slice_index}
use Rattle.std.specs.List.{list_all}
use Rattle.gql_lex.specs.declared.tokens.TokenKind.{TokenKind}
use Rattle.gql_lex.specs.declared.tokens.TokenKind.TheVariants.{Punct, Name, Int, Text, Block}
use Rattle.gql_lex.specs.declared.tokens.Head.TheVariants.{Ignored, Found}
use Rattle.gql_lex.specs.Characters.{quote, backslash, minus, full_stop, number_sign, is_digit, is_punctuator, is_ignored, is_line_end, may_stand, may_stand_in_block, is_three_quotes, is_escaped_quotes}
use Rattle.gql_plain.specs.Names.{is_name}
use Rattle.gql_lex.specs.Heads.{head}
use Rattle.gql_lex.specs.Strings.{is_simple_escape, is_four_hex, code_of_hex, is_surrogate}

-- ---- Int

-- `0`, or a digit 1 to 9 with further digits
abbrev pub is_whole : List ℕ → Bool
is_whole [] = false
is_whole (c ∷ cs) = cond (c == 48) (length cs == 0) (is_digit c && list_all is_digit cs)

-- an optional `-`, and then the digits
abbrev pub is_int : List ℕ → Bool
is_int [] = false
is_int (c ∷ cs) = cond (c == minus) (is_whole cs) (is_whole (c ∷ cs))

-- ---- Text

-- what stands between the quotes: a character, an escape of one character, or `\u` with four hexadecimal digits
pub data Part : Type 0 where
  character : ℕ → Part
  escape : ℕ → Part
  unicode : (a b c d : ℕ) → Part

abbrev pub IsPart : Part → Type 0
IsPart (character c) = (may_stand c ≡ true) × (c ≡ quote → ⊥) × (c ≡ backslash → ⊥)
IsPart (escape c) = is_simple_escape c ≡ true
IsPart (unicode a b c d) = (is_four_hex (a ∷ b ∷ c ∷ d ∷ []) ≡ true) × (is_surrogate (code_of_hex (a ∷ b ∷ c ∷ d ∷ [])) ≡ false)

abbrev pub AreParts : List Part → Type 0
AreParts [] = Unit {0}
AreParts (p ∷ ps) = IsPart p × AreParts ps

-- a part, and then what follows it
abbrev pub part_then : Part → List ℕ → List ℕ
part_then (character c) rest = c ∷ rest
part_then (escape c) rest = backslash ∷ c ∷ rest
part_then (unicode a b c d) rest = backslash ∷ 117 ∷ a ∷ b ∷ c ∷ d ∷ rest

-- parts, the quote after them, and then what follows
abbrev pub parts_then : List Part → List ℕ → List ℕ
parts_then [] rest = quote ∷ rest
parts_then (p ∷ ps) rest = part_then p (parts_then ps rest)

-- ---- Block

-- what stands between the quotes: a character, or `\"""`
pub data BlockPart : Type 0 where
  letter : ℕ → BlockPart
  quotes : BlockPart

-- parts, the three quotes after them, and then what follows
abbrev pub block_then : List BlockPart → List ℕ → List ℕ
block_then [] rest = quote ∷ quote ∷ quote ∷ rest
block_then (letter c ∷ ps) rest = c ∷ block_then ps rest
block_then (quotes ∷ ps) rest = backslash ∷ quote ∷ quote ∷ quote ∷ block_then ps rest

-- with no character begins `"""` or `\"""`
abbrev pub AreBlockParts : List BlockPart → Type 0
AreBlockParts [] = Unit {0}
AreBlockParts (letter c ∷ ps) =
    (may_stand_in_block c ≡ true) × (is_three_quotes (c ∷ block_then ps []) ≡ false) × (is_escaped_quotes (c ∷ block_then ps []) ≡ false) × AreBlockParts ps
AreBlockParts (quotes ∷ ps) = AreBlockParts ps

-- ---- tokens

-- the text is one token of the kind
abbrev pub IsLexeme : TokenKind → List ℕ → Type 0
IsLexeme Punct text = ((c : ℕ) × (text ≡ c ∷ []) × (is_punctuator c ≡ true)) ⊎ (text ≡ full_stop ∷ full_stop ∷ full_stop ∷ [])
IsLexeme Name text = is_name text ≡ true
IsLexeme Int text = is_int text ≡ true
IsLexeme Text text = (parts : List Part) × AreParts parts × (text ≡ quote ∷ parts_then parts [])
IsLexeme Block text = (parts : List BlockPart) × AreBlockParts parts × (text ≡ quote ∷ quote ∷ quote ∷ block_then parts [])

-- the text is ignored: the byte order mark, a tab, a space, a comma, a line terminator, or a comment without its end
abbrev pub IsIgnored : List ℕ → Type 0
IsIgnored text =
    ((c : ℕ) × (text ≡ c ∷ []) × (is_ignored c ≡ true)) ⊎ ((text ≡ 239 ∷ 187 ∷ 191 ∷ [])
    ⊎ ((cs : List ℕ) × (text ≡ number_sign ∷ cs) × (list_all may_stand cs ≡ true)))

-- ---- laws

-- what is found in front of the bytes is a token of its kind, and no longer front of them is a token of any kind
abbrev pub LongestToken : Type 0
LongestToken = (bs : List ℕ) (kind : TokenKind) (n : ℕ) → head bs ≡ Found kind n → IsLexeme kind (take (n + 1) bs)
    × ((other : TokenKind) (text rest : List ℕ) → bs ≡ text ++ rest → IsLexeme other text → length text ≤ n + 1)

-- what is passed over in front of the bytes is ignored text, and a comment goes to the end of its line
abbrev pub IgnoredText : Type 0
IgnoredText = (bs : List ℕ) (n : ℕ) → head bs ≡ Ignored n → IsIgnored (take (n + 1) bs)
    × (slice_index bs 0 ≡ number_sign → (drop (n + 1) bs ≡ []) ⊎ (is_line_end (slice_index bs (n + 1)) ≡ true))
