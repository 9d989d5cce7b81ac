-- The tokens at which the nodes of a tree begin, and what it is that a node is a name.
use Rattle.std.specs.Prelude.{◌≡◌, ◌⊎◌, ℕ, zero, suc, List, [], ◌∷◌, ◌++◌, codes, replicate, Option, Some, None}
use Rattle.std.specs.List.{AllByRecursion}
use Rattle.gql_parse.specs.gql_ast.declared.place.FilePlace.{FilePlace}
use Rattle.schema_types.specs.gql_graph.Texts.{Text}
use Rattle.gql_parse.specs.gql_lex.Sources.{Piece, Source, ended, faulty, token, lex_from}
use Rattle.gql_parse.specs.gql_lex.declared.tokens.TokenKind.TheVariants as K
use Rattle.gql_parse.specs.gql_syntax.Places.{file_place}
use Rattle.schema_types.specs.schema_tables.Types.{base_of}
use Rattle.schema_types.specs.schema_trees.Located.{DefAt}
use Rattle.schema_types.specs.schema_trees.Numbers.{HoldsDef}

-- of each token its piece of the text, as many times as nodes begin at it
abbrev pub node_pieces : (nodes : List ℕ) → Source → List Piece
node_pieces [] ahead = []
node_pieces (n ∷ ns) ended = []
node_pieces (n ∷ ns) (faulty code at) = []
node_pieces (n ∷ ns) (token p rest) = replicate n p ++ node_pieces ns rest

-- the element of a number, where there is one of that number
abbrev pub element_at : {A : Type 0} → List A → ℕ → Option A
element_at [] n = None
element_at (a ∷ more) zero = Some a
element_at (a ∷ more) (suc n) = element_at more n

-- the same where the list's first element has the number `first`
abbrev pub element_from : {A : Type 0} → (first : ℕ) → List A → ℕ → Option A
element_from zero xs n = element_at xs n
element_from (suc k) xs zero = None
element_from (suc k) xs (suc n) = element_from k xs n

-- the node of a number begins at this token of the text, and its place is the token's; the text's nodes are numbered from `first`
pub record BeginsAt (file : ℕ) (text : List ℕ) (nodes : List ℕ) (first : ℕ) (places : List FilePlace) (at : ℕ) (piece : Piece) : Type 0 where
  pub begins : element_from first (node_pieces nodes (lex_from 0 text)) at ≡ Some piece
  pub placed : element_at places at ≡ Some (file_place file text piece.start)

-- the node of a number begins at a Name of the text that spells this name
pub record NamedAt (file : ℕ) (text : List ℕ) (nodes : List ℕ) (first : ℕ) (places : List FilePlace) (name : Text) (at : ℕ) : Type 0 where
  pub piece : Piece
  pub there : BeginsAt file text nodes first places at piece
  pub kind : piece.kind ≡ K.Name
  pub spells : piece.text ≡ name

-- the node of a number begins at the word `schema`, or at a description
pub record SchemaAt (file : ℕ) (text : List ℕ) (nodes : List ℕ) (places : List FilePlace) (at : ℕ) : Type 0 where
  pub piece : Piece
  pub there : BeginsAt file text nodes 0 places at piece
  pub head : ((piece.kind ≡ K.Name) × (piece.text ≡ codes "schema")) ⊎ (piece.kind ≡ K.Text) ⊎ (piece.kind ≡ K.Block)

-- each name of these definitions, at its number
abbrev pub AreSpelled : (file : ℕ) → (text : List ℕ) → (nodes : List ℕ) → (places : List FilePlace) → List DefAt → Type 0
AreSpelled file text nodes places ds =
    AllByRecursion (HoldsDef (SchemaAt file text nodes places) (NamedAt file text nodes 0 places) (λ t at. NamedAt file text nodes 0 places (base_of t) at)) ds
