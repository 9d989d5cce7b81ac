-- What the nodes of a document are that rules number: names, the first tokens of values, and those of operations and of inline
-- fragments.
use Rattle.std.specs.Prelude.{◌≡◌, ℕ, ◌+◌, List, [], ◌∷◌, map}
use Rattle.std.specs.List.{AllByRecursion}
use Rattle.gql_parse.specs.gql_ast.Value.{Val, Vals, Members, variable, int, text, truth, null, enum, list, object, no_vals, val, no_members, member}
use Rattle.gql_parse.specs.gql_ast.declared.document.Document.{Document}
use Rattle.gql_parse.specs.gql_ast.declared.document.Kind.{Kind}
use Rattle.gql_parse.specs.gql_ast.declared.place.FilePlace.{FilePlace}
use Rattle.gql_parse.specs.gql_ast.declared.place.Placed.{Placed}
use Rattle.schema_types.specs.gql_graph.Texts.{Text}
use Rattle.gql_parse.specs.gql_lex.Sources.{Piece}
use Rattle.gql_parse.specs.gql_lex.Toks as tok
use Rattle.gql_parse.specs.gql_lex.Toks.{Tok, tok_of_piece}
use Rattle.gql_parse.specs.Documents.{nodes_of}
use Rattle.gql_parse.specs.Trees.{IsDocument}
use Rattle.gql_parse.specs.gql_syntax.Words.{kind_word, truth_word, null_word}
use Rattle.schema_types.specs.schema_tables.Types.{Defs}
use Rattle.schema_types.specs.schema_trees.Located.{value_nodes}
use Rattle.schema_types.specs.SiteNumbers.{HoldsDefinition}
use Rattle.schema_types.specs.Sites.{DefinitionAt, definitions_at, document_nodes}
use Rattle.text_places.specs.Naming.{BeginsAt, NamedAt}

abbrev pub first_token : Val → Tok
first_token (variable n) = tok.dollar
first_token (int n) = tok.int n
first_token (text t) = tok.text t
first_token (truth b) = tok.name (truth_word b)
first_token null = tok.name null_word
first_token (enum n) = tok.name n
first_token (list vs) = tok.open_bracket
first_token (object ms) = tok.open_brace

-- `N` holds of each name inside a value that begins at this number
abbrev mutual
  pub HoldsInside : (N : Text → ℕ → Type 0) → Val → ℕ → Type 0
  HoldsInside N (variable n) at = N n (at + 1)
  HoldsInside N (int n) at = Unit {0}
  HoldsInside N (text t) at = Unit {0}
  HoldsInside N (truth b) at = Unit {0}
  HoldsInside N null at = Unit {0}
  HoldsInside N (enum n) at = N n (at + 1)
  HoldsInside N (list vs) at = HoldsItems N vs (at + 1)
  HoldsInside N (object ms) at = HoldsMembers N ms (at + 1)

  pub HoldsItems : (N : Text → ℕ → Type 0) → Vals → ℕ → Type 0
  HoldsItems N no_vals at = Unit {0}
  HoldsItems N (val x vs) at = HoldsInside N x at × HoldsItems N vs (at + value_nodes x)

  pub HoldsMembers : (N : Text → ℕ → Type 0) → Members → ℕ → Type 0
  HoldsMembers N no_members at = Unit {0}
  HoldsMembers N (member n x ms) at = N n (at + 1) × HoldsInside N x (at + 2) × HoldsMembers N ms (at + (2 + value_nodes x))

-- a token that an operation or an inline fragment begins with
abbrev pub Opens : Tok → Type 0
Opens tok.spread = Unit {0}
Opens tok.open_brace = Unit {0}
Opens (tok.name n) = (k : Kind) × (n ≡ kind_word k)
Opens t = ⊥

-- the node of a number begins at such a token
pub record OpensAt (file : ℕ) (bytes : List ℕ) (nodes : List ℕ) (first : ℕ) (places : List FilePlace) (at : ℕ) : Type 0 where
  pub piece : Piece
  pub there : BeginsAt file bytes nodes first places at piece
  pub head : Opens (tok_of_piece piece)

-- the node of a number begins at the first token of this value, and so do the names in the value
pub record ValueBeginsAt (file : ℕ) (bytes : List ℕ) (nodes : List ℕ) (first : ℕ) (places : List FilePlace) (x : Val) (at : ℕ) : Type 0 where
  pub piece : Piece
  pub there : BeginsAt file bytes nodes first places at piece
  pub head : tok_of_piece piece ≡ first_token x
  pub inside : HoldsInside (NamedAt file bytes nodes first places) x at

-- each name and each value of these definitions, at its number
abbrev pub AreWritten : (file : ℕ) → (bytes : List ℕ) → (nodes : List ℕ) → (first : ℕ) → (places : List FilePlace) → List DefinitionAt → Type 0
AreWritten file bytes nodes first places ds =
    AllByRecursion (HoldsDefinition (OpensAt file bytes nodes first places) (NamedAt file bytes nodes first places) (ValueBeginsAt file bytes nodes first places)) ds

-- ---- several documents

-- a document that was read from a text
pub record Reading : Type 0 where
  pub file : ℕ
  pub text : List ℕ
  pub placed : Placed Document
  pub is : IsDocument file text placed

abbrev pub placed_of : List Reading → List (Placed Document)
placed_of rs = map (λ (r : Reading). r.placed) rs

-- each name and each value of these documents in its own text, at its number among the nodes of all of them
abbrev pub AreAllWritten : Defs → (first : ℕ) → (places : List FilePlace) → List Reading → Type 0
AreAllWritten defs first places [] = Unit {0}
AreAllWritten defs first places (r ∷ rs) =
    AreWritten r.file r.text (nodes_of r.is.written) first places (definitions_at defs (first + 1) r.placed.tree.definitions)
    × AreAllWritten defs (first + document_nodes r.placed.tree) places rs
