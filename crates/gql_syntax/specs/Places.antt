-- Where the nodes of a tree begin.
use Rattle.std.specs.Prelude.{ℕ, List, [], ◌∷◌, ◌++◌, replicate}
use Rattle.gql_lex.specs.Lines.{place_at}
use Rattle.gql_lex.specs.Sources.{Source, ended, faulty, token}
use Rattle.gql_ast.specs.declared.place.FilePlace.{FilePlace}

-- the place of an offset in the text of a file
abbrev pub file_place : (file : ℕ) → List ℕ → (at : ℕ) → FilePlace
file_place file text at = record { file = file; line = (place_at text at).line; column = (place_at text at).column }

-- behind the places that are there: of each token ahead its place, as many times as nodes begin at it
abbrev pub place_nodes : (file : ℕ) → List ℕ → List FilePlace → (nodes : List ℕ) → Source → List FilePlace
place_nodes file text there [] ahead = there
place_nodes file text there (n ∷ ns) ended = there
place_nodes file text there (n ∷ ns) (faulty code at) = there
place_nodes file text there (n ∷ ns) (token p rest) = place_nodes file text (there ++ replicate n (file_place file text p.start)) ns rest

-- what a cursor stands for: a file and its text, the tokens that lie ahead, and the places of the nodes before them
pub record Ahead : Type 0 where
  pub file : ℕ
  pub text : List ℕ
  pub source : Source
  pub places : List FilePlace

-- the places where so many nodes begin at each token ahead
abbrev pub lay : List ℕ → Ahead → List FilePlace
lay nodes c = place_nodes c.file c.text c.places nodes c.source
