-- The node of each name of a schema that was read begins at a Name of the text that spells it.
use Rattle.std.proofs.Common.{◌≡◌, inl, inr, ℕ, List, [], map, codes, Some, refl, ap, sym, ◌∙◌, subst}
use Rattle.gql_parse.specs.gql_ast.declared.place.FilePlace.{FilePlace}
use Rattle.gql_parse.specs.gql_ast.declared.place.Placed.{Placed}
use Rattle.gql_parse.specs.gql_ast.declared.schema.SchemaDef.{SchemaDef}
use Rattle.gql_parse.specs.gql_ast.declared.schema.SchemaTree.{SchemaTree}
use Rattle.schema_types.specs.gql_graph.Texts.{Text}
use Rattle.gql_parse.specs.gql_lex.Sources.{Piece, lex_from}
use Rattle.gql_parse.specs.gql_lex.Toks as tok
use Rattle.gql_parse.specs.gql_lex.Toks.{Tok, tok_of_piece, toks_of}
use Rattle.gql_sdl.proofs.Wholes.{map-definitions}
use Rattle.gql_sdl.specs.Schemas.{Described, definition_of, schemas, nodes_of, spell_definitions}
use Rattle.gql_sdl.specs.Trees.{IsSchema}
use Rattle.gql_parse.specs.gql_syntax.Places.{file_place, place_nodes}
use Rattle.schema_types.specs.schema_trees.Located.{locate}
use Rattle.text_places.specs.Naming.{node_pieces, element_at, BeginsAt, NamedAt, SchemaAt, AreSpelled}
use Rattle.text_places.proofs.SchemaTokens.{IsHead, located_walk}
use Rattle.text_places.proofs.TokenPieces.{piece_tokens, piece_places, element_map, piece_at, name_piece, text_piece}
use Rattle.text_places.proofs.TokenSteps.{both, node_tokens}

module _ (file : ℕ) (text : List ℕ) (ws : List Described) (places : List FilePlace)
    (tokens : toks_of (lex_from 0 text) ≡ Some (schemas.tokens ws)) (laid : places ≡ place_nodes file text [] (nodes_of ws) (lex_from 0 text)) where
  abbrev marks : List (Tok × ℕ)
  marks = spell_definitions both 1 ws

  abbrev whole : List Tok
  whole = node_tokens marks

  abbrev pieces : List Piece
  pieces = node_pieces (nodes_of ws) (lex_from 0 text)

  same_tokens : map tok_of_piece pieces ≡ whole
  same_tokens =
      let firsts = map-definitions (λ (x : Tok × ℕ). x.0) both 1 ws in
      let seconds = map-definitions (λ (x : Tok × ℕ). x.1) both 1 ws in
      ap (λ ns. map tok_of_piece (node_pieces ns (lex_from 0 text))) (sym seconds) ∙ piece_tokens marks (lex_from 0 text) (tokens ∙ ap Some (sym firsts))

  begins : (at : ℕ) (p : Piece) → element_at pieces at ≡ Some p → BeginsAt file text (nodes_of ws) 0 places at p
  begins at p e = record {
    begins = e;
    placed = ap (λ ps. element_at ps at) (laid ∙ piece_places file text [] (nodes_of ws) (lex_from 0 text))
        ∙ element_map (λ (q : Piece). file_place file text q.start) pieces at p e;
  }

  spells : (n : Text) (at : ℕ) → element_at whole at ≡ Some (tok.name n) → NamedAt file text (nodes_of ws) 0 places n at
  spells n at e =
      let p = piece_at tok_of_piece pieces at (tok.name n) (ap (λ ts. element_at ts at) same_tokens ∙ e) in
      let is = name_piece p.0.kind p.0.text n p.2 in
      record { piece = p.0; there = begins at p.0 p.1; kind = is.0; spells = is.1 }

  head : (at : ℕ) → IsHead whole at → SchemaAt file text (nodes_of ws) places at
  head at h = elim h [
    | inl e ↦ let n = spells (codes "schema") at e in record { piece = n.piece; there = n.there; head = inl (n.kind, n.spells) }
    | inr d ↦ description_here d.0 d.1
  ] where
    description_here : (d : Text) → element_at whole at ≡ Some (tok.text d) → SchemaAt file text (nodes_of ws) places at
    description_here d e =
        let p = piece_at tok_of_piece pieces at (tok.text d) (ap (λ ts. element_at ts at) same_tokens ∙ e) in
        record { piece = p.0; there = begins at p.0 p.1; head = inr (text_piece p.0.kind p.0.text d p.2) }

  names : AreSpelled file text (nodes_of ws) places (locate (map definition_of ws))
  names =
      located_walk whole (SchemaAt file text (nodes_of ws) places) (NamedAt file text (nodes_of ws) 0 places) head spells ws
      (record { before = []; is = refl; count = refl })

-- each name of a schema that was read
pub schema_names : (file : ℕ) (text : List ℕ) (p : Placed SchemaTree) (s : IsSchema file text p)
    → AreSpelled file text (nodes_of s.written) p.places (locate p.tree.definitions)
schema_names file text p s =
    subst (λ (ds : List SchemaDef). AreSpelled file text (nodes_of s.written) p.places (locate ds)) (sym s.definitions)
    (names file text s.written p.places s.tree.tokens s.tree.places)
