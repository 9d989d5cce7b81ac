-- The node of each name of a document that was read begins at a Name of the text that spells it, and that of each value at its first
-- token.
use Rattle.std.proofs.Common.{◌≡◌, ℕ, ◌+◌, List, [], ◌∷◌, ◌++◌, length, map, replicate, Some, refl, ap, sym, ◌∙◌, subst, append_assoc}
use Rattle.std.proofs.lemmas.List.{append-nil, length-append, length-replicate}
use Rattle.gql_parse.specs.gql_ast.Value.{Val}
use Rattle.gql_parse.specs.gql_ast.Value as v
use Rattle.gql_parse.specs.gql_ast.declared.document.Definition.{Definition}
use Rattle.gql_parse.specs.gql_ast.declared.document.Document.{Document}
use Rattle.gql_parse.specs.gql_ast.declared.place.FilePlace.{FilePlace}
use Rattle.gql_parse.specs.gql_ast.declared.place.Placed.{Placed}
use Rattle.schema_types.specs.gql_graph.Texts.{Text}
use Rattle.gql_parse.specs.gql_lex.Sources.{Piece, lex_from}
use Rattle.gql_parse.specs.gql_lex.Toks as tok
use Rattle.gql_parse.specs.gql_lex.Toks.{Tok, tok_of_piece, toks_of}
use Rattle.gql_parse.proofs.Mapped.{map-definition}
use Rattle.gql_parse.specs.Documents.{Written, definition_of, documents, nodes_of, spell_definition, spell_definitions}
use Rattle.gql_parse.specs.Trees.{IsDocument}
use Rattle.gql_parse.proofs.gql_syntax_laws.Marks.{map_mark}
use Rattle.gql_parse.specs.gql_syntax.Places.{file_place, place_nodes}
use Rattle.schema_types.specs.schema_tables.Types.{Defs}
use Rattle.schema_types.specs.DocumentRules.{places_of}
use Rattle.schema_types.specs.Sites.{definitions_at, document_nodes}
use Rattle.text_places.specs.DocumentNaming.{first_token, HoldsInside, Opens, OpensAt, ValueBeginsAt, AreWritten, Reading, placed_of, AreAllWritten}
use Rattle.text_places.specs.Naming.{node_pieces, element_at, element_from, BeginsAt, NamedAt}
use Rattle.text_places.proofs.DocumentTokens.{IsOpening, document_walk}
use Rattle.text_places.proofs.PlaceCounts.{document_places}
use Rattle.text_places.proofs.TokenPieces.{piece_tokens, piece_places, element_from-map, between, behind_same, name_piece}
use Rattle.text_places.proofs.TokenSteps.{both, node_tokens}

map-written : {Y : Type 0} (f : Tok × ℕ → Y) (first : ℕ) (ws : List Written) → map f (spell_definitions both first ws) ≡ spell_definitions (map_mark f both) first ws
map-written f first [] = refl
map-written f first (w ∷ ws) =
    map-definition f both first w (spell_definitions both 0 ws) ∙ ap (λ r. spell_definition (map_mark f both) first w r) (map-written f 0 ws)

-- no name, no value and no operation begins with this token
abbrev other : Tok
other = tok.close_brace

not_first : (x : Val) → other ≡ first_token x → ⊥
not_first (v.variable n) e = cc
not_first (v.int n) e = cc
not_first (v.text t) e = cc
not_first (v.truth b) e = cc
not_first v.null e = cc
not_first (v.enum n) e = cc
not_first (v.list vs) e = cc
not_first (v.object ms) e = cc

module _ (file : ℕ) (bytes : List ℕ) (ws : List Written) (own : List FilePlace)
    (tokens : toks_of (lex_from 0 bytes) ≡ Some (documents.tokens ws)) (laid : own ≡ place_nodes file bytes [] (nodes_of ws) (lex_from 0 bytes)) (before more : List FilePlace) where
  abbrev first : ℕ
  first = length before

  abbrev places : List FilePlace
  places = before ++ (own ++ more)

  abbrev marks : List (Tok × ℕ)
  marks = spell_definitions both 1 ws

  abbrev whole : List Tok
  whole = replicate first other ++ node_tokens marks

  abbrev pieces : List Piece
  pieces = node_pieces (nodes_of ws) (lex_from 0 bytes)

  same_tokens : replicate first other ++ map tok_of_piece pieces ≡ whole
  same_tokens =
      let firsts = map-written (λ (x : Tok × ℕ). x.0) 1 ws in
      let seconds = map-written (λ (x : Tok × ℕ). x.1) 1 ws in
      ap (λ ts. replicate first other ++ ts)
      (ap (λ ns. map tok_of_piece (node_pieces ns (lex_from 0 bytes))) (sym seconds) ∙ piece_tokens marks (lex_from 0 bytes) (tokens ∙ ap Some (sym firsts)))

  found : (at : ℕ) (t : Tok) → element_at whole at ≡ Some t → (other ≡ t → ⊥) → (p : Piece) × (element_from first pieces at ≡ Some p) × (tok_of_piece p ≡ t)
  found at t e apart = behind_same tok_of_piece other first pieces at t (ap (λ ts. element_at ts at) same_tokens ∙ e) apart

  begins : (at : ℕ) (p : Piece) → element_from first pieces at ≡ Some p → BeginsAt file bytes (nodes_of ws) first places at p
  begins at p e =
      let place : Piece → FilePlace = λ q. file_place file bytes q.start in
      let spread : own ≡ map place pieces = laid ∙ piece_places file bytes [] (nodes_of ws) (lex_from 0 bytes) in
      record {
        begins = e;
        placed = between before own more at (place p) (ap (λ ps. element_from first ps at) spread ∙ element_from-map place first pieces at p e);
      }

  spells : (n : Text) (at : ℕ) → element_at whole at ≡ Some (tok.name n) → NamedAt file bytes (nodes_of ws) first places n at
  spells n at e =
      let p = found at (tok.name n) e (λ same. cc) in
      let is = name_piece p.0.kind p.0.text n p.2 in
      record { piece = p.0; there = begins at p.0 p.1; kind = is.0; spells = is.1 }

  opening : (at : ℕ) → IsOpening whole at → OpensAt file bytes (nodes_of ws) first places at
  opening at h =
      let p = found at h.0 h.1 (λ same. subst Opens (sym same) h.2) in
      record { piece = p.0; there = begins at p.0 p.1; head = subst Opens (sym p.2) h.2 }

  value : (x : Val) (at : ℕ) → element_at whole at ≡ Some (first_token x) → HoldsInside (NamedAt file bytes (nodes_of ws) first places) x at
      → ValueBeginsAt file bytes (nodes_of ws) first places x at
  value x at e h =
      let p = found at (first_token x) e (not_first x) in
      record { piece = p.0; there = begins at p.0 p.1; head = p.2; inside = h }

  names : (defs : Defs) → AreWritten file bytes (nodes_of ws) first places (definitions_at defs (first + 1) (map definition_of ws))
  names defs =
      document_walk whole (NamedAt file bytes (nodes_of ws) first places) spells (OpensAt file bytes (nodes_of ws) first places) (ValueBeginsAt file bytes (nodes_of ws) first places) opening value
      defs ws first (record { before = replicate first other; is = refl; count = length-replicate first other })

-- each name and each value of a document that was read, whose places stand behind others
pub names_between : (defs : Defs) (file : ℕ) (bytes : List ℕ) (p : Placed Document) (d : IsDocument file bytes p) (before more : List FilePlace)
    → AreWritten file bytes (nodes_of d.written) (length before) (before ++ (p.places ++ more)) (definitions_at defs (length before + 1) p.tree.definitions)
names_between defs file bytes p d before more =
    subst (λ (ds : List Definition). AreWritten file bytes (nodes_of d.written) (length before) (before ++ (p.places ++ more)) (definitions_at defs (length before + 1) ds)) (sym d.definitions)
    (names file bytes d.written p.places d.tree.tokens d.tree.places before more defs)

-- of one document alone
pub document_names : (defs : Defs) (file : ℕ) (bytes : List ℕ) (p : Placed Document) (d : IsDocument file bytes p)
    → AreWritten file bytes (nodes_of d.written) 0 p.places (definitions_at defs 1 p.tree.definitions)
document_names defs file bytes p d =
    subst (λ (ps : List FilePlace). AreWritten file bytes (nodes_of d.written) 0 ps (definitions_at defs 1 p.tree.definitions)) (append-nil p.places)
    (names_between defs file bytes p d [] [])

-- ---- several documents

written_from : (defs : Defs) (rs : List Reading) (before : List FilePlace) → AreAllWritten defs (length before) (before ++ places_of (placed_of rs)) rs
written_from defs [] before = tt
written_from defs (r ∷ rs) before =
    let own = r.placed.places in
    let rest = places_of (placed_of rs) in
    let count : length (before ++ own) ≡ length before + document_nodes r.placed.tree =
    length-append before own ∙ ap (λ n. length before + n) (document_places r.file r.text r.placed r.is) in (
      names_between defs r.file r.text r.placed r.is before rest,
      subst (λ n. AreAllWritten defs n (before ++ (own ++ rest)) rs) count
          (subst (λ ps. AreAllWritten defs (length (before ++ own)) ps rs) (append_assoc before own rest) (written_from defs rs (before ++ own))),
    )

-- the numbers of a later document go on where those before it end
pub documents_names : (defs : Defs) (rs : List Reading) → AreAllWritten defs 0 (places_of (placed_of rs)) rs
documents_names defs rs = written_from defs rs []
