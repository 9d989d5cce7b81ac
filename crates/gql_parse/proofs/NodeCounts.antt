-- A document has as many places as nodes.
use Rattle.std.proofs.Common.{◌≡◌, ℕ, ◌+◌, List, [], ◌∷◌, length, map, Option, Some, None, refl, sym, ap, ◌∙◌, arith}
use Rattle.gql_syntax.specs.gql_lex.Sources.{lex_from}
use Rattle.gql_syntax.specs.gql_lex.Toks.{Tok}
use Rattle.gql_syntax.specs.gql_ast.Sels.{Sels, end, field, spread, inline}
use Rattle.gql_syntax.specs.gql_ast.TypeView.{ty_of}
use Rattle.gql_syntax.specs.gql_ast.declared.document.Definition.TheVariants as D
use Rattle.gql_syntax.specs.gql_ast.declared.document.Document.{Document}
use Rattle.gql_syntax.specs.gql_ast.declared.place.Placed.{Placed}
use Rattle.gql_syntax.specs.gql_ast.declared.variable.VariableDef.{VariableDef}
use Rattle.gql_parse.specs.Documents.{Written, bare, full, definition_of, documents, nodes_of, spell_braces, spell_name, spell_on, spell_selections, spell_set, spell_optional_name, spell_variables, spell_variables_part, spell_definition, spell_definitions, SomeDefinition}
use Rattle.gql_parse.specs.Nodes.{selections_nodes, variables_nodes, definition_nodes, definitions_nodes, document_nodes}
use Rattle.gql_parse.specs.Trees.{IsDocument}
use Rattle.gql_parse.proofs.Mapped.{map-definition}
use Rattle.gql_syntax.specs.Nodes.{name_nodes}
use Rattle.gql_syntax.specs.Spelling.{Mark, spell_arguments, spell_directives, spell_default}
use Rattle.gql_syntax.proofs.Marks.{map_mark}
use Rattle.gql_syntax.proofs.NodeCounts.{total, node_mark, arguments_total, directives_total, type_total, default_total, placed_count, same_count}

name_total : (a : Option (List ℕ)) (n : List ℕ) (ts : List ℕ) → total (spell_name node_mark a n ts) ≡ 2 + name_nodes a + total ts
name_total None n ts = omega arith
name_total (Some a) n ts = omega arith

on_total : (o : Option (List ℕ)) (ts : List ℕ) → total (spell_on node_mark o ts) ≡ name_nodes o + total ts
on_total None ts = omega arith
on_total (Some n) ts = omega arith

optional_name_total : (n : Option (List ℕ)) (ts : List ℕ) → total (spell_optional_name node_mark n ts) ≡ name_nodes n + total ts
optional_name_total None ts = omega arith
optional_name_total (Some n) ts = omega arith

-- by how many begin inside
braced_total : (s : Sels) (level : ℕ) (inside : List ℕ → List ℕ) → ((ts : List ℕ) → total (inside ts) ≡ selections_nodes s + total ts) → (ts : List ℕ)
    → total (spell_braces node_mark s level inside ts) ≡ selections_nodes s + total ts
braced_total end level inside h ts = omega arith
braced_total (field a n xs ds s rest) level inside h ts = let e = h (0 ∷ ts) in omega (arith, e)
braced_total (spread n ds rest) level inside h ts = let e = h (0 ∷ ts) in omega (arith, e)
braced_total (inline o ds s rest) level inside h ts = let e = h (0 ∷ ts) in omega (arith, e)

selections_total : (s : Sels) (level : ℕ) (ts : List ℕ) → total (spell_selections node_mark s level ts) ≡ selections_nodes s + total ts
selections_total end level ts = omega arith
selections_total (field a n xs ds s rest) level ts =
    let behind = spell_selections node_mark rest level ts in
    let body = spell_braces node_mark s (level + 1) (spell_selections node_mark s (level + 1)) behind in
    let e1 = name_total a n (spell_arguments node_mark xs (spell_directives node_mark ds body)) in
    let e2 = arguments_total xs (spell_directives node_mark ds body) in
    let e3 = directives_total ds body in
    let e4 = braced_total s (level + 1) (spell_selections node_mark s (level + 1)) (selections_total s (level + 1)) behind in
    let e5 = selections_total rest level ts in
    omega (arith, e1, e2, e3, e4, e5)
selections_total (spread n ds rest) level ts =
    let e1 = directives_total ds (spell_selections node_mark rest level ts) in
    let e2 = selections_total rest level ts in
    omega (arith, e1, e2)
selections_total (inline o ds s rest) level ts =
    let behind = spell_selections node_mark rest level ts in
    let body = spell_braces node_mark s (level + 1) (spell_selections node_mark s (level + 1)) behind in
    let e1 = on_total o (spell_directives node_mark ds body) in
    let e2 = directives_total ds body in
    let e3 = braced_total s (level + 1) (spell_selections node_mark s (level + 1)) (selections_total s (level + 1)) behind in
    let e4 = selections_total rest level ts in
    omega (arith, e1, e2, e3, e4)

set_total : (s : Sels) (ts : List ℕ) → total (spell_set node_mark s ts) ≡ selections_nodes s + total ts
set_total s ts = braced_total s 1 (spell_selections node_mark s 1) (selections_total s 1) ts

variables_total : (vs : List VariableDef) (ts : List ℕ) → total (spell_variables node_mark vs ts) ≡ variables_nodes vs + total ts
variables_total [] ts = omega arith
variables_total (v ∷ vs) ts =
    let behind = spell_variables node_mark vs ts in
    let e1 = type_total (ty_of v.of) 0 0 (spell_default node_mark v.default (spell_directives node_mark v.directives behind)) in
    let e2 = default_total v.default (spell_directives node_mark v.directives behind) in
    let e3 = directives_total v.directives behind in
    let e4 = variables_total vs ts in
    omega (arith, e1, e2, e3, e4)

variables_part_total : (vs : List VariableDef) (ts : List ℕ) → total (spell_variables_part node_mark vs ts) ≡ variables_nodes vs + total ts
variables_part_total [] ts = omega arith
variables_part_total (v ∷ vs) ts = let e = variables_total (v ∷ vs) (0 ∷ ts) in omega (arith, e)

-- the nodes that begin at the first token already stand in front
definition_total : (first : ℕ) (w : Written) (ts : List ℕ) → total (spell_definition node_mark first w ts) ≡ first + definition_nodes (definition_of w) + total ts
definition_total first (bare s) ts = let e = selections_total s 1 (0 ∷ ts) in omega (arith, e)
definition_total first (full (D.Operation o)) ts =
    let body = spell_set node_mark o.selections ts in
    let e1 = optional_name_total o.name (spell_variables_part node_mark o.variables (spell_directives node_mark o.directives body)) in
    let e2 = variables_part_total o.variables (spell_directives node_mark o.directives body) in
    let e3 = directives_total o.directives body in
    let e4 = set_total o.selections ts in
    omega (arith, e1, e2, e3, e4)
definition_total first (full (D.Fragment f)) ts =
    let e1 = directives_total f.directives (spell_set node_mark f.selections ts) in
    let e2 = set_total f.selections ts in
    omega (arith, e1, e2)

definitions_total : (ws : List Written) → total (spell_definitions node_mark 0 ws) ≡ definitions_nodes (map definition_of ws)
definitions_total [] = refl
definitions_total (w ∷ ws) =
    let e1 = definition_total 0 w (spell_definitions node_mark 0 ws) in
    let e2 = definitions_total ws in
    omega (arith, e1, e2)

document_total : (ws : List Written) → SomeDefinition ws → total (nodes_of ws) ≡ 1 + definitions_nodes (map definition_of ws)
document_total [] h = absurd h
document_total (w ∷ ws) h =
    let e1 = definition_total 1 w (spell_definitions node_mark 0 ws) in
    let e2 = definitions_total ws in
    omega (arith, e1, e2)

-- ---- as many numbers as tokens

abbrev both : Mark (Tok × ℕ)
both t level nodes = (t, nodes)

map-spelled : {Y : Type 0} (f : Tok × ℕ → Y) (first : ℕ) (ws : List Written) → map f (spell_definitions both first ws) ≡ spell_definitions (map_mark f both) first ws
map-spelled f first [] = refl
map-spelled f first (w ∷ ws) =
    map-definition f both first w (spell_definitions both 0 ws) ∙ ap (λ r. spell_definition (map_mark f both) first w r) (map-spelled f 0 ws)

pub place_count : (file : ℕ) (text : List ℕ) (p : Placed Document) → IsDocument file text p → length p.places ≡ document_nodes p.tree
place_count file text p d =
    let ws = d.written in
    let counts : length (nodes_of ws) ≡ length (documents.tokens ws) =
    same_count (λ (x : Tok × ℕ). x.0) (λ (x : Tok × ℕ). x.1) (spell_definitions both 1 ws) (documents.tokens ws) (nodes_of ws)
    (map-spelled (λ (x : Tok × ℕ). x.0) 1 ws) (map-spelled (λ (x : Tok × ℕ). x.1) 1 ws) in
    let e = placed_count file text (nodes_of ws) (lex_from 0 text) [] (documents.tokens ws) d.tree.tokens counts in
    ap (λ ps. length ps) d.tree.places ∙ e ∙ none (total (nodes_of ws)) ∙ document_total ws d.tree.formed.0 ∙ ap (λ ds. 1 + definitions_nodes ds) (sym d.definitions)
  where
    none : (n : ℕ) → 0 + n ≡ n
    none n = omega arith
