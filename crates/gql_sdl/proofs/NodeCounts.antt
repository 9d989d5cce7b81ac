-- A schema has as many places as nodes.
use Rattle.std.proofs.Common.{◌≡◌, ℕ, ◌+◌, Bool, true, false, List, [], ◌∷◌, length, map, Some, None, refl, sym, ap, ◌∙◌, arith}
use Rattle.gql_syntax.specs.gql_lex.Sources.{lex_from}
use Rattle.gql_syntax.specs.gql_lex.Toks as tok
use Rattle.gql_syntax.specs.gql_lex.Toks.{Tok}
use Rattle.gql_syntax.specs.gql_ast.TypeView.{ty_of}
use Rattle.gql_syntax.specs.gql_ast.declared.directive.Directive.{Directive}
use Rattle.gql_syntax.specs.gql_ast.declared.place.Placed.{Placed}
use Rattle.gql_syntax.specs.gql_ast.declared.schema.Root.{Root}
use Rattle.gql_syntax.specs.gql_ast.declared.schema.SchemaTree.{SchemaTree}
use Rattle.gql_sdl.specs.Nodes.{inputs_nodes, fields_nodes, enum_values_nodes, roots_nodes, definition_nodes, definitions_nodes, schema_nodes}
use Rattle.gql_sdl.specs.Schemas.{location_word, Description, WrittenInput, WrittenField, WrittenValue, Written, schema, scalar, object, interface, union, enum, input, directive, Described, NotEmpty, inputs_of, field_of, values_of, written_of, definition_of, schemas, nodes_of, spell_description, spell_inputs, spell_argument_defs, spell_input_fields, spell_fields, spell_fields_part, spell_enum_values, spell_enum_values_part, spell_roots, spell_leading, spell_further, spell_separated, spell_implements, spell_members_part, spell_repeatable, spell_written, spell_described, spell_definitions}
use Rattle.gql_sdl.specs.Trees.{IsSchema}
use Rattle.gql_sdl.proofs.Wholes.{map-definitions}
use Rattle.gql_syntax.specs.Nodes.{directives_nodes}
use Rattle.gql_syntax.specs.Spelling.{Mark, spell_directives, spell_type, spell_default}
use Rattle.gql_syntax.proofs.NodeCounts.{total, node_mark, directives_total, type_total, default_total, placed_count, same_count}

description_total : (d : Description) (ts : List ℕ) → total (spell_description node_mark d ts) ≡ total ts
description_total None ts = refl
description_total (Some d) ts = omega arith

inputs_total : (ws : List WrittenInput) (ts : List ℕ) → total (spell_inputs node_mark ws ts) ≡ inputs_nodes (inputs_of ws) + total ts
inputs_total [] ts = omega arith
inputs_total (w ∷ ws) ts =
    let behind = spell_inputs node_mark ws ts in
    let directives = spell_directives node_mark w.input.directives behind in
    let e1 = description_total w.description (2 ∷ 0 ∷ spell_type node_mark (ty_of w.input.of) 0 0 (spell_default node_mark w.input.default directives)) in
    let e2 = type_total (ty_of w.input.of) 0 0 (spell_default node_mark w.input.default directives) in
    let e3 = default_total w.input.default directives in
    let e4 = directives_total w.input.directives behind in
    let e5 = inputs_total ws ts in
    omega (arith, e1, e2, e3, e4, e5)

argument_defs_total : (ws : List WrittenInput) (ts : List ℕ) → total (spell_argument_defs node_mark ws ts) ≡ inputs_nodes (inputs_of ws) + total ts
argument_defs_total [] ts = omega arith
argument_defs_total (w ∷ ws) ts = let e = inputs_total (w ∷ ws) (0 ∷ ts) in omega (arith, e)

input_fields_total : (ws : List WrittenInput) (ts : List ℕ) → total (spell_input_fields node_mark ws ts) ≡ inputs_nodes (inputs_of ws) + total ts
input_fields_total [] ts = omega arith
input_fields_total (w ∷ ws) ts = let e = inputs_total (w ∷ ws) (0 ∷ ts) in omega (arith, e)

fields_total : (fs : List WrittenField) (ts : List ℕ) → total (spell_fields node_mark fs ts) ≡ fields_nodes (map field_of fs) + total ts
fields_total [] ts = omega arith
fields_total (f ∷ fs) ts =
    let behind = spell_fields node_mark fs ts in
    let directives = spell_directives node_mark f.directives behind in
    let rest = 0 ∷ spell_type node_mark (ty_of f.of) 0 0 directives in
    let e1 = description_total f.description (2 ∷ spell_argument_defs node_mark f.arguments rest) in
    let e2 = argument_defs_total f.arguments rest in
    let e3 = type_total (ty_of f.of) 0 0 directives in
    let e4 = directives_total f.directives behind in
    let e5 = fields_total fs ts in
    omega (arith, e1, e2, e3, e4, e5)

fields_part_total : (fs : List WrittenField) (ts : List ℕ) → total (spell_fields_part node_mark fs ts) ≡ fields_nodes (map field_of fs) + total ts
fields_part_total [] ts = omega arith
fields_part_total (f ∷ fs) ts = let e = fields_total (f ∷ fs) (0 ∷ ts) in omega (arith, e)

values_total : (vs : List WrittenValue) (ts : List ℕ) → total (spell_enum_values node_mark vs ts) ≡ enum_values_nodes (values_of vs) + total ts
values_total [] ts = omega arith
values_total (v ∷ vs) ts =
    let behind = spell_enum_values node_mark vs ts in
    let e1 = description_total v.description (2 ∷ spell_directives node_mark v.value.directives behind) in
    let e2 = directives_total v.value.directives behind in
    let e3 = values_total vs ts in
    omega (arith, e1, e2, e3)

values_part_total : (vs : List WrittenValue) (ts : List ℕ) → total (spell_enum_values_part node_mark vs ts) ≡ enum_values_nodes (values_of vs) + total ts
values_part_total [] ts = omega arith
values_part_total (v ∷ vs) ts = let e = values_total (v ∷ vs) (0 ∷ ts) in omega (arith, e)

roots_total : (rs : List Root) (ts : List ℕ) → total (spell_roots node_mark rs ts) ≡ roots_nodes rs + total ts
roots_total [] ts = omega arith
roots_total (r ∷ rs) ts = let e = roots_total rs ts in omega (arith, e)

-- ---- lists with separators

leading_total : (separator : Tok) (leading : Bool) (ts : List ℕ) → total (spell_leading node_mark separator leading ts) ≡ total ts
leading_total separator false ts = refl
leading_total separator true ts = omega arith

further_total : (separator : Tok) (ns : List (List ℕ)) (ts : List ℕ) → total (spell_further node_mark separator 1 ns ts) ≡ length ns + total ts
further_total separator [] ts = omega arith
further_total separator (n ∷ ns) ts = let e = further_total separator ns ts in omega (arith, e)

separated_total : (separator : Tok) (leading : Bool) (ns : List (List ℕ)) (ts : List ℕ) → total (spell_separated node_mark separator 1 leading ns ts) ≡ length ns + total ts
separated_total separator leading [] ts = omega arith
separated_total separator leading (n ∷ ns) ts =
    let e1 = leading_total separator leading (1 ∷ spell_further node_mark separator 1 ns ts) in
    let e2 = further_total separator ns ts in
    omega (arith, e1, e2)

implements_total : (leading : Bool) (ns : List (List ℕ)) (ts : List ℕ) → total (spell_implements node_mark leading ns ts) ≡ length ns + total ts
implements_total leading [] ts = omega arith
implements_total leading (n ∷ ns) ts = let e = separated_total tok.ampersand leading (n ∷ ns) ts in omega (arith, e)

members_total : (leading : Bool) (ns : List (List ℕ)) (ts : List ℕ) → total (spell_members_part node_mark leading ns ts) ≡ length ns + total ts
members_total leading [] ts = omega arith
members_total leading (n ∷ ns) ts = let e = separated_total tok.bar leading (n ∷ ns) ts in omega (arith, e)

-- words that are no nodes
words_total : (separator : Tok) (ns : List (List ℕ)) (ts : List ℕ) → total (spell_further node_mark separator 0 ns ts) ≡ total ts
words_total separator [] ts = refl
words_total separator (n ∷ ns) ts = let e = words_total separator ns ts in omega (arith, e)

locations_total : (separator : Tok) (leading : Bool) (ns : List (List ℕ)) (ts : List ℕ) → total (spell_separated node_mark separator 0 leading ns ts) ≡ total ts
locations_total separator leading [] ts = refl
locations_total separator leading (n ∷ ns) ts =
    let e1 = leading_total separator leading (0 ∷ spell_further node_mark separator 0 ns ts) in
    let e2 = words_total separator ns ts in
    omega (arith, e1, e2)

repeatable_total : (b : Bool) (ts : List ℕ) → total (spell_repeatable node_mark b ts) ≡ total ts
repeatable_total false ts = refl
repeatable_total true ts = omega arith

-- ---- definitions; the nodes that begin at the first token stand in front

fielded_total : (leading : Bool) (is : List (List ℕ)) (ds : List Directive) (fs : List WrittenField) (ts : List ℕ)
    → total (spell_implements node_mark leading is (spell_directives node_mark ds (spell_fields_part node_mark fs ts))) ≡ length is + directives_nodes ds + fields_nodes (map field_of fs) + total ts
fielded_total leading is ds fs ts =
    let e1 = implements_total leading is (spell_directives node_mark ds (spell_fields_part node_mark fs ts)) in
    let e2 = directives_total ds (spell_fields_part node_mark fs ts) in
    let e3 = fields_part_total fs ts in
    omega (arith, e1, e2, e3)

written_total : (first : ℕ) (w : Written) (ts : List ℕ) → total (spell_written node_mark first w ts) + 1 ≡ first + definition_nodes (written_of w) + total ts
written_total first (schema ds rs) ts =
    let e1 = directives_total ds (0 ∷ spell_roots node_mark rs (0 ∷ ts)) in
    let e2 = roots_total rs (0 ∷ ts) in
    omega (arith, e1, e2)
written_total first (scalar n ds) ts = let e1 = directives_total ds ts in omega (arith, e1)
written_total first (object n leading is ds fs) ts = let e1 = fielded_total leading is ds fs ts in omega (arith, e1)
written_total first (interface n leading is ds fs) ts = let e1 = fielded_total leading is ds fs ts in omega (arith, e1)
written_total first (union n ds leading ms) ts =
    let e1 = directives_total ds (spell_members_part node_mark leading ms ts) in
    let e2 = members_total leading ms ts in
    omega (arith, e1, e2)
written_total first (enum n ds vs) ts =
    let e1 = directives_total ds (spell_enum_values_part node_mark vs ts) in
    let e2 = values_part_total vs ts in
    omega (arith, e1, e2)
written_total first (input n ds ws) ts =
    let e1 = directives_total ds (spell_input_fields node_mark ws ts) in
    let e2 = input_fields_total ws ts in
    omega (arith, e1, e2)
written_total first (directive n ws repeatable leading ls) ts =
    let locations = spell_separated node_mark tok.bar 0 leading (map location_word ls) ts in
    let e1 = argument_defs_total ws (spell_repeatable node_mark repeatable (0 ∷ locations)) in
    let e2 = repeatable_total repeatable (0 ∷ locations) in
    let e3 = locations_total tok.bar leading (map location_word ls) ts in
    omega (arith, e1, e2, e3)

described_total : (above : ℕ) (d : Description) (w : Written) (ts : List ℕ) → total (spell_described node_mark above d w ts) ≡ above + definition_nodes (written_of w) + total ts
described_total above None w ts = let e = written_total (above + 1) w ts in omega (arith, e)
described_total above (Some d) w ts = let e = written_total 0 w ts in omega (arith, e)

definitions_total : (ds : List Described) → total (spell_definitions node_mark 0 ds) ≡ definitions_nodes (map definition_of ds)
definitions_total [] = refl
definitions_total (d ∷ ds) =
    let e1 = described_total 0 d.description d.written (spell_definitions node_mark 0 ds) in
    let e2 = definitions_total ds in
    omega (arith, e1, e2)

schema_total : (ds : List Described) → NotEmpty ds → total (nodes_of ds) ≡ 1 + definitions_nodes (map definition_of ds)
schema_total [] h = absurd h
schema_total (d ∷ ds) h =
    let e1 = described_total 1 d.description d.written (spell_definitions node_mark 0 ds) in
    let e2 = definitions_total ds in
    omega (arith, e1, e2)

-- ---- as many numbers as tokens

abbrev both : Mark (Tok × ℕ)
both t level nodes = (t, nodes)

pub place_count : (file : ℕ) (text : List ℕ) (p : Placed SchemaTree) → IsSchema file text p → length p.places ≡ schema_nodes p.tree
place_count file text p s =
    let ws = s.written in
    let counts : length (nodes_of ws) ≡ length (schemas.tokens ws) =
    same_count (λ (x : Tok × ℕ). x.0) (λ (x : Tok × ℕ). x.1) (spell_definitions both 1 ws) (schemas.tokens ws) (nodes_of ws)
    (map-definitions (λ (x : Tok × ℕ). x.0) both 1 ws) (map-definitions (λ (x : Tok × ℕ). x.1) both 1 ws) in
    let e = placed_count file text (nodes_of ws) (lex_from 0 text) [] (schemas.tokens ws) s.tree.tokens counts in
    ap (λ ps. length ps) s.tree.places ∙ e ∙ none (total (nodes_of ws)) ∙ schema_total ws s.tree.formed.0 ∙ ap (λ ds. 1 + definitions_nodes ds) (sym s.definitions)
  where
    none : (n : ℕ) → 0 + n ≡ n
    none n = omega arith
