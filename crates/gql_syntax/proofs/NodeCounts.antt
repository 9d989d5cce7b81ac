-- The numbers of nodes that begin at the tokens of a tree are as many as the tree has nodes, and so are the places.
use Rattle.std.proofs.Common.{◌≡◌, ℕ, ◌+◌, List, [], ◌∷◌, ◌++◌, length, map, replicate, option_map, Option, Some, None, refl, sym, ap, ◌∙◌, arith}
use Rattle.std.proofs.lemmas.List.{length-append, length-map, length-replicate}
use Rattle.gql_lex.specs.Sources.{Source, ended, faulty, token}
use Rattle.gql_lex.specs.Toks.{Tok, tok_of_piece, toks_of}
use Rattle.gql_ast.specs.Ty as ty
use Rattle.gql_ast.specs.Ty.{Ty}
use Rattle.gql_ast.specs.Value.{Val, Vals, Members, variable, int, text, truth, null, enum, list, object, no_vals, val, no_members, member, members_of}
use Rattle.gql_ast.specs.ValueView.{value_of}
use Rattle.gql_ast.specs.declared.directive.Directive.{Directive}
use Rattle.gql_ast.specs.declared.place.FilePlace.{FilePlace}
use Rattle.gql_ast.specs.declared.value.ValueTree.{ValueTree}
use Rattle.gql_syntax.specs.Nodes.{value_nodes, values_nodes, members_nodes, arguments_nodes, directives_nodes, type_nodes, default_nodes}
use Rattle.gql_syntax.specs.Places.{file_place, place_nodes}
use Rattle.gql_syntax.specs.Spelling.{Mark, spell_value, spell_values, spell_members, spell_arguments, spell_directives, spell_type, spell_default}

abbrev pub total : List ℕ → ℕ
total [] = 0
total (n ∷ ns) = n + total ns

abbrev pub node_mark : Mark ℕ
node_mark t level nodes = nodes

mutual
  pub value_total : (v : Val) (around : ℕ) (ts : List ℕ) → total (spell_value node_mark v around ts) ≡ value_nodes v + total ts
  value_total (variable n) around ts = omega arith
  value_total (int n) around ts = omega arith
  value_total (text t) around ts = omega arith
  value_total (truth b) around ts = omega arith
  value_total null around ts = omega arith
  value_total (enum n) around ts = omega arith
  value_total (list vs) around ts = let e = values_total vs (around + 1) (0 ∷ ts) in omega (arith, e)
  value_total (object ms) around ts = let e = members_total ms (around + 1) (0 ∷ ts) in omega (arith, e)

  pub values_total : (vs : Vals) (around : ℕ) (ts : List ℕ) → total (spell_values node_mark vs around ts) ≡ values_nodes vs + total ts
  values_total no_vals around ts = omega arith
  values_total (val v vs) around ts =
      let e = value_total v around (spell_values node_mark vs around ts) in
      let f = values_total vs around ts in
      omega (arith, e, f)

  pub members_total : (ms : Members) (around : ℕ) (ts : List ℕ) → total (spell_members node_mark ms around ts) ≡ members_nodes ms + total ts
  members_total no_members around ts = omega arith
  members_total (member n v ms) around ts =
      let e = value_total v around (spell_members node_mark ms around ts) in
      let f = members_total ms around ts in
      omega (arith, e, f)

pub arguments_total : (xs : List (List ℕ × Val)) (ts : List ℕ) → total (spell_arguments node_mark xs ts) ≡ arguments_nodes xs + total ts
arguments_total [] ts = omega arith
arguments_total (x ∷ xs) ts = let e = members_total (members_of (x ∷ xs)) 0 (0 ∷ ts) in omega (arith, e)

pub directives_total : (ds : List Directive) (ts : List ℕ) → total (spell_directives node_mark ds ts) ≡ directives_nodes ds + total ts
directives_total [] ts = omega arith
directives_total (d ∷ ds) ts =
    let e = arguments_total d.arguments (spell_directives node_mark ds ts) in
    let f = directives_total ds ts in
    omega (arith, e, f)

pub type_total : (t : Ty) (around above : ℕ) (ts : List ℕ) → total (spell_type node_mark t around above ts) ≡ above + type_nodes t + total ts
type_total (ty.named n) around above ts = omega arith
type_total (ty.list t) around above ts = let e = type_total t (around + 1) 0 (0 ∷ ts) in omega (arith, e)
type_total (ty.non_null t) around above ts = let e = type_total t around (above + 1) (0 ∷ ts) in omega (arith, e)

pub default_total : (d : Option ValueTree) (ts : List ℕ) → total (spell_default node_mark d ts) ≡ default_nodes d + total ts
default_total None ts = omega arith
default_total (Some v) ts = let e = value_total (value_of v) 0 ts in omega (arith, e)

-- ---- the places

-- where the tokens ahead are as many as the numbers
pub placed_count : (file : ℕ) (whole : List ℕ) (ns : List ℕ) (s : Source) (there : List FilePlace) (ts : List Tok) → toks_of s ≡ Some ts → length ns ≡ length ts
    → length (place_nodes file whole there ns s) ≡ length there + total ns
placed_count file whole [] s there ts e l = omega arith
placed_count file whole (n ∷ ns) ended there ts e l = let same : [] ≡ ts = cc in absurd (let m : length (n ∷ ns) ≡ length {A = Tok} [] = l ∙ ap (λ us. length us) (sym same) in omega (arith, m))
placed_count file whole (n ∷ ns) (faulty code at) there ts e l = absurd cc
placed_count file whole (n ∷ ns) (token p rest) there ts e l =
    on_rest (toks_of rest) refl e
    (λ us d m. placed_count file whole ns rest (there ++ replicate n (file_place file whole p.start)) us d m)
  where
    on_rest : (o : Option (List Tok)) → toks_of rest ≡ o → option_map (λ ts. tok_of_piece p ∷ ts) o ≡ Some ts
        → ((us : List Tok) → toks_of rest ≡ Some us → length ns ≡ length us
        → length (place_nodes file whole (there ++ replicate n (file_place file whole p.start)) ns rest) ≡ length (there ++ replicate n (file_place file whole p.start)) + total ns)
        → length (place_nodes file whole there (n ∷ ns) (token p rest)) ≡ length there + total (n ∷ ns)
    on_rest None d e next = absurd cc
    on_rest (Some us) d e next =
        let same : tok_of_piece p ∷ us ≡ ts = cc e in
        let m : length (n ∷ ns) ≡ length (tok_of_piece p ∷ us) = l ∙ ap (λ us. length us) (sym same) in
        let k = next us d (omega (arith, m)) in
        let both : length (there ++ replicate n (file_place file whole p.start)) ≡ length there + n =
        length-append there (replicate n (file_place file whole p.start)) ∙ ap (λ k. length there + k) (length-replicate n (file_place file whole p.start)) in
        omega (arith, k, both)

-- two marks of one spelling, that keeps what both keep, are equally many
pub same_count : {X Y Z : Type 0} (f : X → Y) (g : X → Z) (xs : List X) (ys : List Y) (zs : List Z) → map f xs ≡ ys → map g xs ≡ zs → length zs ≡ length ys
same_count f g xs ys zs e h =
    ap (λ l. length l) (sym h) ∙ length-map xs g ∙ sym (length-map xs f) ∙ ap (λ l. length l) e
