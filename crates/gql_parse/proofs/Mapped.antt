-- Documents as they are written, under maps of what is kept of a token; what was read to the end is written so.
use Rattle.std.proofs.Common.{◌≡◌, ℕ, ◌+◌, List, [], ◌∷◌, map, Option, Some, None, refl, sym, ap, subst, ◌∙◌}
use Rattle.gql_syntax.specs.gql_lex.Toks as tok
use Rattle.gql_syntax.specs.gql_lex.Toks.{Tok}
use Rattle.gql_syntax.specs.gql_ast.Sels.{Sels, end, field, spread, inline}
use Rattle.gql_syntax.specs.gql_ast.TypeView.{ty_of}
use Rattle.gql_syntax.specs.gql_ast.declared.document.Definition.TheVariants as D
use Rattle.gql_syntax.specs.gql_ast.declared.document.Fragment.{Fragment}
use Rattle.gql_syntax.specs.gql_ast.declared.document.Operation.{Operation}
use Rattle.gql_syntax.specs.gql_ast.declared.variable.VariableDef.{VariableDef}
use Rattle.gql_parse.specs.Documents.{Written, bare, full, documents, spell_braces, spell_name, spell_on, spell_selections, spell_set, spell_optional_name, spell_variables, spell_variables_part, spell_operation, spell_fragment, spell_definition, spell_definitions, fragment_word}
use Rattle.gql_parse.specs.Machine.{State, between, finish}
use Rattle.gql_parse.proofs.Complete.{definitions_first}
use Rattle.gql_parse.proofs.Fronts.{definitions_front}
use Rattle.gql_parse.proofs.Shapes.{document_forms}
use Rattle.gql_parse.proofs.Standing.{document_machine, Seated}
use Rattle.gql_syntax.proofs.Laws.{Leveled, Written as WrittenSo}
use Rattle.gql_syntax.proofs.Marks.{map_mark, map-arguments, map-directives, map-type, map-default}
use Rattle.gql_syntax.proofs.Standing.{mark_level, token_mark, level_mark}
use Rattle.gql_syntax.specs.Spelling.{Mark, spell_arguments, spell_directives, spell_type, spell_default}
use Rattle.gql_syntax.specs.Words.{on_word, kind_word}

-- ---- a map of what is kept of each token

module _ {X Y : Type 0} (f : X → Y) (mark : Mark X) where
  map-name : (a : Option (List ℕ)) (n : List ℕ) (ts : List X) → map f (spell_name mark a n ts) ≡ spell_name (map_mark f mark) a n (map f ts)
  map-name None n ts = refl
  map-name (Some a) n ts = refl

  map-on : (o : Option (List ℕ)) (ts : List X) → map f (spell_on mark o ts) ≡ spell_on (map_mark f mark) o (map f ts)
  map-on None ts = refl
  map-on (Some o) ts = refl

  -- what is written inside is mapped alike
  map-braced : (s : Sels) (level : ℕ) (inside : List X → List X) (to : List Y → List Y) (ts : List X) → ((ts : List X) → map f (inside ts) ≡ to (map f ts))
      → map f (spell_braces mark s level inside ts) ≡ spell_braces (map_mark f mark) s level to (map f ts)
  map-braced end level inside to ts h = refl
  map-braced (field a n xs ds s rest) level inside to ts h = ap (λ r. f (mark tok.open_brace level 0) ∷ r) (h (mark tok.close_brace 0 0 ∷ ts))
  map-braced (spread n ds rest) level inside to ts h = ap (λ r. f (mark tok.open_brace level 0) ∷ r) (h (mark tok.close_brace 0 0 ∷ ts))
  map-braced (inline o ds s rest) level inside to ts h = ap (λ r. f (mark tok.open_brace level 0) ∷ r) (h (mark tok.close_brace 0 0 ∷ ts))

  map-selections : (s : Sels) (level : ℕ) (ts : List X) → map f (spell_selections mark s level ts) ≡ spell_selections (map_mark f mark) s level (map f ts)
  map-selections end level ts = refl
  map-selections (field a n xs ds s rest) level ts =
      let behind = spell_selections mark rest level ts in
      let body = spell_braces mark s (level + 1) (spell_selections mark s (level + 1)) behind in
      map-name a n (spell_arguments mark xs (spell_directives mark ds body))
      ∙ ap (λ r. spell_name (map_mark f mark) a n r)
      (map-arguments f mark xs (spell_directives mark ds body)
      ∙ ap (λ r. spell_arguments (map_mark f mark) xs r)
      (map-directives f mark ds body
      ∙ ap (λ r. spell_directives (map_mark f mark) ds r)
      (map-braced s (level + 1) (spell_selections mark s (level + 1)) (spell_selections (map_mark f mark) s (level + 1)) behind (map-selections s (level + 1))
      ∙ ap (λ r. spell_braces (map_mark f mark) s (level + 1) (spell_selections (map_mark f mark) s (level + 1)) r) (map-selections rest level ts))))
  map-selections (spread n ds rest) level ts =
      ap (λ r. f (mark tok.spread 0 1) ∷ f (mark (tok.name n) 0 1) ∷ r)
      (map-directives f mark ds (spell_selections mark rest level ts) ∙ ap (λ r. spell_directives (map_mark f mark) ds r) (map-selections rest level ts))
  map-selections (inline o ds s rest) level ts =
      let behind = spell_selections mark rest level ts in
      let body = spell_braces mark s (level + 1) (spell_selections mark s (level + 1)) behind in
      ap (λ r. f (mark tok.spread 0 1) ∷ r)
      (map-on o (spell_directives mark ds body)
      ∙ ap (λ r. spell_on (map_mark f mark) o r)
      (map-directives f mark ds body
      ∙ ap (λ r. spell_directives (map_mark f mark) ds r)
      (map-braced s (level + 1) (spell_selections mark s (level + 1)) (spell_selections (map_mark f mark) s (level + 1)) behind (map-selections s (level + 1))
      ∙ ap (λ r. spell_braces (map_mark f mark) s (level + 1) (spell_selections (map_mark f mark) s (level + 1)) r) (map-selections rest level ts))))

  map-set : (s : Sels) (ts : List X) → map f (spell_set mark s ts) ≡ spell_set (map_mark f mark) s (map f ts)
  map-set s ts = map-braced s 1 (spell_selections mark s 1) (spell_selections (map_mark f mark) s 1) ts (map-selections s 1)

  map-optional_name : (n : Option (List ℕ)) (ts : List X) → map f (spell_optional_name mark n ts) ≡ spell_optional_name (map_mark f mark) n (map f ts)
  map-optional_name None ts = refl
  map-optional_name (Some n) ts = refl

  map-variables : (vs : List VariableDef) (ts : List X) → map f (spell_variables mark vs ts) ≡ spell_variables (map_mark f mark) vs (map f ts)
  map-variables [] ts = refl
  map-variables (v ∷ vs) ts =
      let behind = spell_variables mark vs ts in
      ap (λ r. f (mark tok.dollar 0 1) ∷ f (mark (tok.name v.name) 0 1) ∷ f (mark tok.colon 0 0) ∷ r)
      (map-type f mark (ty_of v.of) 0 0 (spell_default mark v.default (spell_directives mark v.directives behind))
      ∙ ap (λ r. spell_type (map_mark f mark) (ty_of v.of) 0 0 r)
      (map-default f mark v.default (spell_directives mark v.directives behind)
      ∙ ap (λ r. spell_default (map_mark f mark) v.default r)
      (map-directives f mark v.directives behind ∙ ap (λ r. spell_directives (map_mark f mark) v.directives r) (map-variables vs ts))))

  map-variables_part : (vs : List VariableDef) (ts : List X) → map f (spell_variables_part mark vs ts) ≡ spell_variables_part (map_mark f mark) vs (map f ts)
  map-variables_part [] ts = refl
  map-variables_part (v ∷ vs) ts = ap (λ r. f (mark tok.open_paren 0 0) ∷ r) (map-variables (v ∷ vs) (mark tok.close_paren 0 0 ∷ ts))

  map-operation : (n : ℕ) (o : Operation) (ts : List X) → map f (spell_operation mark n o ts) ≡ spell_operation (map_mark f mark) n o (map f ts)
  map-operation n o ts =
      let body = spell_set mark o.selections ts in
      ap (λ r. f (mark (tok.name (kind_word o.kind)) 0 (n + 2)) ∷ r)
      (map-optional_name o.name (spell_variables_part mark o.variables (spell_directives mark o.directives body))
      ∙ ap (λ r. spell_optional_name (map_mark f mark) o.name r)
      (map-variables_part o.variables (spell_directives mark o.directives body)
      ∙ ap (λ r. spell_variables_part (map_mark f mark) o.variables r)
      (map-directives f mark o.directives body ∙ ap (λ r. spell_directives (map_mark f mark) o.directives r) (map-set o.selections ts))))

  map-fragment : (n : ℕ) (d : Fragment) (ts : List X) → map f (spell_fragment mark n d ts) ≡ spell_fragment (map_mark f mark) n d (map f ts)
  map-fragment n d ts =
      ap (λ r. f (mark (tok.name fragment_word) 0 (n + 2)) ∷ f (mark (tok.name d.name) 0 1) ∷ f (mark (tok.name on_word) 0 0) ∷ f (mark (tok.name d.on) 0 1) ∷ r)
      (map-directives f mark d.directives (spell_set mark d.selections ts) ∙ ap (λ r. spell_directives (map_mark f mark) d.directives r) (map-set d.selections ts))

  pub map-definition : (n : ℕ) (w : Written) (ts : List X) → map f (spell_definition mark n w ts) ≡ spell_definition (map_mark f mark) n w (map f ts)
  map-definition n (bare s) ts = ap (λ r. f (mark tok.open_brace 1 (n + 2)) ∷ r) (map-selections s 1 (mark tok.close_brace 0 0 ∷ ts))
  map-definition n (full (D.Operation o)) ts = map-operation n o ts
  map-definition n (full (D.Fragment d)) ts = map-fragment n d ts

module _ {Y : Type 0} (f : Leveled → Y) where
  map-definitions : (ws : List Written) → map f (definitions_front ws []) ≡ spell_definitions (map_mark f mark_level) 0 ws
  map-definitions [] = refl
  map-definitions (w ∷ ws) = map-definition f mark_level 0 w (definitions_front ws []) ∙ ap (λ r. spell_definition (map_mark f mark_level) 0 w r) (map-definitions ws)

-- ---- the end

pub finish_writes : (limit : ℕ) (s : State) (ws : List Written) → Seated limit s → finish s ≡ Some ws → WrittenSo documents document_machine s ws
finish_writes limit (between (x ∷ xs)) ws h e = on ws e
  where
    on : (ws : List Written) → finish (between (x ∷ xs)) ≡ Some ws → WrittenSo documents document_machine (between (x ∷ xs)) ws
    on ws e =
        let same : x ∷ xs ≡ ws = cc in
        subst (λ w. WrittenSo documents document_machine (between (x ∷ xs)) w) same
        (record {
          tokens = map-definitions (λ (p : Leveled). p.0) (x ∷ xs) ∙ sym (definitions_first token_mark (λ t l n k. refl) (x ∷ xs));
          levels = map-definitions (λ (p : Leveled). p.1) (x ∷ xs) ∙ sym (definitions_first level_mark (λ t l n k. refl) (x ∷ xs));
          formed = document_forms (x ∷ xs) (tt, h);
        })
finish_writes limit s ws h e = cc
