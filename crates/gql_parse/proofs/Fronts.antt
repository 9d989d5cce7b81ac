-- What was read before a state: tokens, each with the number of the selection set, value or type that it opens.
use Rattle.std.proofs.Common.{◌≡◌, ℕ, ◌+◌, List, [], ◌∷◌, ◌++◌, refl, ap}
use Rattle.gql_syntax.specs.gql_lex.Toks as tok
use Rattle.gql_syntax.specs.gql_lex.Toks.{Tok}
use Rattle.gql_syntax.specs.gql_ast.Sels.{Sels, end, field, spread, inline, sels_append}
use Rattle.gql_syntax.specs.gql_ast.declared.variable.VariableDef.{VariableDef}
use Rattle.gql_parse.specs.Documents.{Written, spell_name, spell_on, spell_braces, spell_selections, spell_optional_name, spell_variables, spell_variables_part, spell_operation, spell_fragment, spell_definition, fragment_word}
use Rattle.gql_parse.specs.Machine.{Opening, Titled, VariableName, Typed, Up, of_bare, of_operation, of_fragment, of_field, of_inline, Inside, OpenField, Owner, on_variable, on_operation, on_fragment, on_field, on_spread, on_inline, operation_of, fragment_of}
use Rattle.gql_syntax.proofs.Laws.{Leveled}
use Rattle.gql_syntax.proofs.Standing.{mark_level}
use Rattle.gql_syntax.specs.Spelling.{Mark, spell_arguments, spell_directives, spell_type, spell_default}
use Rattle.gql_syntax.specs.Words.{on_word, kind_word}

-- a token that opens nothing
abbrev pub flat : Tok → Leveled
flat t = (t, 0)

abbrev pub definitions_front : List Written → List Leveled → List Leveled
definitions_front [] ts = ts
definitions_front (w ∷ ws) ts = spell_definition mark_level 0 w (definitions_front ws ts)

-- the number of the set that stands there
abbrev pub level_of : Up → ℕ
level_of (of_bare ws) = 1
level_of (of_operation o vs ds) = 1
level_of (of_fragment f ds) = 1
level_of (of_field b a n xs ds up) = level_of up + 1
level_of (of_inline b o ds up) = level_of up + 1

-- what stands before the `{` of the set
abbrev pub up_front : Up → List Leveled → List Leveled
up_front (of_bare ws) ts = definitions_front ws ts
up_front (of_operation o vs ds) ts = definitions_front o.before (spell_operation mark_level 0 (operation_of o vs ds end) ts)
up_front (of_fragment f ds) ts = definitions_front f.before (spell_fragment mark_level 0 (fragment_of f ds end) ts)
up_front (of_field b a n xs ds up) ts =
    up_front up ((tok.open_brace, level_of up) ∷ spell_selections mark_level b (level_of up) (spell_selections mark_level (field a n xs ds end end) (level_of up) ts))
up_front (of_inline b o ds up) ts =
    up_front up ((tok.open_brace, level_of up) ∷ spell_selections mark_level b (level_of up) (spell_selections mark_level (inline o ds end end) (level_of up) ts))

abbrev pub set_front : Inside → List Leveled → List Leveled
set_front i ts = up_front i.up ((tok.open_brace, level_of i.up) ∷ spell_selections mark_level i.before (level_of i.up) ts)

abbrev pub opening_front : Opening → List Leveled → List Leveled
opening_front o ts = definitions_front o.before (flat (tok.name (kind_word o.kind)) ∷ spell_optional_name mark_level o.name ts)

abbrev pub variables_front : Opening → List VariableDef → List Leveled → List Leveled
variables_front o vs ts = opening_front o (flat tok.open_paren ∷ spell_variables mark_level vs ts)

abbrev pub variable_front : VariableName → List Leveled → List Leveled
variable_front v ts = variables_front v.opening v.before (flat tok.dollar ∷ flat (tok.name v.name) ∷ flat tok.colon ∷ ts)

abbrev pub typed_front : Typed → List Leveled → List Leveled
typed_front v ts = variable_front v.variable (spell_type mark_level v.of 0 0 ts)

abbrev pub titled_front : Titled → List Leveled → List Leveled
titled_front f ts =
    definitions_front f.before (flat (tok.name fragment_word) ∷ flat (tok.name f.name) ∷ flat (tok.name on_word) ∷ flat (tok.name f.on) ∷ ts)

abbrev pub field_front : OpenField → List Leveled → List Leveled
field_front f ts = set_front f.inside (spell_name mark_level f.alias f.name ts)

abbrev pub owner_front : Owner → List Leveled → List Leveled
owner_front (on_variable v default) ts = typed_front v (spell_default mark_level default ts)
owner_front (on_operation o vs) ts = opening_front o (spell_variables_part mark_level vs ts)
owner_front (on_fragment f) ts = titled_front f ts
owner_front (on_field f xs) ts = field_front f (spell_arguments mark_level xs ts)
owner_front (on_spread i n) ts = set_front i (flat tok.spread ∷ flat (tok.name n) ∷ ts)
owner_front (on_inline i o) ts = set_front i (flat tok.spread ∷ spell_on mark_level o ts)

-- ---- what is read comes behind what was read

pub definitions_front-push : (ws : List Written) (w : Written) (ts : List Leveled) → definitions_front (ws ++ w ∷ []) ts ≡ definitions_front ws (spell_definition mark_level 0 w ts)
definitions_front-push [] w ts = refl
definitions_front-push (x ∷ ws) w ts = ap (λ r. spell_definition mark_level 0 x r) (definitions_front-push ws w ts)

pub spell_selections-followed : {X : Type 0} (mark : Mark X) (s t : Sels) (level : ℕ) (ts : List X) → spell_selections mark (sels_append s t) level ts ≡ spell_selections mark s level (spell_selections mark t level ts)
spell_selections-followed mark end t level ts = refl
spell_selections-followed mark (field a n xs ds s rest) t level ts =
    ap (λ r. spell_name mark a n (spell_arguments mark xs (spell_directives mark ds (spell_braces mark s (level + 1) (spell_selections mark s (level + 1)) r)))) (spell_selections-followed mark rest t level ts)
spell_selections-followed mark (spread n ds rest) t level ts =
    ap (λ r. mark tok.spread 0 1 ∷ mark (tok.name n) 0 1 ∷ spell_directives mark ds r) (spell_selections-followed mark rest t level ts)
spell_selections-followed mark (inline o ds s rest) t level ts =
    ap (λ r. mark tok.spread 0 1 ∷ spell_on mark o (spell_directives mark ds (spell_braces mark s (level + 1) (spell_selections mark s (level + 1)) r))) (spell_selections-followed mark rest t level ts)

pub spell_variables-push : {X : Type 0} (mark : Mark X) (vs ws : List VariableDef) (ts : List X) → spell_variables mark (vs ++ ws) ts ≡ spell_variables mark vs (spell_variables mark ws ts)
spell_variables-push mark [] ws ts = refl
spell_variables-push mark (v ∷ vs) ws ts = ap (λ r. spell_variables mark (v ∷ []) r) (spell_variables-push mark vs ws ts)
