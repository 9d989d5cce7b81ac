-- Each step of the machine reads its token, opens not too much, and comes to a state of the same kind; and where a token
-- would open too much, it does.
use Rattle.std.proofs.Common.{◌≡◌, ◌≤◌, ◌<◌, ℕ, zero, suc, ◌+◌, Bool, true, false, cond, bytes_eq, List, [], ◌∷◌, ◌++◌, Option, None, Result, Ok, Err, IfOk, refl, sym, ap, subst, ◌∙◌, arith, zero-le, add-zero}
use Rattle.std.proofs.lemmas.Slice.Eq.{bytes_eq-Decides}
use Rattle.std.specs.List.{AllByRecursion}
use Rattle.gql_syntax.specs.gql_lex.Toks as tok
use Rattle.gql_syntax.specs.gql_lex.Toks.{Tok}
use Rattle.gql_syntax.specs.gql_ast.Sels.{Sels, end, field, spread, inline, sels_append}
use Rattle.gql_syntax.specs.gql_ast.declared.directive.Directive.{Directive}
use Rattle.gql_syntax.specs.gql_ast.declared.document.Definition.TheVariants as D
use Rattle.gql_syntax.specs.gql_ast.declared.document.Kind.{Kind}
use Rattle.gql_syntax.specs.gql_ast.declared.document.Kind.TheVariants.{Query, Mutation, Subscription}
use Rattle.gql_syntax.specs.gql_ast.declared.value.ValueTree.{ValueTree}
use Rattle.gql_syntax.specs.gql_ast.declared.variable.VariableDef.{VariableDef}
use Rattle.gql_syntax.proofs.BuiltTrees.{value_of-value_tree, ty_of-type_tree}
use Rattle.gql_parse.specs.Documents.{Written, bare, full, spell_braces, spell_selections, spell_operation, spell_fragment, spell_variables, SomeSelection, fragment_word}
use Rattle.gql_parse.proofs.Shapes.{ShapedSelections, ShapedVariable, ShapedWritten}
use Rattle.gql_parse.specs.Machine.{Opening, VariableName, Typed, Up, of_bare, of_operation, of_fragment, of_field, of_inline, Inside, OpenField, Owner, on_variable, on_operation, on_fragment, on_field, on_spread, on_inline, State, between, kinded, called, variables, dollar, variable_named, in_type, typed, in_value, fragment_begun, fragment_named, fragment_on, set, named, aliased, field_named, dotted, on, in_arguments, in_directives, advance, then_selection, open_set, operation_of, fragment_of, close_set, may_close, at_set, at_variables, variable_of, variables_with, field_of, within_field, after_directives, at_directives, at_called, at_kinded, Word, kind, fragment, other, word_of, begin_definition, at_definition, typed_variable, at_typed, after_type, with_default, at_field, at_named, with_arguments, dotted_name, at_dotted, fragment_name, fragment_condition}
use Rattle.gql_parse.proofs.Fronts.{flat, definitions_front, definitions_front-push, spell_selections-followed, spell_variables-push, level_of, up_front, set_front, opening_front, variables_front, typed_front, field_front, owner_front}
use Rattle.gql_parse.proofs.Standing.{so_far, brace_level, field_level, owner_level, level_at, ShapedDefinitions, ShapedUp, SeatedInside, ShapedVariables, ShapedTyped, ShapedFragmentName, SeatedOwner, owner_constant, Seated, variable_ground, typed_ground, field_ground, owner_ground}
use Rattle.gql_syntax.proofs.Laws.{Leveled}
use Rattle.gql_syntax.proofs.ArgumentLaws.{arguments_sounds, arguments_shallows, arguments_seats, arguments_deeps}
use Rattle.gql_syntax.proofs.DirectiveLaws.{directives_sounds, directives_shallows, directives_seats, directives_deeps}
use Rattle.gql_syntax.proofs.Standing.{mark_level, IfTooDeep}
use Rattle.gql_syntax.proofs.TypeLaws.{type_sounds, type_shallows, type_seats, type_deeps}
use Rattle.gql_syntax.proofs.ValueLaws.{value_sounds, value_shallows, value_seats, value_deeps}
use Rattle.gql_syntax.proofs.Shapes.{ShapedDirectives, ShapedDefault, ShapedType, ShapedValue}
use Rattle.gql_syntax.specs.Machine.{Reading, Arguing, Directing, Typing}
use Rattle.gql_syntax.specs.Run.{Halt, unexpected, too_deep}
use Rattle.gql_syntax.specs.Spelling.{Mark, spell_directives, spell_type, spell_default, spell_value}
use Rattle.gql_syntax.specs.Words.{on_word, kind_word}

-- ---- parts that are formed

pub all-push : {A : Type 0} (P : A → Type 0) (xs : List A) (x : A) → AllByRecursion P xs → P x → AllByRecursion P (xs ++ x ∷ [])
all-push P [] x h p = (p, tt)
all-push P (y ∷ ys) x h p = (h.0, all-push P ys x h.1 p)

pub shaped-followed : (s t : Sels) → ShapedSelections s → ShapedSelections t → ShapedSelections (sels_append s t)
shaped-followed end t h k = k
shaped-followed (field a n xs ds s rest) t h k = (h.0, h.1, h.2, shaped-followed rest t h.3 k)
shaped-followed (spread n ds rest) t h k = (h.0, h.1, shaped-followed rest t h.2 k)
shaped-followed (inline o ds s rest) t h k = (h.0, h.1, h.2, shaped-followed rest t h.3 k)

pub braced_some : {X : Type 0} (mark : Mark X) (s : Sels) (level : ℕ) (inside : List X → List X) (ts : List X) → SomeSelection s → spell_braces mark s level inside ts ≡ mark tok.open_brace level 0 ∷ inside (mark tok.close_brace 0 0 ∷ ts)
braced_some mark end level inside ts h = absurd h
braced_some mark (field a n xs ds s rest) level inside ts h = refl
braced_some mark (spread n ds rest) level inside ts h = refl
braced_some mark (inline o ds s rest) level inside ts h = refl

-- ---- steps

-- the step takes the token, which opens so much, behind what was read
pub record Takes (limit : ℕ) (front : List Leveled → List Leveled) (t : Tok) (level : ℕ) (next : State) : Type 0 where
  pub sound : (ts : List Leveled) → so_far next ts ≡ front ((t, level) ∷ ts)
  pub shallow : level ≤ limit
  pub seated : Seated limit next

abbrev pub Steps : (limit : ℕ) → (List Leveled → List Leveled) → Tok → (level : ℕ) → Result State Halt → Type 0
Steps limit front t level (Ok s) = Takes limit front t level s
Steps limit front t level (Err unexpected) = Unit {0}
Steps limit front t level (Err too_deep) = limit < level

-- the same behind what is read alike
pub step_moves : (limit : ℕ) (front to : List Leveled → List Leveled) (t : Tok) (level : ℕ) (r : Result State Halt) → ((ts : List Leveled) → front ts ≡ to ts) → Steps limit front t level r → Steps limit to t level r
step_moves limit front to t level (Ok s) e h = record { sound = λ ts. h.sound ts ∙ e ((t, level) ∷ ts); shallow = h.shallow; seated = h.seated }
step_moves limit front to t level (Err unexpected) e h = tt
step_moves limit front to t level (Err too_deep) e h = h

-- a step that opens nothing
pub flat_step : (limit : ℕ) (front : List Leveled → List Leveled) (t : Tok) (next : State) → ((ts : List Leveled) → so_far next ts ≡ front ((t, 0) ∷ ts)) → Seated limit next → Takes limit front t 0 next
flat_step limit front t next e h = record { sound = e; shallow = zero-le; seated = h }

open_set-steps : (limit room : ℕ) (up : Up) → room + level_of up ≡ limit + 1 → ShapedUp up → Steps limit (up_front up) tok.open_brace (level_of up) (open_set room up)
open_set-steps limit zero up e f = omega (arith, e)
open_set-steps limit (suc room) up e f = record {
  sound = λ ts. refl;
  shallow = omega (arith, e);
  seated = record { room = omega (arith, e); formed = tt; up = f };
}

close_set-takes : (limit room : ℕ) (s : Sels) (up : Up) → SomeSelection s → room + level_of up ≡ limit → ShapedSelections s → ShapedUp up
    → Takes limit (λ ts. up_front up ((tok.open_brace, level_of up) ∷ spell_selections mark_level s (level_of up) ts)) tok.close_brace 0 (close_set room s up)
close_set-takes limit room s (of_bare ws) some e h f = flat_step _ _ _ _ (λ ts. definitions_front-push ws (bare s) ts) (all-push ShapedWritten ws (bare s) f (some, h))
close_set-takes limit room s (of_operation o vs ds) some e h f =
    flat_step _ _ _ _
    (λ ts. definitions_front-push o.before (full (D.Operation (operation_of o vs ds s))) ts
    ∙ ap (λ r. definitions_front o.before (spell_operation mark_level 0 (operation_of o vs ds end) r)) (braced_some mark_level s 1 (spell_selections mark_level s 1) ts some))
    (all-push ShapedWritten o.before (full (D.Operation (operation_of o vs ds s))) f.0 (f.1, f.2, (some, h)))
close_set-takes limit room s (of_fragment t ds) some e h f =
    flat_step _ _ _ _
    (λ ts. definitions_front-push t.before (full (D.Fragment (fragment_of t ds s))) ts
    ∙ ap (λ r. definitions_front t.before (spell_fragment mark_level 0 (fragment_of t ds end) r)) (braced_some mark_level s 1 (spell_selections mark_level s 1) ts some))
    (all-push ShapedWritten t.before (full (D.Fragment (fragment_of t ds s))) f.0 (f.1, f.2, (some, h)))
close_set-takes limit room s (of_field b a n xs ds up) some e h f =
    flat_step _ _ _ _
    (λ ts. ap (λ r. up_front up ((tok.open_brace, level_of up) ∷ r))
    (spell_selections-followed mark_level b (field a n xs ds s end) (level_of up) ts
    ∙ ap (λ r. spell_selections mark_level b (level_of up) (spell_selections mark_level (field a n xs ds end end) (level_of up) r))
    (braced_some mark_level s (level_of up + 1) (spell_selections mark_level s (level_of up + 1)) ts some)))
    (record { room = omega (arith, e); formed = shaped-followed b (field a n xs ds s end) f.0 (f.1, f.2, h, tt); up = f.3 })
close_set-takes limit room s (of_inline b o ds up) some e h f =
    flat_step _ _ _ _
    (λ ts. ap (λ r. up_front up ((tok.open_brace, level_of up) ∷ r))
    (spell_selections-followed mark_level b (inline o ds s end) (level_of up) ts
    ∙ ap (λ r. spell_selections mark_level b (level_of up) (spell_selections mark_level (inline o ds end end) (level_of up) r))
    (braced_some mark_level s (level_of up + 1) (spell_selections mark_level s (level_of up + 1)) ts some)))
    (record { room = omega (arith, e); formed = shaped-followed b (inline o ds s end) f.0 (f.1, some, h, tt); up = f.2 })

may_close-steps : (limit room : ℕ) (s : Sels) (up : Up) → room + level_of up ≡ limit → ShapedSelections s → ShapedUp up
    → Steps limit (λ ts. up_front up ((tok.open_brace, level_of up) ∷ spell_selections mark_level s (level_of up) ts)) tok.close_brace 0 (may_close room s up)
may_close-steps limit room end up e h f = tt
may_close-steps limit room (field a n xs ds s rest) up e h f = close_set-takes limit room (field a n xs ds s rest) up tt e h f
may_close-steps limit room (spread n ds rest) up e h f = close_set-takes limit room (spread n ds rest) up tt e h f
may_close-steps limit room (inline o ds s rest) up e h f = close_set-takes limit room (inline o ds s rest) up tt e h f

at_set-steps : (limit : ℕ) (i : Inside) (t : Tok) → SeatedInside limit i → Steps limit (set_front i) t 0 (at_set i t)
at_set-steps limit i (tok.name n) h = flat_step _ _ _ _ (λ ts. refl) h
at_set-steps limit i tok.spread h = flat_step _ _ _ _ (λ ts. refl) h
at_set-steps limit i tok.close_brace h = may_close-steps limit i.room i.before i.up h.room h.formed h.up
at_set-steps limit i t h = tt

-- behind one selection more
selection-steps : (limit : ℕ) (i : Inside) (s : Sels) (t : Tok) → SeatedInside limit i → ShapedSelections s → Steps limit (λ ts. set_front i (spell_selections mark_level s (level_of i.up) ts)) t 0 (at_set (then_selection i s) t)
selection-steps limit i s t h f =
    step_moves limit (set_front (then_selection i s)) _ t 0 (at_set (then_selection i s) t)
    (λ ts. ap (λ r. up_front i.up ((tok.open_brace, level_of i.up) ∷ r)) (spell_selections-followed mark_level i.before s (level_of i.up) ts))
    (at_set-steps limit (then_selection i s) t (record { room = h.room; formed = shaped-followed i.before s h.formed f; up = h.up }))

at_variables-steps : (limit : ℕ) (o : Opening) (vs : List VariableDef) (t : Tok) → ShapedVariables o vs → Steps limit (variables_front o vs) t 0 (at_variables o vs t)
at_variables-steps limit o vs tok.dollar h = flat_step _ _ _ _ (λ ts. refl) h
at_variables-steps limit o [] t h = tt
at_variables-steps limit o (v ∷ vs) tok.close_paren h = flat_step _ _ _ _ (λ ts. refl) (refl, tt, h)
at_variables-steps limit o (v ∷ vs) t h = tt

after_variable-steps : (limit : ℕ) (v : Typed) (default : Option ValueTree) (ds : List Directive) (t : Tok) → ShapedTyped v → ShapedDefault default → ShapedDirectives true ds
    → Steps limit (λ ts. owner_front (on_variable v default) (spell_directives mark_level ds ts)) t 0 (at_variables v.variable.opening (variables_with v default ds) t)
after_variable-steps limit v default ds t h d f =
    step_moves limit (variables_front v.variable.opening (variables_with v default ds)) _ t 0 (at_variables v.variable.opening (variables_with v default ds) t)
    (λ ts. ap (λ r. opening_front v.variable.opening (flat tok.open_paren ∷ r))
    (spell_variables-push mark_level v.variable.before (variable_of v default ds ∷ []) ts
    ∙ ap (λ y. spell_variables mark_level v.variable.before (flat tok.dollar ∷ flat (tok.name v.variable.name) ∷ flat tok.colon ∷ spell_type mark_level y 0 0 (spell_default mark_level default (spell_directives mark_level ds ts)))) (ty_of-type_tree v.of)))
    (at_variables-steps limit v.variable.opening (variables_with v default ds) t
    (h.0.0, all-push ShapedVariable v.variable.before (variable_of v default ds) h.0.1 (subst ShapedType (sym (ty_of-type_tree v.of)) h.1, d, f)))

brace_level-none : (t : Tok) → brace_level 0 t ≡ 0
brace_level-none tok.open_brace = refl
brace_level-none t = refl

after_directives-steps : (limit : ℕ) (d : Owner) (ds : List Directive) (t : Tok) → SeatedOwner limit d → ShapedDirectives (owner_constant d) ds
    → Steps limit (λ ts. owner_front d (spell_directives mark_level ds ts)) t (owner_level d t) (after_directives limit d ds t)
after_directives-steps limit (on_variable v default) ds t h f =
    subst (λ l. Steps limit (λ ts. owner_front (on_variable v default) (spell_directives mark_level ds ts)) t l (at_variables v.variable.opening (variables_with v default ds) t)) (sym (brace_level-none t))
    (after_variable-steps limit v default ds t h.0 h.1 f)
after_directives-steps limit (on_operation o vs) ds tok.open_brace h f = open_set-steps limit limit (of_operation o vs ds) refl (h.0, h.1, f)
after_directives-steps limit (on_operation o vs) ds t h f = tt
after_directives-steps limit (on_fragment n) ds tok.open_brace h f = open_set-steps limit limit (of_fragment n ds) refl (h.0, h.1, f)
after_directives-steps limit (on_fragment n) ds t h f = tt
after_directives-steps limit (on_field n xs) ds tok.open_brace h f =
    let e = h.0.room in open_set-steps limit n.inside.room (within_field n xs ds) (omega (arith, e)) (h.0.formed, h.1, f, h.0.up)
after_directives-steps limit (on_field n xs) ds t h f = selection-steps limit n.inside (field_of n xs ds) t h.0 (h.1, f, tt, tt)
after_directives-steps limit (on_spread i n) ds t h f =
    subst (λ l. Steps limit (λ ts. owner_front (on_spread i n) (spell_directives mark_level ds ts)) t l (at_set (then_selection i (spread n ds end)) t)) (sym (brace_level-none t))
    (selection-steps limit i (spread n ds end) t h.0 (h.1, f, tt))
after_directives-steps limit (on_inline i o) ds tok.open_brace h f =
    let e = h.room in open_set-steps limit i.room (of_inline i.before o ds i.up) (omega (arith, e)) (h.formed, f, h.up)
after_directives-steps limit (on_inline i o) ds t h f = tt

at_directives-steps : (limit : ℕ) (c : Bool) (d : Owner) (t : Tok) → c ≡ owner_constant d → SeatedOwner limit d → Steps limit (owner_front d) t (owner_level d t) (at_directives limit c d t)
at_directives-steps limit c d tok.at_sign e h = flat_step _ _ _ _ (λ ts. refl) (e, tt, h)
at_directives-steps limit c d t e h = after_directives-steps limit d [] t h tt

-- ---- the layers of the states that end by what follows

at_called-steps : (limit : ℕ) (o : Opening) (t : Tok) → ShapedDefinitions o.before → Steps limit (opening_front o) t (brace_level 1 t) (at_called limit o t)
at_called-steps limit o tok.open_paren h = flat_step _ _ _ _ (λ ts. refl) (h, tt)
at_called-steps limit o t h = at_directives-steps limit false (on_operation o []) t refl (h, tt)

at_kinded-steps : (limit : ℕ) (ws : List Written) (k : Kind) (t : Tok) → ShapedDefinitions ws
    → Steps limit (λ ts. definitions_front ws (flat (tok.name (kind_word k)) ∷ ts)) t (brace_level 1 t) (at_kinded limit ws k t)
at_kinded-steps limit ws k (tok.name n) h = flat_step _ _ _ _ (λ ts. refl) h
at_kinded-steps limit ws k t h = at_called-steps limit (record { before = ws; kind = k; name = None }) t h

-- equal bytes
same_word : (n w : List ℕ) → bytes_eq n w ≡ true → n ≡ w
same_word n w e = grind (arith, bytes_eq-Decides n w)

-- what is no Name but one of the words
word-steps : (limit : ℕ) (ws : List Written) (n : List ℕ) (w : Word) → ShapedDefinitions ws → ((k : Kind) → w ≡ kind k → n ≡ kind_word k) → (w ≡ fragment → n ≡ fragment_word)
    → Steps limit (definitions_front ws) (tok.name n) 0 (begin_definition ws w)
word-steps limit ws n (kind k) h a b = flat_step _ _ _ _ (λ ts. ap (λ m. definitions_front ws (flat (tok.name m) ∷ ts)) (sym (a k refl))) h
word-steps limit ws n fragment h a b = flat_step _ _ _ _ (λ ts. ap (λ m. definitions_front ws (flat (tok.name m) ∷ ts)) (sym (b refl))) h
word-steps limit ws n other h a b = tt

pub word_of-kind : (n : List ℕ) (k : Kind) → word_of n ≡ kind k → n ≡ kind_word k
word_of-kind n k = on (bytes_eq n fragment_word) (bytes_eq n (kind_word Query)) (bytes_eq n (kind_word Mutation)) (bytes_eq n (kind_word Subscription))
    (same_word n (kind_word Query)) (same_word n (kind_word Mutation)) (same_word n (kind_word Subscription))
  where
    on : (f q m s : Bool) → (q ≡ true → n ≡ kind_word Query) → (m ≡ true → n ≡ kind_word Mutation) → (s ≡ true → n ≡ kind_word Subscription)
        → cond f fragment (cond q (kind Query) (cond m (kind Mutation) (cond s (kind Subscription) other))) ≡ kind k → n ≡ kind_word k
    on true q m s a b c e = cc
    on false true m s a b c e = a refl ∙ ap kind_word (kinds e)
      where
        kinds : kind Query ≡ kind k → Query ≡ k
        kinds e = cc
    on false false true s a b c e = b refl ∙ ap kind_word (kinds e)
      where
        kinds : kind Mutation ≡ kind k → Mutation ≡ k
        kinds e = cc
    on false false false true a b c e = c refl ∙ ap kind_word (kinds e)
      where
        kinds : kind Subscription ≡ kind k → Subscription ≡ k
        kinds e = cc
    on false false false false a b c e = cc

pub word_of-fragment : (n : List ℕ) → word_of n ≡ fragment → n ≡ fragment_word
word_of-fragment n = on (bytes_eq n fragment_word) (bytes_eq n (kind_word Query)) (bytes_eq n (kind_word Mutation)) (bytes_eq n (kind_word Subscription)) (same_word n fragment_word)
  where
    on : (f q m s : Bool) → (f ≡ true → n ≡ fragment_word) → cond f fragment (cond q (kind Query) (cond m (kind Mutation) (cond s (kind Subscription) other))) ≡ fragment → n ≡ fragment_word
    on true q m s a e = a refl
    on false true m s a e = cc
    on false false true s a e = cc
    on false false false true a e = cc
    on false false false false a e = cc

at_definition-steps : (limit : ℕ) (ws : List Written) (t : Tok) → ShapedDefinitions ws → Steps limit (definitions_front ws) t (brace_level 1 t) (at_definition limit ws t)
at_definition-steps limit ws (tok.name n) h = word-steps limit ws n (word_of n) h (word_of-kind n) (word_of-fragment n)
at_definition-steps limit ws tok.open_brace h = open_set-steps limit limit (of_bare ws) refl h
at_definition-steps limit ws t h = tt

at_typed-steps : (limit : ℕ) (v : Typed) (t : Tok) → ShapedTyped v → Steps limit (typed_front v) t 0 (at_typed limit v t)
at_typed-steps limit v tok.equals h = flat_step _ _ _ _ (λ ts. refl) (add-zero limit, refl, h)
at_typed-steps limit v tok.open_brace h = at_directives-steps limit true (on_variable v None) tok.open_brace refl (h, tt)
at_typed-steps limit v t h = at_directives-steps limit true (on_variable v None) t refl (h, tt)

at_field-steps : (limit : ℕ) (f : OpenField) (t : Tok) → SeatedInside limit f.inside → Steps limit (field_front f) t (field_level f.inside t) (at_field limit f t)
at_field-steps limit f tok.open_paren h = flat_step _ _ _ _ (λ ts. refl) (refl, h)
at_field-steps limit f t h = at_directives-steps limit false (on_field f []) t refl (h, tt)

at_named-steps : (limit : ℕ) (i : Inside) (n : List ℕ) (t : Tok) → SeatedInside limit i → Steps limit (λ ts. set_front i (flat (tok.name n) ∷ ts)) t (field_level i t) (at_named limit i n t)
at_named-steps limit i n tok.colon h = flat_step _ _ _ _ (λ ts. refl) h
at_named-steps limit i n t h = at_field-steps limit (record { inside = i; alias = None; name = n }) t h

dotted_name-takes : (limit : ℕ) (i : Inside) (n : List ℕ) (is_on : Bool) → bytes_eq n on_word ≡ is_on → SeatedInside limit i
    → Takes limit (λ ts. set_front i (flat tok.spread ∷ ts)) (tok.name n) 0 (dotted_name i n is_on)
dotted_name-takes limit i n true e h = flat_step _ _ _ _ (λ ts. ap (λ m. set_front i (flat tok.spread ∷ flat (tok.name m) ∷ ts)) (sym (same_word n on_word e))) h
dotted_name-takes limit i n false e h = flat_step _ _ _ _ (λ ts. refl) (refl, tt, (h, e))

at_dotted-steps : (limit : ℕ) (i : Inside) (t : Tok) → SeatedInside limit i → Steps limit (λ ts. set_front i (flat tok.spread ∷ ts)) t (field_level i t) (at_dotted limit i t)
at_dotted-steps limit i (tok.name n) h = dotted_name-takes limit i n (bytes_eq n on_word) refl h
at_dotted-steps limit i t h = at_directives-steps limit false (on_inline i None) t refl h

fragment_name-steps : (limit : ℕ) (ws : List Written) (n : List ℕ) (is_on : Bool) → bytes_eq n on_word ≡ is_on → ShapedDefinitions ws
    → Steps limit (λ ts. definitions_front ws (flat (tok.name fragment_word) ∷ ts)) (tok.name n) 0 (fragment_name ws n is_on)
fragment_name-steps limit ws n true e h = tt
fragment_name-steps limit ws n false e h = flat_step _ _ _ _ (λ ts. refl) (h, e)

fragment_condition-steps : (limit : ℕ) (ws : List Written) (n m : List ℕ) (is_on : Bool) → bytes_eq m on_word ≡ is_on → ShapedFragmentName ws n
    → Steps limit (λ ts. definitions_front ws (flat (tok.name fragment_word) ∷ flat (tok.name n) ∷ ts)) (tok.name m) 0 (fragment_condition ws n is_on)
fragment_condition-steps limit ws n m true e h =
    flat_step _ _ _ _ (λ ts. ap (λ w. definitions_front ws (flat (tok.name fragment_word) ∷ flat (tok.name n) ∷ flat (tok.name w) ∷ ts)) (sym (same_word m on_word e))) h
fragment_condition-steps limit ws n m false e h = tt

-- ---- the parts that all grammars share

steps_from : (limit : ℕ) (front : List Leveled → List Leveled) (t : Tok) (level : ℕ) (r : Result State Halt) → IfOk r (λ next. (ts : List Leveled) → so_far next ts ≡ front ((t, level) ∷ ts))
    → IfOk r (λ next. level ≤ limit) → IfOk r (Seated limit) → IfTooDeep r (limit < level) → Steps limit front t level r
steps_from limit front t level (Ok s) sound shallow seated deep = record { sound = sound; shallow = shallow; seated = seated }
steps_from limit front t level (Err unexpected) sound shallow seated deep = tt
steps_from limit front t level (Err too_deep) sound shallow seated deep = deep

value-steps : (limit : ℕ) (r : Reading Typed) (t : Tok) → Seated limit (in_value r) → Steps limit (so_far (in_value r)) t (level_at (in_value r) t) (advance limit (in_value r) t)
value-steps limit r t h =
    steps_from limit _ t _ _
    (value_sounds typed_ground in_value with_default so_far (λ r ts. refl)
    (λ v d ts. ap (λ y. typed_front v (flat tok.equals ∷ spell_value mark_level y 0 ts)) (value_of-value_tree d)) r t)
    (value_shallows typed_ground in_value with_default limit r t h)
    (value_seats typed_ground in_value with_default limit (Seated limit) (λ r h. h)
    (λ v d h f. (refl, tt, (h, subst (λ y. ShapedValue true y) (sym (value_of-value_tree d)) f))) r t h)
    (value_deeps typed_ground in_value with_default limit r t h)

arguments-steps : (limit : ℕ) (r : Arguing OpenField) (t : Tok) → Seated limit (in_arguments r) → Steps limit (so_far (in_arguments r)) t (level_at (in_arguments r) t) (advance limit (in_arguments r) t)
arguments-steps limit r t h =
    steps_from limit _ t _ _
    (arguments_sounds field_ground limit in_arguments with_arguments so_far (λ r ts. refl) (λ f xs ts. refl) r t h)
    (arguments_shallows field_ground limit in_arguments with_arguments r t h)
    (arguments_seats field_ground limit in_arguments with_arguments (Seated limit) (λ r h. h) (λ f xs h some g. (refl, tt, (h, g))) r t h)
    (arguments_deeps field_ground limit in_arguments with_arguments r t h)

-- what a step is, by its parts
sound_part : (limit : ℕ) (front : List Leveled → List Leveled) (t : Tok) (level : ℕ) (r : Result State Halt) → Steps limit front t level r
    → IfOk r (λ next. (ts : List Leveled) → so_far next ts ≡ front ((t, level) ∷ ts))
sound_part limit front t level (Ok s) h = h.sound
sound_part limit front t level (Err e) h = tt

seated_part : (limit : ℕ) (front : List Leveled → List Leveled) (t : Tok) (level : ℕ) (r : Result State Halt) → Steps limit front t level r → IfOk r (Seated limit)
seated_part limit front t level (Ok s) h = h.seated
seated_part limit front t level (Err e) h = tt

-- this holds whatever the step gives
whatever : (P : Type 0) (r : Result State Halt) → P → IfOk r (λ next. P)
whatever P (Ok s) h = h
whatever P (Err e) h = tt

open_set-shallow : (limit room : ℕ) (up : Up) → room + level_of up ≡ limit + 1 → IfOk (open_set room up) (λ next. level_of up ≤ limit)
open_set-shallow limit zero up e = tt
open_set-shallow limit (suc room) up e = omega (arith, e)

open_set-deep : (limit room : ℕ) (up : Up) → room + level_of up ≡ limit + 1 → IfTooDeep (open_set room up) (limit < level_of up)
open_set-deep limit zero up e = omega (arith, e)
open_set-deep limit (suc room) up e = tt

owner-shallow : (limit : ℕ) (d : Owner) (ds : List Directive) (t : Tok) → SeatedOwner limit d → IfOk (after_directives limit d ds t) (λ next. owner_level d t ≤ limit)
owner-shallow limit (on_variable v default) ds t h = whatever _ (after_directives limit (on_variable v default) ds t) (subst (λ l. l ≤ limit) (sym (brace_level-none t)) zero-le)
owner-shallow limit (on_operation o vs) ds tok.open_brace h = open_set-shallow limit limit (of_operation o vs ds) refl
owner-shallow limit (on_operation o vs) ds t h = tt
owner-shallow limit (on_fragment n) ds tok.open_brace h = open_set-shallow limit limit (of_fragment n ds) refl
owner-shallow limit (on_fragment n) ds t h = tt
owner-shallow limit (on_field n xs) ds tok.open_brace h = let e = h.0.room in open_set-shallow limit n.inside.room (within_field n xs ds) (omega (arith, e))
owner-shallow limit (on_field n xs) ds t h = whatever (0 ≤ limit) (after_directives limit (on_field n xs) ds t) zero-le
owner-shallow limit (on_spread i n) ds t h = whatever _ (after_directives limit (on_spread i n) ds t) (subst (λ l. l ≤ limit) (sym (brace_level-none t)) zero-le)
owner-shallow limit (on_inline i o) ds tok.open_brace h = let e = h.room in open_set-shallow limit i.room (of_inline i.before o ds i.up) (omega (arith, e))
owner-shallow limit (on_inline i o) ds t h = tt

may_close-deep : (P : Type 0) (room : ℕ) (s : Sels) (up : Up) → IfTooDeep (may_close room s up) P
may_close-deep P room end up = tt
may_close-deep P room (field a n xs ds s rest) up = tt
may_close-deep P room (spread n ds rest) up = tt
may_close-deep P room (inline o ds s rest) up = tt

at_set-deep : (P : Type 0) (i : Inside) (t : Tok) → IfTooDeep (at_set i t) P
at_set-deep P i tok.close_brace = may_close-deep P i.room i.before i.up
at_set-deep P i t = tt

at_variables-deep : (P : Type 0) (o : Opening) (vs : List VariableDef) (t : Tok) → IfTooDeep (at_variables o vs t) P
at_variables-deep P o vs tok.dollar = tt
at_variables-deep P o [] t = tt
at_variables-deep P o (v ∷ vs) tok.close_paren = tt
at_variables-deep P o (v ∷ vs) t = tt

owner-deep : (limit : ℕ) (d : Owner) (ds : List Directive) (t : Tok) → SeatedOwner limit d → IfTooDeep (after_directives limit d ds t) (limit < owner_level d t)
owner-deep limit (on_variable v default) ds t h = at_variables-deep _ v.variable.opening (variables_with v default ds) t
owner-deep limit (on_operation o vs) ds tok.open_brace h = open_set-deep limit limit (of_operation o vs ds) refl
owner-deep limit (on_operation o vs) ds t h = tt
owner-deep limit (on_fragment n) ds tok.open_brace h = open_set-deep limit limit (of_fragment n ds) refl
owner-deep limit (on_fragment n) ds t h = tt
owner-deep limit (on_field n xs) ds tok.open_brace h = let e = h.0.room in open_set-deep limit n.inside.room (within_field n xs ds) (omega (arith, e))
owner-deep limit (on_field n xs) ds t h = at_set-deep (limit < 0) (then_selection n.inside (field_of n xs ds)) t
owner-deep limit (on_spread i n) ds t h = at_set-deep (limit < owner_level (on_spread i n) t) (then_selection i (spread n ds end)) t
owner-deep limit (on_inline i o) ds tok.open_brace h = let e = h.room in open_set-deep limit i.room (of_inline i.before o ds i.up) (omega (arith, e))
owner-deep limit (on_inline i o) ds t h = tt

typed-deep : (P : Type 0) (limit : ℕ) (v : Typed) (t : Tok) → IfTooDeep (at_typed limit v t) P
typed-deep P limit v tok.equals = tt
typed-deep P limit v tok.at_sign = tt
typed-deep P limit v t = at_variables-deep P v.variable.opening (variables_with v None []) t

type-steps : (limit : ℕ) (r : Typing VariableName) (t : Tok) → Seated limit (in_type r) → Steps limit (so_far (in_type r)) t (level_at (in_type r) t) (advance limit (in_type r) t)
type-steps limit r t h =
    steps_from limit _ t _ _
    (type_sounds variable_ground (λ v x. 0) in_type typed_variable (after_type limit) limit so_far (λ r ts. refl) (λ v y ts. refl)
    (λ v y x h f. sound_part limit _ x 0 _ (at_typed-steps limit (record { variable = v; of = y }) x (h, f))) r t h)
    (type_shallows variable_ground (λ v x. 0) in_type typed_variable (after_type limit) limit (λ v y x h. whatever _ (after_type limit v y x) zero-le) r t h)
    (type_seats variable_ground (λ v x. 0) in_type typed_variable (after_type limit) limit (Seated limit) (λ r h. h) (λ v y h f. (h, f))
    (λ v y x h f. seated_part limit _ x 0 _ (at_typed-steps limit (record { variable = v; of = y }) x (h, f))) r t h)
    (type_deeps variable_ground (λ v x. 0) in_type typed_variable (after_type limit) limit (λ v y x h. typed-deep _ limit (record { variable = v; of = y }) x) r t h)

directives-steps : (limit : ℕ) (r : Directing Owner) (t : Tok) → Seated limit (in_directives r) → Steps limit (so_far (in_directives r)) t (level_at (in_directives r) t) (advance limit (in_directives r) t)
directives-steps limit r t h =
    steps_from limit _ t _ _
    (directives_sounds owner_ground owner_level limit in_directives (after_directives limit) so_far (λ r ts. refl)
    (λ d ds x h f. sound_part limit _ x (owner_level d x) _ (after_directives-steps limit d ds x h f)) r t h)
    (directives_shallows owner_ground owner_level limit in_directives (after_directives limit) (owner-shallow limit) r t h)
    (directives_seats owner_ground owner_level limit in_directives (after_directives limit) (Seated limit) (λ r h. h)
    (λ d ds x h f. seated_part limit _ x (owner_level d x) _ (after_directives-steps limit d ds x h f)) r t h)
    (directives_deeps owner_ground owner_level limit in_directives (after_directives limit) (owner-deep limit) r t h)

pub advance-steps : (limit : ℕ) (s : State) (t : Tok) → Seated limit s → Steps limit (so_far s) t (level_at s t) (advance limit s t)
advance-steps limit (between ws) t h = at_definition-steps limit ws t h
advance-steps limit (kinded ws k) t h = at_kinded-steps limit ws k t h
advance-steps limit (called o) t h = at_called-steps limit o t h
advance-steps limit (variables o vs) t h = at_variables-steps limit o vs t h
advance-steps limit (dollar o vs) (tok.name n) h = flat_step _ _ _ _ (λ ts. refl) h
advance-steps limit (dollar o vs) t h = tt
advance-steps limit (variable_named v) tok.colon h = flat_step _ _ _ _ (λ ts. refl) (add-zero limit, h)
advance-steps limit (variable_named v) t h = tt
advance-steps limit (in_type r) t h = type-steps limit r t h
advance-steps limit (typed v) t h = at_typed-steps limit v t h
advance-steps limit (in_value r) t h = value-steps limit r t h
advance-steps limit (fragment_begun ws) (tok.name n) h = fragment_name-steps limit ws n (bytes_eq n on_word) refl h
advance-steps limit (fragment_begun ws) t h = tt
advance-steps limit (fragment_named ws n) (tok.name m) h = fragment_condition-steps limit ws n m (bytes_eq m on_word) refl h
advance-steps limit (fragment_named ws n) t h = tt
advance-steps limit (fragment_on ws n) (tok.name m) h = flat_step _ _ _ _ (λ ts. refl) (refl, tt, h)
advance-steps limit (fragment_on ws n) t h = tt
advance-steps limit (set i) t h = at_set-steps limit i t h
advance-steps limit (named i n) t h = at_named-steps limit i n t h
advance-steps limit (aliased i a) (tok.name n) h = flat_step _ _ _ _ (λ ts. refl) h
advance-steps limit (aliased i a) t h = tt
advance-steps limit (field_named f) t h = at_field-steps limit f t h
advance-steps limit (dotted i) t h = at_dotted-steps limit i t h
advance-steps limit (on i) (tok.name n) h = flat_step _ _ _ _ (λ ts. refl) (refl, tt, h)
advance-steps limit (on i) t h = tt
advance-steps limit (in_arguments r) t h = arguments-steps limit r t h
advance-steps limit (in_directives r) t h = directives-steps limit r t h
