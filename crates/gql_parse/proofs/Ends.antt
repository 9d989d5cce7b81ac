-- Every state can be ended where one more may stand in another.
use Rattle.std.proofs.Common.{◌≡◌, ℕ, suc, ◌+◌, Bool, true, false, List, [], ◌∷◌, ◌++◌, Some, None, Ok, refl, ap, ◌∙◌, arith}
use Rattle.gql_syntax.specs.gql_lex.Toks as tok
use Rattle.gql_syntax.specs.gql_lex.Toks.{Tok}
use Rattle.gql_syntax.specs.gql_ast.Sels.{Sels, end, field, spread, inline, sels_append}
use Rattle.gql_syntax.specs.gql_ast.Ty.{Ty}
use Rattle.gql_syntax.specs.gql_ast.Ty as ty
use Rattle.gql_syntax.specs.gql_ast.Value.{Val}
use Rattle.gql_syntax.specs.gql_ast.declared.directive.Directive.{Directive}
use Rattle.gql_syntax.specs.gql_ast.declared.document.Definition.TheVariants as D
use Rattle.gql_syntax.specs.gql_ast.declared.variable.VariableDef.{VariableDef}
use Rattle.gql_syntax.specs.Built.{value_tree}
use Rattle.gql_parse.specs.Documents.{Written, bare, full, SomeSelection}
use Rattle.gql_parse.specs.Machine.{Opening, VariableName, Typed, Up, of_bare, of_operation, of_fragment, of_field, of_inline, Inside, OpenField, Owner, on_variable, on_operation, on_fragment, on_field, on_spread, on_inline, State, between, kinded, called, variables, dollar, variable_named, in_type, typed, in_value, fragment_begun, fragment_named, fragment_on, set, named, aliased, field_named, dotted, on, in_arguments, in_directives, advance, open_set, operation_of, fragment_of, close_set, may_close, at_variables, variable_of, variables_with, field_of, some_written, with_default, with_arguments, after_directives, typed_variable, after_type}
use Rattle.gql_parse.proofs.Lifts.{owner_laws}
use Rattle.gql_parse.proofs.Standing.{lift, lift_inside, lift_owner, document_machine, typed_ground, field_ground, variable_ground, owner_ground}
use Rattle.gql_syntax.proofs.ArgumentLaws.{arguments_end, arguments_end-form, arguments_ends}
use Rattle.gql_syntax.proofs.DirectiveLaws.{IsPassed, directives_end, directives_end-form, directives_ends, lift_directives_on}
use Rattle.gql_syntax.proofs.Forms.{IsTok, AreToks, toks-append}
use Rattle.gql_syntax.proofs.Laws.{reach, reach_from, CanEnd}
use Rattle.gql_syntax.proofs.Outcomes.{can_end_before}
use Rattle.gql_syntax.proofs.Standing.{value_on, lift_value, arguments_on, lift_arguments, directives_on, lift_directives, type_on, lift_type}
use Rattle.gql_syntax.proofs.TypeLaws.{type_end, type_end-form, type_ends_there}
use Rattle.gql_syntax.proofs.ValueLaws.{value_end, value_end-form, value_ends}
use Rattle.gql_syntax.specs.Machine.{Directing, further, Typing, whole}
use Rattle.gql_syntax.specs.Words.{on_word}

-- a Name
abbrev one_name : List ℕ
one_name = 97 ∷ []

module _ (limit : ℕ) where
  abbrev Ends : State → Type 0
  Ends s = CanEnd document_machine limit s

  -- a token that leads to a state that can be ended
  pub by_token : (s : State) (t : Tok) → IsTok t → (next : State) → advance limit s t ≡ Ok next → Ends next → Ends s
  by_token s t f next e c = record {
    behind = t ∷ c.behind;
    forms = (f, c.forms);
    tree = c.tree;
    finishes = record { last = c.finishes.last; reached = ap (λ r. reach_from (advance limit) r c.behind) e ∙ c.finishes.reached; finished = c.finishes.finished };
  }

  -- tokens that lead to a state that can be ended
  pub by_tokens : (s : State) (ts : List Tok) → AreToks ts → (next : State) → ((more : List Tok) → reach (advance limit) s (ts ++ more) ≡ reach (advance limit) next more) → Ends next → Ends s
  by_tokens s ts f next e c = record {
    behind = ts ++ c.behind;
    forms = toks-append ts c.behind f c.forms;
    tree = c.tree;
    finishes = record { last = c.finishes.last; reached = e c.behind ∙ c.finishes.reached; finished = c.finishes.finished };
  }

  written_behind : (ws : List Written) (w : Written) → some_written (ws ++ w ∷ []) ≡ Some (ws ++ w ∷ [])
  written_behind [] w = refl
  written_behind (x ∷ ws) w = refl

  ends_between : (ws : List Written) (w : Written) → Ends (between (ws ++ w ∷ []))
  ends_between ws w = record {
    behind = [];
    forms = tt;
    tree = ws ++ w ∷ [];
    finishes = record { last = between (ws ++ w ∷ []); reached = refl; finished = written_behind ws w };
  }

  some-followed : (s t : Sels) → SomeSelection t → SomeSelection (sels_append s t)
  some-followed end t h = h
  some-followed (field a n xs ds s rest) t h = tt
  some-followed (spread n ds rest) t h = tt
  some-followed (inline o ds s rest) t h = tt

  may_close-some : (room : ℕ) (s : Sels) (up : Up) → SomeSelection s → may_close room s up ≡ Ok (close_set room s up)
  may_close-some room end up h = absurd h
  may_close-some room (field a n xs ds s rest) up h = refl
  may_close-some room (spread n ds rest) up h = refl
  may_close-some room (inline o ds s rest) up h = refl

  ends_closed : (room : ℕ) (s : Sels) (up : Up) → Ends (close_set room s up)
  ends_closed room s (of_bare ws) = ends_between ws (bare s)
  ends_closed room s (of_operation o vs ds) = ends_between o.before (full (D.Operation (operation_of o vs ds s)))
  ends_closed room s (of_fragment f ds) = ends_between f.before (full (D.Fragment (fragment_of f ds s)))
  ends_closed room s (of_field b a n xs ds up) =
      let set_then = sels_append b (field a n xs ds s end) in
      by_token _ tok.close_brace tt (close_set (suc room) set_then up) (may_close-some (suc room) set_then up (some-followed b (field a n xs ds s end) tt)) (ends_closed (suc room) set_then up)
  ends_closed room s (of_inline b o ds up) =
      let set_then = sels_append b (inline o ds s end) in
      by_token _ tok.close_brace tt (close_set (suc room) set_then up) (may_close-some (suc room) set_then up (some-followed b (inline o ds s end) tt)) (ends_closed (suc room) set_then up)

  -- behind a selection
  closing : (i : Inside) (s : Sels) → SomeSelection s → may_close i.room (sels_append i.before s) i.up ≡ Ok (close_set i.room (sels_append i.before s) i.up)
  closing i s h = may_close-some i.room (sels_append i.before s) i.up (some-followed i.before s h)

  ends_named : (i : Inside) (n : List ℕ) → Ends (named i n)
  ends_named i n = by_token _ tok.close_brace tt _ (closing i (field None n [] [] end end) tt) (ends_closed i.room (sels_append i.before (field None n [] [] end end)) i.up)

  ends_field : (f : OpenField) → Ends (field_named f)
  ends_field f = by_token _ tok.close_brace tt _ (closing f.inside (field_of f [] []) tt) (ends_closed f.inside.room (sels_append f.inside.before (field_of f [] [])) f.inside.up)

  ends_set : (i : Inside) → Ends (set i)
  ends_set i = by_token _ (tok.name one_name) refl (named i one_name) refl (ends_named i one_name)

  ends_on_field : (f : OpenField) (xs : List (List ℕ × Val)) (ds : List Directive) → Ends (in_directives (further false ds (on_field f xs)))
  ends_on_field f xs ds = by_token _ tok.close_brace tt _ (closing f.inside (field_of f xs ds) tt) (ends_closed f.inside.room (sels_append f.inside.before (field_of f xs ds)) f.inside.up)

-- ---- what has to open a set

module _ (limit : ℕ) where
  opened : (room : ℕ) (up : Up) → open_set (1 + room) up ≡ Ok (set (record { room = room; before = end; up = up }))
  opened room up = ap (λ r. open_set r up) more
    where
      more : 1 + room ≡ suc room
      more = omega arith

  ends_operation : (c : Bool) (ds : List Directive) (o : Opening) (vs : List VariableDef) → Ends (1 + limit) (in_directives (further c ds (on_operation o vs)))
  ends_operation c ds o vs = by_token (1 + limit) _ tok.open_brace tt _ (opened limit (of_operation o vs ds)) (ends_set (1 + limit) _)

  close_variables : (o : Opening) (vs : List VariableDef) (v : VariableDef) → at_variables o (vs ++ v ∷ []) tok.close_paren ≡ Ok (in_directives (further false [] (on_operation o (vs ++ v ∷ []))))
  close_variables o [] v = refl
  close_variables o (w ∷ vs) v = refl

  -- a token with which what directives stand on goes on, whatever they are, and can be ended
  record PassesOn (d : Owner) : Type 0 where
    token : Tok
    form : IsTok token
    passed : IsPassed token
    next : List Directive → State
    stepped : (ds : List Directive) → after_directives (1 + limit) (lift_owner 1 d) ds token ≡ Ok (next ds)
    ends : (ds : List Directive) → Ends (1 + limit) (next ds)

  passes_on : (d : Owner) → PassesOn d
  passes_on (on_variable v default) = record {
    token = tok.close_paren;
    form = tt;
    passed = tt;
    next = λ ds. in_directives (further false [] (on_operation v.variable.opening (variables_with v default ds)));
    stepped = λ ds. close_variables v.variable.opening v.variable.before (variable_of v default ds);
    ends = λ ds. ends_operation false [] v.variable.opening (variables_with v default ds);
  }
  passes_on (on_operation o vs) = record {
    token = tok.open_brace;
    form = tt;
    passed = tt;
    next = λ ds. set (record { room = limit; before = end; up = of_operation o vs ds });
    stepped = λ ds. opened limit (of_operation o vs ds);
    ends = λ ds. ends_set (1 + limit) (record { room = limit; before = end; up = of_operation o vs ds });
  }
  passes_on (on_fragment f) = record {
    token = tok.open_brace;
    form = tt;
    passed = tt;
    next = λ ds. set (record { room = limit; before = end; up = of_fragment f ds });
    stepped = λ ds. opened limit (of_fragment f ds);
    ends = λ ds. ends_set (1 + limit) (record { room = limit; before = end; up = of_fragment f ds });
  }
  passes_on (on_field f xs) = record {
    token = tok.close_brace;
    form = tt;
    passed = tt;
    next = λ ds. close_set (1 + f.inside.room) (sels_append f.inside.before (field_of f xs ds)) f.inside.up;
    stepped = λ ds. closing (1 + limit) (lift_inside 1 f.inside) (field_of f xs ds) tt;
    ends = λ ds. ends_closed (1 + limit) (1 + f.inside.room) (sels_append f.inside.before (field_of f xs ds)) f.inside.up;
  }
  passes_on (on_spread i n) = record {
    token = tok.close_brace;
    form = tt;
    passed = tt;
    next = λ ds. close_set (1 + i.room) (sels_append i.before (spread n ds end)) i.up;
    stepped = λ ds. closing (1 + limit) (lift_inside 1 i) (spread n ds end) tt;
    ends = λ ds. ends_closed (1 + limit) (1 + i.room) (sels_append i.before (spread n ds end)) i.up;
  }
  passes_on (on_inline i o) = record {
    token = tok.open_brace;
    form = tt;
    passed = tt;
    next = λ ds. set (record { room = i.room; before = end; up = of_inline i.before o ds i.up });
    stepped = λ ds. opened i.room (of_inline i.before o ds i.up);
    ends = λ ds. ends_set (1 + limit) (record { room = i.room; before = end; up = of_inline i.before o ds i.up });
  }

  pub ends_directives : (r : Directing Owner) (d : Owner) → directives_on r ≡ lift_owner 1 d → Ends (1 + limit) (in_directives r)
  ends_directives r d same =
      let p = passes_on d in
      let e = directives_ends (1 + limit) in_directives (after_directives (1 + limit)) (advance (1 + limit)) (λ r t. refl) r p.token [] p.passed in
      can_end_before document_machine (1 + limit) (in_directives r) (p.next e.0) (directives_end r ++ p.token ∷ [])
      (toks-append (directives_end r) (p.token ∷ []) (directives_end-form r) (p.form, tt))
      (e.1 ∙ ap (λ d. reach_from (advance (1 + limit)) (after_directives (1 + limit) d e.0 p.token) []) same ∙ ap (λ r. reach_from (advance (1 + limit)) r []) (p.stepped e.0))
      (p.ends e.0)

  pub ends_owner : (c : Bool) (ds : List Directive) (d : Owner) → Ends (1 + limit) (in_directives (further c ds (lift_owner 1 d)))
  ends_owner c ds d = ends_directives (further c ds (lift_owner 1 d)) d refl

  pub ends_typed : (v : Typed) → Ends (1 + limit) (typed v)
  ends_typed v =
      by_token (1 + limit) _ tok.close_paren tt _ (close_variables v.variable.opening v.variable.before (variable_of v None [])) (ends_operation false [] v.variable.opening (variables_with v None []))

  ends_type : (v : VariableName) (t : Ty) → Ends (1 + limit) (in_type (Typing.typed t (whole v)))
  ends_type v t =
      let whole_name : Typed = record { variable = v; of = t } in
      by_token (1 + limit) _ tok.close_paren tt _ (close_variables v.opening v.before (variable_of whole_name None [])) (ends_operation false [] v.opening (variables_with whole_name None []))

  ends_typed_name : (v : VariableName) → Ends (1 + limit) (variable_named v)
  ends_typed_name v =
      let whole_name : Typed = record { variable = v; of = ty.named one_name } in
      by_tokens (1 + limit) _ (tok.colon ∷ tok.name one_name ∷ tok.close_paren ∷ []) (tt, (refl, (tt, tt))) (in_directives (further false [] (on_operation v.opening (variables_with whole_name None []))))
      (λ more. ap (λ r. reach_from (advance (1 + limit)) r more) (close_variables v.opening v.before (variable_of whole_name None [])))
      (ends_operation false [] v.opening (variables_with whole_name None []))

  ends_dollar : (o : Opening) (vs : List VariableDef) → Ends (1 + limit) (dollar o vs)
  ends_dollar o vs = by_token (1 + limit) _ (tok.name one_name) refl (variable_named (record { opening = o; before = vs; name = one_name })) refl (ends_typed_name _)

  ends_fragment_named : (ws : List Written) (n : List ℕ) → Ends (1 + limit) (fragment_named ws n)
  ends_fragment_named ws n =
      by_tokens (1 + limit) _ (tok.name on_word ∷ tok.name one_name ∷ []) (refl, (refl, tt)) (in_directives (further false [] (on_fragment (record { before = ws; name = n; on = one_name }))))
      (λ more. refl) (ends_owner false [] (on_fragment (record { before = ws; name = n; on = one_name })))

  ends_called : (o : Opening) → Ends (1 + limit) (called o)
  ends_called o = by_token (1 + limit) _ tok.open_brace tt _ (opened limit (of_operation o [] [])) (ends_set (1 + limit) _)

  -- where no part that all grammars share is open
  pub ends_own : (s : State) → Ends (1 + limit) (lift 1 s)
  ends_own (between ws) = by_token (1 + limit) _ tok.open_brace tt _ (opened limit (of_bare ws)) (ends_set (1 + limit) _)
  ends_own (kinded ws k) = by_token (1 + limit) _ tok.open_brace tt _ (opened limit (of_operation (record { before = ws; kind = k; name = None }) [] [])) (ends_set (1 + limit) _)
  ends_own (called o) = ends_called o
  ends_own (variables o vs) = by_token (1 + limit) _ tok.dollar tt (dollar o vs) refl (ends_dollar o vs)
  ends_own (dollar o vs) = ends_dollar o vs
  ends_own (variable_named v) = ends_typed_name v
  ends_own (in_type r) =
      let lifted = lift_type variable_ground 1 r in
      let e = type_ends_there in_type typed_variable (after_type (1 + limit)) (advance (1 + limit)) (λ r t. refl) lifted in
      can_end_before document_machine (1 + limit) (in_type lifted) _ (type_end lifted) (type_end-form lifted) e.1 (ends_type (type_on lifted) e.0)
  ends_own (typed v) = ends_typed v
  ends_own (in_value r) =
      let lifted = lift_value typed_ground 1 r in
      let e = value_ends in_value with_default (advance (1 + limit)) (λ r t. refl) lifted in
      can_end_before document_machine (1 + limit) (in_value lifted) _ (value_end lifted) (value_end-form lifted) e.1 (ends_owner true [] (on_variable (value_on lifted) (Some (value_tree e.0))))
  ends_own (fragment_begun ws) = by_token (1 + limit) _ (tok.name one_name) refl (fragment_named ws one_name) refl (ends_fragment_named ws one_name)
  ends_own (fragment_named ws n) = ends_fragment_named ws n
  ends_own (fragment_on ws n) =
      by_token (1 + limit) _ (tok.name one_name) refl (in_directives (further false [] (on_fragment (record { before = ws; name = n; on = one_name })))) refl
      (ends_owner false [] (on_fragment (record { before = ws; name = n; on = one_name })))
  ends_own (set i) = ends_set (1 + limit) _
  ends_own (named i n) = ends_named (1 + limit) _ n
  ends_own (aliased i a) = by_token (1 + limit) _ (tok.name one_name) refl (field_named (record { inside = lift_inside 1 i; alias = Some a; name = one_name })) refl (ends_field (1 + limit) _)
  ends_own (field_named f) = ends_field (1 + limit) _
  ends_own (dotted i) =
      by_token (1 + limit) _ (tok.name one_name) refl (in_directives (further false [] (on_spread (lift_inside 1 i) one_name))) refl (ends_owner false [] (on_spread i one_name))
  ends_own (on i) = by_token (1 + limit) _ (tok.name one_name) refl (in_directives (further false [] (on_inline (lift_inside 1 i) (Some one_name)))) refl (ends_owner false [] (on_inline i (Some one_name)))
  ends_own (in_arguments r) =
      let lifted = lift_arguments field_ground 1 r in
      let e = arguments_ends (1 + limit) in_arguments with_arguments (advance (1 + limit)) (λ r t. refl) lifted in
      can_end_before document_machine (1 + limit) (in_arguments lifted) _ (arguments_end lifted) (arguments_end-form lifted) e.1 (ends_on_field (1 + limit) (arguments_on lifted) e.0 [])
  ends_own (in_directives r) = ends_directives (lift_directives owner_ground 1 r) (directives_on r) (lift_directives_on owner_ground owner_laws 1 r)
