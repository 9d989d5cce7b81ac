-- Every document in which not too much stands in one another is read.
use Rattle.std.proofs.Common.{◌≡◌, ◌≤◌, ℕ, zero, suc, ◌+◌, Bool, true, false, bytes_eq, List, [], ◌∷◌, ◌++◌, Option, Some, None, Result, Ok, refl, sym, ap, subst, ◌∙◌, arith, append_assoc, append-nil}
use Rattle.std.specs.List.{AllByRecursion}
use Rattle.gql_syntax.specs.gql_lex.Toks as tok
use Rattle.gql_syntax.specs.gql_lex.Toks.{Tok}
use Rattle.gql_syntax.specs.gql_ast.Sels.{Sels, end, field, spread, inline, sels_append}
use Rattle.gql_syntax.specs.gql_ast.Ty.{Ty}
use Rattle.gql_syntax.specs.gql_ast.TypeView.{ty_of}
use Rattle.gql_syntax.specs.gql_ast.Value.{Val, members_of}
use Rattle.gql_syntax.specs.gql_ast.ValueView.{value_of}
use Rattle.gql_syntax.specs.gql_ast.declared.directive.Directive.{Directive}
use Rattle.gql_syntax.specs.gql_ast.declared.document.Definition.TheVariants as D
use Rattle.gql_syntax.specs.gql_ast.declared.document.Fragment.{Fragment}
use Rattle.gql_syntax.specs.gql_ast.declared.document.Kind.{Kind}
use Rattle.gql_syntax.specs.gql_ast.declared.document.Kind.TheVariants.{Query, Mutation, Subscription}
use Rattle.gql_syntax.specs.gql_ast.declared.document.Operation.{Operation}
use Rattle.gql_syntax.specs.gql_ast.declared.value.ValueTree.{ValueTree}
use Rattle.gql_syntax.specs.gql_ast.declared.variable.VariableDef.{VariableDef}
use Rattle.gql_syntax.proofs.BuiltTrees.{value_tree-value_of, type_tree-ty_of}
use Rattle.gql_parse.specs.Documents.{Written, bare, full, documents, spell_braces, spell_name, spell_on, spell_selections, spell_set, spell_optional_name, spell_variables, spell_variables_part, spell_operation, spell_fragment, spell_definition, spell_definitions, SomeSelection, SomeDefinition, fragment_word}
use Rattle.gql_parse.proofs.Shapes.{ShapedSelections, ShapedVariable, ShapedDefinition, ShapedWritten, ShapedDocument}
use Rattle.gql_parse.specs.Machine.{Opening, Titled, VariableName, Typed, Up, of_bare, of_operation, of_fragment, of_inline, Inside, OpenField, Owner, on_variable, on_operation, on_fragment, on_field, on_spread, on_inline, State, between, kinded, called, variables, in_type, typed, in_value, set, named, field_named, dotted, in_arguments, in_directives, advance, then_selection, open_set, close_set, variables_with, field_of, within_field, with_default, with_arguments, dotted_name, fragment_name, some_written, after_directives, typed_variable, after_type}
use Rattle.gql_parse.proofs.Fronts.{level_of}
use Rattle.gql_parse.proofs.Standing.{document_machine}
use Rattle.gql_parse.proofs.Steps.{braced_some}
use Rattle.gql_syntax.proofs.ArgumentLaws.{arguments_complete, arguments_depth_from}
use Rattle.gql_syntax.proofs.DirectiveLaws.{NoParen, directives_complete, directives_depth_from}
use Rattle.gql_syntax.proofs.Laws.{reach, reach_from, Finishes}
use Rattle.gql_syntax.proofs.Standing.{token_mark, level_mark}
use Rattle.gql_syntax.proofs.TypeLaws.{NoBang, type_complete, type_depth_from}
use Rattle.gql_syntax.proofs.ValueLaws.{value_complete, value_depth_from}
use Rattle.gql_syntax.specs.FirstFault.{Shallow}
use Rattle.gql_syntax.proofs.Shapes.{ShapedArguments, ShapedDirectives, ShapedDefault, ShapedType, ShapedValue}
use Rattle.gql_syntax.specs.Machine.{first, further, want, outer, want_type, whole}
use Rattle.gql_syntax.specs.Run.{Halt}
use Rattle.gql_syntax.specs.Spelling.{Mark, spell_members, spell_arguments, spell_directives, spell_type, spell_value, spell_default}
use Rattle.gql_syntax.specs.Words.{on_word, kind_word}

-- ---- trees one behind the other

followed-end : (s : Sels) → sels_append s end ≡ s
followed-end end = refl
followed-end (field a n xs ds s rest) = ap (λ r. field a n xs ds s r) (followed-end rest)
followed-end (spread n ds rest) = ap (λ r. spread n ds r) (followed-end rest)
followed-end (inline o ds s rest) = ap (λ r. inline o ds s r) (followed-end rest)

followed_assoc : (s t u : Sels) → sels_append (sels_append s t) u ≡ sels_append s (sels_append t u)
followed_assoc end t u = refl
followed_assoc (field a n xs ds s rest) t u = ap (λ r. field a n xs ds s r) (followed_assoc rest t u)
followed_assoc (spread n ds rest) t u = ap (λ r. spread n ds r) (followed_assoc rest t u)
followed_assoc (inline o ds s rest) t u = ap (λ r. inline o ds s r) (followed_assoc rest t u)

-- ---- what may follow

-- which tokens may follow a part that ends by what follows: at 0 all that its own kind passes on, then `{`, `@`, `(` and `=`
abbrev pub height : Tok → ℕ
height (tok.name n) = 0
height tok.spread = 0
height tok.close_brace = 0
height tok.dollar = 0
height tok.close_paren = 0
height tok.open_brace = 1
height tok.at_sign = 2
height tok.open_paren = 3
height tok.equals = 3
height t = 4

abbrev pub Follows : ℕ → List Tok → Type 0
Follows k [] = ⊥
Follows k (t ∷ ts) = height t ≤ k

abbrev pub NoName : List Tok → Type 0
NoName [] = ⊥
NoName (tok.name n ∷ ts) = ⊥
NoName (t ∷ ts) = Unit {0}

follows-more : (k n : ℕ) (ts : List Tok) → k ≤ n → Follows k ts → Follows n ts
follows-more k n [] e h = h
follows-more k n (t ∷ ts) e h = omega (arith, e, h)

follows-directives : (ds : List Directive) (ts : List Tok) → Follows 1 ts → Follows 2 (spell_directives token_mark ds ts)
follows-directives [] ts h = follows-more 1 2 ts (omega arith) h
follows-directives (d ∷ ds) ts h = omega arith

follows-arguments : (xs : List (List ℕ × Val)) (ts : List Tok) → Follows 2 ts → Follows 3 (spell_arguments token_mark xs ts)
follows-arguments [] ts h = follows-more 2 3 ts (omega arith) h
follows-arguments (x ∷ xs) ts h = omega arith

follows-default : (d : Option ValueTree) (ts : List Tok) → Follows 2 ts → Follows 3 (spell_default token_mark d ts)
follows-default None ts h = follows-more 2 3 ts (omega arith) h
follows-default (Some d) ts h = omega arith

follows-braced : (s : Sels) (level : ℕ) (inside : List Tok → List Tok) (ts : List Tok) → Follows 0 ts → Follows 1 (spell_braces token_mark s level inside ts)
follows-braced end level inside ts h = follows-more 0 1 ts (omega arith) h
follows-braced (field a n xs ds s rest) level inside ts h = omega arith
follows-braced (spread n ds rest) level inside ts h = omega arith
follows-braced (inline o ds s rest) level inside ts h = omega arith

follows-some : (s : Sels) (level : ℕ) (inside : List Tok → List Tok) (ts : List Tok) → SomeSelection s → Follows 1 (spell_braces token_mark s level inside ts)
follows-some end level inside ts h = absurd h
follows-some (field a n xs ds s rest) level inside ts h = omega arith
follows-some (spread n ds rest) level inside ts h = omega arith
follows-some (inline o ds s rest) level inside ts h = omega arith

follows-name : (a : Option (List ℕ)) (n : List ℕ) (ts : List Tok) → Follows 0 (spell_name token_mark a n ts)
follows-name None n ts = omega arith
follows-name (Some a) n ts = omega arith

follows-selections : (s : Sels) (level : ℕ) (ts : List Tok) → Follows 0 ts → Follows 0 (spell_selections token_mark s level ts)
follows-selections end level ts h = h
follows-selections (field a n xs ds s rest) level ts h = follows-name a n _
follows-selections (spread n ds rest) level ts h = omega arith
follows-selections (inline o ds s rest) level ts h = omega arith

no_paren : (ts : List Tok) → Follows 1 ts → NoParen ts
no_paren [] h = h
no_paren (tok.open_paren ∷ ts) h = omega (arith, h)
no_paren (t ∷ ts) h = tt

no_bang : (ts : List Tok) → Follows 3 ts → NoBang ts
no_bang [] h = h
no_bang (tok.bang ∷ ts) h = omega (arith, h)
no_bang (t ∷ ts) h = tt

module _ (limit : ℕ) where
  abbrev to : State → List Tok → Result State Halt
  to s ts = reach (advance limit) s ts

  -- ---- the parts that all grammars share

  read_directives : (c : Bool) (d : Owner) (ds : List Directive) (ts : List Tok) (ls : List ℕ) → ShapedDirectives c ds → Shallow limit (spell_directives level_mark ds ls) → Follows 1 ts
      → (to (in_directives (further c [] d)) (spell_directives token_mark ds ts) ≡ to (in_directives (further c ds d)) ts) × Shallow limit ls
  read_directives c d ds ts ls f h n =
      let w = directives_depth_from ds limit ls h in
      (directives_complete limit in_directives (after_directives limit) (advance limit) (λ r t. refl) ds [] c d ts (no_paren ts n) f w.0, w.1)

  read_given : (f : OpenField) (x : List ℕ × Val) (xs : List (List ℕ × Val)) (ts : List Tok) (ls : List ℕ) → ShapedArguments false (x ∷ xs) → Shallow limit (spell_arguments level_mark (x ∷ xs) ls)
      → (to (in_arguments (first false f)) (spell_members token_mark (members_of (x ∷ xs)) 0 (tok.close_paren ∷ ts)) ≡ to (with_arguments f (x ∷ xs)) ts) × Shallow limit ls
  read_given f x xs ts ls g h =
      let d = arguments_depth_from (x ∷ xs) limit ls h in
      (arguments_complete limit in_arguments with_arguments (advance limit) (λ r t. refl) false f (x ∷ xs) ts tt g d.0, d.1)

  read_type : (v : VariableName) (t : Ty) (ts : List Tok) (ls : List ℕ) → ShapedType t → Shallow limit (spell_type level_mark t 0 0 ls) → Follows 3 ts
      → (to (in_type (want_type limit (whole v))) (spell_type token_mark t 0 0 ts) ≡ to (typed (record { variable = v; of = t })) ts) × Shallow limit ls
  read_type v t ts ls f h n =
      let e = type_depth_from t limit 0 0 ls (omega arith) h in
      let within = e.0 in
      (type_complete in_type typed_variable (after_type limit) (advance limit) (λ r t. refl) (λ v t x. refl) t limit v 0 0 ts (no_bang ts n) f (omega (arith, within)), e.1)

  read_value : (v : Typed) (d : Val) (ts : List Tok) (ls : List ℕ) → ShapedValue true d → Shallow limit (spell_value level_mark d 0 ls)
      → (to (in_value (want true limit (outer v))) (spell_value token_mark d 0 ts) ≡ to (with_default v d) ts) × Shallow limit ls
  read_value v d ts ls f h =
      let e = value_depth_from d limit 0 ls (omega arith) h in
      let within = e.0 in
      (value_complete in_value with_default (advance limit) (λ r t. refl) true limit (outer v) d 0 ts f (omega (arith, within)), e.1)

  -- ---- what ends by what follows

  field_ends : (f : OpenField) (ts : List Tok) → Follows 2 ts → to (field_named f) ts ≡ to (in_directives (further false [] (on_field f []))) ts
  field_ends f [] h = absurd h
  field_ends f (tok.open_paren ∷ ts) h = absurd (omega (arith, h))
  field_ends f (t ∷ ts) h = refl

  named_ends : (i : Inside) (n : List ℕ) (ts : List Tok) → Follows 3 ts → to (named i n) ts ≡ to (field_named (record { inside = i; alias = None; name = n })) ts
  named_ends i n [] h = absurd h
  named_ends i n (tok.colon ∷ ts) h = absurd (omega (arith, h))
  named_ends i n (t ∷ ts) h = refl

  selection_ends : (f : OpenField) (xs : List (List ℕ × Val)) (ds : List Directive) (ts : List Tok) → Follows 0 ts
      → to (in_directives (further false ds (on_field f xs))) ts ≡ to (set (then_selection f.inside (field_of f xs ds))) ts
  selection_ends f xs ds [] h = absurd h
  selection_ends f xs ds (tok.open_brace ∷ ts) h = absurd (omega (arith, h))
  selection_ends f xs ds (tok.at_sign ∷ ts) h = absurd (omega (arith, h))
  selection_ends f xs ds (t ∷ ts) h = refl

  spread_ends : (i : Inside) (n : List ℕ) (ds : List Directive) (ts : List Tok) → Follows 0 ts
      → to (in_directives (further false ds (on_spread i n))) ts ≡ to (set (then_selection i (spread n ds end))) ts
  spread_ends i n ds [] h = absurd h
  spread_ends i n ds (tok.at_sign ∷ ts) h = absurd (omega (arith, h))
  spread_ends i n ds (t ∷ ts) h = refl

  dotted_ends : (i : Inside) (ts : List Tok) → NoName ts → to (dotted i) ts ≡ to (in_directives (further false [] (on_inline i None))) ts
  dotted_ends i [] h = absurd h
  dotted_ends i (tok.name n ∷ ts) h = absurd h
  dotted_ends i (t ∷ ts) h = refl

  kinded_ends : (ws : List Written) (k : Kind) (ts : List Tok) → NoName ts → to (kinded ws k) ts ≡ to (called (record { before = ws; kind = k; name = None })) ts
  kinded_ends ws k [] h = absurd h
  kinded_ends ws k (tok.name n ∷ ts) h = absurd h
  kinded_ends ws k (t ∷ ts) h = refl

  called_ends : (o : Opening) (ts : List Tok) → Follows 2 ts → to (called o) ts ≡ to (in_directives (further false [] (on_operation o []))) ts
  called_ends o [] h = absurd h
  called_ends o (tok.open_paren ∷ ts) h = absurd (omega (arith, h))
  called_ends o (t ∷ ts) h = refl

  typed_ends : (v : Typed) (ts : List Tok) → Follows 2 ts → to (typed v) ts ≡ to (in_directives (further true [] (on_variable v None))) ts
  typed_ends v [] h = absurd h
  typed_ends v (tok.equals ∷ ts) h = absurd (omega (arith, h))
  typed_ends v (t ∷ ts) h = refl

  variable_ends : (v : Typed) (d : Option ValueTree) (ds : List Directive) (ts : List Tok) → Follows 0 ts
      → to (in_directives (further true ds (on_variable v d))) ts ≡ to (variables v.variable.opening (variables_with v d ds)) ts
  variable_ends v d ds [] h = absurd h
  variable_ends v d ds (tok.at_sign ∷ ts) h = absurd (omega (arith, h))
  variable_ends v d ds (t ∷ ts) h = refl

  -- ---- selection sets

  abbrev Reads : Sels → Type 0
  Reads s = (i : Inside) (ts : List Tok) (ls : List ℕ) → i.room + level_of i.up ≡ limit → ShapedSelections s → Shallow limit (spell_selections level_mark s (level_of i.up) ls) → Follows 0 ts
      → (to (set i) (spell_selections token_mark s (level_of i.up) ts) ≡ to (set (then_selection i s)) ts) × Shallow limit ls

  closes : (room : ℕ) (s : Sels) (up : Up) (ts : List Tok) → SomeSelection s → to (set (record { room = room; before = s; up = up })) (tok.close_brace ∷ ts) ≡ to (close_set room s up) ts
  closes room end up ts h = absurd h
  closes room (field a n xs ds s rest) up ts h = refl
  closes room (spread n ds rest) up ts h = refl
  closes room (inline o ds s rest) up ts h = refl

  -- a set that was opened has been read and closed
  record Opened (room : ℕ) (s : Sels) (up : Up) (ts : List Tok) (ls : List ℕ) : Type 0 where
    left : ℕ
    more : room ≡ suc left
    reached : reach_from (advance limit) (open_set room up) (spell_selections token_mark s (level_of up) (tok.close_brace ∷ ts)) ≡ to (close_set left s up) ts
    shallow : Shallow limit ls

  reads_set : (room : ℕ) (s : Sels) (up : Up) (ts : List Tok) (ls : List ℕ) → Reads s → room + level_of up ≡ limit + 1 → SomeSelection s → ShapedSelections s
      → Shallow limit (level_of up ∷ spell_selections level_mark s (level_of up) (0 ∷ ls)) → Opened room s up ts ls
  reads_set zero s up ts ls read e some f h = let l = h.0 in absurd (omega (arith, e, l))
  reads_set (suc room) s up ts ls read e some f h =
      let inner = read (record { room = room; before = end; up = up }) (tok.close_brace ∷ ts) (0 ∷ ls) (omega (arith, e)) f h.1 (omega arith) in
      record { left = room; more = refl; reached = inner.0 ∙ closes room s up ts some; shallow = inner.1.1 }

  reads_name : (i : Inside) (a : Option (List ℕ)) (n : List ℕ) (ts : List Tok) (ls : List ℕ) → Shallow limit (spell_name level_mark a n ls) → Follows 3 ts
      → (to (set i) (spell_name token_mark a n ts) ≡ to (field_named (record { inside = i; alias = a; name = n })) ts) × Shallow limit ls
  reads_name i None n ts ls h f = (named_ends i n ts f, h.1)
  reads_name i (Some a) n ts ls h f = (refl, h.1.1.1)

  reads_arguments : (f : OpenField) (xs : List (List ℕ × Val)) (ts : List Tok) (ls : List ℕ) → ShapedArguments false xs → Shallow limit (spell_arguments level_mark xs ls) → Follows 2 ts
      → (to (field_named f) (spell_arguments token_mark xs ts) ≡ to (in_directives (further false [] (on_field f xs))) ts) × Shallow limit ls
  reads_arguments f [] ts ls g h n = (field_ends f ts n, h)
  reads_arguments f (x ∷ xs) ts ls g h n = read_given f x xs ts ls g h

  reads_some : (f : OpenField) (xs : List (List ℕ × Val)) (ds : List Directive) (s : Sels) (ts : List Tok) (ls : List ℕ) → Reads s → f.inside.room + level_of f.inside.up ≡ limit → SomeSelection s → ShapedSelections s
      → Shallow limit (spell_braces level_mark s (level_of f.inside.up + 1) (spell_selections level_mark s (level_of f.inside.up + 1)) ls)
      → (to (in_directives (further false ds (on_field f xs))) (spell_braces token_mark s (level_of f.inside.up + 1) (spell_selections token_mark s (level_of f.inside.up + 1)) ts)
      ≡ to (set (then_selection f.inside (field f.alias f.name xs ds s end))) ts) × Shallow limit ls
  reads_some f xs ds s ts ls read e some g h =
      let level : ℕ = level_of f.inside.up + 1 in
      let o = reads_set f.inside.room s (within_field f xs ds) ts ls read (omega (arith, e)) some g (subst (λ l. Shallow limit l) (braced_some level_mark s level (spell_selections level_mark s level) ls some) h) in (
        ap (λ r. to (in_directives (further false ds (on_field f xs))) r) (braced_some token_mark s level (spell_selections token_mark s level) ts some)
            ∙ o.reached
            ∙ ap (λ r. to (set (record { room = r; before = sels_append f.inside.before (field f.alias f.name xs ds s end); up = f.inside.up })) ts) (sym o.more),
        o.shallow,
      )

  reads_subs : (f : OpenField) (xs : List (List ℕ × Val)) (ds : List Directive) (s : Sels) (ts : List Tok) (ls : List ℕ) → Reads s → f.inside.room + level_of f.inside.up ≡ limit → ShapedSelections s
      → Shallow limit (spell_braces level_mark s (level_of f.inside.up + 1) (spell_selections level_mark s (level_of f.inside.up + 1)) ls) → Follows 0 ts
      → (to (in_directives (further false ds (on_field f xs))) (spell_braces token_mark s (level_of f.inside.up + 1) (spell_selections token_mark s (level_of f.inside.up + 1)) ts)
      ≡ to (set (then_selection f.inside (field f.alias f.name xs ds s end))) ts) × Shallow limit ls
  reads_subs f xs ds end ts ls read e g h n = (selection_ends f xs ds ts n, h)
  reads_subs f xs ds (field a m ys es s rest) ts ls read e g h n = reads_some f xs ds (field a m ys es s rest) ts ls read e tt g h
  reads_subs f xs ds (spread m es rest) ts ls read e g h n = reads_some f xs ds (spread m es rest) ts ls read e tt g h
  reads_subs f xs ds (inline o es s rest) ts ls read e g h n = reads_some f xs ds (inline o es s rest) ts ls read e tt g h

  -- what comes behind one selection
  reads_rest : (i : Inside) (one rest : Sels) (ts : List Tok) (ls : List ℕ) → Reads rest → i.room + level_of i.up ≡ limit → ShapedSelections rest
      → Shallow limit (spell_selections level_mark rest (level_of i.up) ls) → Follows 0 ts
      → (to (set (then_selection i one)) (spell_selections token_mark rest (level_of i.up) ts) ≡ to (set (then_selection i (sels_append one rest))) ts) × Shallow limit ls
  reads_rest i one rest ts ls read e f h n =
      let behind = read (then_selection i one) ts ls e f h n in
      (behind.0 ∙ ap (λ b. to (set (record { room = i.room; before = b; up = i.up })) ts) (followed_assoc i.before one rest), behind.1)

  reads_field : (a : Option (List ℕ)) (n : List ℕ) (xs : List (List ℕ × Val)) (ds : List Directive) (s rest : Sels) → Reads s → Reads rest → Reads (field a n xs ds s rest)
  reads_field a n xs ds s rest read_s read_rest i ts ls e f h next =
      let level : ℕ = level_of i.up in
      let named_field : OpenField = record { inside = i; alias = a; name = n } in
      let behind = spell_selections token_mark rest level ts in
      let body = spell_braces token_mark s (level + 1) (spell_selections token_mark s (level + 1)) behind in
      let follows = follows-selections rest level ts next in
      let body_follows = follows-braced s (level + 1) (spell_selections token_mark s (level + 1)) behind follows in
      let after_name = follows-directives ds body body_follows in
      let p1 = reads_name i a n (spell_arguments token_mark xs (spell_directives token_mark ds body)) _ h (follows-arguments xs (spell_directives token_mark ds body) after_name) in
      let p2 = reads_arguments named_field xs (spell_directives token_mark ds body) _ f.0 p1.1 after_name in
      let p3 = read_directives false (on_field named_field xs) ds body _ f.1 p2.1 body_follows in
      let p4 = reads_subs named_field xs ds s behind _ read_s e f.2 p3.1 follows in
      let p5 = reads_rest i (field a n xs ds s end) rest ts ls read_rest e f.3 p4.1 next in
      (p1.0 ∙ p2.0 ∙ p3.0 ∙ p4.0 ∙ p5.0, p5.1)

  spread_name : (i : Inside) (n : List ℕ) (ts : List Tok) → bytes_eq n on_word ≡ false → to (set i) (tok.spread ∷ tok.name n ∷ ts) ≡ to (in_directives (further false [] (on_spread i n))) ts
  spread_name i n ts e = ap (λ b. to (dotted_name i n b) ts) e

  reads_spread : (n : List ℕ) (ds : List Directive) (rest : Sels) → Reads rest → Reads (spread n ds rest)
  reads_spread n ds rest read_rest i ts ls e f h next =
      let behind = spell_selections token_mark rest (level_of i.up) ts in
      let follows = follows-selections rest (level_of i.up) ts next in
      let p3 = read_directives false (on_spread i n) ds behind _ f.1 h.1.1 (follows-more 0 1 behind (omega arith) follows) in
      let p5 = reads_rest i (spread n ds end) rest ts ls read_rest e f.2 p3.1 next in
      (spread_name i n (spell_directives token_mark ds behind) f.0 ∙ p3.0 ∙ spread_ends i n ds behind follows ∙ p5.0, p5.1)

  no_name-directives : (ds : List Directive) (ts : List Tok) → NoName ts → NoName (spell_directives token_mark ds ts)
  no_name-directives [] ts h = h
  no_name-directives (d ∷ ds) ts h = tt

  no_name-some : (s : Sels) (level : ℕ) (inside : List Tok → List Tok) (ts : List Tok) → SomeSelection s → NoName (spell_braces token_mark s level inside ts)
  no_name-some end level inside ts h = absurd h
  no_name-some (field a n xs ds s rest) level inside ts h = tt
  no_name-some (spread n ds rest) level inside ts h = tt
  no_name-some (inline o ds s rest) level inside ts h = tt

  reads_on : (i : Inside) (o : Option (List ℕ)) (ts : List Tok) (ls : List ℕ) → Shallow limit (0 ∷ spell_on level_mark o ls) → NoName ts
      → (to (set i) (tok.spread ∷ spell_on token_mark o ts) ≡ to (in_directives (further false [] (on_inline i o))) ts) × Shallow limit ls
  reads_on i None ts ls h n = (dotted_ends i ts n, h.1)
  reads_on i (Some o) ts ls h n = (refl, h.1.1.1)

  reads_inner : (i : Inside) (o : Option (List ℕ)) (ds : List Directive) (s : Sels) (ts : List Tok) (ls : List ℕ) → Reads s → i.room + level_of i.up ≡ limit → SomeSelection s → ShapedSelections s
      → Shallow limit (spell_braces level_mark s (level_of i.up + 1) (spell_selections level_mark s (level_of i.up + 1)) ls)
      → (to (in_directives (further false ds (on_inline i o))) (spell_braces token_mark s (level_of i.up + 1) (spell_selections token_mark s (level_of i.up + 1)) ts)
      ≡ to (set (then_selection i (inline o ds s end))) ts) × Shallow limit ls
  reads_inner i o ds s ts ls read e some g h =
      let level : ℕ = level_of i.up + 1 in
      let opened = reads_set i.room s (of_inline i.before o ds i.up) ts ls read (omega (arith, e)) some g (subst (λ l. Shallow limit l) (braced_some level_mark s level (spell_selections level_mark s level) ls some) h) in (
        ap (λ r. to (in_directives (further false ds (on_inline i o))) r) (braced_some token_mark s level (spell_selections token_mark s level) ts some)
            ∙ opened.reached
            ∙ ap (λ r. to (set (record { room = r; before = sels_append i.before (inline o ds s end); up = i.up })) ts) (sym opened.more),
        opened.shallow,
      )

  reads_inline : (o : Option (List ℕ)) (ds : List Directive) (s rest : Sels) → Reads s → Reads rest → Reads (inline o ds s rest)
  reads_inline o ds s rest read_s read_rest i ts ls e f h next =
      let level : ℕ = level_of i.up in
      let behind = spell_selections token_mark rest level ts in
      let body = spell_braces token_mark s (level + 1) (spell_selections token_mark s (level + 1)) behind in
      let body_follows = follows-some s (level + 1) (spell_selections token_mark s (level + 1)) behind f.1 in
      let p1 = reads_on i o (spell_directives token_mark ds body) _ h (no_name-directives ds body (no_name-some s (level + 1) (spell_selections token_mark s (level + 1)) behind f.1)) in
      let p3 = read_directives false (on_inline i o) ds body _ f.0 p1.1 body_follows in
      let p4 = reads_inner i o ds s behind _ read_s e f.1 f.2 p3.1 in
      let p5 = reads_rest i (inline o ds s end) rest ts ls read_rest e f.3 p4.1 next in
      (p1.0 ∙ p3.0 ∙ p4.0 ∙ p5.0, p5.1)

  reads_selections : (s : Sels) → Reads s
  reads_selections end = λ i ts ls e f h n. (ap (λ b. to (set (record { room = i.room; before = b; up = i.up })) ts) (sym (followed-end i.before)), h)
  reads_selections (field a n xs ds s rest) = reads_field a n xs ds s rest (reads_selections s) (reads_selections rest)
  reads_selections (spread n ds rest) = reads_spread n ds rest (reads_selections rest)
  reads_selections (inline o ds s rest) = reads_inline o ds s rest (reads_selections s) (reads_selections rest)

  -- ---- variables

  reads_default : (v : Typed) (d : Option ValueTree) (ts : List Tok) (ls : List ℕ) → ShapedDefault d → Shallow limit (spell_default level_mark d ls) → Follows 2 ts
      → (to (typed v) (spell_default token_mark d ts) ≡ to (in_directives (further true [] (on_variable v d))) ts) × Shallow limit ls
  reads_default v None ts ls f h n = (typed_ends v ts n, h)
  reads_default v (Some d) ts ls f h n =
      let p = read_value v (value_of d) ts ls f h.1 in
      (p.0 ∙ ap (λ y. to (in_directives (further true [] (on_variable v (Some y)))) ts) (value_tree-value_of d), p.1)

  variable_again : (o : Opening) (there : List VariableDef) (v : VariableDef)
      → variables_with (record { variable = record { opening = o; before = there; name = v.name }; of = ty_of v.of }) v.default v.directives ≡ there ++ v ∷ []
  variable_again o there v = ap (λ t. there ++ record { name = v.name; of = t; default = v.default; directives = v.directives } ∷ []) (type_tree-ty_of v.of)

  reads_variable : (o : Opening) (there : List VariableDef) (v : VariableDef) (ts : List Tok) (ls : List ℕ) → ShapedVariable v → Shallow limit (spell_variables level_mark (v ∷ []) ls) → Follows 0 ts
      → (to (variables o there) (spell_variables token_mark (v ∷ []) ts) ≡ to (variables o (there ++ v ∷ [])) ts) × Shallow limit ls
  reads_variable o there v ts ls f h n =
      let name : VariableName = record { opening = o; before = there; name = v.name } in
      let whole_name : Typed = record { variable = name; of = ty_of v.of } in
      let behind = spell_directives token_mark v.directives ts in
      let behind_follows = follows-directives v.directives ts (follows-more 0 1 ts (omega arith) n) in
      let p1 = read_type name (ty_of v.of) (spell_default token_mark v.default behind) _ f.0 h.1.1.1 (follows-default v.default behind behind_follows) in
      let p2 = reads_default whole_name v.default behind _ f.1 p1.1 behind_follows in
      let p3 = read_directives true (on_variable whole_name v.default) v.directives ts ls f.2 p2.1 (follows-more 0 1 ts (omega arith) n) in
      (p1.0 ∙ p2.0 ∙ p3.0 ∙ variable_ends whole_name v.default v.directives ts n ∙ ap (λ vs. to (variables o vs) ts) (variable_again o there v), p3.1)

  follows-variables : (vs : List VariableDef) (ts : List Tok) → Follows 0 ts → Follows 0 (spell_variables token_mark vs ts)
  follows-variables [] ts h = h
  follows-variables (v ∷ vs) ts h = omega arith

  reads_variables : (o : Opening) (there vs : List VariableDef) (ts : List Tok) (ls : List ℕ) → AllByRecursion ShapedVariable vs → Shallow limit (spell_variables level_mark vs ls) → Follows 0 ts
      → (to (variables o there) (spell_variables token_mark vs ts) ≡ to (variables o (there ++ vs)) ts) × Shallow limit ls
  reads_variables o there [] ts ls f h n = (ap (λ vs. to (variables o vs) ts) (sym (append-nil there)), h)
  reads_variables o there (v ∷ vs) ts ls f h n =
      let p1 = reads_variable o there v (spell_variables token_mark vs ts) (spell_variables level_mark vs ls) f.0 h (follows-variables vs ts n) in
      let p2 = reads_variables o (there ++ v ∷ []) vs ts ls f.1 p1.1 n in
      (p1.0 ∙ p2.0 ∙ ap (λ ws. to (variables o ws) ts) (append_assoc there (v ∷ []) vs), p2.1)

  reads_variables_part : (o : Opening) (vs : List VariableDef) (ts : List Tok) (ls : List ℕ) → AllByRecursion ShapedVariable vs → Shallow limit (spell_variables_part level_mark vs ls) → Follows 2 ts
      → (to (called o) (spell_variables_part token_mark vs ts) ≡ to (in_directives (further false [] (on_operation o vs))) ts) × Shallow limit ls
  reads_variables_part o [] ts ls f h n = (called_ends o ts n, h)
  reads_variables_part o (v ∷ vs) ts ls f h n =
      let p = reads_variables o [] (v ∷ vs) (tok.close_paren ∷ ts) (0 ∷ ls) f h.1 (omega arith) in
      (p.0, p.1.1)

  no_name-variables : (vs : List VariableDef) (ts : List Tok) → NoName ts → NoName (spell_variables_part token_mark vs ts)
  no_name-variables [] ts h = h
  no_name-variables (v ∷ vs) ts h = tt

  -- ---- definitions

  kind_begins : (ws : List Written) (k : Kind) (ts : List Tok) → to (between ws) (tok.name (kind_word k) ∷ ts) ≡ to (kinded ws k) ts
  kind_begins ws Query ts = refl
  kind_begins ws Mutation ts = refl
  kind_begins ws Subscription ts = refl

  reads_operation_name : (ws : List Written) (k : Kind) (n : Option (List ℕ)) (ts : List Tok) (ls : List ℕ) → Shallow limit (spell_optional_name level_mark n ls) → NoName ts
      → (to (kinded ws k) (spell_optional_name token_mark n ts) ≡ to (called (record { before = ws; kind = k; name = n })) ts) × Shallow limit ls
  reads_operation_name ws k None ts ls h n = (kinded_ends ws k ts n, h)
  reads_operation_name ws k (Some m) ts ls h n = (refl, h.1)

  reads_top : (up : Up) (s : Sels) (ts : List Tok) (ls : List ℕ) → level_of up ≡ 1 → SomeSelection s → ShapedSelections s → Shallow limit (level_of up ∷ spell_selections level_mark s (level_of up) (0 ∷ ls)) → Opened limit s up ts ls
  reads_top up s ts ls e some f h = reads_set limit s up ts ls (reads_selections s) (omega (arith, e)) some f h

  reads_operation : (ws : List Written) (o : Operation) (ts : List Tok) (ls : List ℕ) → ShapedDefinition (D.Operation o) → Shallow limit (spell_operation level_mark 0 o ls)
      → (to (between ws) (spell_operation token_mark 0 o ts) ≡ to (between (ws ++ full (D.Operation o) ∷ [])) ts) × Shallow limit ls
  reads_operation ws o ts ls f h =
      let opening : Opening = record { before = ws; kind = o.kind; name = o.name } in
      let body = spell_set token_mark o.selections ts in
      let body_follows = follows-some o.selections 1 (spell_selections token_mark o.selections 1) ts f.2.0 in
      let body_no_name = no_name-some o.selections 1 (spell_selections token_mark o.selections 1) ts f.2.0 in
      let after_variables = spell_directives token_mark o.directives body in
      let p1 = reads_operation_name ws o.kind o.name (spell_variables_part token_mark o.variables after_variables) _ h.1 (no_name-variables o.variables after_variables (no_name-directives o.directives body body_no_name)) in
      let p2 = reads_variables_part opening o.variables after_variables _ f.0 p1.1 (follows-directives o.directives body body_follows) in
      let p3 = read_directives false (on_operation opening o.variables) o.directives body _ f.1 p2.1 body_follows in
      let p4 = reads_top (of_operation opening o.variables o.directives) o.selections ts ls refl f.2.0 f.2.1
      (subst (λ l. Shallow limit l) (braced_some level_mark o.selections 1 (spell_selections level_mark o.selections 1) ls f.2.0) p3.1) in (
        kind_begins ws o.kind (spell_optional_name token_mark o.name (spell_variables_part token_mark o.variables after_variables))
            ∙ p1.0 ∙ p2.0 ∙ p3.0
            ∙ ap (λ r. to (in_directives (further false o.directives (on_operation opening o.variables))) r) (braced_some token_mark o.selections 1 (spell_selections token_mark o.selections 1) ts f.2.0)
            ∙ p4.reached,
        p4.shallow,
      )

  fragment_begins : (ws : List Written) (n m : List ℕ) (ts : List Tok) → bytes_eq n on_word ≡ false
      → to (between ws) (tok.name fragment_word ∷ tok.name n ∷ tok.name on_word ∷ tok.name m ∷ ts) ≡ to (in_directives (further false [] (on_fragment (record { before = ws; name = n; on = m })))) ts
  fragment_begins ws n m ts e = ap (λ b. reach_from (advance limit) (fragment_name ws n b) (tok.name on_word ∷ tok.name m ∷ ts)) e

  reads_fragment : (ws : List Written) (d : Fragment) (ts : List Tok) (ls : List ℕ) → ShapedDefinition (D.Fragment d) → Shallow limit (spell_fragment level_mark 0 d ls)
      → (to (between ws) (spell_fragment token_mark 0 d ts) ≡ to (between (ws ++ full (D.Fragment d) ∷ [])) ts) × Shallow limit ls
  reads_fragment ws d ts ls f h =
      let titled : Titled = record { before = ws; name = d.name; on = d.on } in
      let body = spell_set token_mark d.selections ts in
      let body_follows = follows-some d.selections 1 (spell_selections token_mark d.selections 1) ts f.2.0 in
      let p3 = read_directives false (on_fragment titled) d.directives body _ f.1 h.1.1.1.1 body_follows in
      let p4 = reads_top (of_fragment titled d.directives) d.selections ts ls refl f.2.0 f.2.1
      (subst (λ l. Shallow limit l) (braced_some level_mark d.selections 1 (spell_selections level_mark d.selections 1) ls f.2.0) p3.1) in (
        fragment_begins ws d.name d.on (spell_directives token_mark d.directives body) f.0
            ∙ p3.0
            ∙ ap (λ r. to (in_directives (further false d.directives (on_fragment titled))) r) (braced_some token_mark d.selections 1 (spell_selections token_mark d.selections 1) ts f.2.0)
            ∙ p4.reached,
        p4.shallow,
      )

  reads_definition : (ws : List Written) (w : Written) (ts : List Tok) (ls : List ℕ) → ShapedWritten w → Shallow limit (spell_definition level_mark 0 w ls)
      → (to (between ws) (spell_definition token_mark 0 w ts) ≡ to (between (ws ++ w ∷ [])) ts) × Shallow limit ls
  reads_definition ws (bare s) ts ls f h = let p = reads_top (of_bare ws) s ts ls refl f.0 f.1 h in (p.reached, p.shallow)
  reads_definition ws (full (D.Operation o)) ts ls f h = reads_operation ws o ts ls f h
  reads_definition ws (full (D.Fragment d)) ts ls f h = reads_fragment ws d ts ls f h

  reads_definitions : (there ws : List Written) → AllByRecursion ShapedWritten ws → Shallow limit (spell_definitions level_mark 0 ws) → to (between there) (spell_definitions token_mark 0 ws) ≡ Ok (between (there ++ ws))
  reads_definitions there [] f h = ap (λ ws. Ok (between ws)) (sym (append-nil there))
  reads_definitions there (w ∷ ws) f h =
      let p = reads_definition there w (spell_definitions token_mark 0 ws) (spell_definitions level_mark 0 ws) f.0 h in
      p.0 ∙ reads_definitions (there ++ w ∷ []) ws f.1 p.1 ∙ ap (λ ws. Ok (between ws)) (append_assoc there (w ∷ []) ws)

-- where the number of nodes is not kept, it is no matter which definition is the first
pub definitions_first : {X : Type 0} (mark : Mark X) → ((t : Tok) (level n k : ℕ) → mark t level n ≡ mark t level k) → (ws : List Written) → spell_definitions mark 1 ws ≡ spell_definitions mark 0 ws
definitions_first mark same [] = refl
definitions_first mark same (bare s ∷ ws) = ap (λ x. x ∷ spell_selections mark s 1 (mark tok.close_brace 0 0 ∷ spell_definitions mark 0 ws)) (same tok.open_brace 1 3 2)
definitions_first mark same (full (D.Operation o) ∷ ws) =
    ap (λ x. x ∷ spell_optional_name mark o.name (spell_variables_part mark o.variables (spell_directives mark o.directives (spell_set mark o.selections (spell_definitions mark 0 ws))))) (same (tok.name (kind_word o.kind)) 0 3 2)
definitions_first mark same (full (D.Fragment f) ∷ ws) =
    ap (λ x. x ∷ mark (tok.name f.name) 0 1 ∷ mark (tok.name on_word) 0 0 ∷ mark (tok.name f.on) 0 1 ∷ spell_directives mark f.directives (spell_set mark f.selections (spell_definitions mark 0 ws))) (same (tok.name fragment_word) 0 3 2)

written_is : (ws : List Written) → SomeDefinition ws → some_written ws ≡ Some ws
written_is [] h = absurd h
written_is (w ∷ ws) h = refl

pub complete : (limit : ℕ) (ws : List Written) → ShapedDocument ws → Shallow limit (documents.levels ws) → Finishes document_machine limit (document_machine.start limit) (documents.tokens ws) ws
complete limit ws f h = record {
  last = between ws;
  reached = ap (λ ts. reach (advance limit) (between []) ts) (definitions_first token_mark (λ t l n k. refl) ws)
      ∙ reads_definitions limit [] ws f.1 (subst (λ ls. Shallow limit ls) (definitions_first level_mark (λ t l n k. refl) ws) h);
  finished = written_is ws f.0;
}
