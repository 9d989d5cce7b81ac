-- Names of fragments; variables and selections, one behind the other.
use Rattle.std.specs.Borrow.{MutBor}
use Rattle.std.proofs.Common.{◌≡◌, ℕ, ◌+◌, true, false, List, [], ◌∷◌, ◌++◌, Option, Some, None, Result, Ok, Err, IfOk, IfErr, OnOk, bytes_eq, length, refl, sym, ap, subst, ◌∙◌}
use Rattle.std.proofs.lemmas.List.{append-nil, append_assoc}
use Rattle.gql_syntax.specs.gql_lex.Sources.{Source, ended, faulty, token}
use Rattle.gql_syntax.specs.gql_ast.Sels.{Sels, end, field, spread, inline, sels_append}
use Rattle.gql_syntax.specs.gql_ast.SelectionView.{sel_of}
use Rattle.gql_syntax.specs.gql_ast.declared.selection.Selection.{Selection}
use Rattle.gql_syntax.specs.gql_ast.declared.variable.VariableDef.{VariableDef}
use Rattle.gql_parse.specs.Documents.{SomeSelection, spell_braces, spell_name, spell_on, spell_selections, spell_set, spell_variables, spell_variables_part}
use Rattle.gql_parse.specs.Machine.{Opening, Up, of_field, called, variables, fragment_begun, fragment_named, fragment_name}
use Rattle.gql_parse.specs.Reads.{Read, Fails, Reads, behind_variables, MayVariable, variables_at, variable_at, spell_variable, spell_inside, spell_closed, set_at, selection_at, spell_selection, MaySelect, FieldAt, before_field_set, behind_field_set, before_set, behind_set, MaySet, empty_set, InlineParts, inline_of, spell_inline_parts}
use Rattle.gql_syntax.specs.Answers.{Misses, node_count}
use Rattle.gql_syntax.specs.Enclosed.{Takes, Reader, InTurn, Opened, Enclosed, Unread, no_memory, not_opened, closed_at_once, member_fails}
use Rattle.gql_syntax.specs.Nexts.{behind, is_at, next_is, next_word, stopped_at}
use Rattle.gql_syntax.specs.Places.{Ahead, lay}
use Rattle.gql_syntax.specs.Reads.{Anywhere, NoDirective}
use Rattle.gql_syntax.specs.Spelling.{spell_arguments, spell_directives}
use Rattle.gql_syntax.specs.declared.fault.Fault.{Fault}
use Rattle.gql_syntax.specs.Words.{on_word}
use Rattle.gql_syntax.proofs.Tokens.{comes_at}
use Rattle.gql_parse.proofs.Courses.{one_word}
use Rattle.gql_parse.proofs.Fronts.{spell_selections-followed, spell_variables-push}
use Rattle.gql_parse.proofs.Heads.{variable_missed, variables_close, variables_part}
use Rattle.gql_parse.proofs.Passing.{Passed, at_start, pass-as, pass-name, pass-part, pass-sign, all_read, fails_here, fails_in, fails_missed}
use Rattle.gql_parse.proofs.Steps.{braced_some}

-- ---- the name of a fragment

pub fragment_name_read : (a c : Ahead) (w : List ℕ) (r : Result (List ℕ) Fault) → next_word a.source ≡ Some w → bytes_eq w on_word ≡ false
    → IfOk r (λ n. next_word a.source ≡ Some n) → OnOk r (c.source ≡ behind a.source) → OnOk r ((ns : List ℕ) → lay (1 ∷ ns) a ≡ lay ns c) → c.text ≡ a.text
    → IfErr r (λ f. Misses f (next_word a.source ≡ None) (stopped_at (length a.text) a.source))
    → Reads Anywhere fragment_begun fragment_named (λ (n : List ℕ) (ns : List ℕ). 1 ∷ ns) (λ n. n) a c r
fragment_name_read a c w (Ok n) e o name s l t f =
    let named : bytes_eq n on_word ≡ false = subst (λ m. bytes_eq m on_word ≡ false) (one_word w n a.source e name) o in
    all_read (pass-name (at_start Anywhere fragment_begun a) n (λ ws. fragment_named ws n) 1 c name s l t (λ ws. ap (λ b. fragment_name ws n b) named)) n refl (λ ws. refl) (λ ns. refl)
fragment_name_read a c w (Err x) e o name s l t f =
    fails_missed (at_start Anywhere fragment_begun a) x (next_word a.source ≡ None) f (λ ws size m y. let both : Some w ≡ None = sym e ∙ y in cc)

-- ---- variables

unclosed-none : (vs : List VariableDef) (s : Source) → next_is 41 s ≡ false → next_is 41 s ≡ true → vs ≡ []
unclosed-none vs s n e = let both : true ≡ false = sym e ∙ n in absurd (cc)

no_dollar : (s : Source) → next_is 41 s ≡ true → next_is 36 s ≡ false
no_dollar ended e = refl
no_dollar (faulty code at) e = refl
no_dollar (token p rest) e = ap (λ t. is_at 36 t) (comes_at 41 (token p rest) e)

-- these variables have been read behind `(`
abbrev pub Variables : (old new : Ahead) → List VariableDef → Type 0
Variables old new vs = Passed {K = Opening} Anywhere called (λ o. variables o vs) (λ ns. 0 ∷ spell_variables node_count vs ns) old new

variables_begun : (a b : Ahead) → Takes 40 a b → Variables a b []
variables_begun a b o = pass-sign (at_start Anywhere called a) 40 (λ o. variables o []) 0 b o.there o.source o.places o.text (λ o. refl)

then_variable : (a b c : Ahead) (vs : List VariableDef) (v : VariableDef) → Variables a b vs → next_is 41 b.source ≡ false
    → Read MayVariable variables_at variable_at spell_variable (λ w. w) b c v → Variables a c (vs ++ v ∷ [])
then_variable a b c vs v p unclosed r =
    pass-as (pass-part p r (λ o. record { opening = o; before = vs }) (λ o. refl) (λ o m e. unclosed-none vs b.source unclosed e))
    (λ o. variables o (vs ++ v ∷ [])) (λ ns. 0 ∷ spell_variables node_count (vs ++ v ∷ []) ns) (λ o. refl) (λ ns. ap (λ r. 0 ∷ r) (spell_variables-push node_count vs (v ∷ []) ns))

-- where one is read by this
module _ (reads : Reader VariableDef) (means : (here there : MutBor Ahead) (r : Result VariableDef Fault) → reads here r there → Reads MayVariable variables_at variable_at spell_variable (λ v. v) here.now there.now r) where
  variables_in_turn : (a b c : Ahead) (vs us : List VariableDef) → Variables a b vs → InTurn 41 reads b us c → Variables a c (vs ++ us)
  variables_in_turn a b c vs [] p i = subst (λ us. Variables a c us) (sym (append-nil vs)) (subst (λ x. Variables a x vs) i p)
  variables_in_turn a b c vs (u ∷ us) p i =
      subst (λ ws. Variables a c ws) (append_assoc vs (u ∷ []) us) (variables_in_turn a i.1.now c (vs ++ u ∷ []) us
      (then_variable a i.0.now i.1.now vs u (subst (λ x. Variables a x vs) i.2 p) i.3 (means i.0 i.1 (Ok u) i.4)) i.5)

  variables_opened : (a b : Ahead) (vs : List VariableDef) → Opened 40 41 reads a b vs → Variables a b vs
  variables_opened a b vs o = variables_in_turn a o.first b [] vs (variables_begun a o.first o.opens) o.members

  pub variables_read : (a c : Ahead) (vs : List VariableDef) → Enclosed 40 41 reads a c vs → Read Anywhere called behind_variables (spell_variables_part node_count) (λ ws. ws) a c vs
  variables_read a c vs e =
      all_read (pass-sign (variables_opened a e.last vs e.opened) 41 (λ o. behind_variables o vs) 0 c e.closes.there e.closes.source e.closes.places e.closes.text (λ o. variables_close o vs e.some))
      vs refl (λ o. refl) (λ ns. variables_part node_count vs ns e.some)

  pub variables_fail : (a : Ahead) (f : Fault) → next_is 40 a.source ≡ true → Unread 40 41 reads a f → Fails Anywhere called a f
  variables_fail a f n (no_memory e) = rw e tt
  variables_fail a f n (not_opened m) = fails_missed (at_start Anywhere called a) f (next_is 40 a.source ≡ false) m (λ o size w x. let both : true ≡ false = sym n ∙ x in cc)
  variables_fail a f n (closed_at_once here o c e) =
      rw e (fails_here (variables_opened a here [] o) (λ o size w. variable_missed size o [] here.source (λ x. refl) (no_dollar here.source c)))
  variables_fail a f n (member_fails here there vs o c m) =
      fails_in (variables_opened a here.now vs o) MayVariable variables_at (λ o. record { opening = o; before = vs }) (λ o. refl) (λ o w x. unclosed-none vs here.now.source c x) f (means here there (Err f) m)

-- ---- selections

-- these selections have been read behind `{`
abbrev pub Selections : (room : ℕ) → (old new : Ahead) → Sels → Type 0
Selections room old new s = Passed {K = Up} Anywhere (empty_set room) (λ up. set_at room (record { before = s; up = up })) (spell_inside s) old new

pub then_selected : (room : ℕ) (a b c : Ahead) (s t : Sels) (x : Selection) → Selections room a b s → next_is 125 b.source ≡ false
    → Read MaySelect (set_at room) (selection_at room) spell_selection (λ y. y) b c x → t ≡ sels_append s (sel_of x) → Selections room a c t
then_selected room a b c s t x p unclosed r e =
    pass-as (pass-part p r (λ up. record { before = s; up = up }) (λ up. refl) (λ up m. unclosed)) (λ up. set_at room (record { before = t; up = up })) (spell_inside t)
    (λ up. ap (λ z. set_at room (record { before = z; up = up })) (sym e))
    (λ ns. ap (λ z. spell_inside z ns) e ∙ spell_selections-followed node_count s (sel_of x) 1 ns)

-- how many nodes begin at a token, no number of a set says
braces_nodes : (s : Sels) (l m : ℕ) (ns : List ℕ) → ((ms : List ℕ) → spell_selections node_count s l ms ≡ spell_selections node_count s m ms)
    → spell_braces node_count s l (spell_selections node_count s l) ns ≡ spell_braces node_count s m (spell_selections node_count s m) ns
braces_nodes end l m ns h = refl
braces_nodes (field a n xs ds s rest) l m ns h = ap (λ ms. 0 ∷ ms) (h (0 ∷ ns))
braces_nodes (spread n ds rest) l m ns h = ap (λ ms. 0 ∷ ms) (h (0 ∷ ns))
braces_nodes (inline o ds s rest) l m ns h = ap (λ ms. 0 ∷ ms) (h (0 ∷ ns))

inside_nodes : (s : Sels) (l m : ℕ) (ns : List ℕ) → spell_selections node_count s l ns ≡ spell_selections node_count s m ns
inside_nodes end l m ns = refl
inside_nodes (field a n xs ds s rest) l m ns =
    ap (λ r. spell_name node_count a n (spell_arguments node_count xs (spell_directives node_count ds r)))
    (ap (λ r. spell_braces node_count s (l + 1) (spell_selections node_count s (l + 1)) r) (inside_nodes rest l m ns)
    ∙ braces_nodes s (l + 1) (m + 1) (spell_selections node_count rest m ns) (λ ms. inside_nodes s (l + 1) (m + 1) ms))
inside_nodes (spread n ds rest) l m ns = ap (λ r. 1 ∷ 1 ∷ spell_directives node_count ds r) (inside_nodes rest l m ns)
inside_nodes (inline o ds s rest) l m ns =
    ap (λ r. 1 ∷ spell_on node_count o (spell_directives node_count ds r))
    (ap (λ r. spell_braces node_count s (l + 1) (spell_selections node_count s (l + 1)) r) (inside_nodes rest l m ns)
    ∙ braces_nodes s (l + 1) (m + 1) (spell_selections node_count rest m ns) (λ ms. inside_nodes s (l + 1) (m + 1) ms))

-- a set within another has the nodes that it has alone
pub set_nodes : (s : Sels) (ns : List ℕ) → spell_braces node_count s (1 + 1) (spell_selections node_count s (1 + 1)) ns ≡ spell_set node_count s ns
set_nodes s ns = braces_nodes s (1 + 1) 1 ns (λ ms. inside_nodes s (1 + 1) 1 ms)

pub set_closed : (s : Sels) (ns : List ℕ) → SomeSelection s → spell_set node_count s ns ≡ 0 ∷ spell_closed s ns
set_closed s ns h = braced_some node_count s 1 (spell_selections node_count s 1) ns h

pub inline_nodes : (o : Option (List ℕ)) (w : InlineParts) (ns : List ℕ) → spell_selection (inline_of o w) ns ≡ 1 ∷ spell_on node_count o (spell_inline_parts w ns)
inline_nodes o w ns = ap (λ r. 1 ∷ spell_on node_count o (spell_directives node_count w.directives r)) (set_nodes w.selections ns)

abbrev set_of_field : FieldAt → Up
set_of_field k = of_field k.at.before k.name.alias k.name.name k.arguments k.directives k.at.up

-- the set of a field, where one stands
pub field_set : (room : ℕ) (a c : Ahead) (r : Result Sels Fault) → next_is 123 a.source ≡ true → IfOk r SomeSelection
    → Reads (MaySet room) (before_set room) (behind_set room) (λ (s : Sels) (ns : List ℕ). 0 ∷ spell_closed s ns) (λ s. s) a c r
    → Reads NoDirective (before_field_set room) (behind_field_set room) (spell_set node_count) (λ s. s) a c r
field_set room a c (Ok s) n h x = all_read (pass-part (at_start NoDirective (before_field_set room) a) x set_of_field (λ k. refl) (λ k m. n)) s refl (λ k. refl) (λ ns. set_closed s ns h)
field_set room a c (Err f) n h x = fails_in (at_start NoDirective (before_field_set room) a) (MaySet room) (before_set room) set_of_field (λ k. refl) (λ k m. n) f x
