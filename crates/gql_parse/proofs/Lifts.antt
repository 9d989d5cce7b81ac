-- A machine with a greater limit goes the same way, and takes what is too deep for this one.
use Rattle.std.proofs.Common.{◌≡◌, ℕ, zero, suc, ◌+◌, Bool, true, false, bytes_eq, List, [], ◌∷◌, None, Result, Ok, refl, sym, ap, arith}
use Rattle.gql_syntax.specs.gql_lex.Toks as tok
use Rattle.gql_syntax.specs.gql_lex.Toks.{Tok}
use Rattle.gql_syntax.specs.gql_ast.Sels.{Sels, end, field, spread, inline, sels_append}
use Rattle.gql_syntax.specs.gql_ast.declared.directive.Directive.{Directive}
use Rattle.gql_syntax.specs.gql_ast.declared.document.Kind.{Kind}
use Rattle.gql_syntax.specs.gql_ast.declared.variable.VariableDef.{VariableDef}
use Rattle.gql_parse.specs.Documents.{Written}
use Rattle.gql_parse.specs.Machine.{Opening, Typed, Up, of_bare, of_operation, of_fragment, of_field, of_inline, Inside, OpenField, Owner, on_variable, on_operation, on_fragment, on_field, on_spread, on_inline, State, between, kinded, called, variables, dollar, variable_named, in_type, typed, in_value, fragment_begun, fragment_named, fragment_on, set, named, aliased, field_named, dotted, on, in_arguments, in_directives, advance, finish, then_selection, open_set, close_set, may_close, at_set, at_variables, variables_with, field_of, within_field, after_directives, at_directives, at_called, at_kinded, Word, kind, fragment, other, word_of, begin_definition, at_definition, at_typed, at_field, at_named, dotted_name, at_dotted, fragment_name, fragment_condition, with_default, with_arguments, typed_variable, after_type}
use Rattle.gql_parse.proofs.Standing.{so_far, level_at, owner_level, SeatedInside, Seated, SeatedOwner, lift_inside, lift_field, lift_owner, lift, variable_ground, typed_ground, field_ground, owner_ground}
use Rattle.gql_syntax.proofs.ArgumentLaws.{arguments_lifts, arguments_opens, lift_arguments_so_far, lift_arguments_level, lift_arguments_seated}
use Rattle.gql_syntax.proofs.DirectiveLaws.{directives_lifts, directives_opens, lift_directives_so_far, lift_directives_level, lift_directives_seated}
use Rattle.gql_syntax.proofs.Laws.{Leveled}
use Rattle.gql_syntax.proofs.Standing.{GroundLaws, Lifts, Opens}
use Rattle.gql_syntax.proofs.TypeLaws.{type_lifts, type_opens, lift_type_so_far, lift_type_level, lift_type_seated}
use Rattle.gql_syntax.proofs.ValueLaws.{value_lifts, value_opens, lift_value_so_far, lift_value_level, lift_value_seated}
use Rattle.gql_syntax.specs.Run.{Halt}
use Rattle.gql_syntax.specs.Words.{on_word}

-- ---- selection sets

one_more : (k room : ℕ) → k + suc room ≡ suc (k + room)
one_more k room = omega arith

open_set-lifts : (k room : ℕ) (up : Up) → Lifts (lift k) (open_set room up) (open_set (k + room) up)
open_set-lifts k zero up = tt
open_set-lifts k (suc room) up = ap (λ n. open_set n up) (one_more k room)

open_set-opens : (room : ℕ) (up : Up) → Opens (open_set room up) (open_set (1 + room) up)
open_set-opens zero up = (set (record { room = 0; before = end; up = up }), refl)
open_set-opens (suc room) up = tt

close_set-lift : (k room : ℕ) (s : Sels) (up : Up) → close_set (k + room) s up ≡ lift k (close_set room s up)
close_set-lift k room s (of_bare ws) = refl
close_set-lift k room s (of_operation o vs ds) = refl
close_set-lift k room s (of_fragment f ds) = refl
close_set-lift k room s (of_field b a n xs ds up) = ap (λ r. set (record { room = r; before = sels_append b (field a n xs ds s end); up = up })) (sym (one_more k room))
close_set-lift k room s (of_inline b o ds up) = ap (λ r. set (record { room = r; before = sels_append b (inline o ds s end); up = up })) (sym (one_more k room))

may_close-lifts : (k room : ℕ) (s : Sels) (up : Up) → Lifts (lift k) (may_close room s up) (may_close (k + room) s up)
may_close-lifts k room end up = refl
may_close-lifts k room (field a n xs ds s rest) up = ap (λ (x : State). Ok x) (close_set-lift k room (field a n xs ds s rest) up)
may_close-lifts k room (spread n ds rest) up = ap (λ (x : State). Ok x) (close_set-lift k room (spread n ds rest) up)
may_close-lifts k room (inline o ds s rest) up = ap (λ (x : State). Ok x) (close_set-lift k room (inline o ds s rest) up)

may_close-opens : (room : ℕ) (s : Sels) (up : Up) (x : Result State Halt) → Opens (may_close room s up) x
may_close-opens room end up x = tt
may_close-opens room (field a n xs ds s rest) up x = tt
may_close-opens room (spread n ds rest) up x = tt
may_close-opens room (inline o ds s rest) up x = tt

at_set-lifts : (k : ℕ) (i : Inside) (t : Tok) → Lifts (lift k) (at_set i t) (at_set (lift_inside k i) t)
at_set-lifts k i (tok.name n) = refl
at_set-lifts k i tok.spread = refl
at_set-lifts k i tok.close_brace = may_close-lifts k i.room i.before i.up
at_set-lifts k i t = refl

at_set-opens : (i : Inside) (t : Tok) (x : Result State Halt) → Opens (at_set i t) x
at_set-opens i tok.close_brace x = may_close-opens i.room i.before i.up x
at_set-opens i t x = tt

-- ---- directives

at_variables-lifts : (k : ℕ) (o : Opening) (vs : List VariableDef) (t : Tok) → Lifts (lift k) (at_variables o vs t) (at_variables o vs t)
at_variables-lifts k o vs tok.dollar = refl
at_variables-lifts k o [] t = refl
at_variables-lifts k o (v ∷ vs) tok.close_paren = refl
at_variables-lifts k o (v ∷ vs) t = refl

at_variables-opens : (o : Opening) (vs : List VariableDef) (t : Tok) (x : Result State Halt) → Opens (at_variables o vs t) x
at_variables-opens o vs tok.dollar x = tt
at_variables-opens o [] t x = tt
at_variables-opens o (v ∷ vs) tok.close_paren x = tt
at_variables-opens o (v ∷ vs) t x = tt

pub after_directives-lifts : (k limit : ℕ) (d : Owner) (ds : List Directive) (t : Tok) → Lifts (lift k) (after_directives limit d ds t) (after_directives (k + limit) (lift_owner k d) ds t)
after_directives-lifts k limit (on_variable v default) ds t = at_variables-lifts k v.variable.opening (variables_with v default ds) t
after_directives-lifts k limit (on_operation o vs) ds tok.open_brace = open_set-lifts k limit (of_operation o vs ds)
after_directives-lifts k limit (on_operation o vs) ds t = refl
after_directives-lifts k limit (on_fragment f) ds tok.open_brace = open_set-lifts k limit (of_fragment f ds)
after_directives-lifts k limit (on_fragment f) ds t = refl
after_directives-lifts k limit (on_field f xs) ds tok.open_brace = open_set-lifts k f.inside.room (within_field f xs ds)
after_directives-lifts k limit (on_field f xs) ds t = at_set-lifts k (then_selection f.inside (field_of f xs ds)) t
after_directives-lifts k limit (on_spread i n) ds t = at_set-lifts k (then_selection i (spread n ds end)) t
after_directives-lifts k limit (on_inline i o) ds tok.open_brace = open_set-lifts k i.room (of_inline i.before o ds i.up)
after_directives-lifts k limit (on_inline i o) ds t = refl

pub after_directives-opens : (limit : ℕ) (d : Owner) (ds : List Directive) (t : Tok) → Opens (after_directives limit d ds t) (after_directives (1 + limit) (lift_owner 1 d) ds t)
after_directives-opens limit (on_variable v default) ds t = at_variables-opens v.variable.opening (variables_with v default ds) t _
after_directives-opens limit (on_operation o vs) ds tok.open_brace = open_set-opens limit (of_operation o vs ds)
after_directives-opens limit (on_operation o vs) ds t = tt
after_directives-opens limit (on_fragment f) ds tok.open_brace = open_set-opens limit (of_fragment f ds)
after_directives-opens limit (on_fragment f) ds t = tt
after_directives-opens limit (on_field f xs) ds tok.open_brace = open_set-opens f.inside.room (within_field f xs ds)
after_directives-opens limit (on_field f xs) ds t = at_set-opens (then_selection f.inside (field_of f xs ds)) t (after_directives (1 + limit) (lift_owner 1 (on_field f xs)) ds t)
after_directives-opens limit (on_spread i n) ds t = at_set-opens (then_selection i (spread n ds end)) t (after_directives (1 + limit) (lift_owner 1 (on_spread i n)) ds t)
after_directives-opens limit (on_inline i o) ds tok.open_brace = open_set-opens i.room (of_inline i.before o ds i.up)
after_directives-opens limit (on_inline i o) ds t = tt

at_directives-lifts : (k limit : ℕ) (c : Bool) (d : Owner) (t : Tok) → Lifts (lift k) (at_directives limit c d t) (at_directives (k + limit) c (lift_owner k d) t)
at_directives-lifts k limit c d tok.at_sign = refl
at_directives-lifts k limit c d t = after_directives-lifts k limit d [] t

at_directives-opens : (limit : ℕ) (c : Bool) (d : Owner) (t : Tok) → Opens (at_directives limit c d t) (at_directives (1 + limit) c (lift_owner 1 d) t)
at_directives-opens limit c d tok.at_sign = tt
at_directives-opens limit c d t = after_directives-opens limit d [] t

-- ---- the layers of the states that end by what follows

at_called-lifts : (k limit : ℕ) (o : Opening) (t : Tok) → Lifts (lift k) (at_called limit o t) (at_called (k + limit) o t)
at_called-lifts k limit o tok.open_paren = refl
at_called-lifts k limit o t = at_directives-lifts k limit false (on_operation o []) t

at_called-opens : (limit : ℕ) (o : Opening) (t : Tok) → Opens (at_called limit o t) (at_called (1 + limit) o t)
at_called-opens limit o tok.open_paren = tt
at_called-opens limit o t = at_directives-opens limit false (on_operation o []) t

at_kinded-lifts : (k limit : ℕ) (ws : List Written) (n : Kind) (t : Tok) → Lifts (lift k) (at_kinded limit ws n t) (at_kinded (k + limit) ws n t)
at_kinded-lifts k limit ws n (tok.name m) = refl
at_kinded-lifts k limit ws n t = at_called-lifts k limit (record { before = ws; kind = n; name = None }) t

at_kinded-opens : (limit : ℕ) (ws : List Written) (n : Kind) (t : Tok) → Opens (at_kinded limit ws n t) (at_kinded (1 + limit) ws n t)
at_kinded-opens limit ws n (tok.name m) = tt
at_kinded-opens limit ws n t = at_called-opens limit (record { before = ws; kind = n; name = None }) t

begun-lifts : (k : ℕ) (ws : List Written) (w : Word) → Lifts (lift k) (begin_definition ws w) (begin_definition ws w)
begun-lifts k ws (kind n) = refl
begun-lifts k ws fragment = refl
begun-lifts k ws other = refl

begun-opens : (ws : List Written) (w : Word) (x : Result State Halt) → Opens (begin_definition ws w) x
begun-opens ws (kind n) x = tt
begun-opens ws fragment x = tt
begun-opens ws other x = tt

at_definition-lifts : (k limit : ℕ) (ws : List Written) (t : Tok) → Lifts (lift k) (at_definition limit ws t) (at_definition (k + limit) ws t)
at_definition-lifts k limit ws (tok.name n) = begun-lifts k ws (word_of n)
at_definition-lifts k limit ws tok.open_brace = open_set-lifts k limit (of_bare ws)
at_definition-lifts k limit ws t = refl

at_definition-opens : (limit : ℕ) (ws : List Written) (t : Tok) → Opens (at_definition limit ws t) (at_definition (1 + limit) ws t)
at_definition-opens limit ws (tok.name n) = begun-opens ws (word_of n) _
at_definition-opens limit ws tok.open_brace = open_set-opens limit (of_bare ws)
at_definition-opens limit ws t = tt

pub at_typed-lifts : (k limit : ℕ) (v : Typed) (t : Tok) → Lifts (lift k) (at_typed limit v t) (at_typed (k + limit) v t)
at_typed-lifts k limit v tok.equals = refl
at_typed-lifts k limit v t = at_directives-lifts k limit true (on_variable v None) t

pub at_typed-opens : (limit : ℕ) (v : Typed) (t : Tok) → Opens (at_typed limit v t) (at_typed (1 + limit) v t)
at_typed-opens limit v tok.equals = tt
at_typed-opens limit v t = at_directives-opens limit true (on_variable v None) t

at_field-lifts : (k limit : ℕ) (f : OpenField) (t : Tok) → Lifts (lift k) (at_field limit f t) (at_field (k + limit) (lift_field k f) t)
at_field-lifts k limit f tok.open_paren = refl
at_field-lifts k limit f t = at_directives-lifts k limit false (on_field f []) t

at_field-opens : (limit : ℕ) (f : OpenField) (t : Tok) → Opens (at_field limit f t) (at_field (1 + limit) (lift_field 1 f) t)
at_field-opens limit f tok.open_paren = tt
at_field-opens limit f t = at_directives-opens limit false (on_field f []) t

at_named-lifts : (k limit : ℕ) (i : Inside) (n : List ℕ) (t : Tok) → Lifts (lift k) (at_named limit i n t) (at_named (k + limit) (lift_inside k i) n t)
at_named-lifts k limit i n tok.colon = refl
at_named-lifts k limit i n t = at_field-lifts k limit (record { inside = i; alias = None; name = n }) t

at_named-opens : (limit : ℕ) (i : Inside) (n : List ℕ) (t : Tok) → Opens (at_named limit i n t) (at_named (1 + limit) (lift_inside 1 i) n t)
at_named-opens limit i n tok.colon = tt
at_named-opens limit i n t = at_field-opens limit (record { inside = i; alias = None; name = n }) t

dotted_name-lift : (k : ℕ) (i : Inside) (n : List ℕ) (is_on : Bool) → dotted_name (lift_inside k i) n is_on ≡ lift k (dotted_name i n is_on)
dotted_name-lift k i n true = refl
dotted_name-lift k i n false = refl

at_dotted-lifts : (k limit : ℕ) (i : Inside) (t : Tok) → Lifts (lift k) (at_dotted limit i t) (at_dotted (k + limit) (lift_inside k i) t)
at_dotted-lifts k limit i (tok.name n) = ap (λ (x : State). Ok x) (dotted_name-lift k i n (bytes_eq n on_word))
at_dotted-lifts k limit i t = at_directives-lifts k limit false (on_inline i None) t

at_dotted-opens : (limit : ℕ) (i : Inside) (t : Tok) → Opens (at_dotted limit i t) (at_dotted (1 + limit) (lift_inside 1 i) t)
at_dotted-opens limit i (tok.name n) = tt
at_dotted-opens limit i t = at_directives-opens limit false (on_inline i None) t

fragment_name-lifts : (k : ℕ) (ws : List Written) (n : List ℕ) (is_on : Bool) → Lifts (lift k) (fragment_name ws n is_on) (fragment_name ws n is_on)
fragment_name-lifts k ws n true = refl
fragment_name-lifts k ws n false = refl

fragment_name-opens : (ws : List Written) (n : List ℕ) (is_on : Bool) (x : Result State Halt) → Opens (fragment_name ws n is_on) x
fragment_name-opens ws n true x = tt
fragment_name-opens ws n false x = tt

fragment_condition-lifts : (k : ℕ) (ws : List Written) (n : List ℕ) (is_on : Bool) → Lifts (lift k) (fragment_condition ws n is_on) (fragment_condition ws n is_on)
fragment_condition-lifts k ws n true = refl
fragment_condition-lifts k ws n false = refl

fragment_condition-opens : (ws : List Written) (n : List ℕ) (is_on : Bool) (x : Result State Halt) → Opens (fragment_condition ws n is_on) x
fragment_condition-opens ws n true x = tt
fragment_condition-opens ws n false x = tt

-- ---- what stays the same

lift_inside-seated : (k limit : ℕ) (i : Inside) → SeatedInside limit i → SeatedInside (k + limit) (lift_inside k i)
lift_inside-seated k limit i h = let e = h.room in record { room = omega (arith, e); formed = h.formed; up = h.up }

lift_owner-seated : (k limit : ℕ) (d : Owner) → SeatedOwner limit d → SeatedOwner (k + limit) (lift_owner k d)
lift_owner-seated k limit (on_variable v default) h = h
lift_owner-seated k limit (on_operation o vs) h = h
lift_owner-seated k limit (on_fragment f) h = h
lift_owner-seated k limit (on_field f xs) h = (lift_inside-seated k limit f.inside h.0, h.1)
lift_owner-seated k limit (on_spread i n) h = (lift_inside-seated k limit i h.0, h.1)
lift_owner-seated k limit (on_inline i o) h = lift_inside-seated k limit i h

pub variable_laws : GroundLaws variable_ground
variable_laws = record { lift_front = λ k v ts. refl; lift_constant = λ k v. refl; lift_seated = λ k limit v h. h }

pub typed_laws : GroundLaws typed_ground
typed_laws = record { lift_front = λ k v ts. refl; lift_constant = λ k v. refl; lift_seated = λ k limit v h. h }

pub field_laws : GroundLaws field_ground
field_laws = record { lift_front = λ k f ts. refl; lift_constant = λ k f. refl; lift_seated = λ k limit f h. lift_inside-seated k limit f.inside h }

owner-front : (k : ℕ) (d : Owner) (ts : List Leveled) → owner_ground.front (lift_owner k d) ts ≡ owner_ground.front d ts
owner-front k (on_variable v default) ts = refl
owner-front k (on_operation o vs) ts = refl
owner-front k (on_fragment f) ts = refl
owner-front k (on_field f xs) ts = refl
owner-front k (on_spread i n) ts = refl
owner-front k (on_inline i o) ts = refl

owner-constant : (k : ℕ) (d : Owner) → owner_ground.constant (lift_owner k d) ≡ owner_ground.constant d
owner-constant k (on_variable v default) = refl
owner-constant k (on_operation o vs) = refl
owner-constant k (on_fragment f) = refl
owner-constant k (on_field f xs) = refl
owner-constant k (on_spread i n) = refl
owner-constant k (on_inline i o) = refl

owner-level : (k : ℕ) (d : Owner) (t : Tok) → owner_level (lift_owner k d) t ≡ owner_level d t
owner-level k (on_variable v default) t = refl
owner-level k (on_operation o vs) t = refl
owner-level k (on_fragment f) t = refl
owner-level k (on_field f xs) t = refl
owner-level k (on_spread i n) t = refl
owner-level k (on_inline i o) t = refl

pub owner_laws : GroundLaws owner_ground
owner_laws = record { lift_front = owner-front; lift_constant = owner-constant; lift_seated = lift_owner-seated }

-- ---- each state

pub advance-lifts : (k limit : ℕ) (s : State) (t : Tok) → Lifts (lift k) (advance limit s t) (advance (k + limit) (lift k s) t)
advance-lifts k limit (between ws) t = at_definition-lifts k limit ws t
advance-lifts k limit (kinded ws n) t = at_kinded-lifts k limit ws n t
advance-lifts k limit (called o) t = at_called-lifts k limit o t
advance-lifts k limit (variables o vs) t = at_variables-lifts k o vs t
advance-lifts k limit (dollar o vs) (tok.name n) = refl
advance-lifts k limit (dollar o vs) t = refl
advance-lifts k limit (variable_named v) tok.colon = refl
advance-lifts k limit (variable_named v) t = refl
advance-lifts k limit (in_type r) t =
    type_lifts variable_ground (λ v x. 0) in_type typed_variable (after_type limit) typed_variable (after_type (k + limit)) k (lift k) (λ r. refl) (λ v y. refl)
    (λ v y x. at_typed-lifts k limit (record { variable = v; of = y }) x) r t
advance-lifts k limit (typed v) t = at_typed-lifts k limit v t
advance-lifts k limit (in_value r) t = value_lifts typed_ground in_value with_default with_default k (lift k) (λ r. refl) (λ v d. refl) r t
advance-lifts k limit (fragment_begun ws) (tok.name n) = fragment_name-lifts k ws n (bytes_eq n on_word)
advance-lifts k limit (fragment_begun ws) t = refl
advance-lifts k limit (fragment_named ws n) (tok.name m) = fragment_condition-lifts k ws n (bytes_eq m on_word)
advance-lifts k limit (fragment_named ws n) t = refl
advance-lifts k limit (fragment_on ws n) (tok.name m) = refl
advance-lifts k limit (fragment_on ws n) t = refl
advance-lifts k limit (set i) t = at_set-lifts k i t
advance-lifts k limit (named i n) t = at_named-lifts k limit i n t
advance-lifts k limit (aliased i a) (tok.name n) = refl
advance-lifts k limit (aliased i a) t = refl
advance-lifts k limit (field_named f) t = at_field-lifts k limit f t
advance-lifts k limit (dotted i) t = at_dotted-lifts k limit i t
advance-lifts k limit (on i) (tok.name n) = refl
advance-lifts k limit (on i) t = refl
advance-lifts k limit (in_arguments r) t = arguments_lifts field_ground limit in_arguments with_arguments with_arguments k (lift k) (λ r. refl) (λ f xs. refl) r t
advance-lifts k limit (in_directives r) t =
    directives_lifts owner_ground owner_level limit in_directives (after_directives limit) (after_directives (k + limit)) k (lift k) (λ r. refl) (after_directives-lifts k limit) r t

pub advance-opens : (limit : ℕ) (s : State) (t : Tok) → Opens (advance limit s t) (advance (1 + limit) (lift 1 s) t)
advance-opens limit (between ws) t = at_definition-opens limit ws t
advance-opens limit (kinded ws n) t = at_kinded-opens limit ws n t
advance-opens limit (called o) t = at_called-opens limit o t
advance-opens limit (variables o vs) t = at_variables-opens o vs t (advance (1 + limit) (variables o vs) t)
advance-opens limit (dollar o vs) (tok.name n) = tt
advance-opens limit (dollar o vs) t = tt
advance-opens limit (variable_named v) tok.colon = tt
advance-opens limit (variable_named v) t = tt
advance-opens limit (in_type r) t =
    type_opens variable_ground (λ v x. 0) in_type typed_variable (after_type limit) typed_variable (after_type (1 + limit)) (λ v y x. at_typed-opens limit (record { variable = v; of = y }) x) r t
advance-opens limit (typed v) t = at_typed-opens limit v t
advance-opens limit (in_value r) t = value_opens typed_ground in_value with_default with_default r t
advance-opens limit (fragment_begun ws) (tok.name n) = fragment_name-opens ws n (bytes_eq n on_word) (advance (1 + limit) (fragment_begun ws) (tok.name n))
advance-opens limit (fragment_begun ws) t = tt
advance-opens limit (fragment_named ws n) (tok.name m) = fragment_condition-opens ws n (bytes_eq m on_word) (advance (1 + limit) (fragment_named ws n) (tok.name m))
advance-opens limit (fragment_named ws n) t = tt
advance-opens limit (fragment_on ws n) (tok.name m) = tt
advance-opens limit (fragment_on ws n) t = tt
advance-opens limit (set i) t = at_set-opens i t (advance (1 + limit) (set (lift_inside 1 i)) t)
advance-opens limit (named i n) t = at_named-opens limit i n t
advance-opens limit (aliased i a) (tok.name n) = tt
advance-opens limit (aliased i a) t = tt
advance-opens limit (field_named f) t = at_field-opens limit f t
advance-opens limit (dotted i) t = at_dotted-opens limit i t
advance-opens limit (on i) (tok.name n) = tt
advance-opens limit (on i) t = tt
advance-opens limit (in_arguments r) t = arguments_opens field_ground limit in_arguments with_arguments with_arguments r t
advance-opens limit (in_directives r) t =
    directives_opens owner_ground owner_level limit in_directives (after_directives limit) (after_directives (1 + limit)) (after_directives-opens limit) r t

pub lift-so_far : (k : ℕ) (s : State) (ts : List Leveled) → so_far (lift k s) ts ≡ so_far s ts
lift-so_far k (in_type r) ts = lift_type_so_far variable_ground variable_laws k r ts
lift-so_far k (in_value r) ts = lift_value_so_far typed_ground typed_laws k r ts
lift-so_far k (in_arguments r) ts = lift_arguments_so_far field_ground field_laws k r ts
lift-so_far k (in_directives r) ts = lift_directives_so_far owner_ground owner_laws k r ts
lift-so_far k (between ws) ts = refl
lift-so_far k (kinded ws n) ts = refl
lift-so_far k (called o) ts = refl
lift-so_far k (variables o vs) ts = refl
lift-so_far k (dollar o vs) ts = refl
lift-so_far k (variable_named v) ts = refl
lift-so_far k (typed v) ts = refl
lift-so_far k (fragment_begun ws) ts = refl
lift-so_far k (fragment_named ws n) ts = refl
lift-so_far k (fragment_on ws n) ts = refl
lift-so_far k (set i) ts = refl
lift-so_far k (named i n) ts = refl
lift-so_far k (aliased i a) ts = refl
lift-so_far k (field_named f) ts = refl
lift-so_far k (dotted i) ts = refl
lift-so_far k (on i) ts = refl

pub lift-level : (k : ℕ) (s : State) (t : Tok) → level_at (lift k s) t ≡ level_at s t
lift-level k (in_type r) t = lift_type_level variable_ground variable_laws (λ v x. 0) k (λ v x. refl) r t
lift-level k (in_value r) t = lift_value_level typed_ground typed_laws k r t
lift-level k (in_arguments r) t = lift_arguments_level field_ground field_laws k r t
lift-level k (in_directives r) t = lift_directives_level owner_ground owner_laws owner_level k (owner-level k) r t
lift-level k (between ws) t = refl
lift-level k (kinded ws n) t = refl
lift-level k (called o) t = refl
lift-level k (variables o vs) t = refl
lift-level k (dollar o vs) t = refl
lift-level k (variable_named v) t = refl
lift-level k (typed v) t = refl
lift-level k (fragment_begun ws) t = refl
lift-level k (fragment_named ws n) t = refl
lift-level k (fragment_on ws n) t = refl
lift-level k (set i) t = refl
lift-level k (named i n) t = refl
lift-level k (aliased i a) t = refl
lift-level k (field_named f) t = refl
lift-level k (dotted i) t = refl
lift-level k (on i) t = refl

pub lift-seated : (k limit : ℕ) (s : State) → Seated limit s → Seated (k + limit) (lift k s)
lift-seated k limit (in_type r) h = lift_type_seated variable_ground variable_laws k limit r h
lift-seated k limit (in_value r) h = lift_value_seated typed_ground typed_laws k limit r h
lift-seated k limit (in_arguments r) h = lift_arguments_seated field_ground field_laws k limit r h
lift-seated k limit (in_directives r) h = lift_directives_seated owner_ground owner_laws k limit r h
lift-seated k limit (between ws) h = h
lift-seated k limit (kinded ws n) h = h
lift-seated k limit (called o) h = h
lift-seated k limit (variables o vs) h = h
lift-seated k limit (dollar o vs) h = h
lift-seated k limit (variable_named v) h = h
lift-seated k limit (typed v) h = h
lift-seated k limit (fragment_begun ws) h = h
lift-seated k limit (fragment_named ws n) h = h
lift-seated k limit (fragment_on ws n) h = h
lift-seated k limit (set i) h = lift_inside-seated k limit i h
lift-seated k limit (named i n) h = lift_inside-seated k limit i h
lift-seated k limit (aliased i a) h = lift_inside-seated k limit i h
lift-seated k limit (field_named f) h = lift_inside-seated k limit f.inside h
lift-seated k limit (dotted i) h = lift_inside-seated k limit i h
lift-seated k limit (on i) h = lift_inside-seated k limit i h

pub lift-finish : (k : ℕ) (s : State) → finish (lift k s) ≡ finish s
lift-finish k (between ws) = refl
lift-finish k s = refl
