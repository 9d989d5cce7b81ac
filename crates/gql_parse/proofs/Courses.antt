-- How the machine goes on by what lies ahead: it takes the token that comes next, or it tells what is wrong.
use Rattle.std.proofs.Common.{◌≡◌, ℕ, suc, ◌+◌, Bool, true, false, cond, List, [], Option, Some, None, Result, Ok, Err, IfSome, is_some, not, refl, sym, ap, subst, ◌∙◌, arith}
use Rattle.gql_syntax.specs.gql_lex.Sources.{Piece, Source, ended, faulty, token}
use Rattle.gql_syntax.specs.gql_lex.Toks as tok
use Rattle.gql_syntax.specs.gql_lex.Toks.{Tok, tok_of_piece}
use Rattle.gql_syntax.specs.gql_ast.Sels.{Sels, end, field, spread, inline, sels_append}
use Rattle.gql_syntax.specs.gql_ast.SelectionView.{sel_of}
use Rattle.gql_syntax.specs.gql_ast.declared.selection.Selection.{Selection}
use Rattle.gql_syntax.specs.gql_ast.declared.selection.Selection.TheVariants as S
use Rattle.gql_syntax.specs.gql_ast.Ty.{Ty}
use Rattle.gql_syntax.specs.gql_ast.Value.{Val}
use Rattle.gql_syntax.specs.gql_ast.declared.directive.Directive.{Directive}
use Rattle.gql_parse.specs.Documents.{Written, SomeSelection}
use Rattle.gql_parse.specs.Reads.{run_on, before_set, behind_set, empty_set, MaySet, set_at, then_selections}
use Rattle.gql_parse.specs.Machine.{VariableName, Typed, Up, of_bare, of_operation, of_fragment, of_field, of_inline, Inside, OpenField, Owner, on_operation, on_fragment, on_field, on_spread, on_inline, State, in_type, typed, in_value, set, named, aliased, field_named, dotted, on, in_arguments, in_directives, advance, finish, then_selection, open_set, close_set, field_of, after_directives, with_arguments, with_default, typed_variable, after_type}
use Rattle.gql_syntax.specs.Answers.{Tells, call_read}
use Rattle.gql_syntax.specs.Machine.{Directing, first, further, want, outer, Typing, want_type, whole, Holder}
use Rattle.gql_syntax.specs.Nexts.{behind, is_at, word_of, next_is, next_word, Comes, stopped_at, too_deep_at, token_count}
use Rattle.gql_syntax.specs.Parts.{arguments_read, directives_read, directives_there, value_read, type_read, type_there}
use Rattle.gql_syntax.specs.Run.{Halt, unexpected, Stopped, stamp, run_from}
use Rattle.gql_syntax.specs.Texts.{nesting_limit}
use Rattle.gql_syntax.specs.declared.fault.Fault.{Fault}
use Rattle.gql_syntax.specs.declared.fault.Fault.TheVariants as fault
use Rattle.gql_syntax.proofs.Tokens.{at_is, comes_at, no_word, not_at}
use Rattle.gql_syntax.proofs.PartLaws.{EndsAs, arguments_read_ok, arguments_read_err, directives_read_ok, directives_read_err, value_read_ok, value_read_err, type_read_ok, type_read_err}
use Rattle.gql_syntax.proofs.Standing.{directives_on, type_on}

-- ---- what is told

-- a fault that is told of what comes later is told of what comes before
pub tells-moves : {A B : Type 0} (f : Fault) (from : Result A Stopped) (to : Result B Stopped) → ((s : Stopped) → to ≡ Err s → from ≡ Err s) → Tells f to → Tells f from
tells-moves (fault.Wrong code at) from to h t = h (code, at) t
tells-moves fault.NoMemory from to h t = tt

pub ok_parts : {A B E : Type 0} (a x : A) (b y : B) → ◌≡◌ {A = Result (A × B) E} (Ok (a, b)) (Ok (x, y)) → (a ≡ x) × (b ≡ y)
ok_parts {A = A} {B = B} a x b y e = let same : ◌≡◌ {A = A × B} (a, b) (x, y) = cc in (ap (λ p. p.0) same, ap (λ p. p.1) same)

-- ---- the token that comes next

pub comes_word : (w : Option (List ℕ)) (src : Source) (t : Tok) → next_word src ≡ w → Comes src t → word_of t ≡ w
comes_word w ended t e h = absurd h
comes_word w (faulty code at) t e h = absurd h
comes_word w (token p rest) t e h = subst (λ x. word_of x ≡ w) h e

module _ (size : ℕ) where
  abbrev pub taken : Piece → Source → Result State Halt → Result (List Written) Stopped
  taken p rest r = run_from (advance nesting_limit) finish size (stamp p.start r) rest

  -- ---- one token

  pub takes : (s next : State) (t : Tok) (src : Source) → Comes src t → advance nesting_limit s t ≡ Ok next → run_on size s src ≡ run_on size next (behind src)
  takes s next t ended c e = absurd c
  takes s next t (faulty code at) c e = absurd c
  takes s next t (token p rest) c e = ap (λ u. taken p rest (advance nesting_limit s u)) c ∙ ap (λ r. taken p rest r) e

  pub refuses : (s : State) (src : Source) → finish s ≡ None → ((t : Tok) → Comes src t → advance nesting_limit s t ≡ Err unexpected) → run_on size s src ≡ Err (stopped_at size src)
  refuses s ended n h = rw n refl
  refuses s (faulty code at) n h = refl
  refuses s (token p rest) n h = ap (λ r. taken p rest r) (h (tok_of_piece p) refl)

  -- two states that take what comes in the same way
  pub alike : (s z : State) (src : Source) → finish s ≡ finish z → ((t : Tok) → Comes src t → advance nesting_limit s t ≡ advance nesting_limit z t) → run_on size s src ≡ run_on size z src
  alike s z ended n h = rw n refl
  alike s z (faulty code at) n h = refl
  alike s z (token p rest) n h = ap (λ r. taken p rest r) (h (tok_of_piece p) refl)

  -- only a Name may stand there
  pub wants_name : (s : State) (src : Source) → finish s ≡ None → ((t : Tok) → word_of t ≡ None → advance nesting_limit s t ≡ Err unexpected) → next_word src ≡ None → run_on size s src ≡ Err (stopped_at size src)
  wants_name s src n h w = refuses s src n (λ t c. h t (no_word src t c w))

  -- only the punctuator with this first byte may stand there
  pub wants_at : (c : ℕ) (s : State) (src : Source) → finish s ≡ None → ((t : Tok) → is_at c t ≡ false → advance nesting_limit s t ≡ Err unexpected) → next_is c src ≡ false → run_on size s src ≡ Err (stopped_at size src)
  wants_at c s src n h w = refuses s src n (λ t k. h t (not_at c src t k w))

  -- ---- what ends by what follows

  pub named_ends : (i : Inside) (n : List ℕ) (src : Source) → next_is 58 src ≡ false → run_on size (named i n) src ≡ run_on size (field_named (record { inside = i; alias = None; name = n })) src
  named_ends i n src e = alike _ _ src refl (λ t c. on t (not_at 58 src t c e))
    where
      on : (t : Tok) → is_at 58 t ≡ false → advance nesting_limit (named i n) t ≡ advance nesting_limit (field_named (record { inside = i; alias = None; name = n })) t
      on tok.colon e = cc
      on t e = refl

  pub field_ends : (f : OpenField) (src : Source) → next_is 40 src ≡ false → run_on size (field_named f) src ≡ run_on size (in_directives (further false [] (on_field f []))) src
  field_ends f src e = alike _ _ src refl (λ t c. on t (not_at 40 src t c e))
    where
      on : (t : Tok) → is_at 40 t ≡ false → advance nesting_limit (field_named f) t ≡ advance nesting_limit (in_directives (further false [] (on_field f []))) t
      on tok.open_paren e = cc
      on t e = refl

  pub selection_ends : (f : OpenField) (xs : List (List ℕ × Val)) (ds : List Directive) (src : Source) → next_is 64 src ≡ false → next_is 123 src ≡ false
      → run_on size (in_directives (further false ds (on_field f xs))) src ≡ run_on size (set (then_selection f.inside (field_of f xs ds))) src
  selection_ends f xs ds src a b = alike _ _ src refl (λ t c. on t (not_at 64 src t c a) (not_at 123 src t c b))
    where
      on : (t : Tok) → is_at 64 t ≡ false → is_at 123 t ≡ false → advance nesting_limit (in_directives (further false ds (on_field f xs))) t ≡ advance nesting_limit (set (then_selection f.inside (field_of f xs ds))) t
      on tok.at_sign a b = cc
      on tok.open_brace a b = cc
      on t a b = refl

  pub spread_ends : (i : Inside) (n : List ℕ) (ds : List Directive) (src : Source) → next_is 64 src ≡ false
      → run_on size (in_directives (further false ds (on_spread i n))) src ≡ run_on size (set (then_selection i (spread n ds end))) src
  spread_ends i n ds src a = alike _ _ src refl (λ t c. on t (not_at 64 src t c a))
    where
      on : (t : Tok) → is_at 64 t ≡ false → advance nesting_limit (in_directives (further false ds (on_spread i n))) t ≡ advance nesting_limit (set (then_selection i (spread n ds end))) t
      on tok.at_sign a = cc
      on t a = refl

  pub dotted_ends : (i : Inside) (src : Source) → next_word src ≡ None → run_on size (dotted i) src ≡ run_on size (in_directives (further false [] (on_inline i None))) src
  dotted_ends i src e = alike _ _ src refl (λ t c. on t (no_word src t c e))
    where
      on : (t : Tok) → word_of t ≡ None → advance nesting_limit (dotted i) t ≡ advance nesting_limit (in_directives (further false [] (on_inline i None))) t
      on (tok.name n) e = cc
      on t e = refl

  -- ---- sets

  -- `{` opens a set where one may stand
  opens_with : (room : ℕ) (up : Up) (src : Source) → MaySet room up src → advance nesting_limit (before_set room up) tok.open_brace ≡ open_set room up
  opens_with room (of_bare ws) src m = ap (λ r. open_set r (of_bare ws)) (sym m.0)
  opens_with room (of_operation o vs ds) src m = ap (λ r. open_set r (of_operation o vs ds)) (sym m.0)
  opens_with room (of_fragment f ds) src m = ap (λ r. open_set r (of_fragment f ds)) (sym m.0)
  opens_with room (of_field b a n xs ds up) src m = refl
  opens_with room (of_inline b o ds up) src m = refl

  pub set_opens : (room left : ℕ) (up : Up) (src : Source) → MaySet room up src → next_is 123 src ≡ true → room ≡ left + 1
      → run_on size (before_set room up) src ≡ run_on size (empty_set left up) (behind src)
  set_opens room left up src m a z =
      let more : room ≡ suc left = omega (arith, z) in
      takes (before_set room up) (empty_set left up) tok.open_brace src (comes_at 123 src a) (opens_with room up src m ∙ ap (λ r. open_set r up) more)

  pub set_too_deep : (room : ℕ) (up : Up) (src : Source) → MaySet room up src → next_is 123 src ≡ true → room ≡ 0 → run_on size (before_set room up) src ≡ Err (too_deep_at size src)
  set_too_deep room up ended m a z = cc
  set_too_deep room up (faulty code at) m a z = cc
  set_too_deep room up (token p rest) m a z =
      ap (λ t. taken p rest (advance nesting_limit (before_set room up) t)) (at_is 123 (tok_of_piece p) a)
      ∙ ap (λ r. taken p rest r) (opens_with room up (token p rest) m) ∙ ap (λ r. taken p rest (open_set r up)) z

  pub set_missed : (room : ℕ) (up : Up) (src : Source) → MaySet room up src → next_is 123 src ≡ false → run_on size (before_set room up) src ≡ Err (stopped_at size src)
  set_missed room (of_bare ws) src m e = let both : true ≡ false = sym m.1 ∙ e in cc
  set_missed room (of_operation o vs ds) src m e = refuses _ src refl (λ t c. on t (not_at 64 src t c m.1) (not_at 123 src t c e))
    where
      on : (t : Tok) → is_at 64 t ≡ false → is_at 123 t ≡ false → advance nesting_limit (in_directives (further false ds (on_operation o vs))) t ≡ Err unexpected
      on tok.at_sign a b = cc
      on tok.open_brace a b = cc
      on t a b = refl
  set_missed room (of_fragment f ds) src m e = refuses _ src refl (λ t c. on t (not_at 64 src t c m.1) (not_at 123 src t c e))
    where
      on : (t : Tok) → is_at 64 t ≡ false → is_at 123 t ≡ false → advance nesting_limit (in_directives (further false ds (on_fragment f))) t ≡ Err unexpected
      on tok.at_sign a b = cc
      on tok.open_brace a b = cc
      on t a b = refl
  set_missed room (of_field b a n xs ds up) src m e = let both : true ≡ false = sym m ∙ e in cc
  set_missed room (of_inline b o ds up) src m e = refuses _ src refl (λ t c. on t (not_at 64 src t c m) (not_at 123 src t c e))
    where
      on : (t : Tok) → is_at 64 t ≡ false → is_at 123 t ≡ false → advance nesting_limit (before_set room (of_inline b o ds up)) t ≡ Err unexpected
      on tok.at_sign a b = cc
      on tok.open_brace a b = cc
      on t a b = refl

  -- a set is not empty
  pub empty_refused : (room : ℕ) (up : Up) (src : Source) → next_is 125 src ≡ true → run_on size (empty_set room up) src ≡ Err (stopped_at size src)
  empty_refused room up src a =
      let comes : Comes src tok.close_brace = comes_at 125 src a in
      refuses _ src refl (λ t c. ap (λ x. advance nesting_limit (empty_set room up) x) (same src t comes c))
    where
      same : (src : Source) (t : Tok) → Comes src tok.close_brace → Comes src t → t ≡ tok.close_brace
      same ended t a c = absurd c
      same (faulty code at) t a c = absurd c
      same (token p rest) t a c = sym c ∙ a

  -- only a Name or `...` may stand there, where `}` does not
  pub wants_selection : (i : Inside) (src : Source) → next_is 125 src ≡ false → next_is 46 src ≡ false → next_word src ≡ None → run_on size (set i) src ≡ Err (stopped_at size src)
  wants_selection i src a b w = refuses (set i) src refl (λ t c. on t (not_at 125 src t c a) (not_at 46 src t c b) (no_word src t c w))
    where
      on : (t : Tok) → is_at 125 t ≡ false → is_at 46 t ≡ false → word_of t ≡ None → advance nesting_limit (set i) t ≡ Err unexpected
      on (tok.name n) a b w = cc
      on tok.spread a b w = cc
      on tok.close_brace a b w = cc
      on t a b w = refl

  -- ---- the parts that all grammars share

  arguments_ok : (f : OpenField) (src : Source) (xs : List (List ℕ × Val)) (rest : Source) → arguments_read nesting_limit false size src ≡ Ok (xs, rest)
      → run_on size (in_arguments (first false f)) src ≡ run_on size (in_directives (further false [] (on_field f xs))) rest
  arguments_ok f src xs rest e = arguments_read_ok nesting_limit in_arguments with_arguments (advance nesting_limit) finish (λ r t. refl) (λ r. refl) f false size src xs rest e

  arguments_err : (f : OpenField) (src : Source) (s : Stopped) → arguments_read nesting_limit false size src ≡ Err s → run_on size (in_arguments (first false f)) src ≡ Err s
  arguments_err f src s e = arguments_read_err nesting_limit in_arguments with_arguments (advance nesting_limit) finish (λ r t. refl) (λ r. refl) f false size src s e

  pub call_ok : (f : OpenField) (src : Source) (xs : List (List ℕ × Val)) (rest : Source) → call_read false size src ≡ Ok (xs, rest)
      → run_on size (field_named f) src ≡ run_on size (in_directives (further false [] (on_field f xs))) rest
  call_ok f src xs rest e = by (next_is 40 src) refl e
    where
      by : (b : Bool) → next_is 40 src ≡ b → cond b (arguments_read nesting_limit false size (behind src)) (Ok ([], src)) ≡ Ok (xs, rest)
          → run_on size (field_named f) src ≡ run_on size (in_directives (further false [] (on_field f xs))) rest
      by true a e = takes (field_named f) (in_arguments (first false f)) tok.open_paren src (comes_at 40 src a) refl ∙ arguments_ok f (behind src) xs rest e
      by false a e =
          let same = ok_parts [] xs src rest e in
          field_ends f src a ∙ ap (λ ys. run_on size (in_directives (further false [] (on_field f ys))) src) same.0 ∙ ap (λ z. run_on size (in_directives (further false [] (on_field f xs))) z) same.1

  pub call_err : (f : OpenField) (src : Source) (s : Stopped) → call_read false size src ≡ Err s → run_on size (field_named f) src ≡ Err s
  call_err f src s e = by (next_is 40 src) refl e
    where
      by : (b : Bool) → next_is 40 src ≡ b → cond b (arguments_read nesting_limit false size (behind src)) (Ok ([], src)) ≡ Err s → run_on size (field_named f) src ≡ Err s
      by true a e = takes (field_named f) (in_arguments (first false f)) tok.open_paren src (comes_at 40 src a) refl ∙ arguments_err f (behind src) s e
      by false a e = cc

  no_end : (c : Bool) (r : Directing Owner) → EndsAs (λ ds. finish (in_directives (further c ds (directives_on r)))) (directives_there r) (finish (in_directives r))
  no_end c (further b ds d) = refl
  no_end c (Directing.at_name b ds d) = refl
  no_end c (Directing.applied a) = refl
  no_end c (Directing.arguing r) = refl

  pub directives_ok : (c : Bool) (d : Owner) (src : Source) (ds : List Directive) (rest : Source) → directives_read nesting_limit c size src ≡ Ok (ds, rest)
      → run_on size (in_directives (further c [] d)) src ≡ run_on size (in_directives (further c ds d)) rest
  directives_ok c d src ds rest e = directives_read_ok nesting_limit in_directives (after_directives nesting_limit) (advance nesting_limit) finish (λ r t. refl) no_end d c size src ds rest e

  pub directives_err : (c : Bool) (d : Owner) (src : Source) (s : Stopped) → directives_read nesting_limit c size src ≡ Err s → run_on size (in_directives (further c [] d)) src ≡ Err s
  directives_err c d src s e = directives_read_err nesting_limit in_directives (after_directives nesting_limit) (advance nesting_limit) finish (λ r t. refl) no_end d c size src s e

  type_end : (r : Typing VariableName) → EndsAs (λ t. finish (typed_variable (type_on r) t)) (type_there r) (finish (in_type r))
  type_end (want_type room h) = refl
  type_end (Typing.typed t (whole k)) = refl
  type_end (Typing.typed t (Holder.listed h)) = refl
  type_end (Typing.closing t h) = refl

  pub type_ok : (v : VariableName) (src : Source) (t : Ty) (rest : Source) → type_read nesting_limit size src ≡ Ok (t, rest)
      → run_on size (in_type (want_type nesting_limit (whole v))) src ≡ run_on size (typed (record { variable = v; of = t })) rest
  type_ok v src t rest e = type_read_ok in_type typed_variable (after_type nesting_limit) (advance nesting_limit) finish (λ r t. refl) (λ k t x. refl) type_end v nesting_limit size src t rest e

  pub type_err : (v : VariableName) (src : Source) (s : Stopped) → type_read nesting_limit size src ≡ Err s → run_on size (in_type (want_type nesting_limit (whole v))) src ≡ Err s
  type_err v src s e = type_read_err in_type typed_variable (after_type nesting_limit) (advance nesting_limit) finish (λ r t. refl) (λ k t x. refl) type_end v nesting_limit size src s e

  pub value_ok : (v : Typed) (src : Source) (d : Val) (rest : Source) → value_read true nesting_limit size src ≡ Ok (d, rest) → run_on size (in_value (want true nesting_limit (outer v))) src ≡ run_on size (with_default v d) rest
  value_ok v src d rest e = value_read_ok in_value with_default (advance nesting_limit) finish (λ r t. refl) (λ r. refl) v true nesting_limit size src d rest e

  pub value_err : (v : Typed) (src : Source) (s : Stopped) → value_read true nesting_limit size src ≡ Err s → run_on size (in_value (want true nesting_limit (outer v))) src ≡ Err s
  value_err v src s e = value_read_err in_value with_default (advance nesting_limit) finish (λ r t. refl) (λ r. refl) v true nesting_limit size src s e

-- ---- what the parts that all grammars share answer, where the size is told of another text that is the same

pub call_goes : (m n : ℕ) (f : OpenField) (src : Source) (xs : List (List ℕ × Val)) (rest : Source) → m ≡ n → call_read false m src ≡ Ok (xs, rest)
    → run_on n (field_named f) src ≡ run_on n (in_directives (further false [] (on_field f xs))) rest
call_goes m n f src xs rest e h = call_ok n f src xs rest (subst (λ k. call_read false k src ≡ Ok (xs, rest)) e h)

pub call_tells : (m n : ℕ) (f : OpenField) (src : Source) (x : Fault) → m ≡ n → Tells x (call_read false m src) → Tells x (run_on n (field_named f) src)
call_tells m n f src x e h = tells-moves x (run_on n (field_named f) src) (call_read false n src) (call_err n f src) (subst (λ k. Tells x (call_read false k src)) e h)

pub directives_goes : (m n : ℕ) (c : Bool) (d : Owner) (src : Source) (ds : List Directive) (rest : Source) → m ≡ n → directives_read nesting_limit c m src ≡ Ok (ds, rest)
    → run_on n (in_directives (further c [] d)) src ≡ run_on n (in_directives (further c ds d)) rest
directives_goes m n c d src ds rest e h = directives_ok n c d src ds rest (subst (λ k. directives_read nesting_limit c k src ≡ Ok (ds, rest)) e h)

pub directives_tells : (m n : ℕ) (c : Bool) (d : Owner) (src : Source) (x : Fault) → m ≡ n → Tells x (directives_read nesting_limit c m src) → Tells x (run_on n (in_directives (further c [] d)) src)
directives_tells m n c d src x e h =
    tells-moves x (run_on n (in_directives (further c [] d)) src) (directives_read nesting_limit c n src) (directives_err n c d src) (subst (λ k. Tells x (directives_read nesting_limit c k src)) e h)

-- ---- a name is wanted

module _ (size : ℕ) where
  pub on_missed : (i : Inside) (src : Source) → next_word src ≡ None → run_on size (on i) src ≡ Err (stopped_at size src)
  on_missed i src w = wants_name size (on i) src refl by w
    where
      by : (t : Tok) → word_of t ≡ None → advance nesting_limit (on i) t ≡ Err unexpected
      by (tok.name n) e = cc
      by t e = refl

  pub alias_missed : (i : Inside) (a : List ℕ) (src : Source) → next_word src ≡ None → run_on size (aliased i a) src ≡ Err (stopped_at size src)
  alias_missed i a src w = wants_name size (aliased i a) src refl by w
    where
      by : (t : Tok) → word_of t ≡ None → advance nesting_limit (aliased i a) t ≡ Err unexpected
      by (tok.name n) e = cc
      by t e = refl

-- ---- a set is closed

closed_behind : (room : ℕ) (up : Up) (s : Sels) → close_set room s up ≡ behind_set (room + 1) up s
closed_behind room (of_bare ws) s = refl
closed_behind room (of_operation o vs ds) s = refl
closed_behind room (of_fragment f ds) s = refl
closed_behind room (of_field b a n xs ds up) s =
    let e : suc room ≡ room + 1 = omega arith in ap (λ r. then_selections r (record { before = b; up = up }) (field a n xs ds s end)) e
closed_behind room (of_inline b o ds up) s =
    let e : suc room ≡ room + 1 = omega arith in ap (λ r. then_selections r (record { before = b; up = up }) (inline o ds s end)) e

may_close : (room : ℕ) (up : Up) (s : Sels) → SomeSelection s → advance nesting_limit (set_at room (record { before = s; up = up })) tok.close_brace ≡ Ok (close_set room s up)
may_close room up end h = absurd h
may_close room up (field a n xs ds s rest) h = refl
may_close room up (spread n ds rest) h = refl
may_close room up (inline o ds s rest) h = refl

pub set_closes : (room : ℕ) (up : Up) (s : Sels) → SomeSelection s → advance nesting_limit (set_at room (record { before = s; up = up })) tok.close_brace ≡ Ok (behind_set (room + 1) up s)
set_closes room up s h = may_close room up s h ∙ ap (λ z. Ok z) (closed_behind room up s)

-- a selection stands there
pub some_selection : (b : Sels) (x : Selection) → SomeSelection (sels_append b (sel_of x))
some_selection end (S.Field a n xs ds s) = tt
some_selection end (S.Spread n ds) = tt
some_selection end (S.Inline o ds s) = tt
some_selection (field a n xs ds s rest) x = tt
some_selection (spread n ds rest) x = tt
some_selection (inline o ds s rest) x = tt

-- ---- how many tokens lie ahead

pub at_taken : (c : ℕ) (src rest : Source) → next_is c src ≡ true → rest ≡ behind src → token_count src ≡ 1 + token_count rest
at_taken c ended rest a e = cc
at_taken c (faulty code at) rest a e = cc
at_taken c (token p later) rest a e = ap (λ s. 1 + token_count s) (sym e)

pub word_taken : (n : List ℕ) (src rest : Source) → next_word src ≡ Some n → rest ≡ behind src → token_count src ≡ 1 + token_count rest
word_taken n ended rest a e = cc
word_taken n (faulty code at) rest a e = cc
word_taken n (token p later) rest a e = ap (λ s. 1 + token_count s) (sym e)

-- ---- an optional value by whether there is one

pub none_there : {A : Type 0} (o : Option A) (b : Bool) → is_some o ≡ not b → b ≡ true → o ≡ None
none_there None b e h = refl
none_there (Some a) b e h = let both : true ≡ false = e ∙ ap (λ c. not c) h in cc

pub some_there : {A : Type 0} (P : A → Type 0) (o : Option A) (b : Bool) → is_some o ≡ not b → b ≡ false → IfSome o P → (a : A) × P a
some_there P None b e h p = let both : false ≡ true = e ∙ ap (λ c. not c) h in absurd (cc)
some_there P (Some a) b e h p = (a, p)

-- two names of what comes next are one
pub one_word : (n m : List ℕ) (src : Source) → next_word src ≡ Some n → next_word src ≡ Some m → n ≡ m
one_word n m src a b = cc
