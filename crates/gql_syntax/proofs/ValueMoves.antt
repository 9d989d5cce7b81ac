-- How the machine of values goes on.
use Rattle.std.proofs.Common.{◌≡◌, ◌<◌, ◌-◌, ℕ, zero, suc, bytes_eq, Bool, true, false, List, [], ◌∷◌, ◌++◌, None, Result, Ok, Err, refl, ap, ◌∙◌, arith, subst}
use Rattle.gql_lex.specs.Sources.{Source}
use Rattle.gql_lex.specs.Toks as tok
use Rattle.gql_lex.specs.Toks.{Tok, punctuator_of}
use Rattle.gql_ast.specs.Value.{Val, Vals, Members, variable, truth, null, enum, list, object, no_vals, val, no_members, member, vals_of, members_of}
use Rattle.gql_syntax.specs.Machine.{Place, outer, item, of_member, Reading, want, dollar, items, members, named, vals_then, members_then, word_value}
use Rattle.gql_syntax.specs.Nexts.{behind, stopped_at, too_deep_at, Comes, is_at, word_of, is_punctuator, next_is, next_word, next_is_punctuator}
use Rattle.gql_syntax.specs.Parts.{Part, goes, One, never, value_alone}
use Rattle.gql_syntax.specs.Run.{unexpected, Stopped}
use Rattle.gql_syntax.specs.Steps.{value_on, put_alone}
use Rattle.gql_syntax.specs.Words.{true_word, false_word, null_word}
use Rattle.gql_syntax.specs.Answers.{Tells, Misses}
use Rattle.gql_syntax.specs.declared.fault.Fault.{Fault}
use Rattle.gql_syntax.specs.declared.fault.Fault.TheVariants.{Wrong, NoMemory}
use Rattle.gql_syntax.proofs.Moves.{Onward, moves, refuses, refuses_deep, alike}
use Rattle.gql_syntax.proofs.Tokens.{by_tok, comes_at, not_at, no_word, a_punctuator}

pub put_onward : (v : Val) (p : Place One) → Onward (put_alone v p)
put_onward v (outer k) = tt
put_onward v (item c r vs p) = tt
put_onward v (of_member c r ms n p) = tt

-- what stands in a list or an object behind others
pub vals_of-behind : (vs : List Val) (v : Val) → vals_of (vs ++ v ∷ []) ≡ vals_then (vals_of vs) v
vals_of-behind [] v = refl
vals_of-behind (w ∷ vs) v = ap (λ r. val w r) (vals_of-behind vs v)

pub members_of-behind : (ms : List (List ℕ × Val)) (n : List ℕ) (v : Val) → members_of (ms ++ (n, v) ∷ []) ≡ members_then (members_of ms) n v
members_of-behind [] n v = refl
members_of-behind (m ∷ ms) n v = ap (λ r. member m.0 m.1 r) (members_of-behind ms n v)

module _ (size : ℕ) (c : Bool) (src : Source) where
  -- a value of one token
  pub scalar : (r : ℕ) (p : Place One) (v w : Val) (t : Tok) (rest : Source) → Comes src t → value_alone (want c r p) t ≡ Ok (put_alone v p) → w ≡ v → rest ≡ behind src
      → value_on size (goes (want c r p)) src ≡ value_on size (put_alone w p) rest
  scalar r p v w t rest h e q s = rw (q, s) (moves value_alone never size (want c r p) (put_alone v p) t src h e (put_onward v p))

  pub opens_list : (r : ℕ) (p : Place One) → 0 < r → Comes src tok.open_bracket
      → value_on size (goes (want c r p)) src ≡ value_on size (goes (items c (r - 1) no_vals p)) (behind src)
  opens_list zero p l h = absurd (omega arith)
  opens_list (suc r) p l h =
      let d : suc r - 1 ≡ r = omega arith in
      rw d (moves value_alone never size (want c (suc r) p) (goes (items c r no_vals p)) tok.open_bracket src h refl tt)

  pub opens_object : (r : ℕ) (p : Place One) → 0 < r → Comes src tok.open_brace
      → value_on size (goes (want c r p)) src ≡ value_on size (goes (members c (r - 1) no_members p)) (behind src)
  opens_object zero p l h = absurd (omega arith)
  opens_object (suc r) p l h =
      let d : suc r - 1 ≡ r = omega arith in
      rw d (moves value_alone never size (want c (suc r) p) (goes (members c r no_members p)) tok.open_brace src h refl tt)

  pub list_too_deep : (p : Place One) → Comes src tok.open_bracket → value_on size (goes (want c 0 p)) src ≡ Err (too_deep_at size src)
  list_too_deep p h = refuses_deep value_alone never size (want c 0 p) tok.open_bracket src h refl

  pub object_too_deep : (p : Place One) → Comes src tok.open_brace → value_on size (goes (want c 0 p)) src ≡ Err (too_deep_at size src)
  object_too_deep p h = refuses_deep value_alone never size (want c 0 p) tok.open_brace src h refl

  -- behind the bracket
  pub item_begins : (r : ℕ) (vs : Vals) (p : Place One) → next_is 93 src ≡ false
      → value_on size (goes (items c r vs p)) src ≡ value_on size (goes (want c r (item c r vs p))) src
  item_begins r vs p n =
      alike value_alone never size (items c r vs p) (want c r (item c r vs p)) src refl (λ t h.
      by_tok (λ t. is_at 93 t ≡ false → value_alone (items c r vs p) t ≡ value_alone (want c r (item c r vs p)) t)
      (λ _. refl) (λ _. refl) (λ _. refl) (λ _. refl) (λ _. refl) (λ _. refl) (λ _. refl) (λ _. refl) (λ _. refl)
      (λ _. refl) (λ e. absurd cc) (λ _. refl) (λ _. refl) (λ _. refl) (λ _ _. refl) (λ _ _. refl) (λ _ _. refl) t (not_at 93 src t h n))

  pub list_ends : (r : ℕ) (vs : Vals) (p : Place One) → next_is 93 src ≡ true
      → value_on size (goes (items c r vs p)) src ≡ value_on size (put_alone (list vs) p) (behind src)
  list_ends r vs p n = moves value_alone never size (items c r vs p) (put_alone (list vs) p) tok.close_bracket src (comes_at 93 src n) refl (put_onward (list vs) p)

  -- behind the brace
  pub names_field : (r : ℕ) (ms : Members) (p : Place One) (n : List ℕ) → Comes src (tok.name n)
      → value_on size (goes (members c r ms p)) src ≡ value_on size (goes (named c r ms n p)) (behind src)
  names_field r ms p n h = moves value_alone never size (members c r ms p) (goes (named c r ms n p)) (tok.name n) src h refl tt

  pub no_field : (r : ℕ) (ms : Members) (p : Place One) → next_is 125 src ≡ false → next_word src ≡ None
      → value_on size (goes (members c r ms p)) src ≡ Err (stopped_at size src)
  no_field r ms p n w =
      refuses value_alone never size (members c r ms p) src refl (λ t h.
      by_tok (λ t. is_at 125 t ≡ false → word_of t ≡ None → value_alone (members c r ms p) t ≡ Err unexpected)
      (λ _ _. refl) (λ _ _. refl) (λ _ _. refl) (λ _ _. refl) (λ _ _. refl) (λ _ _. refl) (λ _ _. refl) (λ _ _. refl) (λ _ _. refl)
      (λ _ _. refl) (λ _ _. refl) (λ _ _. refl) (λ _ _. refl) (λ e _. absurd cc) (λ _ _ e. absurd cc) (λ _ _ _. refl) (λ _ _ _. refl) t (not_at 125 src t h n) (no_word src t h w))

  pub field_begins : (r : ℕ) (ms : Members) (p : Place One) (n : List ℕ) → next_is 58 src ≡ true
      → value_on size (goes (named c r ms n p)) src ≡ value_on size (goes (want c r (of_member c r ms n p))) (behind src)
  field_begins r ms p n h = moves value_alone never size (named c r ms n p) (goes (want c r (of_member c r ms n p))) tok.colon src (comes_at 58 src h) refl tt

  pub no_colon : (r : ℕ) (ms : Members) (p : Place One) (n : List ℕ) → next_is 58 src ≡ false
      → value_on size (goes (named c r ms n p)) src ≡ Err (stopped_at size src)
  no_colon r ms p m n =
      refuses value_alone never size (named c r ms m p) src refl (λ t h.
      by_tok (λ t. is_at 58 t ≡ false → value_alone (named c r ms m p) t ≡ Err unexpected)
      (λ _. refl) (λ _. refl) (λ _. refl) (λ _. refl) (λ _. refl) (λ _. refl) (λ e. absurd cc) (λ _. refl) (λ _. refl)
      (λ _. refl) (λ _. refl) (λ _. refl) (λ _. refl) (λ _. refl) (λ _ _. refl) (λ _ _. refl) (λ _ _. refl) t (not_at 58 src t h n))

  pub object_ends : (r : ℕ) (ms : Members) (p : Place One) → next_is 125 src ≡ true
      → value_on size (goes (members c r ms p)) src ≡ value_on size (put_alone (object ms) p) (behind src)
  object_ends r ms p n = moves value_alone never size (members c r ms p) (put_alone (object ms) p) tok.close_brace src (comes_at 125 src n) refl (put_onward (object ms) p)

  -- a variable
  pub names_variable : (p : Place One) (n : List ℕ) → Comes src (tok.name n)
      → value_on size (goes (dollar p)) src ≡ value_on size (put_alone (variable n) p) (behind src)
  names_variable p n h = moves value_alone never size (dollar p) (put_alone (variable n) p) (tok.name n) src h refl (put_onward (variable n) p)

  pub no_name : (p : Place One) → next_word src ≡ None → value_on size (goes (dollar p)) src ≡ Err (stopped_at size src)
  no_name p w =
      refuses value_alone never size (dollar p) src refl (λ t h.
      by_tok (λ t. word_of t ≡ None → value_alone (dollar p) t ≡ Err unexpected)
      (λ _. refl) (λ _. refl) (λ _. refl) (λ _. refl) (λ _. refl) (λ _. refl) (λ _. refl) (λ _. refl) (λ _. refl)
      (λ _. refl) (λ _. refl) (λ _. refl) (λ _. refl) (λ _. refl) (λ _ e. absurd cc) (λ _ _. refl) (λ _ _. refl) t (no_word src t h w))

-- no value begins with this token
pub no_constant : (size : ℕ) (src : Source) (r : ℕ) (p : Place One) → next_is_punctuator src ≡ true → next_is 91 src ≡ false → next_is 123 src ≡ false
    → value_on size (goes (want true r p)) src ≡ Err (stopped_at size src)
no_constant size src r p q a b =
    refuses value_alone never size (want true r p) src refl (λ t h.
    by_tok (λ t. is_punctuator t ≡ true → is_at 91 t ≡ false → is_at 123 t ≡ false → value_alone (want true r p) t ≡ Err unexpected)
    (λ _ _ _. refl) (λ _ _ _. refl) (λ _ _ _. refl) (λ _ _ _. refl) (λ _ _ _. refl) (λ _ _ _. refl) (λ _ _ _. refl) (λ _ _ _. refl) (λ _ _ _. refl)
    (λ _ e _. absurd cc) (λ _ _ _. refl) (λ _ _ e. absurd cc) (λ _ _ _. refl) (λ _ _ _. refl) (λ _ e _ _. absurd cc) (λ _ e _ _. absurd cc) (λ _ e _ _. absurd cc)
    t (a_punctuator src t h q) (not_at 91 src t h a) (not_at 123 src t h b))

pub no_value : (size : ℕ) (src : Source) (r : ℕ) (p : Place One) → next_is_punctuator src ≡ true → next_is 91 src ≡ false → next_is 123 src ≡ false → next_is 36 src ≡ false
    → value_on size (goes (want false r p)) src ≡ Err (stopped_at size src)
no_value size src r p q a b d =
    refuses value_alone never size (want false r p) src refl (λ t h.
    by_tok (λ t. is_punctuator t ≡ true → is_at 91 t ≡ false → is_at 123 t ≡ false → is_at 36 t ≡ false → value_alone (want false r p) t ≡ Err unexpected)
    (λ _ _ _ _. refl) (λ _ _ _ e. absurd cc) (λ _ _ _ _. refl) (λ _ _ _ _. refl) (λ _ _ _ _. refl) (λ _ _ _ _. refl) (λ _ _ _ _. refl) (λ _ _ _ _. refl) (λ _ _ _ _. refl)
    (λ _ e _ _. absurd cc) (λ _ _ _ _. refl) (λ _ _ e _. absurd cc) (λ _ _ _ _. refl) (λ _ _ _ _. refl) (λ _ e _ _ _. absurd cc) (λ _ e _ _ _. absurd cc) (λ _ e _ _ _. absurd cc)
    t (a_punctuator src t h q) (not_at 91 src t h a) (not_at 123 src t h b) (not_at 36 src t h d))

pub names_dollar : (size : ℕ) (src : Source) (r : ℕ) (p : Place One) → next_is 36 src ≡ true
    → value_on size (goes (want false r p)) src ≡ value_on size (goes (dollar p)) (behind src)
names_dollar size src r p n = moves value_alone never size (want false r p) (goes (dollar p)) tok.dollar src (comes_at 36 src n) refl tt

-- ---- words

pub word_true : (n : List ℕ) → bytes_eq n true_word ≡ true → truth true ≡ word_value n
word_true n e = rw e refl

pub word_false : (n : List ℕ) → bytes_eq n true_word ≡ false → bytes_eq n false_word ≡ true → truth false ≡ word_value n
word_false n e f = rw (e, f) refl

pub word_null : (n : List ℕ) → bytes_eq n true_word ≡ false → bytes_eq n false_word ≡ false → bytes_eq n null_word ≡ true → null ≡ word_value n
word_null n e f g = rw (e, f, g) refl

pub word_enum : (m n : List ℕ) → m ≡ n → bytes_eq n true_word ≡ false → bytes_eq n false_word ≡ false → bytes_eq n null_word ≡ false → enum m ≡ word_value n
word_enum m n q e f g = rw (e, f, g) (ap (λ x. enum x) q)

-- ---- what the fault of a reader tells

pub tells_missing : {A : Type 0} (f : Fault) (missing : Type 0) (at : Stopped) (a : Result A Stopped) → (missing → a ≡ Err at) → Misses f missing at → Tells f a
tells_missing (Wrong code at) missing s a e m = e m.0 ∙ ap (λ x. Err x) m.1
tells_missing NoMemory missing s a e m = tt

pub tells_by : {A : Type 0} (f : Fault) (a b : Result A Stopped) → a ≡ b → Tells f b → Tells f a
tells_by (Wrong code at) a b e t = e ∙ t
tells_by NoMemory a b e t = tt

-- ---- the same with the size of another text that is the same

pub same_value_course : (m n : ℕ) (x y : Part (Reading One) Val) (s u : Source) → m ≡ n → value_on m x s ≡ value_on m y u → value_on n x s ≡ value_on n y u
same_value_course m n x y s u e h = subst (λ k. value_on k x s ≡ value_on k y u) e h

pub resized_tells : (m n : ℕ) (f : Fault) (x : Part (Reading One) Val) (s : Source) → m ≡ n → Tells f (value_on m x s) → Tells f (value_on n x s)
resized_tells m n f x s e h = subst (λ k. Tells f (value_on k x s)) e h
