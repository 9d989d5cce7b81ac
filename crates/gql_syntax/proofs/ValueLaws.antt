-- What holds of the part of a machine that reads values, whatever stands above it: `into` puts a state of this part into the whole,
-- and `hand` is the state behind a value.
use Rattle.std.proofs.Common.{◌≡◌, ◌≤◌, ◌<◌, ℕ, zero, suc, ◌+◌, ◌-◌, Bool, true, false, cond, bytes_eq, List, [], ◌∷◌, Result, Ok, Err, IfOk, max, refl, sym, ap, subst, ◌∙◌, arith, add-suc, le_trans, codes, pos}
use Rattle.std.proofs.Math.Nat.{le-max_left, le-max_right, max-le}
use Rattle.std.proofs.lemmas.Slice.Eq.{bytes_eq-Decides}
use Rattle.gql_lex.specs.Toks as tok
use Rattle.gql_lex.specs.Toks.{Tok}
use Rattle.gql_ast.specs.Value.{Val, Vals, Members, variable, int, text, truth, null, enum, list, object, no_vals, val, no_members, member, val_depth, vals_depth, members_depth}
use Rattle.gql_syntax.specs.FirstFault.{Shallow}
use Rattle.gql_syntax.proofs.Shapes.{ShapedValue, ShapedValues, ShapedMembers}
use Rattle.gql_syntax.specs.Machine.{Place, outer, item, of_member, Reading, want, dollar, items, members, named, vals_then, members_then, word_value, put, open_list, open_object, begin, value_step}
use Rattle.gql_syntax.specs.Run.{Halt, unexpected, too_deep}
use Rattle.gql_syntax.specs.Spelling.{spell_value, spell_values, spell_members}
use Rattle.gql_syntax.specs.Words.{IsEnumName, true_word, false_word, null_word, truth_word}
use Rattle.gql_syntax.proofs.Forms.{AreToks, zero_fits}
use Rattle.gql_syntax.proofs.Laws.{Leveled, reach_from, reach}
use Rattle.gql_syntax.proofs.Marks.{values-then, members-then, shaped_values-then, shaped_members-then}
use Rattle.gql_syntax.proofs.Standing.{mark_level, token_mark, level_mark, Ground, GroundLaws, place_level, begin_level, value_level, place_on, value_on, before, value_so_far, place_constant, lift_place, lift_value, SeatedPlace, SeatedValue, Lifts, Opens, IfTooDeep}

-- ---- what is said of a step, of the state that it gives

pub from_ok : {S : Type 0} {r : Result S Halt} (P : S → Type 0) (s : S) → IfOk r P → r ≡ Ok s → P s
from_ok P s h e = subst (λ r. IfOk r P) e h

pub from_too_deep : {S : Type 0} {r : Result S Halt} (P : Type 0) → IfTooDeep r P → r ≡ Err too_deep → P
from_too_deep P h e = subst (λ r. IfTooDeep r P) e h

pub from_lifts : {S : Type 0} {r x : Result S Halt} (lift : S → S) (s : S) → Lifts lift r x → r ≡ Ok s → x ≡ Ok (lift s)
from_lifts {x = x} lift s h e = subst (λ r. Lifts lift r x) e h

pub from_lifts_unexpected : {S : Type 0} {r x : Result S Halt} (lift : S → S) → Lifts lift r x → r ≡ Err unexpected → x ≡ Err unexpected
from_lifts_unexpected {x = x} lift h e = subst (λ r. Lifts lift r x) e h

pub from_opens : {S : Type 0} {r x : Result S Halt} → Opens r x → r ≡ Err too_deep → (next : S) × (x ≡ Ok next)
from_opens {x = x} h e = subst (λ r. Opens r x) e h

-- a step that lifts as it should, from the cases of its result
pub to_lifts : {S : Type 0} (lift : S → S) (r x : Result S Halt) → ((next : S) → r ≡ Ok next → x ≡ Ok (lift next)) → (r ≡ Err unexpected → x ≡ Err unexpected) → Lifts lift r x
to_lifts lift (Ok s) x a b = a s refl
to_lifts lift (Err unexpected) x a b = b refl
to_lifts lift (Err too_deep) x a b = tt

-- ---- words

spelled_true : (n : List ℕ) → bytes_eq n true_word ≡ true → n ≡ true_word
spelled_true n e = grind (arith, bytes_eq-Decides)

spelled_false : (n : List ℕ) → bytes_eq n false_word ≡ true → n ≡ false_word
spelled_false n e = grind (arith, bytes_eq-Decides)

spelled_null : (n : List ℕ) → bytes_eq n null_word ≡ true → n ≡ null_word
spelled_null n e = grind (arith, bytes_eq-Decides)

-- a word is written as itself
pub spell_word : (n : List ℕ) (around : ℕ) (ts : List Leveled) → spell_value mark_level (word_value n) around ts ≡ (tok.name n, 0) ∷ ts
spell_word n around ts = on_true (bytes_eq n true_word) refl
  where
    on_null : (b : Bool) → bytes_eq n null_word ≡ b → spell_value mark_level (cond b null (enum n)) around ts ≡ (tok.name n, 0) ∷ ts
    on_null true e = ap (λ w. (tok.name w, 0) ∷ ts) (sym (spelled_null n e))
    on_null false e = refl

    on_false : (b : Bool) → bytes_eq n false_word ≡ b
        → spell_value mark_level (cond b (truth false) (cond (bytes_eq n null_word) null (enum n))) around ts ≡ (tok.name n, 0) ∷ ts
    on_false true e = ap (λ w. (tok.name w, 0) ∷ ts) (sym (spelled_false n e))
    on_false false e = on_null (bytes_eq n null_word) refl

    on_true : (b : Bool) → bytes_eq n true_word ≡ b
        → spell_value mark_level (cond b (truth true) (cond (bytes_eq n false_word) (truth false) (cond (bytes_eq n null_word) null (enum n)))) around ts
        ≡ (tok.name n, 0) ∷ ts
    on_true true e = ap (λ w. (tok.name w, 0) ∷ ts) (sym (spelled_true n e))
    on_true false e = on_false (bytes_eq n false_word) refl

pub shaped_word : (c : Bool) (n : List ℕ) → ShapedValue c (word_value n)
shaped_word c n = on_true (bytes_eq n true_word) refl
  where
    on_null : bytes_eq n true_word ≡ false → bytes_eq n false_word ≡ false → (b : Bool) → bytes_eq n null_word ≡ b → ShapedValue c (cond b null (enum n))
    on_null t f true e = tt
    on_null t f false e = record { no_true = t; no_false = f; no_null = e }

    on_false : bytes_eq n true_word ≡ false → (b : Bool) → bytes_eq n false_word ≡ b → ShapedValue c (cond b (truth false) (cond (bytes_eq n null_word) null (enum n)))
    on_false t true e = tt
    on_false t false e = on_null t e (bytes_eq n null_word) refl

    on_true : (b : Bool) → bytes_eq n true_word ≡ b → ShapedValue c (cond b (truth true) (cond (bytes_eq n false_word) (truth false) (cond (bytes_eq n null_word) null (enum n))))
    on_true true e = tt
    on_true false e = on_false e (bytes_eq n false_word) refl

pub word_enum : (n : List ℕ) → IsEnumName n → word_value n ≡ enum n
word_enum n h = rw (h.no_true, h.no_false, h.no_null) refl

-- ---- each step reads its token, opens not too much, and comes to a state of the same kind

module _ {S K : Type 0} (G : Ground K) (into : Reading K → S) (hand : K → Val → S) where
  -- the tokens read so far, in the whole
  module _ (so_far : S → List Leveled → List Leveled)
      (at_into : (r : Reading K) (ts : List Leveled) → so_far (into r) ts ≡ value_so_far G r ts)
      (at_hand : (k : K) (v : Val) (ts : List Leveled) → so_far (hand k v) ts ≡ G.front k (spell_value mark_level v 0 ts)) where
    value_put : (v : Val) (p : Place K) (ts : List Leveled) → so_far (put into hand v p) ts ≡ before G p (spell_value mark_level v (place_level p) ts)
    value_put v (outer k) ts = at_hand k v ts
    value_put v (item c room vs p) ts =
        at_into (items c room (vals_then vs v) p) ts
        ∙ ap (λ w. before G p ((tok.open_bracket, place_level p + 1) ∷ w)) (values-then mark_level vs v (place_level p + 1) ts)
    value_put v (of_member c room ms n p) ts =
        at_into (members c room (members_then ms n v) p) ts
        ∙ ap (λ w. before G p ((tok.open_brace, place_level p + 1) ∷ w)) (members-then mark_level ms n v (place_level p + 1) ts)

    value_begins : (c : Bool) (room : ℕ) (p : Place K) (t : Tok)
        → IfOk (begin into hand c room p t) (λ next. (ts : List Leveled) → so_far next ts ≡ before G p ((t, begin_level (place_level p) t) ∷ ts))
    value_begins false room p tok.dollar = λ ts. at_into (dollar p) ts
    value_begins true room p tok.dollar = tt
    value_begins c room p (tok.int n) = λ ts. value_put (int n) p ts
    value_begins c room p (tok.text t) = λ ts. value_put (text t) p ts
    value_begins c room p (tok.name n) = λ ts. value_put (word_value n) p ts ∙ ap (λ w. before G p w) (spell_word n (place_level p) ts)
    value_begins c zero p tok.open_bracket = tt
    value_begins c (suc room) p tok.open_bracket = λ ts. at_into (items c room no_vals p) ts
    value_begins c zero p tok.open_brace = tt
    value_begins c (suc room) p tok.open_brace = λ ts. at_into (members c room no_members p) ts
    value_begins c room p _ = tt

    pub value_sounds : (r : Reading K) (t : Tok)
        → IfOk (value_step into hand r t) (λ next. (ts : List Leveled) → so_far next ts ≡ value_so_far G r ((t, value_level r t) ∷ ts))
    value_sounds (want c room p) t = value_begins c room p t
    value_sounds (dollar p) (tok.name n) = λ ts. value_put (variable n) p ts
    value_sounds (dollar p) _ = tt
    value_sounds (items c room vs p) tok.close_bracket = λ ts. value_put (list vs) p ts
    value_sounds (items c room vs p) t = value_begins c room (item c room vs p) t
    value_sounds (members c room ms p) (tok.name n) = λ ts. at_into (named c room ms n p) ts
    value_sounds (members c room ms p) tok.close_brace = λ ts. value_put (object ms) p ts
    value_sounds (members c room ms p) _ = tt
    value_sounds (named c room ms n p) tok.colon = λ ts. at_into (want c room (of_member c room ms n p)) ts
    value_sounds (named c room ms n p) _ = tt

    pub value_sound : (r : Reading K) (t : Tok) (next : S) → value_step into hand r t ≡ Ok next
        → (ts : List Leveled) → so_far next ts ≡ value_so_far G r ((t, value_level r t) ∷ ts)
    value_sound r t next e = from_ok (λ next. (ts : List Leveled) → so_far next ts ≡ value_so_far G r ((t, value_level r t) ∷ ts)) next (value_sounds r t) e

  begin_shallow : (limit : ℕ) (c : Bool) (room : ℕ) (p : Place K) (t : Tok) → room + place_level p ≡ limit → IfOk (begin into hand c room p t) (λ next. begin_level (place_level p) t ≤ limit)
  begin_shallow limit false room p tok.dollar e = omega arith
  begin_shallow limit true room p tok.dollar e = tt
  begin_shallow limit c room p (tok.int n) e = omega arith
  begin_shallow limit c room p (tok.text t) e = omega arith
  begin_shallow limit c room p (tok.name n) e = omega arith
  begin_shallow limit c zero p tok.open_bracket e = tt
  begin_shallow limit c (suc room) p tok.open_bracket e = omega arith
  begin_shallow limit c zero p tok.open_brace e = tt
  begin_shallow limit c (suc room) p tok.open_brace e = omega arith
  begin_shallow limit c room p _ e = tt

  pub value_shallows : (limit : ℕ) (r : Reading K) (t : Tok) → SeatedValue G limit r → IfOk (value_step into hand r t) (λ next. value_level r t ≤ limit)
  value_shallows limit (want c room p) t h = begin_shallow limit c room p t h.0
  value_shallows limit (dollar p) (tok.name n) h = omega arith
  value_shallows limit (dollar p) _ h = tt
  value_shallows limit (items c room vs p) tok.close_bracket h = omega arith
  value_shallows limit (items c room vs p) t h = begin_shallow limit c room (item c room vs p) t h.0
  value_shallows limit (members c room ms p) (tok.name n) h = omega arith
  value_shallows limit (members c room ms p) tok.close_brace h = omega arith
  value_shallows limit (members c room ms p) _ h = tt
  value_shallows limit (named c room ms n p) tok.colon h = omega arith
  value_shallows limit (named c room ms n p) _ h = tt

  pub value_shallow : (limit : ℕ) (r : Reading K) (t : Tok) (next : S) → SeatedValue G limit r → value_step into hand r t ≡ Ok next → value_level r t ≤ limit
  value_shallow limit r t next h e = from_ok (λ next. value_level r t ≤ limit) next (value_shallows limit r t h) e

  begin_deep : (limit : ℕ) (c : Bool) (room : ℕ) (p : Place K) (t : Tok) → room + place_level p ≡ limit → IfTooDeep (begin into hand c room p t) (limit < begin_level (place_level p) t)
  begin_deep limit false room p tok.dollar e = tt
  begin_deep limit true room p tok.dollar e = tt
  begin_deep limit c zero p tok.open_bracket e = omega arith
  begin_deep limit c (suc room) p tok.open_bracket e = tt
  begin_deep limit c zero p tok.open_brace e = omega arith
  begin_deep limit c (suc room) p tok.open_brace e = tt
  begin_deep limit c room p _ e = tt

  pub value_deeps : (limit : ℕ) (r : Reading K) (t : Tok) → SeatedValue G limit r → IfTooDeep (value_step into hand r t) (limit < value_level r t)
  value_deeps limit (want c room p) t h = begin_deep limit c room p t h.0
  value_deeps limit (dollar p) (tok.name n) h = tt
  value_deeps limit (dollar p) _ h = tt
  value_deeps limit (items c room vs p) tok.close_bracket h = tt
  value_deeps limit (items c room vs p) t h = begin_deep limit c room (item c room vs p) t h.0
  value_deeps limit (members c room ms p) (tok.name n) h = tt
  value_deeps limit (members c room ms p) tok.close_brace h = tt
  value_deeps limit (members c room ms p) _ h = tt
  value_deeps limit (named c room ms n p) tok.colon h = tt
  value_deeps limit (named c room ms n p) _ h = tt

  pub value_deep : (limit : ℕ) (r : Reading K) (t : Tok) → SeatedValue G limit r → value_step into hand r t ≡ Err too_deep → limit < value_level r t
  value_deep limit r t h e = from_too_deep (limit < value_level r t) (value_deeps limit r t h) e

  -- what holds of the states of the whole
  module _ (limit : ℕ) (Seated : S → Type 0)
      (at_into : (r : Reading K) → SeatedValue G limit r → Seated (into r))
      (at_hand : (k : K) (v : Val) → G.Seated limit k → ShapedValue (G.constant k) v → Seated (hand k v)) where
    put_seated : (v : Val) (p : Place K) → SeatedPlace G limit p → ShapedValue (place_constant G p) v → Seated (put into hand v p)
    put_seated v (outer k) h f = at_hand k v h f
    put_seated v (item c room vs p) h f = at_into (items c room (vals_then vs v) p) (h.0, h.1, shaped_values-then c vs v h.2 f, h.3)
    put_seated v (of_member c room ms n p) h f = at_into (members c room (members_then ms n v) p) (h.0, h.1, shaped_members-then c ms n v h.2 f, h.3)

    begin_seated : (c : Bool) (room : ℕ) (p : Place K) (t : Tok) → room + place_level p ≡ limit → c ≡ place_constant G p → SeatedPlace G limit p
        → IfOk (begin into hand c room p t) Seated
    begin_seated false room p tok.dollar e d h = at_into (dollar p) (sym d, h)
    begin_seated true room p tok.dollar e d h = tt
    begin_seated c room p (tok.int n) e d h = put_seated (int n) p h tt
    begin_seated c room p (tok.text t) e d h = put_seated (text t) p h tt
    begin_seated c room p (tok.name n) e d h = put_seated (word_value n) p h (shaped_word (place_constant G p) n)
    begin_seated c zero p tok.open_bracket e d h = tt
    begin_seated c (suc room) p tok.open_bracket e d h = at_into (items c room no_vals p) (omega arith, d, tt, h)
    begin_seated c zero p tok.open_brace e d h = tt
    begin_seated c (suc room) p tok.open_brace e d h = at_into (members c room no_members p) (omega arith, d, tt, h)
    begin_seated c room p _ e d h = tt

    pub value_seats : (r : Reading K) (t : Tok) → SeatedValue G limit r → IfOk (value_step into hand r t) Seated
    value_seats (want c room p) t h = begin_seated c room p t h.0 h.1 h.2
    value_seats (dollar p) (tok.name n) h = put_seated (variable n) p h.1 h.0
    value_seats (dollar p) _ h = tt
    value_seats (items c room vs p) tok.close_bracket h = put_seated (list vs) p h.3 (subst (λ c. ShapedValues c vs) h.1 h.2)
    value_seats (items c room vs p) t h = begin_seated c room (item c room vs p) t h.0 refl h
    value_seats (members c room ms p) (tok.name n) h = at_into (named c room ms n p) h
    value_seats (members c room ms p) tok.close_brace h = put_seated (object ms) p h.3 (subst (λ c. ShapedMembers c ms) h.1 h.2)
    value_seats (members c room ms p) _ h = tt
    value_seats (named c room ms n p) tok.colon h = at_into (want c room (of_member c room ms n p)) (h.0, refl, h)
    value_seats (named c room ms n p) _ h = tt

    pub value_seated : (r : Reading K) (t : Tok) (next : S) → SeatedValue G limit r → value_step into hand r t ≡ Ok next → Seated next
    value_seated r t next h e = from_ok Seated next (value_seats r t h) e

-- ---- a machine with a greater limit

lift_room : (k room : ℕ) → k + suc room ≡ suc (k + room)
lift_room k room = add-suc k room

-- `after` is the state behind a value in that machine
module _ {S K : Type 0} (G : Ground K) (into : Reading K → S) (hand after : K → Val → S) where
  module _ (k : ℕ) (lift : S → S)
      (at_into : (r : Reading K) → lift (into r) ≡ into (lift_value G k r))
      (at_hand : (x : K) (v : Val) → lift (hand x v) ≡ after (G.lift k x) v) where
    lift_put : (v : Val) (p : Place K) → put into after v (lift_place G k p) ≡ lift (put into hand v p)
    lift_put v (outer x) = sym (at_hand x v)
    lift_put v (item c room vs p) = sym (at_into (items c room (vals_then vs v) p))
    lift_put v (of_member c room ms n p) = sym (at_into (members c room (members_then ms n v) p))

    begin_lifts : (c : Bool) (room : ℕ) (p : Place K) (t : Tok) → Lifts lift (begin into hand c room p t) (begin into after c (k + room) (lift_place G k p) t)
    begin_lifts false room p tok.dollar = ap (λ s. Ok s) (sym (at_into (dollar p)))
    begin_lifts true room p tok.dollar = refl
    begin_lifts c room p (tok.int n) = ap (λ s. Ok s) (lift_put (int n) p)
    begin_lifts c room p (tok.text t) = ap (λ s. Ok s) (lift_put (text t) p)
    begin_lifts c room p (tok.name n) = ap (λ s. Ok s) (lift_put (word_value n) p)
    begin_lifts c zero p tok.open_bracket = tt
    begin_lifts c (suc room) p tok.open_bracket =
        ap (λ n. open_list into after c n (lift_place G k p)) (lift_room k room) ∙ ap (λ s. Ok s) (sym (at_into (items c room no_vals p)))
    begin_lifts c zero p tok.open_brace = tt
    begin_lifts c (suc room) p tok.open_brace =
        ap (λ n. open_object into after c n (lift_place G k p)) (lift_room k room) ∙ ap (λ s. Ok s) (sym (at_into (members c room no_members p)))
    begin_lifts c room p _ = refl

    pub value_lifts : (r : Reading K) (t : Tok) → Lifts lift (value_step into hand r t) (value_step into after (lift_value G k r) t)
    value_lifts (want c room p) t = begin_lifts c room p t
    value_lifts (dollar p) (tok.name n) = ap (λ s. Ok s) (lift_put (variable n) p)
    value_lifts (dollar p) _ = refl
    value_lifts (items c room vs p) tok.close_bracket = ap (λ s. Ok s) (lift_put (list vs) p)
    value_lifts (items c room vs p) t = begin_lifts c room (item c room vs p) t
    value_lifts (members c room ms p) (tok.name n) = ap (λ s. Ok s) (sym (at_into (named c room ms n p)))
    value_lifts (members c room ms p) tok.close_brace = ap (λ s. Ok s) (lift_put (object ms) p)
    value_lifts (members c room ms p) _ = refl
    value_lifts (named c room ms n p) tok.colon = ap (λ s. Ok s) (sym (at_into (want c room (of_member c room ms n p))))
    value_lifts (named c room ms n p) _ = refl

    pub value_lift_step : (r : Reading K) (t : Tok) (next : S) → value_step into hand r t ≡ Ok next → value_step into after (lift_value G k r) t ≡ Ok (lift next)
    value_lift_step r t next e = from_lifts lift next (value_lifts r t) e

    pub value_lift_unexpected : (r : Reading K) (t : Tok) → value_step into hand r t ≡ Err unexpected → value_step into after (lift_value G k r) t ≡ Err unexpected
    value_lift_unexpected r t e = from_lifts_unexpected lift (value_lifts r t) e

  begin_opens : (c : Bool) (room : ℕ) (p : Place K) (t : Tok) → Opens (begin into hand c room p t) (begin into after c (1 + room) (lift_place G 1 p) t)
  begin_opens false room p tok.dollar = tt
  begin_opens true room p tok.dollar = tt
  begin_opens c zero p tok.open_bracket = (into (items c 0 no_vals (lift_place G 1 p)), refl)
  begin_opens c (suc room) p tok.open_bracket = tt
  begin_opens c zero p tok.open_brace = (into (members c 0 no_members (lift_place G 1 p)), refl)
  begin_opens c (suc room) p tok.open_brace = tt
  begin_opens c room p _ = tt

  pub value_opens : (r : Reading K) (t : Tok) → Opens (value_step into hand r t) (value_step into after (lift_value G 1 r) t)
  value_opens (want c room p) t = begin_opens c room p t
  value_opens (dollar p) (tok.name n) = tt
  value_opens (dollar p) _ = tt
  value_opens (items c room vs p) tok.close_bracket = tt
  value_opens (items c room vs p) t = begin_opens c room (item c room vs p) t
  value_opens (members c room ms p) (tok.name n) = tt
  value_opens (members c room ms p) tok.close_brace = tt
  value_opens (members c room ms p) _ = tt
  value_opens (named c room ms n p) tok.colon = tt
  value_opens (named c room ms n p) _ = tt

  pub value_lift_too_deep : (r : Reading K) (t : Tok) → value_step into hand r t ≡ Err too_deep → (next : S) × (value_step into after (lift_value G 1 r) t ≡ Ok next)
  value_lift_too_deep r t e = from_opens (value_opens r t) e

module _ {K : Type 0} (G : Ground K) (laws : GroundLaws G) where
  pub lift_place_level : (k : ℕ) (p : Place K) → place_level (lift_place G k p) ≡ place_level p
  lift_place_level k (outer x) = refl
  lift_place_level k (item c room vs p) = ap (λ n. n + 1) (lift_place_level k p)
  lift_place_level k (of_member c room ms n p) = ap (λ n. n + 1) (lift_place_level k p)

  pub lift_value_level : (k : ℕ) (r : Reading K) (t : Tok) → value_level (lift_value G k r) t ≡ value_level r t
  lift_value_level k (want c room p) t = ap (λ n. begin_level n t) (lift_place_level k p)
  lift_value_level k (dollar p) t = refl
  lift_value_level k (items c room vs p) t = ap (λ n. begin_level (n + 1) t) (lift_place_level k p)
  lift_value_level k (members c room ms p) t = refl
  lift_value_level k (named c room ms n p) t = refl

  lift_before : (k : ℕ) (p : Place K) (ts : List Leveled) → before G (lift_place G k p) ts ≡ before G p ts
  lift_before k (outer x) ts = laws.lift_front k x ts
  lift_before k (item c room vs p) ts =
      ap (λ n. before G (lift_place G k p) ((tok.open_bracket, n + 1) ∷ spell_values mark_level vs (n + 1) ts)) (lift_place_level k p)
      ∙ lift_before k p ((tok.open_bracket, place_level p + 1) ∷ spell_values mark_level vs (place_level p + 1) ts)
  lift_before k (of_member c room ms n p) ts =
      ap (λ l. before G (lift_place G k p) ((tok.open_brace, l + 1) ∷ spell_members mark_level ms (l + 1) ((tok.name n, 0) ∷ (tok.colon, 0) ∷ ts))) (lift_place_level k p)
      ∙ lift_before k p ((tok.open_brace, place_level p + 1) ∷ spell_members mark_level ms (place_level p + 1) ((tok.name n, 0) ∷ (tok.colon, 0) ∷ ts))

  lift_before_object : (k : ℕ) (p : Place K) (ms : Members) (ts : List Leveled)
      → before G (lift_place G k p) ((tok.open_brace, place_level (lift_place G k p) + 1) ∷ spell_members mark_level ms (place_level (lift_place G k p) + 1) ts)
      ≡ before G p ((tok.open_brace, place_level p + 1) ∷ spell_members mark_level ms (place_level p + 1) ts)
  lift_before_object k p ms ts =
      ap (λ n. before G (lift_place G k p) ((tok.open_brace, n + 1) ∷ spell_members mark_level ms (n + 1) ts)) (lift_place_level k p)
      ∙ lift_before k p ((tok.open_brace, place_level p + 1) ∷ spell_members mark_level ms (place_level p + 1) ts)

  pub lift_value_so_far : (k : ℕ) (r : Reading K) (ts : List Leveled) → value_so_far G (lift_value G k r) ts ≡ value_so_far G r ts
  lift_value_so_far k (want c room p) ts = lift_before k p ts
  lift_value_so_far k (dollar p) ts = lift_before k p ((tok.dollar, 0) ∷ ts)
  lift_value_so_far k (items c room vs p) ts = lift_before k (item c room vs p) ts
  lift_value_so_far k (members c room ms p) ts = lift_before_object k p ms ts
  lift_value_so_far k (named c room ms n p) ts = lift_before_object k p ms ((tok.name n, 0) ∷ ts)

  lift_place_constant : (k : ℕ) (p : Place K) → place_constant G (lift_place G k p) ≡ place_constant G p
  lift_place_constant k (outer x) = laws.lift_constant k x
  lift_place_constant k (item c room vs p) = refl
  lift_place_constant k (of_member c room ms n p) = refl

  lift_seated_place : (k limit : ℕ) (p : Place K) → SeatedPlace G limit p → SeatedPlace G (k + limit) (lift_place G k p)
  lift_seated_place k limit (outer x) h = laws.lift_seated k limit x h
  lift_seated_place k limit (item c room vs p) h =
      (omega (arith, lift_place_level k p, h.0), h.1 ∙ sym (lift_place_constant k p), h.2, lift_seated_place k limit p h.3)
  lift_seated_place k limit (of_member c room ms n p) h =
      (omega (arith, lift_place_level k p, h.0), h.1 ∙ sym (lift_place_constant k p), h.2, lift_seated_place k limit p h.3)

  pub lift_value_seated : (k limit : ℕ) (r : Reading K) → SeatedValue G limit r → SeatedValue G (k + limit) (lift_value G k r)
  lift_value_seated k limit (want c room p) h =
      (omega (arith, lift_place_level k p, h.0), h.1 ∙ sym (lift_place_constant k p), lift_seated_place k limit p h.2)
  lift_value_seated k limit (dollar p) h = (lift_place_constant k p ∙ h.0, lift_seated_place k limit p h.1)
  lift_value_seated k limit (items c room vs p) h = lift_seated_place k limit (item c room vs p) h
  lift_value_seated k limit (members c room ms p) h = lift_seated_place k limit (of_member c room ms [] p) h
  lift_value_seated k limit (named c room ms n p) h = lift_seated_place k limit (of_member c room ms n p) h

-- ---- a value that is written is read, and each state can be ended

abbrev vals_joined : Vals → Vals → Vals
vals_joined no_vals ws = ws
vals_joined (val v vs) ws = val v (vals_joined vs ws)

abbrev members_joined : Members → Members → Members
members_joined no_members ks = ks
members_joined (member n v ms) ks = member n v (members_joined ms ks)

vals-joined_then : (vs : Vals) (v : Val) (ws : Vals) → vals_joined (vals_then vs v) ws ≡ vals_joined vs (val v ws)
vals-joined_then no_vals v ws = refl
vals-joined_then (val u vs) v ws = ap (λ x. val u x) (vals-joined_then vs v ws)

members-joined_then : (ms : Members) (n : List ℕ) (v : Val) (ks : Members) → members_joined (members_then ms n v) ks ≡ members_joined ms (member n v ks)
members-joined_then no_members n v ks = refl
members-joined_then (member m u ms) n v ks = ap (λ x. member m u x) (members-joined_then ms n v ks)

vals-joined_none : (vs : Vals) → vals_joined vs no_vals ≡ vs
vals-joined_none no_vals = refl
vals-joined_none (val v vs) = ap (λ x. val v x) (vals-joined_none vs)

members-joined_none : (ms : Members) → members_joined ms no_members ≡ ms
members-joined_none no_members = refl
members-joined_none (member n v ms) = ap (λ x. member n v x) (members-joined_none ms)

-- what ends a state of this part, a short value standing where one is wanted
abbrev pub close_places : {K : Type 0} → Place K → List Tok
close_places (outer k) = []
close_places (item c room vs p) = tok.close_bracket ∷ close_places p
close_places (of_member c room ms n p) = tok.close_brace ∷ close_places p

abbrev pub value_end : {K : Type 0} → Reading K → List Tok
value_end (want c room p) = tok.int (pos 0) ∷ close_places p
value_end (dollar p) = tok.name (codes "a") ∷ close_places p
value_end (items c room vs p) = tok.close_bracket ∷ close_places p
value_end (members c room ms p) = tok.close_brace ∷ close_places p
value_end (named c room ms n p) = tok.colon ∷ tok.int (pos 0) ∷ tok.close_brace ∷ close_places p

close_places-form : {K : Type 0} (p : Place K) → AreToks (close_places p)
close_places-form (outer k) = tt
close_places-form (item c room vs p) = (tt, close_places-form p)
close_places-form (of_member c room ms n p) = (tt, close_places-form p)

pub value_end-form : {K : Type 0} (r : Reading K) → AreToks (value_end r)
value_end-form (want c room p) = (zero_fits, close_places-form p)
value_end-form (dollar p) = (refl, close_places-form p)
value_end-form (items c room vs p) = (tt, close_places-form p)
value_end-form (members c room ms p) = (tt, close_places-form p)
value_end-form (named c room ms n p) = (tt, (zero_fits, (tt, close_places-form p)))

abbrev NotClosing : Tok → Type 0
NotClosing tok.close_bracket = ⊥
NotClosing t = Unit {0}

word_truth : (b : Bool) → word_value (truth_word b) ≡ truth b
word_truth true = refl
word_truth false = refl

-- `step` takes the states of this part as this part does
module _ {S K : Type 0} (into : Reading K → S) (hand : K → Val → S) (step : S → Tok → Result S Halt)
    (agrees : (r : Reading K) (t : Tok) → step (into r) t ≡ value_step into hand r t) where
  pub value_on_token : (r : Reading K) (t : Tok) (ts : List Tok) → reach step (into r) (t ∷ ts) ≡ reach_from step (value_step into hand r t) ts
  value_on_token r t ts = ap (λ x. reach_from step x ts) (agrees r t)

  begins_item : (c : Bool) (room : ℕ) (vs : Vals) (p : Place K) (t : Tok) → NotClosing t → value_step into hand (items c room vs p) t ≡ begin into hand c room (item c room vs p) t
  begins_item c room vs p tok.close_bracket h = absurd h
  begins_item c room vs p t h = refl

  mutual
    -- a state in which a value may begin
    reads_value : (v : Val) (room : ℕ) (r : Reading K) (c : Bool) (p : Place K)
        → ((t : Tok) → NotClosing t → value_step into hand r t ≡ begin into hand c room p t)
        → (around : ℕ) (ts : List Tok) → ShapedValue c v → val_depth v ≤ room
        → reach step (into r) (spell_value token_mark v around ts) ≡ reach step (put into hand v p) ts
    reads_value (variable n) room r c p b around ts f d =
        value_on_token r tok.dollar (tok.name n ∷ ts) ∙ ap (λ x. reach_from step x (tok.name n ∷ ts)) (b tok.dollar tt)
        ∙ ap (λ c. reach_from step (begin into hand c room p tok.dollar) (tok.name n ∷ ts)) f ∙ value_on_token (dollar p) (tok.name n) ts
    reads_value (int n) room r c p b around ts f d = value_on_token r (tok.int n) ts ∙ ap (λ x. reach_from step x ts) (b (tok.int n) tt)
    reads_value (text t) room r c p b around ts f d = value_on_token r (tok.text t) ts ∙ ap (λ x. reach_from step x ts) (b (tok.text t) tt)
    reads_value (truth e) room r c p b around ts f d =
        value_on_token r (tok.name (truth_word e)) ts ∙ ap (λ x. reach_from step x ts) (b (tok.name (truth_word e)) tt)
        ∙ ap (λ v. reach step (put into hand v p) ts) (word_truth e)
    reads_value null room r c p b around ts f d = value_on_token r (tok.name null_word) ts ∙ ap (λ x. reach_from step x ts) (b (tok.name null_word) tt)
    reads_value (enum n) room r c p b around ts f d =
        value_on_token r (tok.name n) ts ∙ ap (λ x. reach_from step x ts) (b (tok.name n) tt)
        ∙ ap (λ v. reach step (put into hand v p) ts) (word_enum n f)
    reads_value (list vs) zero r c p b around ts f d = absurd (omega arith)
    reads_value (list vs) (suc room) r c p b around ts f d =
        value_on_token r tok.open_bracket (spell_values token_mark vs (around + 1) (tok.close_bracket ∷ ts))
        ∙ ap (λ x. reach_from step x (spell_values token_mark vs (around + 1) (tok.close_bracket ∷ ts))) (b tok.open_bracket tt)
        ∙ reads_values vs room no_vals c p (around + 1) (tok.close_bracket ∷ ts) f (omega arith)
        ∙ value_on_token (items c room vs p) tok.close_bracket ts
    reads_value (object ms) zero r c p b around ts f d = absurd (omega arith)
    reads_value (object ms) (suc room) r c p b around ts f d =
        value_on_token r tok.open_brace (spell_members token_mark ms (around + 1) (tok.close_brace ∷ ts))
        ∙ ap (λ x. reach_from step x (spell_members token_mark ms (around + 1) (tok.close_brace ∷ ts))) (b tok.open_brace tt)
        ∙ reads_members ms room no_members c p (around + 1) (tok.close_brace ∷ ts) f (omega arith)
        ∙ value_on_token (members c room ms p) tok.close_brace ts

    reads_values : (vs : Vals) (room : ℕ) (there : Vals) (c : Bool) (p : Place K) (around : ℕ) (ts : List Tok) → ShapedValues c vs → vals_depth vs ≤ room
        → reach step (into (items c room there p)) (spell_values token_mark vs around ts) ≡ reach step (into (items c room (vals_joined there vs) p)) ts
    reads_values no_vals room there c p around ts f d = ap (λ vs. reach step (into (items c room vs p)) ts) (sym (vals-joined_none there))
    reads_values (val v vs) room there c p around ts f d =
        reads_value v room (items c room there p) c (item c room there p) (begins_item c room there p) around (spell_values token_mark vs around ts) f.0 (le_trans (le-max_left (val_depth v) (vals_depth vs)) d)
        ∙ reads_values vs room (vals_then there v) c p around ts f.1 (le_trans (le-max_right (val_depth v) (vals_depth vs)) d)
        ∙ ap (λ vs. reach step (into (items c room vs p)) ts) (vals-joined_then there v vs)

    reads_members : (ms : Members) (room : ℕ) (there : Members) (c : Bool) (p : Place K) (around : ℕ) (ts : List Tok) → ShapedMembers c ms → members_depth ms ≤ room
        → reach step (into (members c room there p)) (spell_members token_mark ms around ts) ≡ reach step (into (members c room (members_joined there ms) p)) ts
    reads_members no_members room there c p around ts f d = ap (λ ms. reach step (into (members c room ms p)) ts) (sym (members-joined_none there))
    reads_members (member n v ms) room there c p around ts f d =
        value_on_token (members c room there p) (tok.name n) (tok.colon ∷ spell_value token_mark v around (spell_members token_mark ms around ts))
        ∙ value_on_token (named c room there n p) tok.colon (spell_value token_mark v around (spell_members token_mark ms around ts))
        ∙ reads_value v room (want c room (of_member c room there n p)) c (of_member c room there n p) (λ t h. refl) around (spell_members token_mark ms around ts) f.0 (le_trans (le-max_left (val_depth v) (members_depth ms)) d)
        ∙ reads_members ms room (members_then there n v) c p around ts f.1 (le_trans (le-max_right (val_depth v) (members_depth ms)) d)
        ∙ ap (λ ms. reach step (into (members c room ms p)) ts) (members-joined_then there n v ms)

  pub value_complete : (c : Bool) (room : ℕ) (p : Place K) (v : Val) (around : ℕ) (ts : List Tok) → ShapedValue c v → val_depth v ≤ room
      → reach step (into (want c room p)) (spell_value token_mark v around ts) ≡ reach step (put into hand v p) ts
  value_complete c room p v around ts f d = reads_value v room (want c room p) c p (λ t h. refl) around ts f d

  -- ---- the end

  places_end : (p : Place K) (v : Val) → (w : Val) × (reach step (put into hand v p) (close_places p) ≡ Ok (hand (place_on p) w))
  places_end (outer k) v = (v, refl)
  places_end (item c room vs p) v =
      let h = places_end p (list (vals_then vs v)) in
      (h.0, value_on_token (items c room (vals_then vs v) p) tok.close_bracket (close_places p) ∙ h.1)
  places_end (of_member c room ms n p) v =
      let h = places_end p (object (members_then ms n v)) in
      (h.0, value_on_token (members c room (members_then ms n v) p) tok.close_brace (close_places p) ∙ h.1)

  -- each state can be ended, and some value is handed over there
  pub value_ends : (r : Reading K) → (v : Val) × (reach step (into r) (value_end r) ≡ Ok (hand (value_on r) v))
  value_ends (want c room p) = let h = places_end p (int (pos 0)) in (h.0, value_on_token (want c room p) (tok.int (pos 0)) (close_places p) ∙ h.1)
  value_ends (dollar p) = let h = places_end p (variable (codes "a")) in (h.0, value_on_token (dollar p) (tok.name (codes "a")) (close_places p) ∙ h.1)
  value_ends (items c room vs p) = let h = places_end p (list vs) in (h.0, value_on_token (items c room vs p) tok.close_bracket (close_places p) ∙ h.1)
  value_ends (members c room ms p) = let h = places_end p (object ms) in (h.0, value_on_token (members c room ms p) tok.close_brace (close_places p) ∙ h.1)
  value_ends (named c room ms n p) =
      let h = places_end p (object (members_then ms n (int (pos 0)))) in (
        h.0,
        value_on_token (named c room ms n p) tok.colon (tok.int (pos 0) ∷ tok.close_brace ∷ close_places p)
            ∙ value_on_token (want c room (of_member c room ms n p)) (tok.int (pos 0)) (tok.close_brace ∷ close_places p)
            ∙ value_on_token (members c room (members_then ms n (int (pos 0))) p) tok.close_brace (close_places p)
            ∙ h.1,
      )

module _ {K : Type 0} (G : Ground K) where
  lift_place_on : (k : ℕ) (p : Place K) → place_on (lift_place G k p) ≡ G.lift k (place_on p)
  lift_place_on k (outer x) = refl
  lift_place_on k (item c room vs p) = lift_place_on k p
  lift_place_on k (of_member c room ms n p) = lift_place_on k p

  pub lift_value_on : (k : ℕ) (r : Reading K) → value_on (lift_value G k r) ≡ G.lift k (value_on r)
  lift_value_on k (want c room p) = lift_place_on k p
  lift_value_on k (dollar p) = lift_place_on k p
  lift_value_on k (items c room vs p) = lift_place_on k p
  lift_value_on k (members c room ms p) = lift_place_on k p
  lift_value_on k (named c room ms n p) = lift_place_on k p

  seated_place_on : (limit : ℕ) (p : Place K) → SeatedPlace G limit p → G.Seated limit (place_on p)
  seated_place_on limit (outer x) h = h
  seated_place_on limit (item c room vs p) h = seated_place_on limit p h.3
  seated_place_on limit (of_member c room ms n p) h = seated_place_on limit p h.3

  pub seated_value_on : (limit : ℕ) (r : Reading K) → SeatedValue G limit r → G.Seated limit (value_on r)
  seated_value_on limit (want c room p) h = seated_place_on limit p h.2
  seated_value_on limit (dollar p) h = seated_place_on limit p h.1
  seated_value_on limit (items c room vs p) h = seated_place_on limit p h.3
  seated_value_on limit (members c room ms p) h = seated_place_on limit p h.3
  seated_value_on limit (named c room ms n p) h = seated_place_on limit p h.3

max_within : (a b n limit : ℕ) → a + n ≤ limit → b + n ≤ limit → max a b + n ≤ limit
max_within a b n limit h k = let both : max a b ≤ limit - n = max-le (omega arith) (omega arith) in omega (arith, both)

-- ---- how many lists and objects stand in one another, by the numbers of what the tokens open

mutual
  pub value_depth_from : (v : Val) (limit around : ℕ) (ts : List ℕ) → around ≤ limit → Shallow limit (spell_value level_mark v around ts) → (val_depth v + around ≤ limit) × Shallow limit ts
  value_depth_from (variable n) limit around ts a h = (omega arith, h.1.1)
  value_depth_from (int n) limit around ts a h = (omega arith, h.1)
  value_depth_from (text t) limit around ts a h = (omega arith, h.1)
  value_depth_from (truth b) limit around ts a h = (omega arith, h.1)
  value_depth_from null limit around ts a h = (omega arith, h.1)
  value_depth_from (enum n) limit around ts a h = (omega arith, h.1)
  value_depth_from (list vs) limit around ts a h = let d = values_depth_from vs limit (around + 1) (0 ∷ ts) h.0 h.1 in (omega (arith, d.0), d.1.1)
  value_depth_from (object ms) limit around ts a h = let d = members_depth_from ms limit (around + 1) (0 ∷ ts) h.0 h.1 in (omega (arith, d.0), d.1.1)

  pub values_depth_from : (vs : Vals) (limit around : ℕ) (ts : List ℕ) → around ≤ limit → Shallow limit (spell_values level_mark vs around ts) → (vals_depth vs + around ≤ limit) × Shallow limit ts
  values_depth_from no_vals limit around ts a h = (omega arith, h)
  values_depth_from (val v vs) limit around ts a h =
      let d = value_depth_from v limit around (spell_values level_mark vs around ts) a h in
      let e = values_depth_from vs limit around ts a d.1 in
      (max_within (val_depth v) (vals_depth vs) around limit d.0 e.0, e.1)

  pub members_depth_from : (ms : Members) (limit around : ℕ) (ts : List ℕ) → around ≤ limit → Shallow limit (spell_members level_mark ms around ts) → (members_depth ms + around ≤ limit) × Shallow limit ts
  members_depth_from no_members limit around ts a h = (omega arith, h)
  members_depth_from (member n v ms) limit around ts a h =
      let d = value_depth_from v limit around (spell_members level_mark ms around ts) a h.1.1 in
      let e = members_depth_from ms limit around ts a d.1 in
      (max_within (val_depth v) (members_depth ms) around limit d.0 e.0, e.1)

mutual
  pub value_depth_to : (v : Val) (limit around : ℕ) (ts : List ℕ) → val_depth v + around ≤ limit → Shallow limit ts → Shallow limit (spell_value level_mark v around ts)
  value_depth_to (variable n) limit around ts d h = (omega arith, (omega arith, h))
  value_depth_to (int n) limit around ts d h = (omega arith, h)
  value_depth_to (text t) limit around ts d h = (omega arith, h)
  value_depth_to (truth b) limit around ts d h = (omega arith, h)
  value_depth_to null limit around ts d h = (omega arith, h)
  value_depth_to (enum n) limit around ts d h = (omega arith, h)
  value_depth_to (list vs) limit around ts d h = (omega arith, values_depth_to vs limit (around + 1) (0 ∷ ts) (omega arith) (omega arith, h))
  value_depth_to (object ms) limit around ts d h = (omega arith, members_depth_to ms limit (around + 1) (0 ∷ ts) (omega arith) (omega arith, h))

  pub values_depth_to : (vs : Vals) (limit around : ℕ) (ts : List ℕ) → vals_depth vs + around ≤ limit → Shallow limit ts → Shallow limit (spell_values level_mark vs around ts)
  values_depth_to no_vals limit around ts d h = h
  values_depth_to (val v vs) limit around ts d h =
      value_depth_to v limit around (spell_values level_mark vs around ts) (omega (arith, le-max_left (val_depth v) (vals_depth vs)))
      (values_depth_to vs limit around ts (omega (arith, le-max_right (val_depth v) (vals_depth vs))) h)

  pub members_depth_to : (ms : Members) (limit around : ℕ) (ts : List ℕ) → members_depth ms + around ≤ limit → Shallow limit ts → Shallow limit (spell_members level_mark ms around ts)
  members_depth_to no_members limit around ts d h = h
  members_depth_to (member n v ms) limit around ts d h = (
    omega arith,
    (
      omega arith,
      value_depth_to v limit around (spell_members level_mark ms around ts) (omega (arith, le-max_left (val_depth v) (members_depth ms)))
          (members_depth_to ms limit around ts (omega (arith, le-max_right (val_depth v) (members_depth ms))) h),
    ),
  )
