-- What holds of the part of a machine that reads types, whatever stands above it: `into` puts a state of this part into the whole,
-- `hand` is the state behind a type that ends with `!`, and `pass` takes the token that follows another type.
use Rattle.std.proofs.Common.{◌≡◌, ◌≤◌, ◌<◌, ℕ, zero, suc, ◌+◌, List, [], ◌∷◌, ◌++◌, Result, Ok, Err, IfOk, refl, sym, ap, ◌∙◌, arith, add-suc, codes}
use Rattle.gql_lex.specs.Toks as tok
use Rattle.gql_lex.specs.Toks.{Tok}
use Rattle.gql_ast.specs.Ty.{Ty, named, list, non_null}
use Rattle.gql_syntax.specs.FirstFault.{Shallow}
use Rattle.gql_syntax.proofs.Shapes.{ShapedType}
use Rattle.gql_syntax.specs.Formed.{MayBeNull}
use Rattle.gql_syntax.specs.Machine.{Holder, whole, listed, Typing, want_type, typed, closing, open_type, put_type, type_step}
use Rattle.gql_syntax.specs.Run.{Halt, unexpected, too_deep}
use Rattle.gql_syntax.specs.Spelling.{spell_type}
use Rattle.gql_syntax.proofs.Forms.{AreToks}
use Rattle.gql_syntax.proofs.Laws.{Leveled, reach_from, reach}
use Rattle.gql_syntax.proofs.Marks.{above_any}
use Rattle.gql_syntax.proofs.Reading.{reach-append}
use Rattle.gql_syntax.proofs.Standing.{mark_level, token_mark, level_mark, Ground, GroundLaws, holder_level, opening_level, type_level, holder_on, type_on, before_type, type_so_far, lift_holder, lift_type, SeatedHolder, SeatedType, Lifts, Opens, IfTooDeep}
use Rattle.gql_syntax.proofs.ValueLaws.{from_ok, from_too_deep, from_lifts, from_lifts_unexpected, from_opens}

module _ {S K : Type 0} (G : Ground K) (passed : K → Tok → ℕ) (into : Typing K → S) (hand : K → Ty → S) (pass : K → Ty → Tok → Result S Halt) where
  module _ (limit : ℕ) (so_far : S → List Leveled → List Leveled)
      (at_into : (r : Typing K) (ts : List Leveled) → so_far (into r) ts ≡ type_so_far G r ts)
      (at_hand : (k : K) (t : Ty) (ts : List Leveled) → so_far (hand k t) ts ≡ G.front k (spell_type mark_level t 0 0 ts))
      (at_pass : (k : K) (t : Ty) (x : Tok) → G.Seated limit k → ShapedType t
      → IfOk (pass k t x) (λ next. (ts : List Leveled) → so_far next ts ≡ G.front k (spell_type mark_level t 0 0 ((x, passed k x) ∷ ts)))) where
    banged : (t : Ty) (around : ℕ) (ts : List Leveled) → spell_type mark_level (non_null t) around 0 ts ≡ spell_type mark_level t around 0 ((tok.bang, 0) ∷ ts)
    banged t around ts = above_any mark_level (λ t level n k. refl) t around 1 0 ((tok.bang, 0) ∷ ts)

    type_put : (t : Ty) (h : Holder K) (ts : List Leveled) → so_far (put_type into hand pass (non_null t) h) ts ≡ before_type G h (spell_type mark_level t (holder_level h) 0 ((tok.bang, 0) ∷ ts))
    type_put t (whole k) ts = at_hand k (non_null t) ts ∙ ap (λ w. G.front k w) (banged t 0 ts)
    type_put t (listed h) ts = at_into (closing (non_null t) h) ts ∙ ap (λ w. before_type G (listed h) w) (banged t (holder_level h + 1) ts)

    pub type_sounds : (r : Typing K) (x : Tok) → SeatedType G limit r
        → IfOk (type_step into hand pass r x) (λ next. (ts : List Leveled) → so_far next ts ≡ type_so_far G r ((x, type_level passed r x) ∷ ts))
    type_sounds (want_type room h) (tok.name n) s = λ ts. at_into (typed (named n) h) ts
    type_sounds (want_type zero h) tok.open_bracket s = tt
    type_sounds (want_type (suc room) h) tok.open_bracket s = λ ts. at_into (want_type room (listed h)) ts
    type_sounds (want_type room h) _ s = tt
    type_sounds (typed t h) tok.bang s = λ ts. type_put t h ts
    type_sounds (typed t (whole k)) x s = at_pass k t x s.2 s.1
    type_sounds (typed t (listed h)) tok.close_bracket s = λ ts. at_into (typed (list t) h) ts
    type_sounds (typed t (listed h)) _ s = tt
    type_sounds (closing t h) tok.close_bracket s = λ ts. at_into (typed (list t) h) ts
    type_sounds (closing t h) _ s = tt

    pub type_sound : (r : Typing K) (x : Tok) (next : S) → SeatedType G limit r → type_step into hand pass r x ≡ Ok next
        → (ts : List Leveled) → so_far next ts ≡ type_so_far G r ((x, type_level passed r x) ∷ ts)
    type_sound r x next s e = from_ok (λ next. (ts : List Leveled) → so_far next ts ≡ type_so_far G r ((x, type_level passed r x) ∷ ts)) next (type_sounds r x s) e

  module _ (limit : ℕ) (at_pass : (k : K) (t : Ty) (x : Tok) → G.Seated limit k → IfOk (pass k t x) (λ next. passed k x ≤ limit)) where
    pub type_shallows : (r : Typing K) (x : Tok) → SeatedType G limit r → IfOk (type_step into hand pass r x) (λ next. type_level passed r x ≤ limit)
    type_shallows (want_type room h) (tok.name n) s = omega arith
    type_shallows (want_type zero h) tok.open_bracket s = tt
    type_shallows (want_type (suc room) h) tok.open_bracket s = omega (arith, s.0)
    type_shallows (want_type room h) _ s = tt
    type_shallows (typed t h) tok.bang s = omega arith
    type_shallows (typed t (whole k)) x s = at_pass k t x s.2
    type_shallows (typed t (listed h)) tok.close_bracket s = omega arith
    type_shallows (typed t (listed h)) _ s = tt
    type_shallows (closing t h) tok.close_bracket s = omega arith
    type_shallows (closing t h) _ s = tt

    pub type_shallow : (r : Typing K) (x : Tok) (next : S) → SeatedType G limit r → type_step into hand pass r x ≡ Ok next → type_level passed r x ≤ limit
    type_shallow r x next s e = from_ok (λ next. type_level passed r x ≤ limit) next (type_shallows r x s) e

  module _ (limit : ℕ) (at_pass : (k : K) (t : Ty) (x : Tok) → G.Seated limit k → IfTooDeep (pass k t x) (limit < passed k x)) where
    pub type_deeps : (r : Typing K) (x : Tok) → SeatedType G limit r → IfTooDeep (type_step into hand pass r x) (limit < type_level passed r x)
    type_deeps (want_type room h) (tok.name n) s = tt
    type_deeps (want_type zero h) tok.open_bracket s = omega (arith, s.0)
    type_deeps (want_type (suc room) h) tok.open_bracket s = tt
    type_deeps (want_type room h) _ s = tt
    type_deeps (typed t h) tok.bang s = tt
    type_deeps (typed t (whole k)) x s = at_pass k t x s.2
    type_deeps (typed t (listed h)) tok.close_bracket s = tt
    type_deeps (typed t (listed h)) _ s = tt
    type_deeps (closing t h) tok.close_bracket s = tt
    type_deeps (closing t h) _ s = tt

    pub type_deep : (r : Typing K) (x : Tok) → SeatedType G limit r → type_step into hand pass r x ≡ Err too_deep → limit < type_level passed r x
    type_deep r x s e = from_too_deep (limit < type_level passed r x) (type_deeps r x s) e

  module _ (limit : ℕ) (Seated : S → Type 0)
      (at_into : (r : Typing K) → SeatedType G limit r → Seated (into r))
      (at_hand : (k : K) (t : Ty) → G.Seated limit k → ShapedType t → Seated (hand k t))
      (at_pass : (k : K) (t : Ty) (x : Tok) → G.Seated limit k → ShapedType t → IfOk (pass k t x) Seated) where
    put_type_seated : (t : Ty) (h : Holder K) → SeatedHolder G limit h → ShapedType t → Seated (put_type into hand pass t h)
    put_type_seated t (whole k) s f = at_hand k t s f
    put_type_seated t (listed h) s f = at_into (closing t h) (f, s)

    pub type_seats : (r : Typing K) (x : Tok) → SeatedType G limit r → IfOk (type_step into hand pass r x) Seated
    type_seats (want_type room h) (tok.name n) s = at_into (typed (named n) h) (tt, tt, s.1)
    type_seats (want_type zero h) tok.open_bracket s = tt
    type_seats (want_type (suc room) h) tok.open_bracket s = at_into (want_type room (listed h)) (omega (arith, s.0), s.1)
    type_seats (want_type room h) _ s = tt
    type_seats (typed t h) tok.bang s = put_type_seated (non_null t) h s.2 (s.0, s.1)
    type_seats (typed t (whole k)) x s = at_pass k t x s.2 s.1
    type_seats (typed t (listed h)) tok.close_bracket s = at_into (typed (list t) h) (tt, s.1, s.2)
    type_seats (typed t (listed h)) _ s = tt
    type_seats (closing t h) tok.close_bracket s = at_into (typed (list t) h) (tt, s.0, s.1)
    type_seats (closing t h) _ s = tt

    pub type_seated : (r : Typing K) (x : Tok) (next : S) → SeatedType G limit r → type_step into hand pass r x ≡ Ok next → Seated next
    type_seated r x next s e = from_ok Seated next (type_seats r x s) e

  -- ---- a machine with a greater limit; `after` and `onward` are its `hand` and `pass`

  module _ (after : K → Ty → S) (onward : K → Ty → Tok → Result S Halt) (k : ℕ) (lift : S → S)
      (at_into : (r : Typing K) → lift (into r) ≡ into (lift_type G k r))
      (at_hand : (y : K) (t : Ty) → lift (hand y t) ≡ after (G.lift k y) t)
      (at_pass : (y : K) (t : Ty) (x : Tok) → Lifts lift (pass y t x) (onward (G.lift k y) t x)) where
    lift_put_type : (t : Ty) (h : Holder K) → put_type into after onward t (lift_holder G k h) ≡ lift (put_type into hand pass t h)
    lift_put_type t (whole y) = sym (at_hand y t)
    lift_put_type t (listed h) = sym (at_into (closing t h))

    pub type_lifts : (r : Typing K) (x : Tok) → Lifts lift (type_step into hand pass r x) (type_step into after onward (lift_type G k r) x)
    type_lifts (want_type room h) (tok.name n) = ap (λ s. Ok s) (sym (at_into (typed (named n) h)))
    type_lifts (want_type zero h) tok.open_bracket = tt
    type_lifts (want_type (suc room) h) tok.open_bracket =
        ap (λ n. open_type into after onward n (lift_holder G k h)) (add-suc k room) ∙ ap (λ s. Ok s) (sym (at_into (want_type room (listed h))))
    type_lifts (want_type room h) _ = refl
    type_lifts (typed t h) tok.bang = ap (λ s. Ok s) (lift_put_type (non_null t) h)
    type_lifts (typed t (whole y)) x = at_pass y t x
    type_lifts (typed t (listed h)) tok.close_bracket = ap (λ s. Ok s) (sym (at_into (typed (list t) h)))
    type_lifts (typed t (listed h)) _ = refl
    type_lifts (closing t h) tok.close_bracket = ap (λ s. Ok s) (sym (at_into (typed (list t) h)))
    type_lifts (closing t h) _ = refl

    pub type_lift_step : (r : Typing K) (x : Tok) (next : S) → type_step into hand pass r x ≡ Ok next → type_step into after onward (lift_type G k r) x ≡ Ok (lift next)
    type_lift_step r x next e = from_lifts lift next (type_lifts r x) e

    pub type_lift_unexpected : (r : Typing K) (x : Tok) → type_step into hand pass r x ≡ Err unexpected → type_step into after onward (lift_type G k r) x ≡ Err unexpected
    type_lift_unexpected r x e = from_lifts_unexpected lift (type_lifts r x) e

  module _ (after : K → Ty → S) (onward : K → Ty → Tok → Result S Halt)
      (at_pass : (y : K) (t : Ty) (x : Tok) → Opens (pass y t x) (onward (G.lift 1 y) t x)) where
    pub type_opens : (r : Typing K) (x : Tok) → Opens (type_step into hand pass r x) (type_step into after onward (lift_type G 1 r) x)
    type_opens (want_type room h) (tok.name n) = tt
    type_opens (want_type zero h) tok.open_bracket = (into (want_type 0 (listed (lift_holder G 1 h))), refl)
    type_opens (want_type (suc room) h) tok.open_bracket = tt
    type_opens (want_type room h) _ = tt
    type_opens (typed t h) tok.bang = tt
    type_opens (typed t (whole y)) x = at_pass y t x
    type_opens (typed t (listed h)) tok.close_bracket = tt
    type_opens (typed t (listed h)) _ = tt
    type_opens (closing t h) tok.close_bracket = tt
    type_opens (closing t h) _ = tt

    pub type_lift_too_deep : (r : Typing K) (x : Tok) → type_step into hand pass r x ≡ Err too_deep → (next : S) × (type_step into after onward (lift_type G 1 r) x ≡ Ok next)
    type_lift_too_deep r x e = from_opens (type_opens r x) e

module _ {K : Type 0} (G : Ground K) (laws : GroundLaws G) where
  lift_holder_level : (k : ℕ) (h : Holder K) → holder_level (lift_holder G k h) ≡ holder_level h
  lift_holder_level k (whole y) = refl
  lift_holder_level k (listed h) = ap (λ n. n + 1) (lift_holder_level k h)

  pub lift_type_level : (passed : K → Tok → ℕ) (k : ℕ) → ((y : K) (x : Tok) → passed (G.lift k y) x ≡ passed y x) → (r : Typing K) (x : Tok)
      → type_level passed (lift_type G k r) x ≡ type_level passed r x
  lift_type_level passed k e (want_type room h) x = ap (λ n. opening_level n x) (lift_holder_level k h)
  lift_type_level passed k e (typed t h) tok.bang = refl
  lift_type_level passed k e (typed t (whole y)) x = e y x
  lift_type_level passed k e (typed t (listed h)) x = refl
  lift_type_level passed k e (closing t h) x = refl

  lift_before_type : (k : ℕ) (h : Holder K) (ts : List Leveled) → before_type G (lift_holder G k h) ts ≡ before_type G h ts
  lift_before_type k (whole y) ts = laws.lift_front k y ts
  lift_before_type k (listed h) ts =
      ap (λ n. before_type G (lift_holder G k h) ((tok.open_bracket, n + 1) ∷ ts)) (lift_holder_level k h) ∙ lift_before_type k h ((tok.open_bracket, holder_level h + 1) ∷ ts)

  pub lift_type_so_far : (k : ℕ) (r : Typing K) (ts : List Leveled) → type_so_far G (lift_type G k r) ts ≡ type_so_far G r ts
  lift_type_so_far k (want_type room h) ts = lift_before_type k h ts
  lift_type_so_far k (typed t h) ts =
      ap (λ n. before_type G (lift_holder G k h) (spell_type mark_level t n 0 ts)) (lift_holder_level k h) ∙ lift_before_type k h (spell_type mark_level t (holder_level h) 0 ts)
  lift_type_so_far k (closing t h) ts =
      ap (λ n. before_type G (listed (lift_holder G k h)) (spell_type mark_level t (n + 1) 0 ts)) (lift_holder_level k h)
      ∙ lift_before_type k (listed h) (spell_type mark_level t (holder_level h + 1) 0 ts)

  lift_seated_holder : (k limit : ℕ) (h : Holder K) → SeatedHolder G limit h → SeatedHolder G (k + limit) (lift_holder G k h)
  lift_seated_holder k limit (whole y) s = laws.lift_seated k limit y s
  lift_seated_holder k limit (listed h) s = lift_seated_holder k limit h s

  pub lift_type_seated : (k limit : ℕ) (r : Typing K) → SeatedType G limit r → SeatedType G (k + limit) (lift_type G k r)
  lift_type_seated k limit (want_type room h) s = (omega (arith, lift_holder_level k h, s.0), lift_seated_holder k limit h s.1)
  lift_type_seated k limit (typed t h) s = (s.0, s.1, lift_seated_holder k limit h s.2)
  lift_type_seated k limit (closing t h) s = (s.0, lift_seated_holder k limit h s.1)

  lift_holder_on : (k : ℕ) (h : Holder K) → holder_on (lift_holder G k h) ≡ G.lift k (holder_on h)
  lift_holder_on k (whole y) = refl
  lift_holder_on k (listed h) = lift_holder_on k h

  pub lift_type_on : (k : ℕ) (r : Typing K) → type_on (lift_type G k r) ≡ G.lift k (type_on r)
  lift_type_on k (want_type room h) = lift_holder_on k h
  lift_type_on k (typed t h) = lift_holder_on k h
  lift_type_on k (closing t h) = lift_holder_on k h

  seated_holder_on : (limit : ℕ) (h : Holder K) → SeatedHolder G limit h → G.Seated limit (holder_on h)
  seated_holder_on limit (whole y) s = s
  seated_holder_on limit (listed h) s = seated_holder_on limit h s

  pub seated_type_on : (limit : ℕ) (r : Typing K) → SeatedType G limit r → G.Seated limit (type_on r)
  seated_type_on limit (want_type room h) s = seated_holder_on limit h s.1
  seated_type_on limit (typed t h) s = seated_holder_on limit h s.2
  seated_type_on limit (closing t h) s = seated_holder_on limit h s.1

-- ---- a type that is written is read, and each state can be ended

-- how many list types stand in one another
abbrev pub list_depth : Ty → ℕ
list_depth (named n) = 0
list_depth (list t) = list_depth t + 1
list_depth (non_null t) = list_depth t

-- `!` does not follow, and no end
abbrev pub NotBang : Tok → Type 0
NotBang tok.bang = ⊥
NotBang x = Unit {0}

abbrev pub NoBang : List Tok → Type 0
NoBang [] = ⊥
NoBang (x ∷ xs) = NotBang x

abbrev pub close_holders : {K : Type 0} → Holder K → List Tok
close_holders (whole k) = []
close_holders (listed h) = tok.close_bracket ∷ close_holders h

abbrev pub type_end : {K : Type 0} → Typing K → List Tok
type_end (want_type room h) = tok.name (codes "a") ∷ close_holders h
type_end (typed t h) = close_holders h
type_end (closing t h) = tok.close_bracket ∷ close_holders h

close_holders-form : {K : Type 0} (h : Holder K) → AreToks (close_holders h)
close_holders-form (whole k) = tt
close_holders-form (listed h) = (tt, close_holders-form h)

pub type_end-form : {K : Type 0} (r : Typing K) → AreToks (type_end r)
type_end-form (want_type room h) = (refl, close_holders-form h)
type_end-form (typed t h) = close_holders-form h
type_end-form (closing t h) = (tt, close_holders-form h)

module _ {S K : Type 0} (into : Typing K → S) (hand : K → Ty → S) (pass : K → Ty → Tok → Result S Halt) (step : S → Tok → Result S Halt)
    (agrees : (r : Typing K) (x : Tok) → step (into r) x ≡ type_step into hand pass r x) where
  pub type_on_token : (r : Typing K) (x : Tok) (ts : List Tok) → reach step (into r) (x ∷ ts) ≡ reach_from step (type_step into hand pass r x) ts
  type_on_token r x ts = ap (λ y. reach_from step y ts) (agrees r x)

  -- the state behind a type
  abbrev pub typed_at : Ty → Holder K → S
  typed_at (named n) h = into (typed (named n) h)
  typed_at (list t) h = into (typed (list t) h)
  typed_at (non_null t) h = put_type into hand pass (non_null t) h

  on_closing : (t : Ty) (h : Holder K) (ts : List Tok) → reach step (typed_at t (listed h)) (tok.close_bracket ∷ ts) ≡ reach step (into (typed (list t) h)) ts
  on_closing (named n) h ts = type_on_token (typed (named n) (listed h)) tok.close_bracket ts
  on_closing (list t) h ts = type_on_token (typed (list t) (listed h)) tok.close_bracket ts
  on_closing (non_null t) h ts = type_on_token (closing (non_null t) h) tok.close_bracket ts

  on_bang : (t : Ty) (h : Holder K) (ts : List Tok) → MayBeNull t → reach step (typed_at t h) (tok.bang ∷ ts) ≡ reach step (put_type into hand pass (non_null t) h) ts
  on_bang (named n) h ts m = type_on_token (typed (named n) h) tok.bang ts
  on_bang (list t) h ts m = type_on_token (typed (list t) h) tok.bang ts
  on_bang (non_null t) h ts m = absurd m

  pub reads_type : (t : Ty) (room : ℕ) (h : Holder K) (around above : ℕ) (ts : List Tok) → ShapedType t → list_depth t ≤ room
      → reach step (into (want_type room h)) (spell_type token_mark t around above ts) ≡ reach step (typed_at t h) ts
  reads_type (named n) room h around above ts f d = type_on_token (want_type room h) (tok.name n) ts
  reads_type (list t) zero h around above ts f d = absurd (omega arith)
  reads_type (list t) (suc room) h around above ts f d =
      type_on_token (want_type (suc room) h) tok.open_bracket (spell_type token_mark t (around + 1) 0 (tok.close_bracket ∷ ts))
      ∙ reads_type t room (listed h) (around + 1) 0 (tok.close_bracket ∷ ts) f (omega arith)
      ∙ on_closing t h ts
  reads_type (non_null t) room h around above ts f d = reads_type t room h around (above + 1) (tok.bang ∷ ts) f.1 d ∙ on_bang t h ts f.0

  -- a type before another token than `!`, where that token is taken as behind `hand`
  pub type_complete : ((k : K) (t : Ty) (x : Tok) → pass k t x ≡ step (hand k t) x)
      → (t : Ty) (room : ℕ) (k : K) (around above : ℕ) (ts : List Tok) → NoBang ts → ShapedType t → list_depth t ≤ room
      → reach step (into (want_type room (whole k))) (spell_type token_mark t around above ts) ≡ reach step (hand k t) ts
  type_complete passes t room k around above [] n f d = absurd n
  type_complete passes t room k around above (x ∷ xs) n f d = reads_type t room (whole k) around above (x ∷ xs) f d ∙ behind t x n
    where
      on_pass : (t : Ty) (x : Tok) → NotBang x → step (into (typed t (whole k))) x ≡ step (hand k t) x
      on_pass t tok.bang n = absurd n
      on_pass t x n = agrees (typed t (whole k)) x ∙ passes k t x

      behind : (t : Ty) (x : Tok) → NotBang x → reach step (typed_at t (whole k)) (x ∷ xs) ≡ reach step (hand k t) (x ∷ xs)
      behind (named m) x n = ap (λ y. reach_from step y xs) (on_pass (named m) x n)
      behind (list u) x n = ap (λ y. reach_from step y xs) (on_pass (list u) x n)
      behind (non_null u) x n = refl

  -- ---- the end

  holders_end : (t : Ty) (h : Holder K) → (u : Ty) × (reach step (into (typed t h)) (close_holders h) ≡ Ok (into (typed u (whole (holder_on h)))))
  holders_end t (whole k) = (t, refl)
  holders_end t (listed h) =
      let e = holders_end (list t) h in
      (e.0, type_on_token (typed t (listed h)) tok.close_bracket (close_holders h) ∙ e.1)

  pub type_ends_there : (r : Typing K) → (t : Ty) × (reach step (into r) (type_end r) ≡ Ok (into (typed t (whole (type_on r)))))
  type_ends_there (want_type room h) =
      let e = holders_end (named (codes "a")) h in
      (e.0, type_on_token (want_type room h) (tok.name (codes "a")) (close_holders h) ∙ e.1)
  type_ends_there (typed t h) = holders_end t h
  type_ends_there (closing t h) =
      let e = holders_end (list t) h in
      (e.0, type_on_token (closing t h) tok.close_bracket (close_holders h) ∙ e.1)

  -- and goes on with a token that is passed on
  pub type_ends : (r : Typing K) (x : Tok) (ts : List Tok) → NotBang x
      → (t : Ty) × (reach step (into r) (type_end r ++ x ∷ ts) ≡ reach_from step (pass (type_on r) t x) ts)
  type_ends r x ts n =
      let h = type_ends_there r in (
        h.0,
        reach-append step (Ok (into r)) (type_end r) (x ∷ ts)
            ∙ ap (λ y. reach_from step y (x ∷ ts)) h.1
            ∙ type_on_token (typed h.0 (whole (type_on r))) x ts
            ∙ ap (λ y. reach_from step y ts) (on_pass h.0 x n),
      )
    where
      on_pass : (t : Ty) (x : Tok) → NotBang x → type_step into hand pass (typed t (whole (type_on r))) x ≡ pass (type_on r) t x
      on_pass t tok.bang n = absurd n
      on_pass t x n = refl

-- ---- the numbers of what the tokens open

pub type_depth_from : (t : Ty) (limit around above : ℕ) (ts : List ℕ) → around ≤ limit → Shallow limit (spell_type level_mark t around above ts)
    → (list_depth t + around ≤ limit) × Shallow limit ts
type_depth_from (named n) limit around above ts a h = (omega arith, h.1)
type_depth_from (list t) limit around above ts a h = let d = type_depth_from t limit (around + 1) 0 (0 ∷ ts) h.0 h.1 in (omega (arith, d.0), d.1.1)
type_depth_from (non_null t) limit around above ts a h = let d = type_depth_from t limit around (above + 1) (0 ∷ ts) a h in (d.0, d.1.1)

pub type_depth_to : (t : Ty) (limit around above : ℕ) (ts : List ℕ) → list_depth t + around ≤ limit → Shallow limit ts
    → Shallow limit (spell_type level_mark t around above ts)
type_depth_to (named n) limit around above ts d h = (omega arith, h)
type_depth_to (list t) limit around above ts d h = (omega arith, type_depth_to t limit (around + 1) 0 (0 ∷ ts) (omega arith) (omega arith, h))
type_depth_to (non_null t) limit around above ts d h = type_depth_to t limit around (above + 1) (0 ∷ ts) d (omega arith, h)
