-- What holds of the part of a machine that reads arguments, whatever stands above it: `into` puts a state of this part into the
-- whole, and `hand` is the state behind the arguments.
use Rattle.std.proofs.Common.{◌≡◌, ◌≤◌, ◌<◌, ℕ, ◌+◌, Bool, List, [], ◌∷◌, ◌++◌, Result, Ok, Err, IfOk, refl, sym, ap, subst, ◌∙◌, arith, append_assoc, append-nil, codes, pos, le_trans}
use Rattle.std.proofs.Math.Nat.{le-max_left, le-max_right}
use Rattle.gql_lex.specs.Toks as tok
use Rattle.gql_lex.specs.Toks.{Tok}
use Rattle.gql_ast.specs.Value.{Val, val_depth, members_depth, members_of}
use Rattle.gql_syntax.specs.FirstFault.{Shallow}
use Rattle.gql_syntax.proofs.Shapes.{ShapedValue, ShapedArguments}
use Rattle.gql_syntax.specs.Machine.{want, outer, Given, Arguing, first, called, inside, more, then_argument, arguments_step}
use Rattle.gql_syntax.specs.Run.{Halt, unexpected, too_deep}
use Rattle.gql_syntax.specs.Spelling.{spell_value, spell_members, spell_arguments}
use Rattle.gql_syntax.proofs.Forms.{AreToks, zero_fits, toks-append}
use Rattle.gql_syntax.proofs.Laws.{Leveled, reach_from, reach}
use Rattle.gql_syntax.proofs.Marks.{members-then, members_of-then, shaped_arguments-then}
use Rattle.gql_syntax.proofs.Reading.{reach-append}
use Rattle.gql_syntax.proofs.Standing.{mark_level, token_mark, level_mark, Ground, GroundLaws, SomeGiven, value_on, given_ground, arguments_on, arguments_level, arguments_so_far, lift_arguments, SeatedArguments, Lifts, Opens, IfTooDeep}
use Rattle.gql_syntax.proofs.ValueLaws.{from_ok, from_too_deep, from_lifts, from_lifts_unexpected, from_opens, value_sounds, value_shallows, value_deeps, value_seats, value_lifts, value_opens, lift_value_level, lift_value_so_far, lift_value_seated, lift_value_on, seated_value_on, value_complete, value_end, value_end-form, value_ends, members_depth_from, members_depth_to}

some-push : (xs : List (List ℕ × Val)) (x : List ℕ × Val) → SomeGiven (xs ++ x ∷ [])
some-push [] x = tt
some-push (y ∷ xs) x = tt

spelled_some : (xs : List (List ℕ × Val)) (ts : List Leveled) → SomeGiven xs
    → spell_arguments mark_level xs ts ≡ (tok.open_paren, 0) ∷ spell_members mark_level (members_of xs) 0 ((tok.close_paren, 0) ∷ ts)
spelled_some [] ts h = absurd h
spelled_some (x ∷ xs) ts h = refl

module _ {S A : Type 0} (G : Ground A) (limit : ℕ) (into : Arguing A → S) (hand : A → List (List ℕ × Val) → S) where
  module _ (so_far : S → List Leveled → List Leveled)
      (at_into : (r : Arguing A) (ts : List Leveled) → so_far (into r) ts ≡ arguments_so_far G r ts)
      (at_hand : (a : A) (xs : List (List ℕ × Val)) (ts : List Leveled) → so_far (hand a xs) ts ≡ G.front a (spell_arguments mark_level xs ts)) where
    given_front : (g : Given A) (v : Val) (ts : List Leveled) → so_far (then_argument limit into hand g v) ts ≡ (given_ground G).front g (spell_value mark_level v 0 ts)
    given_front g v ts =
        at_into (more g.constant (g.before ++ (g.name, v) ∷ []) g.on) ts
        ∙ ap (λ w. G.front g.on ((tok.open_paren, 0) ∷ w))
        (ap (λ ms. spell_members mark_level ms 0 ts) (members_of-then g.before g.name v) ∙ members-then mark_level (members_of g.before) g.name v 0 ts)

    pub arguments_sounds : (r : Arguing A) (t : Tok) → SeatedArguments G limit r
        → IfOk (arguments_step limit into hand r t) (λ next. (ts : List Leveled) → so_far next ts ≡ arguments_so_far G r ((t, arguments_level r t) ∷ ts))
    arguments_sounds (first c a) (tok.name n) h = λ ts. at_into (called (record { constant = c; before = []; name = n; on = a })) ts
    arguments_sounds (first c a) _ h = tt
    arguments_sounds (called g) tok.colon h = λ ts. at_into (inside (want g.constant limit (outer g))) ts
    arguments_sounds (called g) _ h = tt
    arguments_sounds (inside r) t h = value_sounds (given_ground G) (λ r. into (inside r)) (then_argument limit into hand) so_far (λ r ts. at_into (inside r) ts) given_front r t
    arguments_sounds (more c xs a) (tok.name n) h = λ ts. at_into (called (record { constant = c; before = xs; name = n; on = a })) ts
    arguments_sounds (more c xs a) tok.close_paren h = λ ts. at_hand a xs ts ∙ ap (λ w. G.front a w) (spelled_some xs ts h.1)
    arguments_sounds (more c xs a) _ h = tt

    pub arguments_sound : (r : Arguing A) (t : Tok) (next : S) → SeatedArguments G limit r → arguments_step limit into hand r t ≡ Ok next
        → (ts : List Leveled) → so_far next ts ≡ arguments_so_far G r ((t, arguments_level r t) ∷ ts)
    arguments_sound r t next h e = from_ok (λ next. (ts : List Leveled) → so_far next ts ≡ arguments_so_far G r ((t, arguments_level r t) ∷ ts)) next (arguments_sounds r t h) e

  pub arguments_shallows : (r : Arguing A) (t : Tok) → SeatedArguments G limit r → IfOk (arguments_step limit into hand r t) (λ next. arguments_level r t ≤ limit)
  arguments_shallows (first c a) (tok.name n) h = omega arith
  arguments_shallows (first c a) _ h = tt
  arguments_shallows (called g) tok.colon h = omega arith
  arguments_shallows (called g) _ h = tt
  arguments_shallows (inside r) t h = value_shallows (given_ground G) (λ r. into (inside r)) (then_argument limit into hand) limit r t h
  arguments_shallows (more c xs a) (tok.name n) h = omega arith
  arguments_shallows (more c xs a) tok.close_paren h = omega arith
  arguments_shallows (more c xs a) _ h = tt

  pub arguments_shallow : (r : Arguing A) (t : Tok) (next : S) → SeatedArguments G limit r → arguments_step limit into hand r t ≡ Ok next → arguments_level r t ≤ limit
  arguments_shallow r t next h e = from_ok (λ next. arguments_level r t ≤ limit) next (arguments_shallows r t h) e

  pub arguments_deeps : (r : Arguing A) (t : Tok) → SeatedArguments G limit r → IfTooDeep (arguments_step limit into hand r t) (limit < arguments_level r t)
  arguments_deeps (first c a) (tok.name n) h = tt
  arguments_deeps (first c a) _ h = tt
  arguments_deeps (called g) tok.colon h = tt
  arguments_deeps (called g) _ h = tt
  arguments_deeps (inside r) t h = value_deeps (given_ground G) (λ r. into (inside r)) (then_argument limit into hand) limit r t h
  arguments_deeps (more c xs a) (tok.name n) h = tt
  arguments_deeps (more c xs a) tok.close_paren h = tt
  arguments_deeps (more c xs a) _ h = tt

  pub arguments_deep : (r : Arguing A) (t : Tok) → SeatedArguments G limit r → arguments_step limit into hand r t ≡ Err too_deep → limit < arguments_level r t
  arguments_deep r t h e = from_too_deep (limit < arguments_level r t) (arguments_deeps r t h) e

  module _ (Seated : S → Type 0)
      (at_into : (r : Arguing A) → SeatedArguments G limit r → Seated (into r))
      (at_hand : (a : A) (xs : List (List ℕ × Val)) → G.Seated limit a → SomeGiven xs → ShapedArguments (G.constant a) xs → Seated (hand a xs)) where
    given_seated : (g : Given A) (v : Val) → (given_ground G).Seated limit g → ShapedValue g.constant v → Seated (then_argument limit into hand g v)
    given_seated g v h f =
        at_into (more g.constant (g.before ++ (g.name, v) ∷ []) g.on) (h.0, some-push g.before (g.name, v), shaped_arguments-then g.constant g.before g.name v h.1 f, h.2)

    pub arguments_seats : (r : Arguing A) (t : Tok) → SeatedArguments G limit r → IfOk (arguments_step limit into hand r t) Seated
    arguments_seats (first c a) (tok.name n) h = at_into (called (record { constant = c; before = []; name = n; on = a })) (h.0, tt, h.1)
    arguments_seats (first c a) _ h = tt
    arguments_seats (called g) tok.colon h = at_into (inside (want g.constant limit (outer g))) (omega arith, refl, h)
    arguments_seats (called g) _ h = tt
    arguments_seats (inside r) t h = value_seats (given_ground G) (λ r. into (inside r)) (then_argument limit into hand) limit Seated (λ r h. at_into (inside r) h) given_seated r t h
    arguments_seats (more c xs a) (tok.name n) h = at_into (called (record { constant = c; before = xs; name = n; on = a })) (h.0, h.2, h.3)
    arguments_seats (more c xs a) tok.close_paren h = at_hand a xs h.3 h.1 (subst (λ c. ShapedArguments c xs) h.0 h.2)
    arguments_seats (more c xs a) _ h = tt

    pub arguments_seated : (r : Arguing A) (t : Tok) (next : S) → SeatedArguments G limit r → arguments_step limit into hand r t ≡ Ok next → Seated next
    arguments_seated r t next h e = from_ok Seated next (arguments_seats r t h) e

  -- ---- a machine with a greater limit; `after` is the state behind arguments in that machine

  module _ (after : A → List (List ℕ × Val) → S) (k : ℕ) (lift : S → S)
      (at_into : (r : Arguing A) → lift (into r) ≡ into (lift_arguments G k r))
      (at_hand : (a : A) (xs : List (List ℕ × Val)) → lift (hand a xs) ≡ after (G.lift k a) xs) where
    pub arguments_lifts : (r : Arguing A) (t : Tok) → Lifts lift (arguments_step limit into hand r t) (arguments_step (k + limit) into after (lift_arguments G k r) t)
    arguments_lifts (first c a) (tok.name n) = ap (λ s. Ok s) (sym (at_into (called (record { constant = c; before = []; name = n; on = a }))))
    arguments_lifts (first c a) _ = refl
    arguments_lifts (called g) tok.colon = ap (λ s. Ok s) (sym (at_into (inside (want g.constant limit (outer g)))))
    arguments_lifts (called g) _ = refl
    arguments_lifts (inside r) t =
        value_lifts (given_ground G) (λ r. into (inside r)) (then_argument limit into hand) (then_argument (k + limit) into after) k lift (λ r. at_into (inside r))
        (λ g v. at_into (more g.constant (g.before ++ (g.name, v) ∷ []) g.on)) r t
    arguments_lifts (more c xs a) (tok.name n) = ap (λ s. Ok s) (sym (at_into (called (record { constant = c; before = xs; name = n; on = a }))))
    arguments_lifts (more c xs a) tok.close_paren = ap (λ s. Ok s) (sym (at_hand a xs))
    arguments_lifts (more c xs a) _ = refl

    pub arguments_lift_step : (r : Arguing A) (t : Tok) (next : S) → arguments_step limit into hand r t ≡ Ok next
        → arguments_step (k + limit) into after (lift_arguments G k r) t ≡ Ok (lift next)
    arguments_lift_step r t next e = from_lifts lift next (arguments_lifts r t) e

    pub arguments_lift_unexpected : (r : Arguing A) (t : Tok) → arguments_step limit into hand r t ≡ Err unexpected
        → arguments_step (k + limit) into after (lift_arguments G k r) t ≡ Err unexpected
    arguments_lift_unexpected r t e = from_lifts_unexpected lift (arguments_lifts r t) e

  pub arguments_opens : (after : A → List (List ℕ × Val) → S) (r : Arguing A) (t : Tok)
      → Opens (arguments_step limit into hand r t) (arguments_step (1 + limit) into after (lift_arguments G 1 r) t)
  arguments_opens after (first c a) (tok.name n) = tt
  arguments_opens after (first c a) _ = tt
  arguments_opens after (called g) tok.colon = tt
  arguments_opens after (called g) _ = tt
  arguments_opens after (inside r) t = value_opens (given_ground G) (λ r. into (inside r)) (then_argument limit into hand) (then_argument (1 + limit) into after) r t
  arguments_opens after (more c xs a) (tok.name n) = tt
  arguments_opens after (more c xs a) tok.close_paren = tt
  arguments_opens after (more c xs a) _ = tt

  pub arguments_lift_too_deep : (after : A → List (List ℕ × Val) → S) (r : Arguing A) (t : Tok) → arguments_step limit into hand r t ≡ Err too_deep
      → (next : S) × (arguments_step (1 + limit) into after (lift_arguments G 1 r) t ≡ Ok next)
  arguments_lift_too_deep after r t e = from_opens (arguments_opens after r t) e

-- the laws of what an argument's value stands on
pub given_laws : {A : Type 0} (G : Ground A) → GroundLaws G → GroundLaws (given_ground G)
given_laws G laws = record {
  lift_front = λ k g ts. laws.lift_front k g.on ((tok.open_paren, 0) ∷ spell_members mark_level (members_of g.before) 0 ((tok.name g.name, 0) ∷ (tok.colon, 0) ∷ ts));
  lift_constant = λ k g. refl;
  lift_seated = λ k limit g h. (h.0 ∙ sym (laws.lift_constant k g.on), h.1, laws.lift_seated k limit g.on h.2);
}

module _ {A : Type 0} (G : Ground A) (laws : GroundLaws G) where
  pub lift_arguments_level : (k : ℕ) (r : Arguing A) (t : Tok) → arguments_level (lift_arguments G k r) t ≡ arguments_level r t
  lift_arguments_level k (first c a) t = refl
  lift_arguments_level k (called g) t = refl
  lift_arguments_level k (inside r) t = lift_value_level (given_ground G) (given_laws G laws) k r t
  lift_arguments_level k (more c xs a) t = refl

  pub lift_arguments_so_far : (k : ℕ) (r : Arguing A) (ts : List Leveled) → arguments_so_far G (lift_arguments G k r) ts ≡ arguments_so_far G r ts
  lift_arguments_so_far k (first c a) ts = laws.lift_front k a ((tok.open_paren, 0) ∷ ts)
  lift_arguments_so_far k (called g) ts = laws.lift_front k g.on ((tok.open_paren, 0) ∷ spell_members mark_level (members_of g.before) 0 ((tok.name g.name, 0) ∷ ts))
  lift_arguments_so_far k (inside r) ts = lift_value_so_far (given_ground G) (given_laws G laws) k r ts
  lift_arguments_so_far k (more c xs a) ts = laws.lift_front k a ((tok.open_paren, 0) ∷ spell_members mark_level (members_of xs) 0 ts)

  pub lift_arguments_seated : (k limit : ℕ) (r : Arguing A) → SeatedArguments G limit r → SeatedArguments G (k + limit) (lift_arguments G k r)
  lift_arguments_seated k limit (first c a) h = (h.0 ∙ sym (laws.lift_constant k a), laws.lift_seated k limit a h.1)
  lift_arguments_seated k limit (called g) h = (given_laws G laws).lift_seated k limit g h
  lift_arguments_seated k limit (inside r) h = lift_value_seated (given_ground G) (given_laws G laws) k limit r h
  lift_arguments_seated k limit (more c xs a) h = (h.0 ∙ sym (laws.lift_constant k a), h.1, h.2, laws.lift_seated k limit a h.3)

  pub lift_arguments_on : (k : ℕ) (r : Arguing A) → arguments_on (lift_arguments G k r) ≡ G.lift k (arguments_on r)
  lift_arguments_on k (first c a) = refl
  lift_arguments_on k (called g) = refl
  lift_arguments_on k (inside r) = ap (λ (g : Given A). g.on) (lift_value_on (given_ground G) k r)
  lift_arguments_on k (more c xs a) = refl

  pub seated_arguments_on : (limit : ℕ) (r : Arguing A) → SeatedArguments G limit r → G.Seated limit (arguments_on r)
  seated_arguments_on limit (first c a) h = h.1
  seated_arguments_on limit (called g) h = h.2
  seated_arguments_on limit (inside r) h = (seated_value_on (given_ground G) limit r h).2
  seated_arguments_on limit (more c xs a) h = h.3

-- ---- arguments that are written are read, and each state can be ended

abbrev pub arguments_end : {A : Type 0} → Arguing A → List Tok
arguments_end (first c a) = tok.name (codes "a") ∷ tok.colon ∷ tok.int (pos 0) ∷ tok.close_paren ∷ []
arguments_end (called g) = tok.colon ∷ tok.int (pos 0) ∷ tok.close_paren ∷ []
arguments_end (inside r) = value_end r ++ tok.close_paren ∷ []
arguments_end (more c xs a) = tok.close_paren ∷ []

pub arguments_end-form : {A : Type 0} (r : Arguing A) → AreToks (arguments_end r)
arguments_end-form (first c a) = (refl, (tt, (zero_fits, (tt, tt))))
arguments_end-form (called g) = (tt, (zero_fits, (tt, tt)))
arguments_end-form (inside r) = toks-append (value_end r) (tok.close_paren ∷ []) (value_end-form r) (tt, tt)
arguments_end-form (more c xs a) = (tt, tt)

module _ {S A : Type 0} (limit : ℕ) (into : Arguing A → S) (hand : A → List (List ℕ × Val) → S) (step : S → Tok → Result S Halt)
    (agrees : (r : Arguing A) (t : Tok) → step (into r) t ≡ arguments_step limit into hand r t) where
  pub arguments_on_token : (r : Arguing A) (t : Tok) (ts : List Tok) → reach step (into r) (t ∷ ts) ≡ reach_from step (arguments_step limit into hand r t) ts
  arguments_on_token r t ts = ap (λ x. reach_from step x ts) (agrees r t)

  reads_given : (g : Given A) (v : Val) (ts : List Tok) → ShapedValue g.constant v → val_depth v ≤ limit
      → reach step (into (called g)) (tok.colon ∷ spell_value token_mark v 0 ts) ≡ reach step (into (more g.constant (g.before ++ (g.name, v) ∷ []) g.on)) ts
  reads_given g v ts f d =
      arguments_on_token (called g) tok.colon (spell_value token_mark v 0 ts)
      ∙ value_complete (λ r. into (inside r)) (then_argument limit into hand) step (λ r t. agrees (inside r) t) g.constant limit (outer g) v 0 ts f d

  reads_more : (xs there : List (List ℕ × Val)) (c : Bool) (a : A) (ts : List Tok) → ShapedArguments c xs → members_depth (members_of xs) ≤ limit
      → reach step (into (more c there a)) (spell_members token_mark (members_of xs) 0 (tok.close_paren ∷ ts)) ≡ reach step (hand a (there ++ xs)) ts
  reads_more [] there c a ts f d = arguments_on_token (more c there a) tok.close_paren ts ∙ ap (λ xs. reach step (hand a xs) ts) (sym (append-nil there))
  reads_more (x ∷ xs) there c a ts f d =
      arguments_on_token (more c there a) (tok.name x.0) (tok.colon ∷ spell_value token_mark x.1 0 (spell_members token_mark (members_of xs) 0 (tok.close_paren ∷ ts)))
      ∙ reads_given (record { constant = c; before = there; name = x.0; on = a }) x.1 (spell_members token_mark (members_of xs) 0 (tok.close_paren ∷ ts)) f.0
      (le_trans (le-max_left (val_depth x.1) (members_depth (members_of xs))) d)
      ∙ reads_more xs (there ++ x ∷ []) c a ts f.1 (le_trans (le-max_right (val_depth x.1) (members_depth (members_of xs))) d)
      ∙ ap (λ xs. reach step (hand a xs) ts) (append_assoc there (x ∷ []) xs)

  -- behind their `(`
  pub arguments_complete : (c : Bool) (a : A) (xs : List (List ℕ × Val)) (ts : List Tok) → SomeGiven xs → ShapedArguments c xs → members_depth (members_of xs) ≤ limit
      → reach step (into (first c a)) (spell_members token_mark (members_of xs) 0 (tok.close_paren ∷ ts)) ≡ reach step (hand a xs) ts
  arguments_complete c a [] ts s f d = absurd s
  arguments_complete c a (x ∷ xs) ts s f d =
      arguments_on_token (first c a) (tok.name x.0) (tok.colon ∷ spell_value token_mark x.1 0 (spell_members token_mark (members_of xs) 0 (tok.close_paren ∷ ts)))
      ∙ reads_given (record { constant = c; before = []; name = x.0; on = a }) x.1 (spell_members token_mark (members_of xs) 0 (tok.close_paren ∷ ts)) f.0
      (le_trans (le-max_left (val_depth x.1) (members_depth (members_of xs))) d)
      ∙ reads_more xs (x ∷ []) c a ts f.1 (le_trans (le-max_right (val_depth x.1) (members_depth (members_of xs))) d)

  given_end : (g : Given A) → (xs : List (List ℕ × Val)) × (reach step (into (called g)) (tok.colon ∷ tok.int (pos 0) ∷ tok.close_paren ∷ []) ≡ Ok (hand g.on xs))
  given_end g =
      let xs : List (List ℕ × Val) = g.before ++ (g.name, Val.int (pos 0)) ∷ [] in (
        xs,
        arguments_on_token (called g) tok.colon (tok.int (pos 0) ∷ tok.close_paren ∷ [])
            ∙ arguments_on_token (inside (want g.constant limit (outer g))) (tok.int (pos 0)) (tok.close_paren ∷ [])
            ∙ arguments_on_token (more g.constant xs g.on) tok.close_paren [],
      )

  pub arguments_ends : (r : Arguing A) → (xs : List (List ℕ × Val)) × (reach step (into r) (arguments_end r) ≡ Ok (hand (arguments_on r) xs))
  arguments_ends (first c a) =
      let h = given_end (record { constant = c; before = []; name = codes "a"; on = a }) in
      (h.0, arguments_on_token (first c a) (tok.name (codes "a")) (tok.colon ∷ tok.int (pos 0) ∷ tok.close_paren ∷ []) ∙ h.1)
  arguments_ends (called g) = given_end g
  arguments_ends (inside r) =
      let h = value_ends (λ r. into (inside r)) (then_argument limit into hand) step (λ r t. agrees (inside r) t) r in
      let g : Given A = value_on r in
      let xs : List (List ℕ × Val) = g.before ++ (g.name, h.0) ∷ [] in (
        xs,
        reach-append step (Ok (into (inside r))) (value_end r) (tok.close_paren ∷ [])
            ∙ ap (λ x. reach_from step x (tok.close_paren ∷ [])) h.1
            ∙ arguments_on_token (more g.constant xs g.on) tok.close_paren [],
      )
  arguments_ends (more c xs a) = (xs, arguments_on_token (more c xs a) tok.close_paren [])

-- ---- the numbers of what the tokens open

pub arguments_depth_from : (xs : List (List ℕ × Val)) (limit : ℕ) (ts : List ℕ) → Shallow limit (spell_arguments level_mark xs ts)
    → (members_depth (members_of xs) ≤ limit) × Shallow limit ts
arguments_depth_from [] limit ts h = (omega arith, h)
arguments_depth_from (x ∷ xs) limit ts h =
    let d = members_depth_from (members_of (x ∷ xs)) limit 0 (0 ∷ ts) (omega arith) h.1 in
    (omega (arith, d.0), d.1.1)

pub arguments_depth_to : (xs : List (List ℕ × Val)) (limit : ℕ) (ts : List ℕ) → members_depth (members_of xs) ≤ limit → Shallow limit ts
    → Shallow limit (spell_arguments level_mark xs ts)
arguments_depth_to [] limit ts d h = h
arguments_depth_to (x ∷ xs) limit ts d h = (omega arith, members_depth_to (members_of (x ∷ xs)) limit 0 (0 ∷ ts) (omega arith) (omega arith, h))
