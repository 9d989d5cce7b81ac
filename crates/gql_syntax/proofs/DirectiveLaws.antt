-- What holds of the part of a machine that reads directives, whatever stands above it: `into` puts a state of this part into the
-- whole, and `pass` takes the token that follows the directives.
use Rattle.std.proofs.Common.{◌≡◌, ◌≤◌, ◌<◌, ℕ, ◌+◌, Bool, List, [], ◌∷◌, ◌++◌, Option, Some, Result, Ok, Err, IfOk, refl, sym, ap, subst, ◌∙◌, arith, append_assoc, append-nil, codes}
use Rattle.std.specs.List.{AllByRecursion}
use Rattle.gql_lex.specs.Toks as tok
use Rattle.gql_lex.specs.Toks.{Tok}
use Rattle.gql_ast.specs.Value.{Val, members_depth, members_of}
use Rattle.gql_ast.specs.declared.directive.Directive.{Directive}
use Rattle.gql_syntax.specs.FirstFault.{Shallow}
use Rattle.gql_syntax.proofs.Shapes.{ShapedArguments, ShapedDirectives}
use Rattle.gql_syntax.specs.Machine.{first, Applied, Directing, further, at_name, applied, arguing, with_arguments, next_directive, directives_step}
use Rattle.gql_syntax.specs.Parts.{directives_there}
use Rattle.gql_syntax.specs.Run.{Halt, unexpected, too_deep}
use Rattle.gql_syntax.specs.Spelling.{spell_members, spell_arguments, spell_directives}
use Rattle.gql_syntax.proofs.Forms.{AreToks}
use Rattle.gql_syntax.proofs.Laws.{Leveled, reach_from, reach}
use Rattle.gql_syntax.proofs.Marks.{directives-then, shaped_directives-then}
use Rattle.gql_syntax.proofs.Outcomes.{outcome, ended_at, outcome-reach}
use Rattle.gql_syntax.proofs.Reading.{reach-append}
use Rattle.gql_syntax.proofs.Standing.{mark_level, token_mark, level_mark, Ground, GroundLaws, arguments_on, applied_ground, next_level, directives_level, directives_on, directives_so_far, lift_directives, SeatedDirectives, Lifts, Opens, IfTooDeep}
use Rattle.gql_syntax.proofs.ValueLaws.{from_ok, from_too_deep, from_lifts, from_lifts_unexpected, from_opens}
use Rattle.gql_syntax.proofs.ArgumentLaws.{arguments_sounds, arguments_shallows, arguments_deeps, arguments_seats, arguments_lifts, arguments_opens, lift_arguments_level, lift_arguments_so_far, lift_arguments_seated, lift_arguments_on, seated_arguments_on, arguments_complete, arguments_end, arguments_end-form, arguments_ends, arguments_depth_from, arguments_depth_to}

-- where a directive's arguments are handed over
abbrev pub directive_done : {S D : Type 0} → (Directing D → S) → Applied D → List (List ℕ × Val) → S
directive_done into a xs = into (further a.constant (with_arguments a xs) a.on)

module _ {S D : Type 0} (G : Ground D) (passed : D → Tok → ℕ) (limit : ℕ) (into : Directing D → S) (pass : D → List Directive → Tok → Result S Halt) where
  module _ (so_far : S → List Leveled → List Leveled)
      (at_into : (r : Directing D) (ts : List Leveled) → so_far (into r) ts ≡ directives_so_far G r ts)
      (at_pass : (d : D) (ds : List Directive) (t : Tok) → G.Seated limit d → ShapedDirectives (G.constant d) ds
      → IfOk (pass d ds t) (λ next. (ts : List Leveled) → so_far next ts ≡ G.front d (spell_directives mark_level ds ((t, passed d t) ∷ ts)))) where
    done_front : (a : Applied D) (xs : List (List ℕ × Val)) (ts : List Leveled)
        → so_far (directive_done into a xs) ts ≡ (applied_ground G).front a (spell_arguments mark_level xs ts)
    done_front a xs ts =
        at_into (further a.constant (with_arguments a xs) a.on) ts
        ∙ ap (λ w. G.front a.on w) (directives-then mark_level a.before (record { name = a.name; arguments = xs }) ts)

    next_sounds : (c : Bool) (ds : List Directive) (d : D) (t : Tok) → G.Seated limit d → ShapedDirectives (G.constant d) ds
        → IfOk (next_directive limit into pass c ds d t) (λ next. (ts : List Leveled) → so_far next ts ≡ G.front d (spell_directives mark_level ds ((t, next_level passed d t) ∷ ts)))
    next_sounds c ds d tok.at_sign h f = λ ts. at_into (at_name c ds d) ts
    next_sounds c ds d t h f = at_pass d ds t h f

    pub directives_sounds : (r : Directing D) (t : Tok) → SeatedDirectives G limit r
        → IfOk (directives_step limit into pass r t) (λ next. (ts : List Leveled) → so_far next ts ≡ directives_so_far G r ((t, directives_level passed r t) ∷ ts))
    directives_sounds (further c ds d) t h = next_sounds c ds d t h.2 (subst (λ c. ShapedDirectives c ds) h.0 h.1)
    directives_sounds (at_name c ds d) (tok.name n) h = λ ts. at_into (applied (record { constant = c; before = ds; name = n; on = d })) ts
    directives_sounds (at_name c ds d) _ h = tt
    directives_sounds (applied a) tok.open_paren h = λ ts. at_into (arguing (first a.constant a)) ts
    directives_sounds (applied a) t h =
        from_next (next_directive limit into pass a.constant (with_arguments a []) a.on t)
        (next_sounds a.constant (with_arguments a []) a.on t h.2 (subst (λ c. ShapedDirectives c (with_arguments a [])) h.0 (shaped_directives-then a.constant a.before (record { name = a.name; arguments = [] }) h.1 tt)))
      where
        from_next : (x : Result S Halt)
            → IfOk x (λ next. (ts : List Leveled) → so_far next ts ≡ G.front a.on (spell_directives mark_level (with_arguments a []) ((t, next_level passed a.on t) ∷ ts)))
            → IfOk x (λ next. (ts : List Leveled) → so_far next ts ≡ directives_so_far G (applied a) ((t, next_level passed a.on t) ∷ ts))
        from_next (Ok s) e = λ ts. e ts ∙ ap (λ w. G.front a.on w) (directives-then mark_level a.before (record { name = a.name; arguments = [] }) ((t, next_level passed a.on t) ∷ ts))
        from_next (Err x) e = tt
    directives_sounds (arguing r) t h =
        arguments_sounds (applied_ground G) limit (λ r. into (arguing r)) (directive_done into) so_far (λ r ts. at_into (arguing r) ts) done_front r t h

    pub directives_sound : (r : Directing D) (t : Tok) (next : S) → SeatedDirectives G limit r → directives_step limit into pass r t ≡ Ok next
        → (ts : List Leveled) → so_far next ts ≡ directives_so_far G r ((t, directives_level passed r t) ∷ ts)
    directives_sound r t next h e =
        from_ok (λ next. (ts : List Leveled) → so_far next ts ≡ directives_so_far G r ((t, directives_level passed r t) ∷ ts)) next (directives_sounds r t h) e

  module _ (at_pass : (d : D) (ds : List Directive) (t : Tok) → G.Seated limit d → IfOk (pass d ds t) (λ next. passed d t ≤ limit)) where
    next_shallows : (c : Bool) (ds : List Directive) (d : D) (t : Tok) → G.Seated limit d → IfOk (next_directive limit into pass c ds d t) (λ next. next_level passed d t ≤ limit)
    next_shallows c ds d tok.at_sign h = omega arith
    next_shallows c ds d t h = at_pass d ds t h

    pub directives_shallows : (r : Directing D) (t : Tok) → SeatedDirectives G limit r → IfOk (directives_step limit into pass r t) (λ next. directives_level passed r t ≤ limit)
    directives_shallows (further c ds d) t h = next_shallows c ds d t h.2
    directives_shallows (at_name c ds d) (tok.name n) h = omega arith
    directives_shallows (at_name c ds d) _ h = tt
    directives_shallows (applied a) tok.open_paren h = omega arith
    directives_shallows (applied a) t h = next_shallows a.constant (with_arguments a []) a.on t h.2
    directives_shallows (arguing r) t h = arguments_shallows (applied_ground G) limit (λ r. into (arguing r)) (directive_done into) r t h

    pub directives_shallow : (r : Directing D) (t : Tok) (next : S) → SeatedDirectives G limit r → directives_step limit into pass r t ≡ Ok next → directives_level passed r t ≤ limit
    directives_shallow r t next h e = from_ok (λ next. directives_level passed r t ≤ limit) next (directives_shallows r t h) e

  module _ (at_pass : (d : D) (ds : List Directive) (t : Tok) → G.Seated limit d → IfTooDeep (pass d ds t) (limit < passed d t)) where
    next_deeps : (c : Bool) (ds : List Directive) (d : D) (t : Tok) → G.Seated limit d → IfTooDeep (next_directive limit into pass c ds d t) (limit < next_level passed d t)
    next_deeps c ds d tok.at_sign h = tt
    next_deeps c ds d t h = at_pass d ds t h

    pub directives_deeps : (r : Directing D) (t : Tok) → SeatedDirectives G limit r → IfTooDeep (directives_step limit into pass r t) (limit < directives_level passed r t)
    directives_deeps (further c ds d) t h = next_deeps c ds d t h.2
    directives_deeps (at_name c ds d) (tok.name n) h = tt
    directives_deeps (at_name c ds d) _ h = tt
    directives_deeps (applied a) tok.open_paren h = tt
    directives_deeps (applied a) t h = next_deeps a.constant (with_arguments a []) a.on t h.2
    directives_deeps (arguing r) t h = arguments_deeps (applied_ground G) limit (λ r. into (arguing r)) (directive_done into) r t h

    pub directives_deep : (r : Directing D) (t : Tok) → SeatedDirectives G limit r → directives_step limit into pass r t ≡ Err too_deep → limit < directives_level passed r t
    directives_deep r t h e = from_too_deep (limit < directives_level passed r t) (directives_deeps r t h) e

  module _ (Seated : S → Type 0)
      (at_into : (r : Directing D) → SeatedDirectives G limit r → Seated (into r))
      (at_pass : (d : D) (ds : List Directive) (t : Tok) → G.Seated limit d → ShapedDirectives (G.constant d) ds → IfOk (pass d ds t) Seated) where
    done_seated : (a : Applied D) (xs : List (List ℕ × Val)) → (applied_ground G).Seated limit a → ShapedArguments a.constant xs → Seated (directive_done into a xs)
    done_seated a xs h f =
        at_into (further a.constant (with_arguments a xs) a.on) (h.0, shaped_directives-then a.constant a.before (record { name = a.name; arguments = xs }) h.1 f, h.2)

    next_seats : (c : Bool) (ds : List Directive) (d : D) (t : Tok) → c ≡ G.constant d → ShapedDirectives c ds → G.Seated limit d → IfOk (next_directive limit into pass c ds d t) Seated
    next_seats c ds d tok.at_sign e f h = at_into (at_name c ds d) (e, f, h)
    next_seats c ds d t e f h = at_pass d ds t h (subst (λ c. ShapedDirectives c ds) e f)

    pub directives_seats : (r : Directing D) (t : Tok) → SeatedDirectives G limit r → IfOk (directives_step limit into pass r t) Seated
    directives_seats (further c ds d) t h = next_seats c ds d t h.0 h.1 h.2
    directives_seats (at_name c ds d) (tok.name n) h = at_into (applied (record { constant = c; before = ds; name = n; on = d })) h
    directives_seats (at_name c ds d) _ h = tt
    directives_seats (applied a) tok.open_paren h = at_into (arguing (first a.constant a)) (refl, h)
    directives_seats (applied a) t h =
        next_seats a.constant (with_arguments a []) a.on t h.0 (shaped_directives-then a.constant a.before (record { name = a.name; arguments = [] }) h.1 tt) h.2
    directives_seats (arguing r) t h =
        arguments_seats (applied_ground G) limit (λ r. into (arguing r)) (directive_done into) Seated (λ r h. at_into (arguing r) h) (λ a xs h s f. done_seated a xs h f) r t h

    pub directives_seated : (r : Directing D) (t : Tok) (next : S) → SeatedDirectives G limit r → directives_step limit into pass r t ≡ Ok next → Seated next
    directives_seated r t next h e = from_ok Seated next (directives_seats r t h) e

  -- ---- a machine with a greater limit; `onward` takes the token that follows in that machine

  module _ (onward : D → List Directive → Tok → Result S Halt) (k : ℕ) (lift : S → S)
      (at_into : (r : Directing D) → lift (into r) ≡ into (lift_directives G k r))
      (at_pass : (d : D) (ds : List Directive) (t : Tok) → Lifts lift (pass d ds t) (onward (G.lift k d) ds t)) where
    next_lifts : (c : Bool) (ds : List Directive) (d : D) (t : Tok) → Lifts lift (next_directive limit into pass c ds d t) (next_directive (k + limit) into onward c ds (G.lift k d) t)
    next_lifts c ds d tok.at_sign = ap (λ s. Ok s) (sym (at_into (at_name c ds d)))
    next_lifts c ds d t = at_pass d ds t

    pub directives_lifts : (r : Directing D) (t : Tok) → Lifts lift (directives_step limit into pass r t) (directives_step (k + limit) into onward (lift_directives G k r) t)
    directives_lifts (further c ds d) t = next_lifts c ds d t
    directives_lifts (at_name c ds d) (tok.name n) = ap (λ s. Ok s) (sym (at_into (applied (record { constant = c; before = ds; name = n; on = d }))))
    directives_lifts (at_name c ds d) _ = refl
    directives_lifts (applied a) tok.open_paren = ap (λ s. Ok s) (sym (at_into (arguing (first a.constant a))))
    directives_lifts (applied a) t = next_lifts a.constant (with_arguments a []) a.on t
    directives_lifts (arguing r) t =
        arguments_lifts (applied_ground G) limit (λ r. into (arguing r)) (directive_done into) (directive_done into) k lift (λ r. at_into (arguing r))
        (λ a xs. at_into (further a.constant (with_arguments a xs) a.on)) r t

    pub directives_lift_step : (r : Directing D) (t : Tok) (next : S) → directives_step limit into pass r t ≡ Ok next
        → directives_step (k + limit) into onward (lift_directives G k r) t ≡ Ok (lift next)
    directives_lift_step r t next e = from_lifts lift next (directives_lifts r t) e

    pub directives_lift_unexpected : (r : Directing D) (t : Tok) → directives_step limit into pass r t ≡ Err unexpected
        → directives_step (k + limit) into onward (lift_directives G k r) t ≡ Err unexpected
    directives_lift_unexpected r t e = from_lifts_unexpected lift (directives_lifts r t) e

  module _ (onward : D → List Directive → Tok → Result S Halt)
      (at_pass : (d : D) (ds : List Directive) (t : Tok) → Opens (pass d ds t) (onward (G.lift 1 d) ds t)) where
    next_opens : (c : Bool) (ds : List Directive) (d : D) (t : Tok) → Opens (next_directive limit into pass c ds d t) (next_directive (1 + limit) into onward c ds (G.lift 1 d) t)
    next_opens c ds d tok.at_sign = tt
    next_opens c ds d t = at_pass d ds t

    pub directives_opens : (r : Directing D) (t : Tok) → Opens (directives_step limit into pass r t) (directives_step (1 + limit) into onward (lift_directives G 1 r) t)
    directives_opens (further c ds d) t = next_opens c ds d t
    directives_opens (at_name c ds d) (tok.name n) = tt
    directives_opens (at_name c ds d) _ = tt
    directives_opens (applied a) tok.open_paren = tt
    directives_opens (applied a) t = next_opens a.constant (with_arguments a []) a.on t
    directives_opens (arguing r) t = arguments_opens (applied_ground G) limit (λ r. into (arguing r)) (directive_done into) (directive_done into) r t

    pub directives_lift_too_deep : (r : Directing D) (t : Tok) → directives_step limit into pass r t ≡ Err too_deep
        → (next : S) × (directives_step (1 + limit) into onward (lift_directives G 1 r) t ≡ Ok next)
    directives_lift_too_deep r t e = from_opens (directives_opens r t) e

-- the laws of what a directive's arguments stand on
pub applied_laws : {D : Type 0} (G : Ground D) → GroundLaws G → GroundLaws (applied_ground G)
applied_laws G laws = record {
  lift_front = λ k a ts. laws.lift_front k a.on (spell_directives mark_level a.before ((tok.at_sign, 0) ∷ (tok.name a.name, 0) ∷ ts));
  lift_constant = λ k a. refl;
  lift_seated = λ k limit a h. (h.0 ∙ sym (laws.lift_constant k a.on), h.1, laws.lift_seated k limit a.on h.2);
}

module _ {D : Type 0} (G : Ground D) (laws : GroundLaws G) where
  pub lift_directives_level : (passed : D → Tok → ℕ) (k : ℕ) → ((d : D) (t : Tok) → passed (G.lift k d) t ≡ passed d t) → (r : Directing D) (t : Tok)
      → directives_level passed (lift_directives G k r) t ≡ directives_level passed r t
  lift_directives_level passed k e (further c ds d) tok.at_sign = refl
  lift_directives_level passed k e (further c ds d) t = e d t
  lift_directives_level passed k e (at_name c ds d) t = refl
  lift_directives_level passed k e (applied a) tok.open_paren = refl
  lift_directives_level passed k e (applied a) tok.at_sign = refl
  lift_directives_level passed k e (applied a) t = e a.on t
  lift_directives_level passed k e (arguing r) t = lift_arguments_level (applied_ground G) (applied_laws G laws) k r t

  pub lift_directives_so_far : (k : ℕ) (r : Directing D) (ts : List Leveled) → directives_so_far G (lift_directives G k r) ts ≡ directives_so_far G r ts
  lift_directives_so_far k (further c ds d) ts = laws.lift_front k d (spell_directives mark_level ds ts)
  lift_directives_so_far k (at_name c ds d) ts = laws.lift_front k d (spell_directives mark_level ds ((tok.at_sign, 0) ∷ ts))
  lift_directives_so_far k (applied a) ts = (applied_laws G laws).lift_front k a ts
  lift_directives_so_far k (arguing r) ts = lift_arguments_so_far (applied_ground G) (applied_laws G laws) k r ts

  pub lift_directives_seated : (k limit : ℕ) (r : Directing D) → SeatedDirectives G limit r → SeatedDirectives G (k + limit) (lift_directives G k r)
  lift_directives_seated k limit (further c ds d) h = (h.0 ∙ sym (laws.lift_constant k d), h.1, laws.lift_seated k limit d h.2)
  lift_directives_seated k limit (at_name c ds d) h = (h.0 ∙ sym (laws.lift_constant k d), h.1, laws.lift_seated k limit d h.2)
  lift_directives_seated k limit (applied a) h = (applied_laws G laws).lift_seated k limit a h
  lift_directives_seated k limit (arguing r) h = lift_arguments_seated (applied_ground G) (applied_laws G laws) k limit r h

  pub lift_directives_on : (k : ℕ) (r : Directing D) → directives_on (lift_directives G k r) ≡ G.lift k (directives_on r)
  lift_directives_on k (further c ds d) = refl
  lift_directives_on k (at_name c ds d) = refl
  lift_directives_on k (applied a) = refl
  lift_directives_on k (arguing r) = ap (λ (a : Applied D). a.on) (lift_arguments_on (applied_ground G) (applied_laws G laws) k r)

  pub lift_directives_there : (k : ℕ) (r : Directing D) → directives_there (lift_directives G k r) ≡ directives_there r
  lift_directives_there k (further c ds d) = refl
  lift_directives_there k (at_name c ds d) = refl
  lift_directives_there k (applied a) = refl
  lift_directives_there k (arguing r) = refl

  pub seated_directives_on : (limit : ℕ) (r : Directing D) → SeatedDirectives G limit r → G.Seated limit (directives_on r)
  seated_directives_on limit (further c ds d) h = h.2
  seated_directives_on limit (at_name c ds d) h = h.2
  seated_directives_on limit (applied a) h = h.2
  seated_directives_on limit (arguing r) h = (seated_arguments_on (applied_ground G) (applied_laws G laws) limit r h).2

-- what stands in the state where the text may end, and is formed
pub seated_directives_there : {D : Type 0} (G : Ground D) (limit : ℕ) (r : Directing D) (ds : List Directive) → SeatedDirectives G limit r → directives_there r ≡ Some ds
    → ((ts : List Leveled) → directives_so_far G r ts ≡ G.front (directives_on r) (spell_directives mark_level ds ts)) × ShapedDirectives (G.constant (directives_on r)) ds
seated_directives_there G limit (further c es d) ds h e =
    let same : es ≡ ds = cc in
    (λ ts. ap (λ ds. G.front d (spell_directives mark_level ds ts)) same, subst (λ ds. ShapedDirectives (G.constant d) ds) same (subst (λ c. ShapedDirectives c es) h.0 h.1))
seated_directives_there G limit (at_name c es d) ds h e = cc
seated_directives_there G limit (applied a) ds h e =
    let same : with_arguments a [] ≡ ds = cc in (
      λ ts. sym (ap (λ w. G.front a.on w) (directives-then mark_level a.before (record { name = a.name; arguments = [] }) ts)) ∙ ap (λ ds. G.front a.on (spell_directives mark_level ds ts)) same,
      subst (λ ds. ShapedDirectives (G.constant a.on) ds) same
          (subst (λ c. ShapedDirectives c (with_arguments a [])) h.0 (shaped_directives-then a.constant a.before (record { name = a.name; arguments = [] }) h.1 tt)),
    )
seated_directives_there G limit (arguing r) ds h e = cc

-- ---- directives that are written are read, and each state can be ended

-- `(` does not follow, and no end
abbrev pub NotParen : Tok → Type 0
NotParen tok.open_paren = ⊥
NotParen t = Unit {0}

abbrev pub NoParen : List Tok → Type 0
NoParen [] = ⊥
NoParen (t ∷ ts) = NotParen t

-- `(` does not follow
abbrev pub NoParenAhead : List Tok → Type 0
NoParenAhead [] = Unit {0}
NoParenAhead (t ∷ ts) = NotParen t

-- neither `@` nor `(`
abbrev pub IsPassed : Tok → Type 0
IsPassed tok.open_paren = ⊥
IsPassed tok.at_sign = ⊥
IsPassed t = Unit {0}

-- the arguments of each directive hold no more lists and objects in one another
abbrev pub DirectivesWithin : (limit : ℕ) → List Directive → Type 0
DirectivesWithin limit ds = AllByRecursion (λ (d : Directive). members_depth (members_of d.arguments) ≤ limit) ds

abbrev pub directives_end : {D : Type 0} → Directing D → List Tok
directives_end (further c ds d) = []
directives_end (at_name c ds d) = tok.name (codes "a") ∷ []
directives_end (applied a) = []
directives_end (arguing r) = arguments_end r

pub directives_end-form : {D : Type 0} (r : Directing D) → AreToks (directives_end r)
directives_end-form (further c ds d) = tt
directives_end-form (at_name c ds d) = (refl, tt)
directives_end-form (applied a) = tt
directives_end-form (arguing r) = arguments_end-form r

module _ {S D : Type 0} (limit : ℕ) (into : Directing D → S) (pass : D → List Directive → Tok → Result S Halt) (step : S → Tok → Result S Halt)
    (agrees : (r : Directing D) (t : Tok) → step (into r) t ≡ directives_step limit into pass r t) where
  pub directives_on_token : (r : Directing D) (t : Tok) (ts : List Tok) → reach step (into r) (t ∷ ts) ≡ reach_from step (directives_step limit into pass r t) ts
  directives_on_token r t ts = ap (λ x. reach_from step x ts) (agrees r t)

  -- a directive without arguments
  pub after_applied : (a : Applied D) (t : Tok) → NotParen t → step (into (applied a)) t ≡ step (into (further a.constant (with_arguments a []) a.on)) t
  after_applied a t h = agrees (applied a) t ∙ same t h ∙ sym (agrees (further a.constant (with_arguments a []) a.on) t)
    where
      same : (t : Tok) → NotParen t → directives_step limit into pass (applied a) t ≡ directives_step limit into pass (further a.constant (with_arguments a []) a.on) t
      same tok.open_paren h = absurd h
      same t h = refl

  -- what is seen of where the machine comes to
  module _ {R : Type 0} (seen : Result S Halt → R) (ts : List Tok)
      (behind : (a : Applied D) → seen (reach step (into (applied a)) ts) ≡ seen (reach step (into (further a.constant (with_arguments a []) a.on)) ts)) where
    behind_each : (ds : List Directive) (a : Applied D)
        → seen (reach step (into (applied a)) (spell_directives token_mark ds ts)) ≡ seen (reach step (into (further a.constant (with_arguments a []) a.on)) (spell_directives token_mark ds ts))
    behind_each [] a = behind a
    behind_each (d ∷ ds) a =
        ap (λ x. seen (reach_from step x (tok.name d.name ∷ spell_arguments token_mark d.arguments (spell_directives token_mark ds ts)))) (after_applied a tok.at_sign tt)

    reads_arguments : (a : Applied D) (xs : List (List ℕ × Val)) (ds : List Directive) → ShapedArguments a.constant xs → members_depth (members_of xs) ≤ limit
        → seen (reach step (into (applied a)) (spell_arguments token_mark xs (spell_directives token_mark ds ts)))
        ≡ seen (reach step (into (further a.constant (with_arguments a xs) a.on)) (spell_directives token_mark ds ts))
    reads_arguments a [] ds f d = behind_each ds a
    reads_arguments a (x ∷ xs) ds f d = ap seen
        (directives_on_token (applied a) tok.open_paren (spell_members token_mark (members_of (x ∷ xs)) 0 (tok.close_paren ∷ spell_directives token_mark ds ts))
        ∙ arguments_complete limit (λ r. into (arguing r)) (directive_done into) step (λ r t. agrees (arguing r) t) a.constant a (x ∷ xs) (spell_directives token_mark ds ts) tt f d)

    reads_directives : (ds there : List Directive) (c : Bool) (d : D) → ShapedDirectives c ds → DirectivesWithin limit ds
        → seen (reach step (into (further c there d)) (spell_directives token_mark ds ts)) ≡ seen (reach step (into (further c (there ++ ds) d)) ts)
    reads_directives [] there c d f w = ap (λ ds. seen (reach step (into (further c ds d)) ts)) (sym (append-nil there))
    reads_directives (e ∷ ds) there c d f w =
        ap seen
        (directives_on_token (further c there d) tok.at_sign (tok.name e.name ∷ spell_arguments token_mark e.arguments (spell_directives token_mark ds ts))
        ∙ directives_on_token (at_name c there d) (tok.name e.name) (spell_arguments token_mark e.arguments (spell_directives token_mark ds ts)))
        ∙ reads_arguments (record { constant = c; before = there; name = e.name; on = d }) e.arguments ds f.0 w.0
        ∙ reads_directives ds (there ++ e ∷ []) c d f.1 w.1
        ∙ ap (λ ds. seen (reach step (into (further c ds d)) ts)) (append_assoc there (e ∷ []) ds)

  pub directives_complete : (ds there : List Directive) (c : Bool) (d : D) (ts : List Tok) → NoParen ts → ShapedDirectives c ds → DirectivesWithin limit ds
      → reach step (into (further c there d)) (spell_directives token_mark ds ts) ≡ reach step (into (further c (there ++ ds) d)) ts
  directives_complete ds there c d [] n f w = absurd n
  directives_complete ds there c d (t ∷ ts) n f w = reads_directives (λ r. r) (t ∷ ts) (λ a. ap (λ x. reach_from step x ts) (after_applied a t n)) ds there c d f w

  -- the same where the text may end there
  pub directives_outcome : {V : Type 0} (finish : S → Option V) → ((a : Applied D) → finish (into (applied a)) ≡ finish (into (further a.constant (with_arguments a []) a.on)))
      → (ds there : List Directive) (c : Bool) (d : D) (ts : List Tok) → NoParenAhead ts → ShapedDirectives c ds → DirectivesWithin limit ds
      → outcome step finish (into (further c there d)) (spell_directives token_mark ds ts) ≡ outcome step finish (into (further c (there ++ ds) d)) ts
  directives_outcome finish e ds there c d ts n f w =
      outcome-reach step finish (Ok (into (further c there d))) (spell_directives token_mark ds ts)
      ∙ reads_directives (λ r. ended_at finish r) ts (behind ts n) ds there c d f w
      ∙ sym (outcome-reach step finish (Ok (into (further c (there ++ ds) d))) ts)
    where
      behind : (ts : List Tok) → NoParenAhead ts → (a : Applied D)
          → ended_at finish (reach step (into (applied a)) ts) ≡ ended_at finish (reach step (into (further a.constant (with_arguments a []) a.on)) ts)
      behind [] n a = e a
      behind (t ∷ ts) n a = ap (λ x. ended_at finish (reach_from step x ts)) (after_applied a t n)

  -- ---- the end

  pub passes_there : (r : Directing D) (ds : List Directive) (t : Tok) → directives_there r ≡ Some ds → IsPassed t → directives_step limit into pass r t ≡ pass (directives_on r) ds t
  passes_there (further c es d) ds tok.open_paren e h = absurd h
  passes_there (further c es d) ds tok.at_sign e h = absurd h
  passes_there (further c es d) ds t e h = let same : es ≡ ds = cc in ap (λ ds. pass d ds t) same
  passes_there (at_name c es d) ds t e h = cc
  passes_there (applied a) ds tok.open_paren e h = absurd h
  passes_there (applied a) ds tok.at_sign e h = absurd h
  passes_there (applied a) ds t e h = let same : with_arguments a [] ≡ ds = cc in ap (λ ds. pass a.on ds t) same
  passes_there (arguing r) ds t e h = cc

  -- each state comes to one where another token may follow
  pub directives_ends_there : (r : Directing D)
      → (q : Directing D) × (ds : List Directive) × (reach step (into r) (directives_end r) ≡ Ok (into q)) × (directives_there q ≡ Some ds) × (directives_on q ≡ directives_on r)
  directives_ends_there (further c ds d) = (further c ds d, ds, refl, refl, refl)
  directives_ends_there (at_name c ds d) =
      let a : Applied D = record { constant = c; before = ds; name = codes "a"; on = d } in
      (applied a, with_arguments a [], directives_on_token (at_name c ds d) (tok.name (codes "a")) [], refl, refl)
  directives_ends_there (applied a) = (applied a, with_arguments a [], refl, refl, refl)
  directives_ends_there (arguing r) =
      let h = arguments_ends limit (λ r. into (arguing r)) (directive_done into) step (λ r t. agrees (arguing r) t) r in
      let a : Applied D = arguments_on r in
      (further a.constant (with_arguments a h.0) a.on, with_arguments a h.0, h.1, refl, refl)

  -- and goes on with a token that is passed on
  pub directives_ends : (r : Directing D) (t : Tok) (ts : List Tok) → IsPassed t
      → (ds : List Directive) × (reach step (into r) (directives_end r ++ t ∷ ts) ≡ reach_from step (pass (directives_on r) ds t) ts)
  directives_ends r t ts p =
      let h = directives_ends_there r in (
        h.1,
        reach-append step (Ok (into r)) (directives_end r) (t ∷ ts)
            ∙ ap (λ x. reach_from step x (t ∷ ts)) h.2
            ∙ directives_on_token h.0 t ts
            ∙ ap (λ x. reach_from step x ts) (passes_there h.0 h.1 t h.3 p ∙ ap (λ d. pass d h.1 t) h.4),
      )

-- ---- the numbers of what the tokens open

pub directives_depth_from : (ds : List Directive) (limit : ℕ) (ts : List ℕ) → Shallow limit (spell_directives level_mark ds ts) → DirectivesWithin limit ds × Shallow limit ts
directives_depth_from [] limit ts h = (tt, h)
directives_depth_from (d ∷ ds) limit ts h =
    let a = arguments_depth_from d.arguments limit (spell_directives level_mark ds ts) h.1.1 in
    let b = directives_depth_from ds limit ts a.1 in
    ((a.0, b.0), b.1)

pub directives_depth_to : (ds : List Directive) (limit : ℕ) (ts : List ℕ) → DirectivesWithin limit ds → Shallow limit ts → Shallow limit (spell_directives level_mark ds ts)
directives_depth_to [] limit ts w h = h
directives_depth_to (d ∷ ds) limit ts w h =
    (omega arith, (omega arith, arguments_depth_to d.arguments limit (spell_directives level_mark ds ts) w.0 (directives_depth_to ds limit ts w.1 h)))
