-- A part that reads by itself reads as it does within a whole machine.
use Rattle.std.proofs.Common.{◌≡◌, ℕ, zero, suc, Bool, true, false, List, [], Option, Some, None, Result, Ok, Err, refl, sym, ap, subst, ◌∙◌}
use Rattle.gql_lex.specs.Sources.{Source, ended, faulty, token}
use Rattle.gql_lex.specs.Toks as tok
use Rattle.gql_lex.specs.Toks.{Tok, tok_of_piece}
use Rattle.gql_ast.specs.Value.{Val, variable, int, text, list, object, no_vals, no_members}
use Rattle.gql_ast.specs.Ty as ty
use Rattle.gql_ast.specs.Ty.{Ty}
use Rattle.gql_ast.specs.declared.directive.Directive.{Directive}
use Rattle.gql_syntax.specs.Machine.{Place, outer, item, of_member, Reading, want, dollar, items, members, named, vals_then, members_then, word_value, put, begin, value_step, Given, Arguing, first, called, inside, more, then_argument, arguments_step, Applied, Directing, further, at_name, applied, arguing, with_arguments, next_directive, directives_step, Holder, whole, listed, Typing, want_type, typed, closing, put_type, type_step}
use Rattle.gql_syntax.specs.Parts.{Part, goes, done, done_before, stops, part_from, part, One, never, value_alone, value_read, arguments_alone, arguments_read, directives_alone, directives_there, directives_read, type_alone, type_there, type_read}
use Rattle.gql_syntax.specs.Run.{Halt, unexpected, too_deep, Stopped, code_of, stamp, at_end, run_from, run}
use Rattle.gql_syntax.proofs.Standing.{directives_on, type_on}
use Rattle.gql_syntax.proofs.TypeLaws.{NotBang}

-- ---- any part

-- a step of the part, and the same step of the whole, where `there` is the state of the whole behind what the part has read
abbrev pub Follows : {P V S : Type 0} → (into : P → S) → (there : V → S) → (step : S → Tok → Result S Halt) → Tok → Result (Part P V) Halt → Result S Halt → Type 0
Follows into there step t (Ok (goes p)) r = r ≡ Ok (into p)
Follows into there step t (Ok (done v)) r = r ≡ Ok (there v)
Follows into there step t (Ok (done_before v)) r = r ≡ step (there v) t
Follows into there step t (Err h) r = r ≡ Err h

-- the end for the part, and the end for the whole
abbrev pub EndsAs : {V A : Type 0} → (behind : V → Option A) → Option V → Option A → Type 0
EndsAs behind (Some v) o = o ≡ behind v
EndsAs behind None o = o ≡ None

-- this holds of the token that comes next, if one does
abbrev pub Ahead : (Tok → Type 0) → Source → Type 0
Ahead Q ended = Unit {0}
Ahead Q (faulty code at) = Unit {0}
Ahead Q (token p rest) = Q (tok_of_piece p)

module _ {P V S A : Type 0} (part_step : P → Tok → Result (Part P V) Halt) (ends : P → Option V) (step : S → Tok → Result S Halt) (finish : S → Option A)
    (into : P → S) (there : V → S)
    (follows : (p : P) (t : Tok) → Follows into there step t (part_step p t) (step (into p) t))
    (at_end_as : (p : P) → EndsAs (λ v. finish (there v)) (ends p) (finish (into p))) where
  part_ok_from : (size : ℕ) (source here : Source) (p : P) (v : V) (rest : Source) → part_from part_step ends size (Ok (goes p)) here source ≡ Ok (v, rest)
      → run step finish size (into p) source ≡ run step finish size (there v) rest
  part_ok_from size ended here p v rest e = on_end (ends p) e (at_end_as p)
    where
      on_end : (o : Option V) → stops o ended (code_of unexpected, size) ≡ Ok (v, rest) → EndsAs (λ v. finish (there v)) o (finish (into p))
          → at_end size (finish (into p)) ≡ run step finish size (there v) rest
      on_end (Some w) e h =
          let same : (w, ended) ≡ (v, rest) = cc e in
          ap (λ o. at_end size o) h ∙ ap (λ (x : V × Source). run step finish size (there x.0) x.1) same
      on_end None e h = cc
  part_ok_from size (faulty code at) here p v rest e = on_end (ends p) e
    where
      on_end : (o : Option V) → stops o (faulty code at) (code, at) ≡ Ok (v, rest) → Err (code, at) ≡ run step finish size (there v) rest
      on_end (Some w) e =
          let same : (w, faulty code at) ≡ (v, rest) = cc e in
          ap (λ (x : V × Source). run step finish size (there x.0) x.1) same
      on_end None e = cc
  part_ok_from size (token q behind) here p v rest e =
      on_step (part_step p (tok_of_piece q)) refl e (follows p (tok_of_piece q)) (λ next e. part_ok_from size behind (token q behind) next v rest e)
    where
      on_step : (r : Result (Part P V) Halt) → part_step p (tok_of_piece q) ≡ r → part_from part_step ends size (stamp q.start r) (token q behind) behind ≡ Ok (v, rest)
          → Follows into there step (tok_of_piece q) r (step (into p) (tok_of_piece q))
          → ((next : P) → part_from part_step ends size (Ok (goes next)) (token q behind) behind ≡ Ok (v, rest) → run step finish size (into next) behind ≡ run step finish size (there v) rest)
          → run step finish size (into p) (token q behind) ≡ run step finish size (there v) rest
      on_step (Ok (goes next)) d e f h = ap (λ r. run_from step finish size (stamp q.start r) behind) f ∙ h next e
      on_step (Ok (done w)) d e f h =
          let same : (w, behind) ≡ (v, rest) = cc e in
          ap (λ r. run_from step finish size (stamp q.start r) behind) f ∙ ap (λ (x : V × Source). run step finish size (there x.0) x.1) same
      on_step (Ok (done_before w)) d e f h =
          let same : (w, token q behind) ≡ (v, rest) = cc e in
          ap (λ r. run_from step finish size (stamp q.start r) behind) f ∙ ap (λ (x : V × Source). run step finish size (there x.0) x.1) same
      on_step (Err x) d e f h = cc

  part_err_from : (size : ℕ) (source here : Source) (p : P) (f : Stopped) → part_from part_step ends size (Ok (goes p)) here source ≡ Err f
      → run step finish size (into p) source ≡ Err f
  part_err_from size ended here p f e = on_end (ends p) e (at_end_as p)
    where
      on_end : (o : Option V) → stops o ended (code_of unexpected, size) ≡ Err f → EndsAs (λ v. finish (there v)) o (finish (into p)) → at_end size (finish (into p)) ≡ Err f
      on_end (Some w) e h = cc
      on_end None e h = let same : (code_of unexpected, size) ≡ f = cc e in ap (λ o. at_end size o) h ∙ ap (λ x. Err x) same
  part_err_from size (faulty code at) here p f e = on_end (ends p) e
    where
      on_end : (o : Option V) → stops o (faulty code at) (code, at) ≡ Err f → run step finish size (into p) (faulty code at) ≡ Err f
      on_end (Some w) e = cc
      on_end None e = let same : (code, at) ≡ f = cc e in ap (λ x. Err x) same
  part_err_from size (token q behind) here p f e =
      on_step (part_step p (tok_of_piece q)) refl e (follows p (tok_of_piece q)) (λ next e. part_err_from size behind (token q behind) next f e)
    where
      part_failed : (x : Stopped) → part_from part_step ends size (Err x) (token q behind) behind ≡ Err x
      part_failed x = refl

      on_step : (r : Result (Part P V) Halt) → part_step p (tok_of_piece q) ≡ r → part_from part_step ends size (stamp q.start r) (token q behind) behind ≡ Err f
          → Follows into there step (tok_of_piece q) r (step (into p) (tok_of_piece q))
          → ((next : P) → part_from part_step ends size (Ok (goes next)) (token q behind) behind ≡ Err f → run step finish size (into next) behind ≡ Err f)
          → run step finish size (into p) (token q behind) ≡ Err f
      on_step (Ok (goes next)) d e g h = ap (λ r. run_from step finish size (stamp q.start r) behind) g ∙ h next e
      on_step (Ok (done w)) d e g h = cc
      on_step (Ok (done_before w)) d e g h = cc
      on_step (Err x) d e g h =
          let same : (code_of x, q.start) ≡ f = cc (e, part_failed (code_of x, q.start)) in
          ap (λ r. run_from step finish size (stamp q.start r) behind) g ∙ ap (λ x. Err x) same

  pub part_ok : (size : ℕ) (source : Source) (p : P) (v : V) (rest : Source) → part part_step ends size p source ≡ Ok (v, rest)
      → run step finish size (into p) source ≡ run step finish size (there v) rest
  part_ok size source p v rest e = part_ok_from size source source p v rest e

  pub part_err : (size : ℕ) (source : Source) (p : P) (f : Stopped) → part part_step ends size p source ≡ Err f → run step finish size (into p) source ≡ Err f
  part_err size source p f e = part_err_from size source source p f e

-- a part that is done before a token only, and before such tokens
abbrev pub BeforeOnly : {P V : Type 0} → (Tok → Type 0) → Tok → Result (Part P V) Halt → Type 0
BeforeOnly Q t (Ok (goes p)) = Unit {0}
BeforeOnly Q t (Ok (done v)) = ⊥
BeforeOnly Q t (Ok (done_before v)) = Q t
BeforeOnly Q t (Err h) = Unit {0}

module _ {P V : Type 0} (part_step : P → Tok → Result (Part P V) Halt) (ends : P → Option V) (Q : Tok → Type 0)
    (before_only : (p : P) (t : Tok) → BeforeOnly Q t (part_step p t)) where
  ahead_from : (size : ℕ) (source here : Source) (p : P) (v : V) (rest : Source) → part_from part_step ends size (Ok (goes p)) here source ≡ Ok (v, rest) → Ahead Q rest
  ahead_from size ended here p v rest e = on_end (ends p) e
    where
      on_end : (o : Option V) → stops o ended (code_of unexpected, size) ≡ Ok (v, rest) → Ahead Q rest
      on_end (Some w) e = let same : (w, ended) ≡ (v, rest) = cc e in subst (λ (x : V × Source). Ahead Q x.1) same tt
      on_end None e = cc
  ahead_from size (faulty code at) here p v rest e = on_end (ends p) e
    where
      on_end : (o : Option V) → stops o (faulty code at) (code, at) ≡ Ok (v, rest) → Ahead Q rest
      on_end (Some w) e = let same : (w, faulty code at) ≡ (v, rest) = cc e in subst (λ (x : V × Source). Ahead Q x.1) same tt
      on_end None e = cc
  ahead_from size (token q behind) here p v rest e =
      on_step (part_step p (tok_of_piece q)) e (before_only p (tok_of_piece q)) (λ next e. ahead_from size behind (token q behind) next v rest e)
    where
      on_step : (r : Result (Part P V) Halt) → part_from part_step ends size (stamp q.start r) (token q behind) behind ≡ Ok (v, rest) → BeforeOnly Q (tok_of_piece q) r
          → ((next : P) → part_from part_step ends size (Ok (goes next)) (token q behind) behind ≡ Ok (v, rest) → Ahead Q rest) → Ahead Q rest
      on_step (Ok (goes next)) e b h = h next e
      on_step (Ok (done w)) e b h = absurd b
      on_step (Ok (done_before w)) e b h = let same : (w, token q behind) ≡ (v, rest) = cc e in subst (λ (x : V × Source). Ahead Q x.1) same b
      on_step (Err x) e b h = cc

  pub part_ahead : (size : ℕ) (source : Source) (p : P) (v : V) (rest : Source) → part part_step ends size p source ≡ Ok (v, rest) → Ahead Q rest
  part_ahead size source p v rest e = ahead_from size source source p v rest e

-- ---- the same state on another ground

abbrev pub map_place : {K L : Type 0} → (K → L) → Place K → Place L
map_place f (outer k) = outer (f k)
map_place f (item c room vs p) = item c room vs (map_place f p)
map_place f (of_member c room ms n p) = of_member c room ms n (map_place f p)

abbrev pub map_reading : {K L : Type 0} → (K → L) → Reading K → Reading L
map_reading f (want c room p) = want c room (map_place f p)
map_reading f (dollar p) = dollar (map_place f p)
map_reading f (items c room vs p) = items c room vs (map_place f p)
map_reading f (members c room ms p) = members c room ms (map_place f p)
map_reading f (named c room ms n p) = named c room ms n (map_place f p)

abbrev pub map_given : {A B : Type 0} → (A → B) → Given A → Given B
map_given f g = record { constant = g.constant; before = g.before; name = g.name; on = f g.on }

abbrev pub map_arguing : {A B : Type 0} → (A → B) → Arguing A → Arguing B
map_arguing f (first c a) = first c (f a)
map_arguing f (called g) = called (map_given f g)
map_arguing f (inside r) = inside (map_reading (map_given f) r)
map_arguing f (more c xs a) = more c xs (f a)

abbrev pub map_applied : {D E : Type 0} → (D → E) → Applied D → Applied E
map_applied f a = record { constant = a.constant; before = a.before; name = a.name; on = f a.on }

abbrev pub map_directing : {D E : Type 0} → (D → E) → Directing D → Directing E
map_directing f (further c ds d) = further c ds (f d)
map_directing f (at_name c ds d) = at_name c ds (f d)
map_directing f (applied a) = applied (map_applied f a)
map_directing f (arguing r) = arguing (map_arguing (map_applied f) r)

abbrev pub map_holder : {K L : Type 0} → (K → L) → Holder K → Holder L
map_holder f (whole k) = whole (f k)
map_holder f (listed h) = listed (map_holder f h)

abbrev pub map_typing : {K L : Type 0} → (K → L) → Typing K → Typing L
map_typing f (want_type room h) = want_type room (map_holder f h)
map_typing f (typed t h) = typed t (map_holder f h)
map_typing f (closing t h) = closing t (map_holder f h)

-- ---- two machines that read values take the same steps; `Same` is what their results have in common

module _ {S Z K L : Type 0} (f : K → L) (Same : Result S Halt → Result Z Halt → Type 0) (same_err : (h : Halt) → Same (Err h) (Err h))
    (into : Reading K → S) (into_other : Reading L → Z) (same_into : (r : Reading K) → Same (Ok (into r)) (Ok (into_other (map_reading f r))))
    (hand : K → Val → S) (hand_other : L → Val → Z) (same_hand : (k : K) (v : Val) → Same (Ok (hand k v)) (Ok (hand_other (f k) v))) where
  same_put : (v : Val) (p : Place K) → Same (Ok (put into hand v p)) (Ok (put into_other hand_other v (map_place f p)))
  same_put v (outer k) = same_hand k v
  same_put v (item c room vs p) = same_into (items c room (vals_then vs v) p)
  same_put v (of_member c room ms n p) = same_into (members c room (members_then ms n v) p)

  same_begin : (c : Bool) (room : ℕ) (p : Place K) (t : Tok) → Same (begin into hand c room p t) (begin into_other hand_other c room (map_place f p) t)
  same_begin false room p tok.dollar = same_into (dollar p)
  same_begin true room p tok.dollar = same_err unexpected
  same_begin c room p (tok.int n) = same_put (int n) p
  same_begin c room p (tok.text t) = same_put (text t) p
  same_begin c room p (tok.name n) = same_put (word_value n) p
  same_begin c zero p tok.open_bracket = same_err too_deep
  same_begin c (suc room) p tok.open_bracket = same_into (items c room no_vals p)
  same_begin c zero p tok.open_brace = same_err too_deep
  same_begin c (suc room) p tok.open_brace = same_into (members c room no_members p)
  same_begin c room p _ = same_err unexpected

  pub same_value_step : (r : Reading K) (t : Tok) → Same (value_step into hand r t) (value_step into_other hand_other (map_reading f r) t)
  same_value_step (want c room p) t = same_begin c room p t
  same_value_step (dollar p) (tok.name n) = same_put (variable n) p
  same_value_step (dollar p) _ = same_err unexpected
  same_value_step (items c room vs p) tok.close_bracket = same_put (list vs) p
  same_value_step (items c room vs p) t = same_begin c room (item c room vs p) t
  same_value_step (members c room ms p) (tok.name n) = same_into (named c room ms n p)
  same_value_step (members c room ms p) tok.close_brace = same_put (object ms) p
  same_value_step (members c room ms p) _ = same_err unexpected
  same_value_step (named c room ms n p) tok.colon = same_into (want c room (of_member c room ms n p))
  same_value_step (named c room ms n p) _ = same_err unexpected

module _ {S Z A B : Type 0} (f : A → B) (limit : ℕ) (Same : Result S Halt → Result Z Halt → Type 0) (same_err : (h : Halt) → Same (Err h) (Err h))
    (into : Arguing A → S) (into_other : Arguing B → Z) (same_into : (r : Arguing A) → Same (Ok (into r)) (Ok (into_other (map_arguing f r))))
    (hand : A → List (List ℕ × Val) → S) (hand_other : B → List (List ℕ × Val) → Z)
    (same_hand : (a : A) (xs : List (List ℕ × Val)) → Same (Ok (hand a xs)) (Ok (hand_other (f a) xs))) where
  pub same_arguments_step : (r : Arguing A) (t : Tok) → Same (arguments_step limit into hand r t) (arguments_step limit into_other hand_other (map_arguing f r) t)
  same_arguments_step (first c a) (tok.name n) = same_into (called (record { constant = c; before = []; name = n; on = a }))
  same_arguments_step (first c a) _ = same_err unexpected
  same_arguments_step (called g) tok.colon = same_into (inside (want g.constant limit (outer g)))
  same_arguments_step (called g) _ = same_err unexpected
  same_arguments_step (inside r) t =
      same_value_step (map_given f) Same same_err (λ r. into (inside r)) (λ r. into_other (inside r)) (λ r. same_into (inside r)) (then_argument limit into hand)
      (then_argument limit into_other hand_other) (λ g v. same_into (then_argument limit (λ r. r) (λ a xs. more g.constant xs a) g v)) r t
  same_arguments_step (more c xs a) (tok.name n) = same_into (called (record { constant = c; before = xs; name = n; on = a }))
  same_arguments_step (more c xs a) tok.close_paren = same_hand a xs
  same_arguments_step (more c xs a) _ = same_err unexpected

-- no `@`
abbrev pub NotAt : Tok → Type 0
NotAt tok.at_sign = ⊥
NotAt t = Unit {0}

module _ {S Z D E : Type 0} (f : D → E) (limit : ℕ) (Same : Tok → Result S Halt → Result Z Halt → Type 0) (same_err : (t : Tok) (h : Halt) → Same t (Err h) (Err h))
    (into : Directing D → S) (into_other : Directing E → Z) (same_into : (t : Tok) (r : Directing D) → Same t (Ok (into r)) (Ok (into_other (map_directing f r))))
    (pass : D → List Directive → Tok → Result S Halt) (pass_other : E → List Directive → Tok → Result Z Halt)
    (same_pass : (t : Tok) (d : D) (ds : List Directive) → NotAt t → Same t (pass d ds t) (pass_other (f d) ds t)) where
  same_next : (c : Bool) (ds : List Directive) (d : D) (t : Tok) → Same t (next_directive limit into pass c ds d t) (next_directive limit into_other pass_other c ds (f d) t)
  same_next c ds d tok.at_sign = same_into tok.at_sign (at_name c ds d)
  same_next c ds d t = same_pass t d ds tt

  pub same_directives_step : (r : Directing D) (t : Tok) → Same t (directives_step limit into pass r t) (directives_step limit into_other pass_other (map_directing f r) t)
  same_directives_step (further c ds d) t = same_next c ds d t
  same_directives_step (at_name c ds d) (tok.name n) = same_into (tok.name n) (applied (record { constant = c; before = ds; name = n; on = d }))
  same_directives_step (at_name c ds d) t = same_err t unexpected
  same_directives_step (applied a) tok.open_paren = same_into tok.open_paren (arguing (first a.constant a))
  same_directives_step (applied a) t = same_next a.constant (with_arguments a []) a.on t
  same_directives_step (arguing r) t =
      same_arguments_step (map_applied f) limit (Same t) (same_err t) (λ r. into (arguing r)) (λ r. into_other (arguing r)) (λ r. same_into t (arguing r))
      (λ a xs. into (further a.constant (with_arguments a xs) a.on)) (λ a xs. into_other (further a.constant (with_arguments a xs) a.on))
      (λ a xs. same_into t (further a.constant (with_arguments a xs) a.on)) r t

module _ {S Z K L : Type 0} (f : K → L) (Same : Tok → Result S Halt → Result Z Halt → Type 0) (same_err : (t : Tok) (h : Halt) → Same t (Err h) (Err h))
    (into : Typing K → S) (into_other : Typing L → Z) (same_into : (t : Tok) (r : Typing K) → Same t (Ok (into r)) (Ok (into_other (map_typing f r))))
    (hand : K → Ty → S) (hand_other : L → Ty → Z) (same_hand : (x : Tok) (k : K) (t : Ty) → Same x (Ok (hand k t)) (Ok (hand_other (f k) t)))
    (pass : K → Ty → Tok → Result S Halt) (pass_other : L → Ty → Tok → Result Z Halt)
    (same_pass : (x : Tok) (k : K) (t : Ty) → NotBang x → Same x (pass k t x) (pass_other (f k) t x)) where
  same_put_type : (x : Tok) (t : Ty) (h : Holder K) → Same x (Ok (put_type into hand pass t h)) (Ok (put_type into_other hand_other pass_other t (map_holder f h)))
  same_put_type x t (whole k) = same_hand x k t
  same_put_type x t (listed h) = same_into x (closing t h)

  pub same_type_step : (r : Typing K) (x : Tok) → Same x (type_step into hand pass r x) (type_step into_other hand_other pass_other (map_typing f r) x)
  same_type_step (want_type room h) (tok.name n) = same_into (tok.name n) (typed (ty.named n) h)
  same_type_step (want_type zero h) tok.open_bracket = same_err tok.open_bracket too_deep
  same_type_step (want_type (suc room) h) tok.open_bracket = same_into tok.open_bracket (want_type room (listed h))
  same_type_step (want_type room h) x = same_err x unexpected
  same_type_step (typed t h) tok.bang = same_put_type tok.bang (ty.non_null t) h
  same_type_step (typed t (whole k)) x = same_pass x k t tt
  same_type_step (typed t (listed h)) tok.close_bracket = same_into tok.close_bracket (typed (ty.list t) h)
  same_type_step (typed t (listed h)) x = same_err x unexpected
  same_type_step (closing t h) tok.close_bracket = same_into tok.close_bracket (typed (ty.list t) h)
  same_type_step (closing t h) x = same_err x unexpected

-- ---- a value

module _ {S A K : Type 0} (into : Reading K → S) (hand : K → Val → S) (step : S → Tok → Result S Halt) (finish : S → Option A)
    (agrees : (r : Reading K) (t : Tok) → step (into r) t ≡ value_step into hand r t)
    (not_ended : (r : Reading K) → finish (into r) ≡ None) (k : K) where
  follows_value : (r : Reading One) (t : Tok) → Follows (λ r. into (map_reading (λ o. k) r)) (λ v. hand k v) step t (value_alone r t) (step (into (map_reading (λ o. k) r)) t)
  follows_value r t =
      subst (λ x. Follows (λ r. into (map_reading (λ o. k) r)) (λ v. hand k v) step t (value_alone r t) x) (sym (agrees (map_reading (λ o. k) r) t))
      (same_value_step (λ (o : One). k) (λ a x. Follows (λ r. into (map_reading (λ o. k) r)) (λ v. hand k v) step t a x) (λ h. refl) goes into (λ r. refl)
      (λ o v. done v) hand (λ o v. refl) r t)

  pub value_read_ok : (c : Bool) (room size : ℕ) (source : Source) (v : Val) (rest : Source) → value_read c room size source ≡ Ok (v, rest)
      → run step finish size (into (want c room (outer k))) source ≡ run step finish size (hand k v) rest
  value_read_ok c room size source v rest e =
      part_ok value_alone never step finish (λ r. into (map_reading (λ o. k) r)) (λ v. hand k v) follows_value (λ r. not_ended (map_reading (λ o. k) r)) size source
      (want c room (outer tt)) v rest e

  pub value_read_err : (c : Bool) (room size : ℕ) (source : Source) (f : Stopped) → value_read c room size source ≡ Err f
      → run step finish size (into (want c room (outer k))) source ≡ Err f
  value_read_err c room size source f e =
      part_err value_alone never step finish (λ r. into (map_reading (λ o. k) r)) (λ v. hand k v) follows_value (λ r. not_ended (map_reading (λ o. k) r)) size source
      (want c room (outer tt)) f e

-- ---- arguments, behind their `(`

module _ {S A X : Type 0} (limit : ℕ) (into : Arguing X → S) (hand : X → List (List ℕ × Val) → S) (step : S → Tok → Result S Halt) (finish : S → Option A)
    (agrees : (r : Arguing X) (t : Tok) → step (into r) t ≡ arguments_step limit into hand r t)
    (not_ended : (r : Arguing X) → finish (into r) ≡ None) (a : X) where
  follows_arguments : (r : Arguing One) (t : Tok)
      → Follows (λ r. into (map_arguing (λ o. a) r)) (λ xs. hand a xs) step t (arguments_alone limit r t) (step (into (map_arguing (λ o. a) r)) t)
  follows_arguments r t =
      subst (λ x. Follows (λ r. into (map_arguing (λ o. a) r)) (λ xs. hand a xs) step t (arguments_alone limit r t) x) (sym (agrees (map_arguing (λ o. a) r) t))
      (same_arguments_step (λ (o : One). a) limit (λ b x. Follows (λ r. into (map_arguing (λ o. a) r)) (λ xs. hand a xs) step t b x) (λ h. refl) goes into (λ r. refl)
      (λ o xs. done xs) hand (λ o xs. refl) r t)

  pub arguments_read_ok : (c : Bool) (size : ℕ) (source : Source) (xs : List (List ℕ × Val)) (rest : Source) → arguments_read limit c size source ≡ Ok (xs, rest)
      → run step finish size (into (first c a)) source ≡ run step finish size (hand a xs) rest
  arguments_read_ok c size source xs rest e =
      part_ok (arguments_alone limit) never step finish (λ r. into (map_arguing (λ o. a) r)) (λ xs. hand a xs) follows_arguments (λ r. not_ended (map_arguing (λ o. a) r)) size
      source (first c tt) xs rest e

  pub arguments_read_err : (c : Bool) (size : ℕ) (source : Source) (f : Stopped) → arguments_read limit c size source ≡ Err f
      → run step finish size (into (first c a)) source ≡ Err f
  arguments_read_err c size source f e =
      part_err (arguments_alone limit) never step finish (λ r. into (map_arguing (λ o. a) r)) (λ xs. hand a xs) follows_arguments (λ r. not_ended (map_arguing (λ o. a) r)) size
      source (first c tt) f e

-- ---- directives

-- behind directives no `@` follows
pub directives_read_ahead : (limit : ℕ) (c : Bool) (size : ℕ) (source : Source) (ds : List Directive) (rest : Source) → directives_read limit c size source ≡ Ok (ds, rest) → Ahead NotAt rest
directives_read_ahead limit c size source ds rest e =
    part_ahead (directives_alone limit) directives_there NotAt
    (λ r t. same_directives_step (λ (o : One). o) limit (λ t r x. BeforeOnly NotAt t r) (λ t h. tt) goes goes (λ t r. tt)
    (λ o ds t. Ok (done_before ds)) (λ o ds t. Ok (done_before ds)) (λ t o ds n. n) r t)
    size source (further c [] tt) ds rest e

-- `finish` where no directive follows is that behind them, in whatever state they end, and elsewhere the text may not end
module _ {S A D : Type 0} (limit : ℕ) (into : Directing D → S) (pass : D → List Directive → Tok → Result S Halt) (step : S → Tok → Result S Halt) (finish : S → Option A)
    (agrees : (r : Directing D) (t : Tok) → step (into r) t ≡ directives_step limit into pass r t)
    (at_end_as : (c : Bool) (r : Directing D) → EndsAs (λ ds. finish (into (further c ds (directives_on r)))) (directives_there r) (finish (into r))) (d : D) (c : Bool) where
  -- another token than `@` goes on as it does above
  pub further_passes : (ds : List Directive) (t : Tok) → NotAt t → step (into (further c ds d)) t ≡ pass d ds t
  further_passes ds t n = agrees (further c ds d) t ∙ passed_on t n
    where
      passed_on : (t : Tok) → NotAt t → next_directive limit into pass c ds d t ≡ pass d ds t
      passed_on tok.at_sign n = absurd n
      passed_on t n = refl

  follows_directives : (r : Directing One) (t : Tok)
      → Follows (λ r. into (map_directing (λ o. d) r)) (λ ds. into (further c ds d)) step t (directives_alone limit r t) (step (into (map_directing (λ o. d) r)) t)
  follows_directives r t =
      subst (λ x. Follows (λ r. into (map_directing (λ o. d) r)) (λ ds. into (further c ds d)) step t (directives_alone limit r t) x) (sym (agrees (map_directing (λ o. d) r) t))
      (same_directives_step (λ (o : One). d) limit (λ t b x. Follows (λ r. into (map_directing (λ o. d) r)) (λ ds. into (further c ds d)) step t b x) (λ t h. refl) goes into
      (λ t r. refl) (λ o ds t. Ok (done_before ds)) pass (λ t o ds n. sym (further_passes ds t n)) r t)

  directives_end_as : (r : Directing One) → EndsAs (λ ds. finish (into (further c ds d))) (directives_there r) (finish (into (map_directing (λ o. d) r)))
  directives_end_as (further b ds o) = at_end_as c (further b ds d)
  directives_end_as (at_name b ds o) = at_end_as c (at_name b ds d)
  directives_end_as (applied a) = at_end_as c (applied (map_applied (λ o. d) a))
  directives_end_as (arguing r) = at_end_as c (arguing (map_arguing (map_applied (λ o. d)) r))

  pub directives_read_ok : (size : ℕ) (source : Source) (ds : List Directive) (rest : Source) → directives_read limit c size source ≡ Ok (ds, rest)
      → run step finish size (into (further c [] d)) source ≡ run step finish size (into (further c ds d)) rest
  directives_read_ok size source ds rest e =
      part_ok (directives_alone limit) directives_there step finish (λ r. into (map_directing (λ o. d) r)) (λ ds. into (further c ds d)) follows_directives directives_end_as size
      source (further c [] tt) ds rest e

  pub directives_read_err : (size : ℕ) (source : Source) (f : Stopped) → directives_read limit c size source ≡ Err f
      → run step finish size (into (further c [] d)) source ≡ Err f
  directives_read_err size source f e =
      part_err (directives_alone limit) directives_there step finish (λ r. into (map_directing (λ o. d) r)) (λ ds. into (further c ds d)) follows_directives directives_end_as size
      source (further c [] tt) f e

-- ---- a type

module _ {S A K : Type 0} (into : Typing K → S) (hand : K → Ty → S) (pass : K → Ty → Tok → Result S Halt) (step : S → Tok → Result S Halt) (finish : S → Option A)
    (agrees : (r : Typing K) (x : Tok) → step (into r) x ≡ type_step into hand pass r x)
    (passes : (k : K) (t : Ty) (x : Tok) → pass k t x ≡ step (hand k t) x)
    (at_end_as : (r : Typing K) → EndsAs (λ t. finish (hand (type_on r) t)) (type_there r) (finish (into r))) (k : K) where
  follows_type : (r : Typing One) (x : Tok) → Follows (λ r. into (map_typing (λ o. k) r)) (λ t. hand k t) step x (type_alone r x) (step (into (map_typing (λ o. k) r)) x)
  follows_type r x =
      subst (λ y. Follows (λ r. into (map_typing (λ o. k) r)) (λ t. hand k t) step x (type_alone r x) y) (sym (agrees (map_typing (λ o. k) r) x))
      (same_type_step (λ (o : One). k) (λ x b y. Follows (λ r. into (map_typing (λ o. k) r)) (λ t. hand k t) step x b y) (λ x h. refl) goes into (λ x r. refl)
      (λ o t. done t) hand (λ x o t. refl) (λ o t x. Ok (done_before t)) pass (λ x o t n. passes k t x) r x)

  type_end_as : (r : Typing One) → EndsAs (λ t. finish (hand k t)) (type_there r) (finish (into (map_typing (λ o. k) r)))
  type_end_as (want_type room h) = at_end_as (want_type room (map_holder (λ o. k) h))
  type_end_as (typed t (whole o)) = at_end_as (typed t (whole k))
  type_end_as (typed t (listed h)) = at_end_as (typed t (listed (map_holder (λ o. k) h)))
  type_end_as (closing t h) = at_end_as (closing t (map_holder (λ o. k) h))

  pub type_read_ok : (room size : ℕ) (source : Source) (t : Ty) (rest : Source) → type_read room size source ≡ Ok (t, rest)
      → run step finish size (into (want_type room (whole k))) source ≡ run step finish size (hand k t) rest
  type_read_ok room size source t rest e =
      part_ok type_alone type_there step finish (λ r. into (map_typing (λ o. k) r)) (λ t. hand k t) follows_type type_end_as size source (want_type room (whole tt)) t rest e

  pub type_read_err : (room size : ℕ) (source : Source) (f : Stopped) → type_read room size source ≡ Err f
      → run step finish size (into (want_type room (whole k))) source ≡ Err f
  type_read_err room size source f e =
      part_err type_alone type_there step finish (λ r. into (map_typing (λ o. k) r)) (λ t. hand k t) follows_type type_end_as size source (want_type room (whole tt)) f e
