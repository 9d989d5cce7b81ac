-- The machine of schemas reads the grammar of schemas. Of the trees that are written with the same tokens it gives the one that
-- has no separator in front of an empty list.
use Rattle.std.proofs.Common.{◌≡◌, ◌≤◌, ◌<◌, ℕ, ◌+◌, List, [], ◌∷◌, map, Some, Result, Ok, Err, IfOk, refl, ap, ◌∙◌, arith}
use Rattle.std.specs.List.{AllByRecursion}
use Rattle.gql_syntax.specs.gql_lex.Toks.{Tok}
use Rattle.gql_syntax.specs.gql_ast.Ty.{Ty}
use Rattle.gql_syntax.proofs.DirectiveLaws.{directives_sound, directives_shallow, directives_seated, directives_deep, directives_lift_step, directives_lift_unexpected, directives_lift_too_deep, lift_directives_level, lift_directives_so_far, lift_directives_seated}
use Rattle.gql_syntax.proofs.Laws.{Leveled, Laws, Written, Stepped, Finishes}
use Rattle.gql_syntax.proofs.Outcomes.{finishes}
use Rattle.gql_syntax.proofs.Standing.{mark_level, GroundLaws, Lifts, Opens, IfTooDeep}
use Rattle.gql_syntax.proofs.TypeLaws.{type_sound, type_shallow, type_seated, type_deep, type_lift_step, type_lift_unexpected, type_lift_too_deep, lift_type_level, lift_type_so_far, lift_type_seated}
use Rattle.gql_syntax.proofs.ValueLaws.{from_ok, value_sound, value_shallow, value_seated, value_deep, value_lift_step, value_lift_unexpected, value_lift_too_deep, lift_value_level, lift_value_so_far, lift_value_seated}
use Rattle.gql_syntax.specs.FirstFault.{Grammar, Shallow}
use Rattle.gql_syntax.specs.Machine.{further, at_name, applied, arguing}
use Rattle.gql_syntax.specs.Run.{Halt, unexpected, too_deep}
use Rattle.gql_sdl.specs.Machine.{Typed, input_type, field_type, State, head, in_directives, in_type, in_value, after_directives, after_type, typed_state, behind_default, advance, finish, no_front}
use Rattle.gql_sdl.specs.Schemas.{Described, NotEmpty, FormedWritten, schemas}
use Rattle.gql_sdl.proofs.Complete.{reads_schemas}
use Rattle.gql_sdl.proofs.Ends.{state-ends}
use Rattle.gql_sdl.proofs.Fits.{definitions-fit}
use Rattle.gql_sdl.proofs.Rises.{Rises, own-rises, after-keeps, after_type-rises}
use Rattle.gql_sdl.proofs.Seats.{Neat, ShapedDescribed}
use Rattle.gql_sdl.proofs.Shapes.{ShapedWritten, definitions_forms, written_shape}
use Rattle.gql_sdl.proofs.States.{owner_ground, default_ground, typed_ground, so_far, level_at, lift, Seated, Own, machine}
use Rattle.gql_sdl.proofs.Steps.{Goes, own-goes, after-goes, after_type-goes, typed_state-front, typed_state-seated, valued-front, valued-seated}
use Rattle.gql_sdl.proofs.Wholes.{finish-whole, map-definitions}

-- ---- what a step gives

if-sound : (limit : ℕ) (front : List Leveled → List Leveled) (t : Tok) (l : ℕ) (r : Result State Halt) → Goes limit front t l r
    → IfOk r (λ next. (ts : List Leveled) → so_far next ts ≡ front ((t, l) ∷ ts))
if-sound limit front t l (Ok s) g = g.sound
if-sound limit front t l (Err h) g = tt

if-shallow : (limit : ℕ) (front : List Leveled → List Leveled) (t : Tok) (l : ℕ) (r : Result State Halt) → Goes limit front t l r → IfOk r (λ next. l ≤ limit)
if-shallow limit front t l (Ok s) g = g.shallow
if-shallow limit front t l (Err h) g = tt

if-seated : (limit : ℕ) (front : List Leveled → List Leveled) (t : Tok) (l : ℕ) (r : Result State Halt) → Goes limit front t l r → IfOk r (Seated limit)
if-seated limit front t l (Ok s) g = g.seated
if-seated limit front t l (Err h) g = tt

not-deep : (r x : Result State Halt) (P : Type 0) → Rises 0 r x → IfTooDeep r P
not-deep (Ok s) x P h = tt
not-deep (Err unexpected) x P h = tt
not-deep (Err too_deep) x P h = absurd h

rises-lifts : (k : ℕ) (r x : Result State Halt) → Rises k r x → Lifts (lift k) r x
rises-lifts k (Ok s) x h = h
rises-lifts k (Err unexpected) x h = h
rises-lifts k (Err too_deep) x h = tt

rises-opens : (k : ℕ) (r x : Result State Halt) → Rises k r x → Opens r x
rises-opens k (Ok s) x h = tt
rises-opens k (Err unexpected) x h = tt
rises-opens k (Err too_deep) x h = absurd h

rises-not_deep : (k : ℕ) (r x : Result State Halt) (P : Type 0) → Rises k r x → r ≡ Err too_deep → P
rises-not_deep k (Ok s) x P h e = absurd (cc)
rises-not_deep k (Err unexpected) x P h e = absurd (cc)
rises-not_deep k (Err too_deep) x P h e = absurd h

rises-step : (k : ℕ) (r x : Result State Halt) (next : State) → Rises k r x → r ≡ Ok next → x ≡ Ok (lift k next)
rises-step k (Ok s) x next h e = let same : s ≡ next = cc in h ∙ ap (λ s. Ok (lift k s)) same
rises-step k (Err unexpected) x next h e = absurd (cc)
rises-step k (Err too_deep) x next h e = absurd h

rises-unexpected : (k : ℕ) (r x : Result State Halt) → Rises k r x → r ≡ Err unexpected → x ≡ Err unexpected
rises-unexpected k (Ok s) x h e = absurd (cc)
rises-unexpected k (Err unexpected) x h e = h
rises-unexpected k (Err too_deep) x h e = absurd h

own-lift : (k : ℕ) (s : State) → Own s → lift k s ≡ s
own-lift k (in_directives d) o = absurd o
own-lift k (in_type y) o = absurd o
own-lift k (in_value r) o = absurd o
own-lift k s o = refl

-- ---- the grammar without separators in front of nothing

abbrev pub FormedDescribed : Described → Type 0
FormedDescribed d = FormedWritten d.written × Neat d.written

abbrev pub NeatSchema : List Described → Type 0
NeatSchema v = NotEmpty v × AllByRecursion FormedDescribed v

abbrev pub neat : Grammar (List Described)
neat = record { tokens = schemas.tokens; levels = schemas.levels; Formed = NeatSchema }

written_shapes : (ds : List Described) → AllByRecursion ShapedDescribed ds → AllByRecursion (λ d. ShapedWritten d.written) ds
written_shapes [] h = tt
written_shapes (d ∷ ds) h = (h.0.0, written_shapes ds h.1)

neat_forms : (ds : List Described) → AllByRecursion ShapedDescribed ds → AllByRecursion (λ d. FormedWritten d.written) ds → AllByRecursion FormedDescribed ds
neat_forms [] h f = tt
neat_forms (d ∷ ds) h f = ((f.0, h.0.1), neat_forms ds h.1 f.1)

neat_shapes : (ds : List Described) → AllByRecursion FormedDescribed ds → AllByRecursion ShapedDescribed ds
neat_shapes [] f = tt
neat_shapes (d ∷ ds) f = ((written_shape d.written f.0.0, f.0.1), neat_shapes ds f.1)

-- ---- the laws, state by state

owner_laws : GroundLaws owner_ground
owner_laws = record { lift_front = λ k x ts. refl; lift_constant = λ k x. refl; lift_seated = λ k limit x h. h }

default_laws : GroundLaws default_ground
default_laws = record { lift_front = λ k x ts. refl; lift_constant = λ k x. refl; lift_seated = λ k limit x h. h }

typed_laws : GroundLaws typed_ground
typed_laws = record { lift_front = λ k x ts. refl; lift_constant = λ k x. refl; lift_seated = λ k limit x h. h }

own-sound : (limit : ℕ) (s : State) (t : Tok) (next : State) → Own s → Seated limit s → advance limit s t ≡ Ok next → (ts : List Leveled)
    → so_far next ts ≡ so_far s ((t, 0) ∷ ts)
own-sound limit s t next o h e =
    from_ok (λ next. (ts : List Leveled) → so_far next ts ≡ so_far s ((t, 0) ∷ ts)) next (if-sound limit (λ ts. so_far s ts) t 0 (advance limit s t) (own-goes limit s t o h)) e

own-seated : (limit : ℕ) (s : State) (t : Tok) (next : State) → Own s → Seated limit s → advance limit s t ≡ Ok next → Seated limit next
own-seated limit s t next o h e = from_ok (Seated limit) next (if-seated limit (λ ts. so_far s ts) t 0 (advance limit s t) (own-goes limit s t o h)) e

sound : (limit : ℕ) (s : State) (t : Tok) (next : State) → Seated limit s → advance limit s t ≡ Ok next → (ts : List Leveled)
    → so_far next ts ≡ so_far s ((t, level_at s t) ∷ ts)
sound limit (in_directives d) t next h e =
    directives_sound owner_ground (λ o t. 0) limit in_directives after_directives so_far (λ r ts. refl)
    (λ o ds t h f. if-sound limit _ t 0 (after_directives o ds t) (after-goes limit o ds t h f)) d t next h e
sound limit (in_type y) t next h e =
    type_sound typed_ground (λ y t. 0) in_type typed_state (after_type limit) limit so_far (λ r ts. refl) (λ y t ts. typed_state-front 0 y t ts)
    (λ y t x h f. if-sound limit _ x 0 (after_type limit y t x) (after_type-goes limit y t x h f)) y t next h e
sound limit (in_value r) t next h e =
    value_sound default_ground in_value behind_default so_far (λ r ts. refl) (λ i v ts. valued-front 0 i v ts) r t next e
sound limit s t next h e = own-sound limit s t next tt h e

shallow : (limit : ℕ) (s : State) (t : Tok) (next : State) → Seated limit s → advance limit s t ≡ Ok next → level_at s t ≤ limit
shallow limit (in_directives d) t next h e =
    directives_shallow owner_ground (λ o t. 0) limit in_directives after_directives (λ o ds t h. nothing (after_directives o ds t)) d t next h e
  where
    nothing : (r : Result State Halt) → IfOk r (λ next. 0 ≤ limit)
    nothing (Ok s) = omega arith
    nothing (Err x) = tt
shallow limit (in_type y) t next h e =
    type_shallow typed_ground (λ y t. 0) in_type typed_state (after_type limit) limit (λ y t x h. nothing (after_type limit y t x)) y t next h e
  where
    nothing : (r : Result State Halt) → IfOk r (λ next. 0 ≤ limit)
    nothing (Ok s) = omega arith
    nothing (Err x) = tt
shallow limit (in_value r) t next h e = value_shallow default_ground in_value behind_default limit r t next h e
shallow limit s t next h e = omega arith

keeps_seat : (limit : ℕ) (s : State) (t : Tok) (next : State) → Seated limit s → advance limit s t ≡ Ok next → Seated limit next
keeps_seat limit (in_directives d) t next h e =
    directives_seated owner_ground (λ o t. 0) limit in_directives after_directives (Seated limit) (λ r h. h)
    (λ o ds t h f. if-seated limit _ t 0 (after_directives o ds t) (after-goes limit o ds t h f)) d t next h e
keeps_seat limit (in_type y) t next h e =
    type_seated typed_ground (λ y t. 0) in_type typed_state (after_type limit) limit (Seated limit) (λ r h. h) (λ y t h f. typed_state-seated limit y t h f)
    (λ y t x h f. if-seated limit _ x 0 (after_type limit y t x) (after_type-goes limit y t x h f)) y t next h e
keeps_seat limit (in_value r) t next h e =
    value_seated default_ground in_value behind_default limit (Seated limit) (λ r h. h) (λ i v h f. valued-seated limit i v h f) r t next h e
keeps_seat limit s t next h e = own-seated limit s t next tt h e

deep : (limit : ℕ) (s : State) (t : Tok) → Seated limit s → advance limit s t ≡ Err too_deep → limit < level_at s t
deep limit (in_directives d) t h e =
    directives_deep owner_ground (λ o t. 0) limit in_directives after_directives (λ o ds t h. not-deep (after_directives o ds t) (after_directives o ds t) _ (after-keeps 0 o ds t)) d t h e
deep limit (in_type y) t h e =
    type_deep typed_ground (λ y t. 0) in_type typed_state (after_type limit) limit
    (λ y t x h. not-deep (after_type limit y t x) (after_type (0 + limit) y t x) _ (after_type-rises 0 limit y t x)) y t h e
deep limit (in_value r) t h e = value_deep default_ground in_value behind_default limit r t h e
deep limit s t h e = rises-not_deep 0 (advance limit s t) (advance (0 + limit) s t) _ (own-rises 0 limit s t tt) e

lift_step : (k limit : ℕ) (s : State) (t : Tok) (next : State) → advance limit s t ≡ Ok next → advance (k + limit) (lift k s) t ≡ Ok (lift k next)
lift_step k limit (in_directives d) t next e =
    directives_lift_step owner_ground (λ o t. 0) limit in_directives after_directives after_directives k (lift k) (λ r. refl)
    (λ o ds t. rises-lifts k (after_directives o ds t) (after_directives o ds t) (after-keeps k o ds t)) d t next e
lift_step k limit (in_type y) t next e =
    type_lift_step typed_ground (λ y t. 0) in_type typed_state (after_type limit) typed_state (after_type (k + limit)) k (lift k) (λ r. refl) (λ y t. typed_lift y t)
    (λ y t x. rises-lifts k (after_type limit y t x) (after_type (k + limit) y t x) (after_type-rises k limit y t x)) y t next e
  where
    typed_lift : (y : Typed) (t : Ty) → lift k (typed_state y t) ≡ typed_state y t
    typed_lift (input_type i) t = refl
    typed_lift (field_type a) t = refl
lift_step k limit (in_value r) t next e = value_lift_step default_ground in_value behind_default behind_default k (lift k) (λ r. refl) (λ i v. refl) r t next e
lift_step k limit s t next e = rises-step k (advance limit s t) (advance (k + limit) s t) next (own-rises k limit s t tt) e

lift_unexpected : (k limit : ℕ) (s : State) (t : Tok) → advance limit s t ≡ Err unexpected → advance (k + limit) (lift k s) t ≡ Err unexpected
lift_unexpected k limit (in_directives d) t e =
    directives_lift_unexpected owner_ground (λ o t. 0) limit in_directives after_directives after_directives k (lift k) (λ r. refl)
    (λ o ds t. rises-lifts k (after_directives o ds t) (after_directives o ds t) (after-keeps k o ds t)) d t e
lift_unexpected k limit (in_type y) t e =
    type_lift_unexpected typed_ground (λ y t. 0) in_type typed_state (after_type limit) typed_state (after_type (k + limit)) k (lift k) (λ r. refl) (λ y t. typed_lift y t)
    (λ y t x. rises-lifts k (after_type limit y t x) (after_type (k + limit) y t x) (after_type-rises k limit y t x)) y t e
  where
    typed_lift : (y : Typed) (t : Ty) → lift k (typed_state y t) ≡ typed_state y t
    typed_lift (input_type i) t = refl
    typed_lift (field_type a) t = refl
lift_unexpected k limit (in_value r) t e = value_lift_unexpected default_ground in_value behind_default behind_default k (lift k) (λ r. refl) (λ i v. refl) r t e
lift_unexpected k limit s t e = rises-unexpected k (advance limit s t) (advance (k + limit) s t) (own-rises k limit s t tt) e

abbrev Opened : (limit : ℕ) → State → Tok → Type 0
Opened limit s t = Stepped machine (1 + limit) (lift 1 s) t

opens : (limit : ℕ) (s : State) (t : Tok) → ((next : State) × (advance (1 + limit) (lift 1 s) t ≡ Ok next)) → Opened limit s t
opens limit s t h = record { next = h.0; stepped = h.1 }

lift_too_deep : (limit : ℕ) (s : State) (t : Tok) → advance limit s t ≡ Err too_deep → Opened limit s t
lift_too_deep limit (in_directives d) t e =
    opens limit (in_directives d) t (directives_lift_too_deep owner_ground (λ o t. 0) limit in_directives after_directives after_directives
    (λ o ds t. rises-opens 1 (after_directives o ds t) (after_directives o ds t) (after-keeps 1 o ds t)) d t e)
lift_too_deep limit (in_type y) t e =
    opens limit (in_type y) t (type_lift_too_deep typed_ground (λ y t. 0) in_type typed_state (after_type limit) typed_state (after_type (1 + limit))
    (λ y t x. rises-opens 1 (after_type limit y t x) (after_type (1 + limit) y t x) (after_type-rises 1 limit y t x)) y t e)
lift_too_deep limit (in_value r) t e =
    opens limit (in_value r) t (value_lift_too_deep default_ground in_value behind_default behind_default r t e)
lift_too_deep limit s t e = rises-not_deep 1 (advance limit s t) (advance (1 + limit) s t) _ (own-rises 1 limit s t tt) e

lift_so_far : (k : ℕ) (s : State) (ts : List Leveled) → so_far (lift k s) ts ≡ so_far s ts
lift_so_far k (in_directives d) ts = lift_directives_so_far owner_ground owner_laws k d ts
lift_so_far k (in_type y) ts = lift_type_so_far typed_ground typed_laws k y ts
lift_so_far k (in_value r) ts = lift_value_so_far default_ground default_laws k r ts
lift_so_far k s ts = refl

lift_level : (k : ℕ) (s : State) (t : Tok) → level_at (lift k s) t ≡ level_at s t
lift_level k (in_directives d) t = lift_directives_level owner_ground owner_laws (λ o t. 0) k (λ o t. refl) d t
lift_level k (in_type y) t = lift_type_level typed_ground typed_laws (λ y t. 0) k (λ y t. refl) y t
lift_level k (in_value r) t = lift_value_level default_ground default_laws k r t
lift_level k s t = refl

lift_seated : (k limit : ℕ) (s : State) → Seated limit s → Seated (k + limit) (lift k s)
lift_seated k limit (in_directives d) h = lift_directives_seated owner_ground owner_laws k limit d h
lift_seated k limit (in_type y) h = lift_type_seated typed_ground typed_laws k limit y h
lift_seated k limit (in_value r) h = lift_value_seated default_ground default_laws k limit r h
lift_seated k limit s h = h

lift_finish : (k : ℕ) (s : State) → finish (lift k s) ≡ finish s
lift_finish k (in_directives (further c ds o)) = refl
lift_finish k (in_directives (at_name c ds o)) = refl
lift_finish k (in_directives (applied a)) = refl
lift_finish k (in_directives (arguing r)) = refl
lift_finish k (in_type y) = refl
lift_finish k (in_value r) = refl
lift_finish k s = refl

finish_writes : (limit : ℕ) (s : State) (v : List Described) → Seated limit s → finish s ≡ Some v → Written neat machine s v
finish_writes limit s v h e =
    let w = finish-whole limit s v h e in record {
      tokens = ap (map (λ (p : Leveled). p.0)) w.spelled ∙ map-definitions (λ (p : Leveled). p.0) mark_level 1 v;
      levels = ap (map (λ (p : Leveled). p.1)) w.spelled ∙ map-definitions (λ (p : Leveled). p.1) mark_level 1 v;
      formed = λ f. (w.not_empty, neat_forms v w.formed (definitions_forms 1 v (written_shapes v w.formed) f));
    }

complete : (limit : ℕ) (v : List Described) → NeatSchema v → Shallow limit (schemas.levels v) → Finishes machine limit (head no_front) (schemas.tokens v) v
complete limit v f h =
    finishes machine limit (head no_front) (schemas.tokens v) v (reads_schemas limit v f.0 (neat_shapes v f.1) (definitions-fit limit 1 v h))

pub laws : Laws neat machine
laws = record {
  begins = λ limit. tt;
  empty = λ limit ts. refl;
  sound = sound;
  shallow = shallow;
  seated = keeps_seat;
  deep = deep;
  written = finish_writes;
  lift_start = λ k limit. refl;
  lift_step = lift_step;
  lift_unexpected = lift_unexpected;
  lift_too_deep = lift_too_deep;
  lift_so_far = lift_so_far;
  lift_level = lift_level;
  lift_seated = lift_seated;
  lift_finish = lift_finish;
  complete = complete;
  ends = λ limit s h. state-ends (1 + limit) (lift 1 s);
}
