-- A machine that reads a type alone, and what a text is by it.
use Rattle.std.proofs.Common.{◌≡◌, ◌≤◌, ◌<◌, ℕ, ◌+◌, false, List, [], ◌∷◌, map, length, Option, Some, Result, Ok, Err, IsUtf8, refl, sym, ap, subst, ◌∙◌, arith}
use Rattle.gql_lex.specs.Sources.{Source, ended, faulty, token, lex_from}
use Rattle.gql_lex.specs.Toks.{Tok}
use Rattle.gql_ast.specs.Ty.{Ty, named, list, non_null}
use Rattle.gql_syntax.specs.FirstFault.{Shallow}
use Rattle.gql_syntax.specs.Formed.{FormedType}
use Rattle.gql_syntax.specs.Machine.{whole, listed, Typing, want_type, typed, closing, type_step}
use Rattle.gql_syntax.specs.Parts.{One, type_there, type_read}
use Rattle.gql_syntax.specs.Run.{Halt, unexpected, too_deep, Stopped, run}
use Rattle.gql_syntax.specs.Spelling.{spell_type}
use Rattle.gql_syntax.specs.Texts.{nesting_limit}
use Rattle.gql_syntax.specs.TypeTexts.{types, IsTypeText}
use Rattle.gql_syntax.proofs.Forms.{forms, type_forms, type_shape}
use Rattle.gql_syntax.proofs.Laws.{Leveled, Machine, Laws, Written, Stepped, Finishes, CanEnd}
use Rattle.gql_syntax.proofs.Marks.{map-type}
use Rattle.gql_syntax.proofs.PartLaws.{EndsAs, type_read_ok, type_read_err}
use Rattle.gql_syntax.proofs.Reading.{found, only}
use Rattle.gql_syntax.proofs.Shapes.{ShapedType}
use Rattle.gql_syntax.proofs.Standing.{mark_level, Ground, GroundLaws, type_level, type_so_far, lift_type, SeatedType}
use Rattle.gql_syntax.proofs.TypeLaws.{type_sound, type_shallow, type_seated, type_deep, type_lift_step, type_lift_unexpected, type_lift_too_deep, lift_type_level, lift_type_so_far, lift_type_seated, typed_at, reads_type, type_end, type_end-form, type_ends_there, type_depth_from}

-- a type is read; it is there, and nothing may follow
data Alone : Type 0 where
  reading : Typing One → Alone
  over : Ty → Alone

abbrev hand : One → Ty → Alone
hand k t = over t

abbrev pass : One → Ty → Tok → Result Alone Halt
pass k t x = Err unexpected

abbrev step : Alone → Tok → Result Alone Halt
step (reading r) x = type_step reading hand pass r x
step (over t) x = Err unexpected

abbrev finish : Alone → Option Ty
finish (reading r) = type_there r
finish (over t) = Some t

abbrev ground : Ground One
ground = record { front = λ k ts. ts; constant = λ k. false; lift = λ n k. k; Seated = λ limit k. Unit {0} }

ground_laws : GroundLaws ground
ground_laws = record { lift_front = λ k x ts. refl; lift_constant = λ k x. refl; lift_seated = λ k limit x h. tt }

abbrev so_far : Alone → List Leveled → List Leveled
so_far (reading r) ts = type_so_far ground r ts
so_far (over t) ts = spell_type mark_level t 0 0 ts

abbrev level_at : Alone → Tok → ℕ
level_at (reading r) x = type_level (λ k x. 0) r x
level_at (over t) x = 0

abbrev lift : ℕ → Alone → Alone
lift k (reading r) = reading (lift_type ground k r)
lift k (over t) = over t

abbrev Seated : (limit : ℕ) → Alone → Type 0
Seated limit (reading r) = SeatedType ground limit r
Seated limit (over t) = ShapedType t

abbrev machine : Machine Alone Ty
machine = record {
  start = λ limit. reading (want_type limit (whole tt));
  step = λ limit. step;
  finish = finish;
  so_far = so_far;
  level_at = level_at;
  lift = lift;
  Seated = Seated;
}

-- ---- the laws

sound : (limit : ℕ) (s : Alone) (x : Tok) (next : Alone) → Seated limit s → step s x ≡ Ok next → (ts : List Leveled) → so_far next ts ≡ so_far s ((x, level_at s x) ∷ ts)
sound limit (reading r) x next h e =
    type_sound ground (λ k x. 0) reading hand pass limit so_far (λ r ts. refl) (λ k t ts. refl) (λ k t x h f. tt) r x next h e
sound limit (over t) x next h e = absurd cc

shallow : (limit : ℕ) (s : Alone) (x : Tok) (next : Alone) → Seated limit s → step s x ≡ Ok next → level_at s x ≤ limit
shallow limit (reading r) x next h e = type_shallow ground (λ k x. 0) reading hand pass limit (λ k t x h. tt) r x next h e
shallow limit (over t) x next h e = omega arith

keeps_seat : (limit : ℕ) (s : Alone) (x : Tok) (next : Alone) → Seated limit s → step s x ≡ Ok next → Seated limit next
keeps_seat limit (reading r) x next h e =
    type_seated ground (λ k x. 0) reading hand pass limit (Seated limit) (λ r h. h) (λ k t h f. f) (λ k t x h f. tt) r x next h e
keeps_seat limit (over t) x next h e = absurd cc

deep : (limit : ℕ) (s : Alone) (x : Tok) → Seated limit s → step s x ≡ Err too_deep → limit < level_at s x
deep limit (reading r) x h e = type_deep ground (λ k x. 0) reading hand pass limit (λ k t x h. tt) r x h e
deep limit (over t) x h e = absurd cc

written_type : (s : Alone) (t : Ty) → ShapedType t → so_far s [] ≡ spell_type mark_level t 0 0 [] → Written types machine s t
written_type s t h e = record {
  tokens = ap (λ ls. map (λ (p : Leveled). p.0) ls) e ∙ map-type (λ (p : Leveled). p.0) mark_level t 0 0 [];
  levels = ap (λ ls. map (λ (p : Leveled). p.1) ls) e ∙ map-type (λ (p : Leveled). p.1) mark_level t 0 0 [];
  formed = λ f. (type_forms t 0 0 h [] f).0;
}

finish_writes : (limit : ℕ) (s : Alone) (v : Ty) → Seated limit s → finish s ≡ Some v → Written types machine s v
finish_writes limit (over t) v h e = let same : t ≡ v = cc in subst (λ v. Written types machine (over t) v) same (written_type (over t) t h refl)
finish_writes limit (reading (typed t (whole k))) v h e =
    let same : t ≡ v = cc in
    subst (λ v. Written types machine (reading (typed t (whole k))) v) same (written_type (reading (typed t (whole k))) t h.1 refl)
finish_writes limit (reading (want_type room g)) v h e = absurd cc
finish_writes limit (reading (typed t (listed g))) v h e = absurd cc
finish_writes limit (reading (closing t g)) v h e = absurd cc

lift_step : (k limit : ℕ) (s : Alone) (x : Tok) (next : Alone) → step s x ≡ Ok next → step (lift k s) x ≡ Ok (lift k next)
lift_step k limit (reading r) x next e =
    type_lift_step ground (λ k x. 0) reading hand pass hand pass k (lift k) (λ r. refl) (λ y t. refl) (λ y t x. refl) r x next e
lift_step k limit (over t) x next e = absurd cc

lift_unexpected : (k limit : ℕ) (s : Alone) (x : Tok) → step s x ≡ Err unexpected → step (lift k s) x ≡ Err unexpected
lift_unexpected k limit (reading r) x e =
    type_lift_unexpected ground (λ k x. 0) reading hand pass hand pass k (lift k) (λ r. refl) (λ y t. refl) (λ y t x. refl) r x e
lift_unexpected k limit (over t) x e = refl

lift_too_deep : (limit : ℕ) (s : Alone) (x : Tok) → step s x ≡ Err too_deep → Stepped machine (1 + limit) (lift 1 s) x
lift_too_deep limit (reading r) x e =
    let o = type_lift_too_deep ground (λ k x. 0) reading hand pass hand pass (λ y t x. tt) r x e in
    record { next = o.0; stepped = o.1 }
lift_too_deep limit (over t) x e = absurd cc

lift_so_far : (k : ℕ) (s : Alone) (ts : List Leveled) → so_far (lift k s) ts ≡ so_far s ts
lift_so_far k (reading r) ts = lift_type_so_far ground ground_laws k r ts
lift_so_far k (over t) ts = refl

lift_level : (k : ℕ) (s : Alone) (x : Tok) → level_at (lift k s) x ≡ level_at s x
lift_level k (reading r) x = lift_type_level ground ground_laws (λ k x. 0) k (λ y x. refl) r x
lift_level k (over t) x = refl

lift_seated : (k limit : ℕ) (s : Alone) → Seated limit s → Seated (k + limit) (lift k s)
lift_seated k limit (reading r) h = lift_type_seated ground ground_laws k limit r h
lift_seated k limit (over t) h = h

lift_finish : (k : ℕ) (s : Alone) → finish (lift k s) ≡ finish s
lift_finish k (reading (want_type room h)) = refl
lift_finish k (reading (typed t (whole y))) = refl
lift_finish k (reading (typed t (listed h))) = refl
lift_finish k (reading (closing t h)) = refl
lift_finish k (over t) = refl

typed_there : (t : Ty) → finish (typed_at reading hand pass step (λ r x. refl) t (whole tt)) ≡ Some t
typed_there (named n) = refl
typed_there (list t) = refl
typed_there (non_null t) = refl

complete : (limit : ℕ) (t : Ty) → FormedType t → Shallow limit (types.levels t) → Finishes machine limit (machine.start limit) (types.tokens t) t
complete limit t f h =
    let d = (type_depth_from t limit 0 0 [] (omega arith) h).0 in
    record {
      last = typed_at reading hand pass step (λ r x. refl) t (whole tt);
      reached = reads_type reading hand pass step (λ r x. refl) t limit (whole tt) 0 0 [] (type_shape t f) (omega (arith, d));
      finished = typed_there t;
    }

ends : (limit : ℕ) (s : Alone) → CanEnd machine limit s
ends limit (reading r) =
    let e = type_ends_there reading hand pass step (λ r x. refl) r in
    record {
      behind = type_end r;
      forms = type_end-form r;
      tree = e.0;
      finishes = record { last = reading (typed e.0 (whole tt)); reached = e.1; finished = refl };
    }
ends limit (over t) = record { behind = []; forms = tt; tree = t; finishes = record { last = over t; reached = refl; finished = refl } }

laws : Laws types machine
laws = record {
  begins = λ limit. (omega arith, tt);
  empty = λ limit ts. refl;
  sound = sound;
  shallow = shallow;
  seated = keeps_seat;
  deep = deep;
  written = finish_writes;
  lift_start = λ k limit. refl;
  lift_step = lift_step;
  lift_unexpected = lift_unexpected;
  lift_too_deep = lift_too_deep;
  lift_so_far = lift_so_far;
  lift_level = lift_level;
  lift_seated = lift_seated;
  lift_finish = lift_finish;
  complete = complete;
  ends = λ limit s h. ends (1 + limit) (lift 1 s);
}

-- ---- a text that is a type

ends_as : (r : Typing One) → EndsAs (λ t. finish (over t)) (type_there r) (finish (reading r))
ends_as (want_type room h) = refl
ends_as (typed t (whole k)) = refl
ends_as (typed t (listed h)) = refl
ends_as (closing t h) = refl

abbrev read_whole : List ℕ → Result Ty Stopped
read_whole text = run step finish (length text) (machine.start nesting_limit) (lex_from 0 text)

goes_behind : (text : List ℕ) (t : Ty) (rest : Source) → type_read nesting_limit (length text) (lex_from 0 text) ≡ Ok (t, rest)
    → read_whole text ≡ run step finish (length text) (over t) rest
goes_behind text t rest e = type_read_ok reading hand pass step finish (λ r x. refl) (λ k t x. refl) ends_as tt nesting_limit (length text) (lex_from 0 text) t rest e

pub type_found : (text : List ℕ) (t : Ty) (rest : Source) → IsUtf8 text → type_read nesting_limit (length text) (lex_from 0 text) ≡ Ok (t, rest) → rest ≡ ended
    → IsTypeText text t
type_found text t rest u e n =
    let whole_read : read_whole text ≡ Ok t = goes_behind text t rest e ∙ ap (λ r. run step finish (length text) (over t) r) n in
    let f = found types machine laws nesting_limit (length text) (lex_from 0 text) t (forms text u) whole_read in
    record { tokens = f.0; formed = f.1; shallow = f.2 }

type_only : (text : List ℕ) (t : Ty) → IsTypeText text t → read_whole text ≡ Ok t
type_only text t i = only types machine laws nesting_limit (length text) (lex_from 0 text) t i.formed i.shallow i.tokens

pub more_follows : (text : List ℕ) (t : Ty) (rest : Source) → type_read nesting_limit (length text) (lex_from 0 text) ≡ Ok (t, rest) → (rest ≡ ended → ⊥)
    → (u : Ty) → IsTypeText text u → ⊥
more_follows text t ended e n u i = n refl
more_follows text t (faulty code at) e n u i =
    let both : Ok u ≡ run step finish (length text) (over t) (faulty code at) = sym (type_only text u i) ∙ goes_behind text t (faulty code at) e in cc
more_follows text t (token p rest) e n u i =
    let both : Ok u ≡ run step finish (length text) (over t) (token p rest) = sym (type_only text u i) ∙ goes_behind text t (token p rest) e in cc

pub none_read : (text : List ℕ) (f : Stopped) → type_read nesting_limit (length text) (lex_from 0 text) ≡ Err f → (u : Ty) → IsTypeText text u → ⊥
none_read text f e u i =
    let fails : read_whole text ≡ Err f = type_read_err reading hand pass step finish (λ r x. refl) (λ k t x. refl) ends_as tt nesting_limit (length text) (lex_from 0 text) f e in
    let both : Ok u ≡ Err f = sym (type_only text u i) ∙ fails in cc

pub one_type : (text : List ℕ) (t u : Ty) → IsTypeText text t → IsTypeText text u → t ≡ u
one_type text t u i j = let both : Ok t ≡ Ok u = sym (type_only text t i) ∙ type_only text u j in cc
