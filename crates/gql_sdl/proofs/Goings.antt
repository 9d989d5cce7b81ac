-- Where the machine of schemas goes from a state, by what lies ahead.
use Rattle.std.proofs.Common.{◌≡◌, ◌≢◌, ℕ, Bool, true, false, cond, List, length, Option, Some, None, option_map, Result, Ok, Err, refl, sym, ap, subst, ◌∙◌}
use Rattle.gql_syntax.specs.gql_lex.Sources.{Source, ended, faulty, token}
use Rattle.gql_syntax.specs.gql_lex.Toks as tok
use Rattle.gql_syntax.specs.gql_lex.Toks.{Tok, punctuator_of, tok_of_piece}
use Rattle.gql_syntax.specs.gql_ast.Ty.{Ty}
use Rattle.gql_syntax.specs.gql_ast.Value.{Val}
use Rattle.gql_syntax.specs.gql_ast.declared.directive.Directive.{Directive}
use Rattle.gql_syntax.proofs.PartLaws.{EndsAs, directives_read_ok, directives_read_err, type_read_ok, type_read_err, value_read_ok, value_read_err}
use Rattle.gql_syntax.proofs.Tokens.{comes_at, comes_word, not_at}
use Rattle.gql_syntax.proofs.Standing.{directives_on, type_on}
use Rattle.gql_syntax.specs.Answers.{Misses, wrong_at, Tells, default_read, as_default}
use Rattle.gql_syntax.specs.Machine.{Directing, further, at_name, applied, arguing, Typing, want, outer, want_type, whole, listed, typed, closing}
use Rattle.gql_syntax.specs.Nexts.{behind, is_at, next_is, next_word, Comes, stopped_at}
use Rattle.gql_syntax.specs.Parts.{directives_there, directives_read, type_there, type_read, value_read}
use Rattle.gql_syntax.specs.Places.{Ahead}
use Rattle.gql_syntax.specs.Run.{unexpected, Stopped, run_from, stamp}
use Rattle.gql_syntax.specs.Texts.{nesting_limit}
use Rattle.gql_syntax.specs.declared.fault.Fault.{Fault}
use Rattle.gql_syntax.specs.declared.fault.Fault.TheVariants.{Wrong, NoMemory}
use Rattle.gql_syntax.specs.Built.{value_tree}
use Rattle.gql_sdl.specs.Machine.{Owner, on_input, TypedInput, Typed, input_type, field_type, State, input_default, in_directives, in_type, in_value, directives_of, after_directives, after_type, typed_state, behind_default, advance, finish}
use Rattle.gql_sdl.specs.Reads.{run_on, Fails}

module _ (size : ℕ) where
  pub on-token : (s next : State) (ahead : Source) (t : Tok) → Comes ahead t → advance nesting_limit s t ≡ Ok next → run_on size s ahead ≡ run_on size next (behind ahead)
  on-token s next ended t c e = absurd c
  on-token s next (faulty code at) t c e = absurd c
  on-token s next (token p rest) t c e =
      ap (λ t. run_from (advance nesting_limit) finish size (stamp p.start (advance nesting_limit s t)) rest) c
      ∙ ap (λ r. run_from (advance nesting_limit) finish size (stamp p.start r) rest) e

  pub on-name : (s next : State) (ahead : Source) (n : List ℕ) → next_word ahead ≡ Some n → advance nesting_limit s (tok.name n) ≡ Ok next
      → run_on size s ahead ≡ run_on size next (behind ahead)
  on-name s next ahead n w e = on-token s next ahead (tok.name n) (comes_word n ahead w) e

  pub on-sign : (c : ℕ) (s next : State) (ahead : Source) → next_is c ahead ≡ true → advance nesting_limit s (punctuator_of c) ≡ Ok next
      → run_on size s ahead ≡ run_on size next (behind ahead)
  on-sign c s next ahead w e = on-token s next ahead (punctuator_of c) (comes_at c ahead w) e

  pub stops : (s : State) (ahead : Source) → finish s ≡ None → ((t : Tok) → Comes ahead t → advance nesting_limit s t ≡ Err unexpected)
      → run_on size s ahead ≡ Err (stopped_at size ahead)
  stops s ended f h = rw f refl
  stops s (faulty code at) f h = refl
  stops s (token p rest) f h = ap (λ r. run_from (advance nesting_limit) finish size (stamp p.start r) rest) (h (tok_of_piece p) refl)

  -- where the text does not end, it may end for the state
  pub stops-open : (s : State) (ahead : Source) → ahead ≢ ended → ((t : Tok) → Comes ahead t → advance nesting_limit s t ≡ Err unexpected)
      → run_on size s ahead ≡ Err (stopped_at size ahead)
  stops-open s ended f h = absurd (f refl)
  stops-open s (faulty code at) f h = refl
  stops-open s (token p rest) f h = ap (λ r. run_from (advance nesting_limit) finish size (stamp p.start r) rest) (h (tok_of_piece p) refl)

  pub alike : (s z : State) (ahead : Source) → finish s ≡ finish z → ((t : Tok) → Comes ahead t → advance nesting_limit s t ≡ advance nesting_limit z t)
      → run_on size s ahead ≡ run_on size z ahead
  alike s z ended f h = rw f refl
  alike s z (faulty code at) f h = refl
  alike s z (token p rest) f h = ap (λ r. run_from (advance nesting_limit) finish size (stamp p.start r) rest) (h (tok_of_piece p) refl)

  -- ---- parts

  passes : (y : Typed) (t : Ty) (x : Tok) → after_type nesting_limit y t x ≡ advance nesting_limit (typed_state y t) x
  passes (input_type i) t x = refl
  passes (field_type a) t x = refl

  open_type_ends : (y : Typed) (t : Ty) → None ≡ finish (typed_state y t)
  open_type_ends (input_type i) t = refl
  open_type_ends (field_type a) t = refl

  type_end_as : (r : Typing Typed) → EndsAs (λ t. finish (typed_state (type_on r) t)) (type_there r) (finish (in_type r))
  type_end_as (want_type room h) = refl
  type_end_as (typed t (whole y)) = open_type_ends y t
  type_end_as (typed t (listed h)) = refl
  type_end_as (closing t h) = refl

  pub on-type : (y : Typed) (ahead rest : Source) (t : Ty) → type_read nesting_limit size ahead ≡ Ok (t, rest)
      → run_on size (in_type (want_type nesting_limit (whole y))) ahead ≡ run_on size (typed_state y t) rest
  on-type y ahead rest t e =
      type_read_ok in_type typed_state (after_type nesting_limit) (advance nesting_limit) finish (λ r x. refl) passes type_end_as y nesting_limit size ahead t rest e

  pub no-type : (y : Typed) (ahead : Source) (f : Stopped) → type_read nesting_limit size ahead ≡ Err f
      → run_on size (in_type (want_type nesting_limit (whole y))) ahead ≡ Err f
  no-type y ahead f e =
      type_read_err in_type typed_state (after_type nesting_limit) (advance nesting_limit) finish (λ r x. refl) passes type_end_as y nesting_limit size ahead f e

  directives_end_as : (c : Bool) (r : Directing Owner) → EndsAs (λ ds. finish (in_directives (further c ds (directives_on r)))) (directives_there r) (finish (in_directives r))
  directives_end_as c (further b ds o) = refl
  directives_end_as c (at_name b ds o) = refl
  directives_end_as c (applied a) = refl
  directives_end_as c (arguing r) = refl

  pub on-directives : (o : Owner) (ahead rest : Source) (ds : List Directive) → directives_read nesting_limit true size ahead ≡ Ok (ds, rest)
      → run_on size (directives_of o) ahead ≡ run_on size (in_directives (further true ds o)) rest
  on-directives o ahead rest ds e =
      directives_read_ok nesting_limit in_directives after_directives (advance nesting_limit) finish (λ r t. refl) directives_end_as o true size ahead ds rest e

  pub no-directives : (o : Owner) (ahead : Source) (f : Stopped) → directives_read nesting_limit true size ahead ≡ Err f → run_on size (directives_of o) ahead ≡ Err f
  no-directives o ahead f e =
      directives_read_err nesting_limit in_directives after_directives (advance nesting_limit) finish (λ r t. refl) directives_end_as o true size ahead f e

  -- ---- the default of an input

  default-skips : (i : TypedInput) (ahead : Source) → next_is 61 ahead ≡ false → run_on size (input_default i) ahead ≡ run_on size (directives_of (on_input i None)) ahead
  default-skips i ahead n = alike (input_default i) (directives_of (on_input i None)) ahead refl (λ t c. same t (not_at 61 ahead t c n))
    where
      same : (t : Tok) → is_at 61 t ≡ false → advance nesting_limit (input_default i) t ≡ advance nesting_limit (directives_of (on_input i None)) t
      same tok.equals e = absurd (cc)
      same t e = refl

  default-cases : (i : TypedInput) (ahead : Source) (b : Bool) → next_is 61 ahead ≡ b → (v : Option Val) (rest : Source)
      → cond b (as_default (value_read true nesting_limit size (behind ahead))) (Ok (None, ahead)) ≡ Ok (v, rest)
      → run_on size (input_default i) ahead ≡ run_on size (directives_of (on_input i (option_map value_tree v))) rest
  default-cases i ahead false n v rest e =
      let same : (None, ahead) ≡ (v, rest) = cc e in
      default-skips i ahead n ∙ ap (λ (x : Option Val × Source). run_on size (directives_of (on_input i (option_map value_tree x.0))) x.1) same
  default-cases i ahead true n v rest e = on_value (value_read true nesting_limit size (behind ahead)) refl e
    where
      on_value : (r : Result (Val × Source) Stopped) → value_read true nesting_limit size (behind ahead) ≡ r → as_default r ≡ Ok (v, rest)
          → run_on size (input_default i) ahead ≡ run_on size (directives_of (on_input i (option_map value_tree v))) rest
      on_value (Ok x) d e =
          let same : (Some x.0, x.1) ≡ (v, rest) = cc e in
          on-sign 61 (input_default i) (in_value (want true nesting_limit (outer i))) ahead n refl
          ∙ value_read_ok in_value behind_default (advance nesting_limit) finish (λ r t. refl) (λ r. refl) i true nesting_limit size (behind ahead) x.0 x.1 d
          ∙ ap (λ (x : Option Val × Source). run_on size (directives_of (on_input i (option_map value_tree x.0))) x.1) same
      on_value (Err f) d e = absurd (cc)

  pub on-default : (i : TypedInput) (ahead rest : Source) (v : Option Val) → default_read size ahead ≡ Ok (v, rest)
      → run_on size (input_default i) ahead ≡ run_on size (directives_of (on_input i (option_map value_tree v))) rest
  on-default i ahead rest v e = default-cases i ahead (next_is 61 ahead) refl v rest e

  no-default-cases : (i : TypedInput) (ahead : Source) (b : Bool) → next_is 61 ahead ≡ b → (f : Stopped)
      → cond b (as_default (value_read true nesting_limit size (behind ahead))) (Ok (None, ahead)) ≡ Err f → run_on size (input_default i) ahead ≡ Err f
  no-default-cases i ahead false n f e = absurd (cc)
  no-default-cases i ahead true n f e = on_value (value_read true nesting_limit size (behind ahead)) refl e
    where
      on_value : (r : Result (Val × Source) Stopped) → value_read true nesting_limit size (behind ahead) ≡ r → as_default r ≡ Err f → run_on size (input_default i) ahead ≡ Err f
      on_value (Ok x) d e = absurd (cc)
      on_value (Err g) d e =
          let same : g ≡ f = cc in
          on-sign 61 (input_default i) (in_value (want true nesting_limit (outer i))) ahead n refl
          ∙ value_read_err in_value behind_default (advance nesting_limit) finish (λ r t. refl) (λ r. refl) i true nesting_limit size (behind ahead) g d
          ∙ ap (λ g. Err g) same

  pub no-default : (i : TypedInput) (ahead : Source) (f : Stopped) → default_read size ahead ≡ Err f → run_on size (input_default i) ahead ≡ Err f
  no-default i ahead f e = no-default-cases i ahead (next_is 61 ahead) refl f e

-- ---- faults

-- nothing that lies ahead may stand there
pub fails-stopped : {K : Type 0} (May : K → Source → Type 0) (from : K → State) (a : Ahead)
    → ((k : K) → May k a.source → (finish (from k) ≡ None) × ((t : Tok) → Comes a.source t → advance nesting_limit (from k) t ≡ Err unexpected))
    → Fails May from a (wrong_at (stopped_at (length a.text) a.source))
fails-stopped May from a h =
    λ k size e m. stops size (from k) a.source (h k m).0 (h k m).1 ∙ ap (λ n. Err (stopped_at n a.source)) e

pub fails-missed : {K : Type 0} (May : K → Source → Type 0) (from : K → State) (a : Ahead) (missing : Type 0) (f : Fault) → Misses f missing (stopped_at (length a.text) a.source)
    → ((k : K) → May k a.source → missing → (finish (from k) ≡ None) × ((t : Tok) → Comes a.source t → advance nesting_limit (from k) t ≡ Err unexpected))
    → Fails May from a f
fails-missed May from a missing (Wrong code at) m h =
    λ k size e may. stops size (from k) a.source (h k may m.0).0 (h k may m.0).1 ∙ ap (λ n. Err (stopped_at n a.source)) e ∙ ap (λ s. Err s) m.1
fails-missed May from a missing NoMemory m h = tt

-- what fails behind fails before
pub fails-behind : {K L : Type 0} (May : K → Source → Type 0) (from : K → State) (Then : L → Source → Type 0) (from_then : L → State) (old mid : Ahead) (under : K → L)
    → mid.text ≡ old.text
    → ((k : K) (size : ℕ) → size ≡ length old.text → May k old.source → run_on size (from k) old.source ≡ run_on size (from_then (under k)) mid.source)
    → ((k : K) → May k old.source → Then (under k) mid.source) → (f : Fault) → Fails Then from_then mid f → Fails May from old f
fails-behind May from Then from_then old mid under t g m (Wrong code at) h =
    λ k size e may. g k size e may ∙ h (under k) size (e ∙ ap (λ (s : List ℕ). length s) (sym t)) (m k may)
fails-behind May from Then from_then old mid under t g m NoMemory h = tt

pub fails-type : (a : Ahead) (f : Fault) → Tells f (type_read nesting_limit (length a.text) a.source)
    → Fails (λ (y : Typed) (s : Source). Unit {0}) (λ y. in_type (want_type nesting_limit (whole y))) a f
fails-type a (Wrong code at) h = λ y size e m. subst (λ n. run_on n (in_type (want_type nesting_limit (whole y))) a.source ≡ Err (code, at)) (sym e) (no-type (length a.text) y a.source (code, at) h)
fails-type a NoMemory h = tt

pub fails-default : (a : Ahead) (f : Fault) → Tells f (default_read (length a.text) a.source) → Fails (λ (i : TypedInput) (s : Source). Unit {0}) (λ i. input_default i) a f
fails-default a (Wrong code at) h = λ i size e m. subst (λ n. run_on n (input_default i) a.source ≡ Err (code, at)) (sym e) (no-default (length a.text) i a.source (code, at) h)
fails-default a NoMemory h = tt

pub fails-directives : (a : Ahead) (f : Fault) → Tells f (directives_read nesting_limit true (length a.text) a.source)
    → Fails (λ (o : Owner) (s : Source). Unit {0}) (λ o. directives_of o) a f
fails-directives a (Wrong code at) h = λ o size e m. subst (λ n. run_on n (directives_of o) a.source ≡ Err (code, at)) (sym e) (no-directives (length a.text) o a.source (code, at) h)
fails-directives a NoMemory h = tt
