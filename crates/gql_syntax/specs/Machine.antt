-- The machine's part for values, arguments, directives and types: what may come next, and all that is open, with the trees
-- read so far. K is what a value or a type is handed to, A what arguments stand on, D what directives stand on. `room` counts how
-- many more lists and objects, or list types, may be opened there; in a constant no variable may stand.
use Rattle.std.specs.Prelude.{ℕ, zero, suc, Bool, true, false, cond, bytes_eq, List, [], ◌∷◌, ◌++◌, Result, Ok, Err}
use Rattle.gql_lex.specs.Toks as tok
use Rattle.gql_lex.specs.Toks.{Tok}
use Rattle.gql_ast.specs.Value.{Val, Vals, Members, variable, int, text, truth, null, enum, list, object, no_vals, val, no_members, member}
use Rattle.gql_ast.specs.Ty as ty
use Rattle.gql_ast.specs.Ty.{Ty}
use Rattle.gql_ast.specs.declared.directive.Directive.{Directive}
use Rattle.gql_syntax.specs.Run.{Halt, unexpected, too_deep}
use Rattle.gql_syntax.specs.Words.{true_word, false_word, null_word}

-- ---- values

-- the first values, or members, and one more behind them
abbrev pub vals_then : Vals → Val → Vals
vals_then no_vals w = val w no_vals
vals_then (val v vs) w = val v (vals_then vs w)

abbrev pub members_then : Members → List ℕ → Val → Members
members_then no_members n w = member n w no_members
members_then (member m v ms) n w = member m v (members_then ms n w)

-- what a value stands in
pub data Place (K : Type 0) : Type 0 where
  outer : K → Place K
  item : (constant : Bool) → (room : ℕ) → Vals → Place K → Place K
  of_member : (constant : Bool) → (room : ℕ) → Members → List ℕ → Place K → Place K

-- a value is wanted; its name, behind `$`; an item or `]`; a name or `}`; the colon behind a name
pub data Reading (K : Type 0) : Type 0 where
  want : (constant : Bool) → (room : ℕ) → Place K → Reading K
  dollar : Place K → Reading K
  items : (constant : Bool) → (room : ℕ) → Vals → Place K → Reading K
  members : (constant : Bool) → (room : ℕ) → Members → Place K → Reading K
  named : (constant : Bool) → (room : ℕ) → Members → List ℕ → Place K → Reading K

abbrev pub word_value : List ℕ → Val
word_value n =
    cond (bytes_eq n true_word) (truth true) (cond (bytes_eq n false_word) (truth false) (cond (bytes_eq n null_word) null (enum n)))

-- what reads values, as a part of a machine of the states S
module _ {S K : Type 0} (into : Reading K → S) (hand : K → Val → S) where
  -- a value is there
  abbrev pub put : Val → Place K → S
  put v (outer k) = hand k v
  put v (item c room vs p) = into (items c room (vals_then vs v) p)
  put v (of_member c room ms n p) = into (members c room (members_then ms n v) p)

  abbrev pub open_list : (constant : Bool) → (room : ℕ) → Place K → Result S Halt
  open_list c zero p = Err too_deep
  open_list c (suc room) p = Ok (into (items c room no_vals p))

  abbrev pub open_object : (constant : Bool) → (room : ℕ) → Place K → Result S Halt
  open_object c zero p = Err too_deep
  open_object c (suc room) p = Ok (into (members c room no_members p))

  -- a value begins
  abbrev pub begin : (constant : Bool) → (room : ℕ) → Place K → Tok → Result S Halt
  begin c room p tok.dollar = cond c (Err unexpected) (Ok (into (dollar p)))
  begin c room p (tok.int n) = Ok (put (int n) p)
  begin c room p (tok.text t) = Ok (put (text t) p)
  begin c room p (tok.name n) = Ok (put (word_value n) p)
  begin c room p tok.open_bracket = open_list c room p
  begin c room p tok.open_brace = open_object c room p
  begin c room p t = Err unexpected

  abbrev pub value_step : Reading K → Tok → Result S Halt
  value_step (want c room p) t = begin c room p t
  value_step (dollar p) (tok.name n) = Ok (put (variable n) p)
  value_step (dollar p) t = Err unexpected
  value_step (items c room vs p) tok.close_bracket = Ok (put (list vs) p)
  value_step (items c room vs p) t = begin c room (item c room vs p) t
  value_step (members c room ms p) (tok.name n) = Ok (into (named c room ms n p))
  value_step (members c room ms p) tok.close_brace = Ok (put (object ms) p)
  value_step (members c room ms p) t = Err unexpected
  value_step (named c room ms n p) tok.colon = Ok (into (want c room (of_member c room ms n p)))
  value_step (named c room ms n p) t = Err unexpected

-- ---- arguments, behind their `(`

-- an argument's value goes behind those before it, on what the arguments stand on
pub record Given (A : Type 0) : Type 0 where
  pub constant : Bool
  pub before : List (List ℕ × Val)
  pub name : List ℕ
  pub on : A

-- the first name; the colon behind a name; in a value; a further name or `)`
pub data Arguing (A : Type 0) : Type 0 where
  first : (constant : Bool) → A → Arguing A
  called : Given A → Arguing A
  inside : Reading (Given A) → Arguing A
  more : (constant : Bool) → List (List ℕ × Val) → A → Arguing A

module _ {S A : Type 0} (limit : ℕ) (into : Arguing A → S) (hand : A → List (List ℕ × Val) → S) where
  abbrev pub then_argument : Given A → Val → S
  then_argument g v = into (more g.constant (g.before ++ (g.name, v) ∷ []) g.on)

  abbrev pub arguments_step : Arguing A → Tok → Result S Halt
  arguments_step (first c a) (tok.name n) = Ok (into (called (record { constant = c; before = []; name = n; on = a })))
  arguments_step (first c a) t = Err unexpected
  arguments_step (called g) tok.colon = Ok (into (inside (want g.constant limit (outer g))))
  arguments_step (called g) t = Err unexpected
  arguments_step (inside r) t = value_step (λ r. into (inside r)) then_argument r t
  arguments_step (more c xs a) (tok.name n) = Ok (into (called (record { constant = c; before = xs; name = n; on = a })))
  arguments_step (more c xs a) tok.close_paren = Ok (hand a xs)
  arguments_step (more c xs a) t = Err unexpected

-- ---- directives: they end where another token than `@` follows, and that token is passed on

-- a directive, behind those before it
pub record Applied (D : Type 0) : Type 0 where
  pub constant : Bool
  pub before : List Directive
  pub name : List ℕ
  pub on : D

-- `@` may follow; the name behind `@`; `(` may follow; in the arguments
pub data Directing (D : Type 0) : Type 0 where
  further : (constant : Bool) → List Directive → D → Directing D
  at_name : (constant : Bool) → List Directive → D → Directing D
  applied : Applied D → Directing D
  arguing : Arguing (Applied D) → Directing D

abbrev pub with_arguments : {D : Type 0} → Applied D → List (List ℕ × Val) → List Directive
with_arguments d xs = d.before ++ record { name = d.name; arguments = xs } ∷ []

module _ {S D : Type 0} (limit : ℕ) (into : Directing D → S) (pass : D → List Directive → Tok → Result S Halt) where
  abbrev pub next_directive : (constant : Bool) → List Directive → D → Tok → Result S Halt
  next_directive c ds d tok.at_sign = Ok (into (at_name c ds d))
  next_directive c ds d t = pass d ds t

  abbrev pub directives_step : Directing D → Tok → Result S Halt
  directives_step (further c ds d) t = next_directive c ds d t
  directives_step (at_name c ds d) (tok.name n) = Ok (into (applied (record { constant = c; before = ds; name = n; on = d })))
  directives_step (at_name c ds d) t = Err unexpected
  directives_step (applied a) tok.open_paren = Ok (into (arguing (first a.constant a)))
  directives_step (applied a) t = next_directive a.constant (with_arguments a []) a.on t
  directives_step (arguing r) t =
      arguments_step limit (λ r. into (arguing r)) (λ a xs. into (further a.constant (with_arguments a xs) a.on)) r t

-- ---- types: one without `!` ends where another token follows, and that token is passed on

-- what a type stands in: itself, or a list type
pub data Holder (K : Type 0) : Type 0 where
  whole : K → Holder K
  listed : Holder K → Holder K

-- a type is wanted; `!` may follow; `]` is wanted
pub data Typing (K : Type 0) : Type 0 where
  want_type : (room : ℕ) → Holder K → Typing K
  typed : Ty → Holder K → Typing K
  closing : Ty → Holder K → Typing K

-- `hand` is where a type has been read, and `pass` takes the token that follows there
module _ {S K : Type 0} (into : Typing K → S) (hand : K → Ty → S) (pass : K → Ty → Tok → Result S Halt) where
  abbrev pub open_type : (room : ℕ) → Holder K → Result S Halt
  open_type zero h = Err too_deep
  open_type (suc room) h = Ok (into (want_type room (listed h)))

  -- a type that is never null is there
  abbrev pub put_type : Ty → Holder K → S
  put_type t (whole k) = hand k t
  put_type t (listed h) = into (closing t h)

  abbrev pub close_type : Ty → Holder K → Tok → Result S Halt
  close_type t h tok.close_bracket = Ok (into (typed (ty.list t) h))
  close_type t h x = Err unexpected

  abbrev pub end_type : Ty → Holder K → Tok → Result S Halt
  end_type t (whole k) x = pass k t x
  end_type t (listed h) x = close_type t h x

  abbrev pub type_step : Typing K → Tok → Result S Halt
  type_step (want_type room h) (tok.name n) = Ok (into (typed (ty.named n) h))
  type_step (want_type room h) tok.open_bracket = open_type room h
  type_step (want_type room h) x = Err unexpected
  type_step (typed t h) tok.bang = Ok (put_type (ty.non_null t) h)
  type_step (typed t h) x = end_type t h x
  type_step (closing t h) x = close_type t h x
