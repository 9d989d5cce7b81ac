-- Where the parts of a machine stand: the tokens that were read to come there, the numbers of what tokens open there, what holds
-- of such a state, and the same state of a machine whose limit is greater.
use Rattle.std.proofs.Common.{◌≡◌, ℕ, ◌+◌, Bool, false, List, [], ◌∷◌, Result, Ok, Err}
use Rattle.gql_lex.specs.Toks as tok
use Rattle.gql_lex.specs.Toks.{Tok}
use Rattle.gql_ast.specs.Value.{Val, members_of}
use Rattle.gql_syntax.proofs.Shapes.{ShapedValues, ShapedMembers, ShapedArguments, ShapedDirectives, ShapedType}
use Rattle.gql_syntax.specs.Formed.{MayBeNull}
use Rattle.gql_syntax.specs.Machine.{Place, outer, item, of_member, Reading, want, dollar, items, members, named, Given, Arguing, first, called, inside, more, Applied, Directing, further, at_name, applied, arguing, Holder, whole, listed, Typing, want_type, typed, closing}
use Rattle.gql_syntax.specs.Run.{Halt, unexpected, too_deep}
use Rattle.gql_syntax.specs.Spelling.{Mark, spell_values, spell_members, spell_directives, spell_type}
use Rattle.gql_syntax.proofs.Laws.{Leveled}

-- the marks that keep a token with the number of what it opens, the token alone, and the number alone
abbrev pub mark_level : Mark Leveled
mark_level t level nodes = (t, level)

abbrev pub token_mark : Mark Tok
token_mark t level nodes = t

abbrev pub level_mark : Mark ℕ
level_mark t level nodes = level

-- what a value, arguments, directives or a type stand on: the tokens before them, and then those that are given; whether they are
-- constants; the same of a machine whose limit is greater; and what holds there
pub record Ground (K : Type 0) : Type 1 where
  pub front : K → List Leveled → List Leveled
  pub constant : K → Bool
  pub lift : ℕ → K → K
  pub Seated : (limit : ℕ) → K → Type 0

-- what holds of a ground
pub record GroundLaws {K : Type 0} (G : Ground K) : Type 0 where
  pub lift_front : (k : ℕ) (x : K) (ts : List Leveled) → G.front (G.lift k x) ts ≡ G.front x ts
  pub lift_constant : (k : ℕ) (x : K) → G.constant (G.lift k x) ≡ G.constant x
  pub lift_seated : (k limit : ℕ) (x : K) → G.Seated limit x → G.Seated (k + limit) (G.lift k x)

-- ---- values

-- how many lists and objects are open
abbrev pub place_level : {K : Type 0} → Place K → ℕ
place_level (outer k) = 0
place_level (item c room vs p) = place_level p + 1
place_level (of_member c room ms n p) = place_level p + 1

abbrev pub begin_level : ℕ → Tok → ℕ
begin_level n tok.open_bracket = n + 1
begin_level n tok.open_brace = n + 1
begin_level n t = 0

abbrev pub value_level : {K : Type 0} → Reading K → Tok → ℕ
value_level (want c room p) t = begin_level (place_level p) t
value_level (items c room vs p) t = begin_level (place_level p + 1) t
value_level r t = 0

-- what a value stands on at last
abbrev pub place_on : {K : Type 0} → Place K → K
place_on (outer k) = k
place_on (item c room vs p) = place_on p
place_on (of_member c room ms n p) = place_on p

abbrev pub value_on : {K : Type 0} → Reading K → K
value_on (want c room p) = place_on p
value_on (dollar p) = place_on p
value_on (items c room vs p) = place_on p
value_on (members c room ms p) = place_on p
value_on (named c room ms n p) = place_on p

module _ {K : Type 0} (G : Ground K) where
  abbrev pub before : Place K → List Leveled → List Leveled
  before (outer k) ts = G.front k ts
  before (item c room vs p) ts = before p ((tok.open_bracket, place_level p + 1) ∷ spell_values mark_level vs (place_level p + 1) ts)
  before (of_member c room ms n p) ts =
      before p ((tok.open_brace, place_level p + 1) ∷ spell_members mark_level ms (place_level p + 1) ((tok.name n, 0) ∷ (tok.colon, 0) ∷ ts))

  abbrev pub value_so_far : Reading K → List Leveled → List Leveled
  value_so_far (want c room p) ts = before p ts
  value_so_far (dollar p) ts = before p ((tok.dollar, 0) ∷ ts)
  value_so_far (items c room vs p) ts = before (item c room vs p) ts
  value_so_far (members c room ms p) ts = before p ((tok.open_brace, place_level p + 1) ∷ spell_members mark_level ms (place_level p + 1) ts)
  value_so_far (named c room ms n p) ts =
      before p ((tok.open_brace, place_level p + 1) ∷ spell_members mark_level ms (place_level p + 1) ((tok.name n, 0) ∷ ts))

  abbrev pub place_constant : Place K → Bool
  place_constant (outer k) = G.constant k
  place_constant (item c room vs p) = c
  place_constant (of_member c room ms n p) = c

  abbrev pub lift_place : ℕ → Place K → Place K
  lift_place k (outer x) = outer (G.lift k x)
  lift_place k (item c room vs p) = item c (k + room) vs (lift_place k p)
  lift_place k (of_member c room ms n p) = of_member c (k + room) ms n (lift_place k p)

  abbrev pub lift_value : ℕ → Reading K → Reading K
  lift_value k (want c room p) = want c (k + room) (lift_place k p)
  lift_value k (dollar p) = dollar (lift_place k p)
  lift_value k (items c room vs p) = items c (k + room) vs (lift_place k p)
  lift_value k (members c room ms p) = members c (k + room) ms (lift_place k p)
  lift_value k (named c room ms n p) = named c (k + room) ms n (lift_place k p)

  -- the room and what is open make up the limit, and what was read is formed
  abbrev pub SeatedPlace : (limit : ℕ) → Place K → Type 0
  SeatedPlace limit (outer k) = G.Seated limit k
  SeatedPlace limit (item c room vs p) = (room + (place_level p + 1) ≡ limit) × (c ≡ place_constant p) × ShapedValues c vs × SeatedPlace limit p
  SeatedPlace limit (of_member c room ms n p) = (room + (place_level p + 1) ≡ limit) × (c ≡ place_constant p) × ShapedMembers c ms × SeatedPlace limit p

  abbrev pub SeatedValue : (limit : ℕ) → Reading K → Type 0
  SeatedValue limit (want c room p) = (room + place_level p ≡ limit) × (c ≡ place_constant p) × SeatedPlace limit p
  SeatedValue limit (dollar p) = (place_constant p ≡ false) × SeatedPlace limit p
  SeatedValue limit (items c room vs p) = SeatedPlace limit (item c room vs p)
  SeatedValue limit (members c room ms p) = SeatedPlace limit (of_member c room ms [] p)
  SeatedValue limit (named c room ms n p) = SeatedPlace limit (of_member c room ms n p)

-- ---- arguments

-- at least one argument
abbrev pub SomeGiven : List (List ℕ × Val) → Type 0
SomeGiven [] = ⊥
SomeGiven (x ∷ xs) = Unit {0}

abbrev pub arguments_level : {A : Type 0} → Arguing A → Tok → ℕ
arguments_level (inside r) t = value_level r t
arguments_level r t = 0

abbrev pub arguments_on : {A : Type 0} → Arguing A → A
arguments_on (first c a) = a
arguments_on (called g) = g.on
arguments_on (inside r) = (value_on r).on
arguments_on (more c xs a) = a

module _ {A : Type 0} (G : Ground A) where
  -- what an argument's value stands on
  abbrev pub given_ground : Ground (Given A)
  given_ground = record {
    front = λ g ts. G.front g.on ((tok.open_paren, 0) ∷ spell_members mark_level (members_of g.before) 0 ((tok.name g.name, 0) ∷ (tok.colon, 0) ∷ ts));
    constant = λ g. g.constant;
    lift = λ k g. record { constant = g.constant; before = g.before; name = g.name; on = G.lift k g.on };
    Seated = λ limit g. (g.constant ≡ G.constant g.on) × ShapedArguments g.constant g.before × G.Seated limit g.on;
  }

  abbrev pub arguments_so_far : Arguing A → List Leveled → List Leveled
  arguments_so_far (first c a) ts = G.front a ((tok.open_paren, 0) ∷ ts)
  arguments_so_far (called g) ts = G.front g.on ((tok.open_paren, 0) ∷ spell_members mark_level (members_of g.before) 0 ((tok.name g.name, 0) ∷ ts))
  arguments_so_far (inside r) ts = value_so_far given_ground r ts
  arguments_so_far (more c xs a) ts = G.front a ((tok.open_paren, 0) ∷ spell_members mark_level (members_of xs) 0 ts)

  abbrev pub lift_arguments : ℕ → Arguing A → Arguing A
  lift_arguments k (first c a) = first c (G.lift k a)
  lift_arguments k (called g) = called (given_ground.lift k g)
  lift_arguments k (inside r) = inside (lift_value given_ground k r)
  lift_arguments k (more c xs a) = more c xs (G.lift k a)

  abbrev pub SeatedArguments : (limit : ℕ) → Arguing A → Type 0
  SeatedArguments limit (first c a) = (c ≡ G.constant a) × G.Seated limit a
  SeatedArguments limit (called g) = given_ground.Seated limit g
  SeatedArguments limit (inside r) = SeatedValue given_ground limit r
  SeatedArguments limit (more c xs a) = (c ≡ G.constant a) × SomeGiven xs × ShapedArguments c xs × G.Seated limit a

-- ---- directives; `passed` is the number of what a token opens that is passed on

abbrev pub next_level : {D : Type 0} → (passed : D → Tok → ℕ) → D → Tok → ℕ
next_level passed d tok.at_sign = 0
next_level passed d t = passed d t

abbrev pub directives_level : {D : Type 0} → (passed : D → Tok → ℕ) → Directing D → Tok → ℕ
directives_level passed (further c ds d) t = next_level passed d t
directives_level passed (at_name c ds d) t = 0
directives_level passed (applied a) tok.open_paren = 0
directives_level passed (applied a) t = next_level passed a.on t
directives_level passed (arguing r) t = arguments_level r t

abbrev pub directives_on : {D : Type 0} → Directing D → D
directives_on (further c ds d) = d
directives_on (at_name c ds d) = d
directives_on (applied a) = a.on
directives_on (arguing r) = (arguments_on r).on

module _ {D : Type 0} (G : Ground D) where
  -- what a directive's arguments stand on
  abbrev pub applied_ground : Ground (Applied D)
  applied_ground = record {
    front = λ a ts. G.front a.on (spell_directives mark_level a.before ((tok.at_sign, 0) ∷ (tok.name a.name, 0) ∷ ts));
    constant = λ a. a.constant;
    lift = λ k a. record { constant = a.constant; before = a.before; name = a.name; on = G.lift k a.on };
    Seated = λ limit a. (a.constant ≡ G.constant a.on) × ShapedDirectives a.constant a.before × G.Seated limit a.on;
  }

  abbrev pub directives_so_far : Directing D → List Leveled → List Leveled
  directives_so_far (further c ds d) ts = G.front d (spell_directives mark_level ds ts)
  directives_so_far (at_name c ds d) ts = G.front d (spell_directives mark_level ds ((tok.at_sign, 0) ∷ ts))
  directives_so_far (applied a) ts = applied_ground.front a ts
  directives_so_far (arguing r) ts = arguments_so_far applied_ground r ts

  abbrev pub lift_directives : ℕ → Directing D → Directing D
  lift_directives k (further c ds d) = further c ds (G.lift k d)
  lift_directives k (at_name c ds d) = at_name c ds (G.lift k d)
  lift_directives k (applied a) = applied (applied_ground.lift k a)
  lift_directives k (arguing r) = arguing (lift_arguments applied_ground k r)

  abbrev pub SeatedDirectives : (limit : ℕ) → Directing D → Type 0
  SeatedDirectives limit (further c ds d) = (c ≡ G.constant d) × ShapedDirectives c ds × G.Seated limit d
  SeatedDirectives limit (at_name c ds d) = (c ≡ G.constant d) × ShapedDirectives c ds × G.Seated limit d
  SeatedDirectives limit (applied a) = applied_ground.Seated limit a
  SeatedDirectives limit (arguing r) = SeatedArguments applied_ground limit r

-- ---- types

-- how many list types are open
abbrev pub holder_level : {K : Type 0} → Holder K → ℕ
holder_level (whole k) = 0
holder_level (listed h) = holder_level h + 1

abbrev pub opening_level : ℕ → Tok → ℕ
opening_level n tok.open_bracket = n + 1
opening_level n t = 0

abbrev pub ending_level : {K : Type 0} → (passed : K → Tok → ℕ) → Holder K → Tok → ℕ
ending_level passed (whole k) t = passed k t
ending_level passed (listed h) t = 0

abbrev pub type_level : {K : Type 0} → (passed : K → Tok → ℕ) → Typing K → Tok → ℕ
type_level passed (want_type room h) t = opening_level (holder_level h) t
type_level passed (typed t h) tok.bang = 0
type_level passed (typed t h) x = ending_level passed h x
type_level passed (closing t h) x = 0

abbrev pub holder_on : {K : Type 0} → Holder K → K
holder_on (whole k) = k
holder_on (listed h) = holder_on h

abbrev pub type_on : {K : Type 0} → Typing K → K
type_on (want_type room h) = holder_on h
type_on (typed t h) = holder_on h
type_on (closing t h) = holder_on h

module _ {K : Type 0} (G : Ground K) where
  abbrev pub before_type : Holder K → List Leveled → List Leveled
  before_type (whole k) ts = G.front k ts
  before_type (listed h) ts = before_type h ((tok.open_bracket, holder_level h + 1) ∷ ts)

  abbrev pub type_so_far : Typing K → List Leveled → List Leveled
  type_so_far (want_type room h) ts = before_type h ts
  type_so_far (typed t h) ts = before_type h (spell_type mark_level t (holder_level h) 0 ts)
  type_so_far (closing t h) ts = before_type (listed h) (spell_type mark_level t (holder_level h + 1) 0 ts)

  abbrev pub lift_holder : ℕ → Holder K → Holder K
  lift_holder k (whole x) = whole (G.lift k x)
  lift_holder k (listed h) = listed (lift_holder k h)

  abbrev pub lift_type : ℕ → Typing K → Typing K
  lift_type k (want_type room h) = want_type (k + room) (lift_holder k h)
  lift_type k (typed t h) = typed t (lift_holder k h)
  lift_type k (closing t h) = closing t (lift_holder k h)

  abbrev pub SeatedHolder : (limit : ℕ) → Holder K → Type 0
  SeatedHolder limit (whole k) = G.Seated limit k
  SeatedHolder limit (listed h) = SeatedHolder limit h

  abbrev pub SeatedType : (limit : ℕ) → Typing K → Type 0
  SeatedType limit (want_type room h) = (room + holder_level h ≡ limit) × SeatedHolder limit h
  SeatedType limit (typed t h) = MayBeNull t × ShapedType t × SeatedHolder limit h
  SeatedType limit (closing t h) = ShapedType t × SeatedHolder limit h

-- ---- steps

-- what a step gives, and what the same step of a machine with a greater limit gives
abbrev pub Lifts : {S : Type 0} → (lift : S → S) → (step lifted : Result S Halt) → Type 0
Lifts lift (Ok s) r = r ≡ Ok (lift s)
Lifts lift (Err unexpected) r = r ≡ Err unexpected
Lifts lift (Err too_deep) r = Unit {0}

-- what is too deep is taken by a machine whose limit is greater by one
abbrev pub Opens : {S : Type 0} → (step lifted : Result S Halt) → Type 0
Opens {S = S} (Err too_deep) r = (next : S) × (r ≡ Ok next)
Opens r x = Unit {0}

-- this holds if the step is refused since it would open one too many
abbrev pub IfTooDeep : {S : Type 0} → Result S Halt → Type 0 → Type 0
IfTooDeep (Err too_deep) P = P
IfTooDeep r P = Unit {0}
