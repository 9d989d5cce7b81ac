-- What a payload is taken for (this project's own): its first fault, or its facts and pages, each once and in order.
use Rattle.std.specs.Prelude.{◌≡◌, ℕ, Bool, true, false, not, ◌&&◌, List, [], ◌∷◌, ◌++◌, map, cond, bytes_eq, Option, Some, None}
use Rattle.std.specs.Cmp.Lexicographic.{slice_cmp}
use Rattle.std.specs.List.{AllByRecursion, list_any}
use Rattle.std.specs.Ordering.{nat_cmp, match_ordering, ordering_then, is_lt}
use Rattle.std.specs.declared.cmp.Ordering.{Ordering}
use Rattle.std.specs.declared.cmp.Ordering.TheVariants.{Less, Equal, Greater}
use Rattle.serde_json.specs.Data as J
use Rattle.store_record.specs.Equal.{field_eq}
use Rattle.store_record.specs.Keys.{Text}
use Rattle.store_model.specs.Alike.{Among}
use Rattle.store_model.specs.FactOrder.{text_cmp, fact_cmp, handle_cmp}
use Rattle.store_model.specs.Items.{Collect}
use Rattle.store_model.specs.Said.{Said}
use Rattle.store_model.specs.Says.{Path, Put, Report, response_says}
use Rattle.store_model.specs.declared.facts.HandleFact.{HandleFact}
use Rattle.store_model.specs.declared.payload_fault.Cause.{Cause}
use Rattle.store_model.specs.declared.payload_fault.Cause.TheVariants.{NoData, Shape, NotWhole, IdShape, ReservedId, Typename, Conflict}
use Rattle.store_model.specs.declared.payload_fault.PathStep.{PathStep}
use Rattle.store_model.specs.declared.payload_fault.PathStep.TheVariants.{Key, Index}
use Rattle.store_model.specs.declared.payload_fault.PayloadFault.{PayloadFault}

-- ---- the first fault

-- keys by bytes, indices by number
abbrev pub step_cmp : PathStep → PathStep → Ordering
step_cmp (Key a) (Key b) = text_cmp a b
step_cmp (Key a) (Index j) = Less
step_cmp (Index i) (Key b) = Greater
step_cmp (Index i) (Index j) = nat_cmp i j

-- element by element, a proper prefix first
abbrev pub path_cmp : Path → Path → Ordering
path_cmp = slice_cmp step_cmp

-- the causes in their order
abbrev pub number_of : Cause → ℕ
number_of NoData = 1
number_of Shape = 2
number_of NotWhole = 3
number_of IdShape = 4
number_of ReservedId = 5
number_of Typename = 6
number_of (Conflict id key first second) = 7

abbrev pub fault_cmp : PayloadFault → PayloadFault → Ordering
fault_cmp a b = ordering_then (path_cmp a.path b.path) (nat_cmp (number_of a.cause) (number_of b.cause))

-- the lesser of two, the first of two that tie
abbrev pub lesser : {A : Type 0} → (A → A → Ordering) → A → A → A
lesser cmp a b = cond (is_lt (cmp b a)) b a

abbrev pub lesser_of : {A : Type 0} → (A → A → Ordering) → A → Option A → A
lesser_of cmp a None = a
lesser_of cmp a (Some b) = lesser cmp a b

-- the least of a list, the first of those that tie
abbrev pub least : {A : Type 0} → (A → A → Ordering) → List A → Option A
least cmp [] = None
least cmp (a ∷ rest) = Some (lesser_of cmp a (least cmp rest))

-- ---- what stands at one id and key

abbrev pub put_cmp : Put → Put → Ordering
put_cmp a b = path_cmp a.path b.path

-- of one id and key
abbrev pub same_place : Put → Put → Bool
same_place p q = bytes_eq p.fact.id q.fact.id && bytes_eq p.fact.key q.fact.key

-- the members that pass a test
abbrev pub where_so : {A : Type 0} → (A → Bool) → List A → List A
where_so test [] = []
where_so test (a ∷ rest) = cond (test a) (a ∷ where_so test rest) (where_so test rest)

-- the value at the least path, and that at the least path among those that differ from it
pub record Seat : Type 0 where
  pub first : Put
  pub second : Option Put

abbrev pub seat_from : List Put → Put → Seat
seat_from puts first = record { first = first; second = least put_cmp (where_so (λ q. not (field_eq q.fact.value first.fact.value)) puts) }

abbrev pub seat_of : List Put → Option Put → List Seat
seat_of puts None = []
seat_of puts (Some first) = seat_from puts first ∷ []

-- the seat of the id and the key of a put
abbrev pub seat_at : List Put → Put → List Seat
seat_at puts p = let here = where_so (same_place p) puts in seat_of here (least put_cmp here)

-- ---- once, and in order

-- the list with a member at its place; of two that tie the new one stays
abbrev pub with_one : {A : Type 0} → (A → A → Ordering) → A → List A → List A
with_one cmp a [] = a ∷ []
with_one cmp a (b ∷ bs) = match_ordering (cmp a b) (a ∷ b ∷ bs) (a ∷ bs) (b ∷ with_one cmp a bs)

-- the members in order, the first of those that tie
abbrev pub in_order : {A : Type 0} → (A → A → Ordering) → List A → List A
in_order cmp [] = []
in_order cmp (a ∷ rest) = with_one cmp a (in_order cmp rest)

-- one put of each id and key, in byte order
abbrev pub places : List Put → List Put
places puts = in_order (λ p q. fact_cmp p.fact q.fact) puts

abbrev pub seats_at : List Put → List Put → List Seat
seats_at puts [] = []
seats_at puts (p ∷ ps) = seat_at puts p ++ seats_at puts ps

-- the seats of all ids and keys, in byte order
abbrev pub seats : List Put → List Seat
seats puts = seats_at puts (places puts)

-- ---- what the payload is taken for

abbrev pub conflict_of : Put → Put → PayloadFault
conflict_of p q = record { path = q.path; cause = Conflict p.fact.id p.fact.key p.fact.value q.fact.value }

-- the first seat with two values
abbrev pub first_conflict : List Seat → Option PayloadFault
first_conflict [] = None
first_conflict (s ∷ rest) = elim s.second [ None ↦ first_conflict rest | Some q ↦ Some (conflict_of s.first q) ]

pub data Verdict : Type 0 where
  refusal : PayloadFault → Verdict
  content : Said → Verdict

abbrev pub unless_conflict : Option PayloadFault → List Seat → List HandleFact → Verdict
unless_conflict None here pages = content (record { facts = map (λ s. s.first.fact) here; handles = in_order handle_cmp pages })
unless_conflict (Some f) here pages = refusal f

-- a conflict comes only without another fault
abbrev pub unless_fault : Option PayloadFault → Report → Verdict
unless_fault None r = unless_conflict (first_conflict (seats r.puts)) (seats r.puts) r.pages
unless_fault (Some f) r = refusal f

abbrev pub verdict : Report → Verdict
verdict r = unless_fault (least fault_cmp r.faults) r

-- what a response says, by the parts that its operation gives on its root type
abbrev pub says : {F : Type 0} → Collect F → (root_type : Text) → List F → J.Data → Verdict
says collect T fs response = verdict (response_says collect T fs response)

-- ---- what a seat is, whatever the order of the puts

-- no path is less
abbrev pub NotBefore : Put → Put → Type 0
NotBefore q p = put_cmp q p ≡ Less → ⊥

abbrev pub HaveOneValue : List Put → Put → Type 0
HaveOneValue puts first = AllByRecursion (λ q. same_place first q ≡ true → field_eq q.fact.value first.fact.value ≡ true) puts

-- of the values that differ from the first, the one at the least path
pub record IsSecond (puts : List Put) (first second : Put) : Type 0 where
  pub there : Among second puts
  pub place : same_place first second ≡ true
  pub differs : field_eq second.fact.value first.fact.value ≡ false
  pub least : AllByRecursion (λ q. same_place first q ≡ true → field_eq q.fact.value first.fact.value ≡ false → NotBefore q second) puts

abbrev pub SecondIs : List Put → Put → Option Put → Type 0
SecondIs puts first None = HaveOneValue puts first
SecondIs puts first (Some second) = IsSecond puts first second

-- the first is at the least path of its id and key
pub record IsSeat (puts : List Put) (s : Seat) : Type 0 where
  pub there : Among s.first puts
  pub least : AllByRecursion (λ q. same_place s.first q ≡ true → NotBefore q s.first) puts
  pub second : SecondIs puts s.first s.second

-- one value is said at one path
abbrev pub IsSaidOnce : List Put → Type 0
IsSaidOnce puts = (p q : Put) → Among p puts → Among q puts → same_place p q ≡ true → path_cmp p.path q.path ≡ Equal → p ≡ q

abbrev pub HaveSameMembers : List Put → List Put → Type 0
HaveSameMembers ps qs = ((p : Put) → Among p ps → Among p qs) × ((p : Put) → Among p qs → Among p ps)

-- each seat has the value at the least path and that at the least path that differs; each put has a seat; and another
-- order of the puts gives the same seat
abbrev pub SeatsAreRight : Type 0
SeatsAreRight = ((puts : List Put) → AllByRecursion (IsSeat puts) (seats puts))
    × ((puts : List Put) (p : Put) → Among p puts → list_any (λ s. same_place s.first p) (seats puts) ≡ true)
    × ((ps qs : List Put) (s t : Seat) → IsSaidOnce ps → HaveSameMembers ps qs → IsSeat ps s → IsSeat qs t → same_place s.first t.first ≡ true → s ≡ t)
