-- Numbers of watches in order of start, and what an index from ids to them says.
use Rattle.std.specs.Prelude.{◌≡◌, ℕ, zero, suc, ◌<◌, Bool, true, false, List, [], ◌∷◌, ◌++◌, nat_eq, map, Option, Some, None}
use Rattle.std.specs.List.{list_any, AllByRecursion}
use Rattle.plan_ir.specs.store_record.Keys.{Text}

-- whether the number is in the list
abbrev pub has : List ℕ → ℕ → Bool
has xs n = list_any (λ x. nat_eq x n) xs

-- each number is below those after it
abbrev pub Rises : List ℕ → Type 0
Rises [] = Unit {0}
Rises (x ∷ xs) = AllByRecursion (λ y. x < y) xs × Rises xs

-- the number that is noted, if there is one
abbrev pub noted : Option ℕ → List ℕ
noted None = []
noted (Some n) = n ∷ []

-- the number of a watch, and the ids that it saw
abbrev pub Seen : Type 0
Seen = ℕ × List Text

abbrev pub numbers_of : List Seen → List ℕ
numbers_of ws = map (λ (w : Seen). w.0) ws

-- the number at a place
abbrev pub number_at : List Seen → ℕ → ℕ
number_at [] k = 0
number_at (w ∷ ws) zero = w.0
number_at (w ∷ ws) (suc k) = number_at ws k

-- the ids that the watch at a place saw
abbrev pub seen_at : List Seen → ℕ → List Text
seen_at [] k = []
seen_at (w ∷ ws) zero = w.1
seen_at (w ∷ ws) (suc k) = seen_at ws k

-- ---- the index

-- the numbers under each id
abbrev pub Table : Type 0
Table = Text → List ℕ

-- the numbers under ids, one id after another
abbrev pub named : Table → List Text → List ℕ
named table [] = []
named table (id ∷ ids) = table id ++ named table ids

-- a number stands under each of the ids
abbrev pub StandsUnder : Table → ℕ → List Text → Type 0
StandsUnder table n ids = AllByRecursion (λ id. has (table id) n ≡ true) ids

-- the number stands under each id that its watch saw
abbrev pub IsPut : Table → ℕ → List Seen → Type 0
IsPut table n ws = AllByRecursion (λ (w : Seen). w.0 ≡ n → StandsUnder table n w.1) ws

-- a watch is among the late ones, or stands under each id that it saw
abbrev pub IsFound : Table → List ℕ → Seen → Type 0
IsFound table late w = has late w.0 ≡ false → StandsUnder table w.0 w.1

abbrev pub IsComplete : Table → List ℕ → List Seen → Type 0
IsComplete table late ws = AllByRecursion (IsFound table late) ws

-- the one table says all that the other says
abbrev pub Grows : Table → Table → Type 0
Grows table more = (id : Text) (n : ℕ) → has (table id) n ≡ true → has (more id) n ≡ true
