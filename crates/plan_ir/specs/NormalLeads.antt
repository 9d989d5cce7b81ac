-- What the steps of a plan lead to: what stands below their fields of objects.
use Rattle.std.specs.Prelude.{◌≡◌, Bool, true, List, [], ◌∷◌, Option, None, Some}
use Rattle.plan_ir.specs.Normal.{Normal, done, typename, leaf, object, guarded}

-- of one step alone
abbrev pub only : List (Option Normal) → Option Normal
only [] = None
only (x ∷ []) = x
only (x ∷ y ∷ xs) = None

-- for each step what stands below its field, and below the one field behind a guard; none where there is no such field
abbrev pub leads_of : Normal → List (Option Normal)
leads_of done = []
leads_of (typename r rest) = None ∷ leads_of rest
leads_of (leaf r n xs rest) = None ∷ leads_of rest
leads_of (object r n xs m ts is o c child rest) = Some child ∷ leads_of rest
leads_of (guarded g child rest) = only (leads_of child) ∷ leads_of rest

abbrev pub lead_of : Normal → Option Normal
lead_of s = only (leads_of s)

-- the last of some, else another
abbrev pub last_of : Option Normal → List (Option Normal) → Option Normal
last_of x [] = x
last_of x (y ∷ ys) = last_of y ys

-- what the last step leads to
abbrev pub last_lead : Normal → Option Normal
last_lead s = last_of None (leads_of s)

-- each that is marked is as the one before it; the first one stands behind `before`
abbrev pub AreAgain : (before : Option Normal) → List Bool → List (Option Normal) → Type 0
AreAgain before [] [] = Unit {0}
AreAgain before [] (x ∷ xs) = ⊥
AreAgain before (b ∷ bs) [] = ⊥
AreAgain before (b ∷ bs) (x ∷ xs) = (b ≡ true → before ≡ x) × AreAgain x bs xs
