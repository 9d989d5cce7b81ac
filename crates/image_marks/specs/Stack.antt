-- What is open while marks are read, as code keeps it: the innermost last.
use Rattle.std.specs.Prelude.{◌≡◌, List, [], ◌∷◌, Bool, Option, Some, None}
use Rattle.std.specs.Bool.{MatchBool}
use Rattle.image_marks.specs.Flat as flat
use Rattle.image_marks.specs.declared.flat.Open.{Open}
use Rattle.image_marks.specs.declared.flat.Open.TheVariants.{List as Listed, Key, Value}

abbrev pub open_of : Open → flat.Open
open_of (Listed ts) = flat.in_list ts
open_of (Key ms) = flat.at_key ms
open_of (Value ms k) = flat.at_value ms k

abbrev pub onto : List flat.Open → List Open → List flat.Open
onto os [] = os
onto os (x ∷ xs) = onto (open_of x ∷ os) xs

abbrev pub opened : List Open → List flat.Open
opened xs = onto [] xs

-- where it is taken, the new ones are those that are due, and none else
abbrev pub Takes : Bool → Option (List flat.Open) → List Open → Type 0
Takes taken due new = MatchBool taken (due ≡ Some (opened new)) (due ≡ None)
