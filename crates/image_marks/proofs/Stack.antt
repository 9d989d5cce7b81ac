-- The innermost of what is open.
use Rattle.std.proofs.Common.{◌≡◌, List, [], ◌∷◌, ◌++◌, refl}
use Rattle.image_marks.specs.Flat as flat
use Rattle.image_marks.specs.Stack.{onto, open_of, opened}
use Rattle.image_marks.specs.declared.flat.Open.{Open}

onto-push : (os : List flat.Open) (xs : List Open) (x : Open) → onto os (xs ++ x ∷ []) ≡ open_of x ∷ onto os xs
onto-push os [] x = refl
onto-push os (y ∷ xs) x = onto-push (open_of y ∷ os) xs x

pub opened_push : (xs : List Open) (x : Open) → opened (xs ++ x ∷ []) ≡ open_of x ∷ opened xs
opened_push xs x = onto-push [] xs x
