-- A member that is put in front of those above it, and behind those below it.
use Rattle.std.proofs.Common.{◌≡◌, List, [], ◌∷◌, ◌++◌, Option, Some, None, refl, ap, ◌∙◌}
use Rattle.std.specs.FinMap.Entries.{by_order}
use Rattle.std.specs.List.{AllByRecursion}
use Rattle.plan_ir.specs.gql_plain.Tree.{Tree}
use Rattle.plan_order.proofs.Rising.{IsBelow, above}
use Rattle.plan_order.specs.Walk.{found_member}
use Rattle.plan_ir.specs.store_model.Walks.{Shown, with_found, with_value}
use Rattle.plan_ir.specs.store_record.Keys.{Text}

-- the key is below those of all members
abbrev pub IsBelowAll : Text → List (Text × Tree) → Type 0
IsBelowAll key ms = AllByRecursion (λ (m : Text × Tree). IsBelow key m.0) ms

-- and above them
abbrev pub IsAboveAll : Text → List (Text × Tree) → Type 0
IsAboveAll key ms = AllByRecursion (λ (m : Text × Tree). IsBelow m.0 key) ms

pub put_front : (key : Text) (t : Tree) (ms : Shown) → IsBelowAll key ms → with_value key t ms ≡ (key, t) ∷ ms
put_front key t [] all = refl
put_front key t (m ∷ ms) all = ap (λ o. by_order o ((key, t) ∷ m ∷ ms) ((m.0, t) ∷ ms) (m ∷ with_value key t ms)) all.0

put_past : (key : Text) (t : Tree) (es ms : Shown) → IsAboveAll key es → with_value key t (es ++ ms) ≡ es ++ with_value key t ms
put_past key t [] ms all = refl
put_past key t (e ∷ es) ms all =
    ap (λ o. by_order o ((key, t) ∷ e ∷ (es ++ ms)) ((e.0, t) ∷ (es ++ ms)) (e ∷ with_value key t (es ++ ms))) (above e.0 key all.0)
    ∙ ap (λ rest. e ∷ rest) (put_past key t es ms all.1)

pub found_front : (key : Text) (o : Option Tree) (ms : Shown) → IsBelowAll key ms → with_found key o ms ≡ found_member key o ++ ms
found_front key None ms all = refl
found_front key (Some t) ms all = put_front key t ms all

pub found_past : (key : Text) (o : Option Tree) (es ms : Shown) → IsAboveAll key es → with_found key o (es ++ ms) ≡ es ++ with_found key o ms
found_past key None es ms all = refl
found_past key (Some t) es ms all = put_past key t es ms all

pub found-all : (P : Text → Type 0) (key : Text) (o : Option Tree) → P key → AllByRecursion (λ (m : Text × Tree). P m.0) (found_member key o)
found-all P key None here = tt
found-all P key (Some t) here = (here, tt)
