-- Lists and pairs of plain trees, and the last one of a list.
use Rattle.std.proofs.Common.{◌≡◌, List, [], ◌∷◌, ◌++◌, Option, Some, None, option_map, refl, ap, ◌∙◌}
use Rattle.store_model.specs.gql_plain.Shown.{tree_of}
use Rattle.store_model.specs.gql_plain.Tree.{Tree, trees_of, members_of}
use Rattle.store_model.specs.gql_plain.declared.plain.Plain.{Plain}
use Rattle.store_model.specs.store_record.Keys.{Arguments}
use Rattle.store_model.specs.Events.{pairs_list, plain_of_tree, tree_list}
use Rattle.store_model.proofs.Plains.{plain_of_tree-tree_of}
use Rattle.image_rows.specs.Reading.{on_last}

pub items_are : (ts : List Tree) → tree_list (trees_of ts) ≡ ts
items_are [] = refl
items_are (t ∷ ts) = ap (λ more. t ∷ more) (items_are ts)

pub pairs_are : (ms : Arguments) → pairs_list (members_of ms) ≡ ms
pairs_are [] = refl
pairs_are (m ∷ ms) = ap (λ more. (m.0, m.1) ∷ more) (pairs_are ms)

pub plain_is : (p : Plain) → plain_of_tree (tree_of p) ≡ p
plain_is = plain_of_tree-tree_of

pub on_last_push : {A : Type 0} (f : A → Option A) (xs : List A) (x : A) → on_last f (xs ++ x ∷ []) ≡ option_map (λ y. xs ++ y ∷ []) (f x)
on_last_push f [] x = refl
on_last_push f (a ∷ []) x = elim (f x) as (λ o. option_map (λ zs. a ∷ zs) (option_map (λ y. y ∷ []) o) ≡ option_map (λ y. a ∷ y ∷ []) o) [ None ↦ refl | Some y ↦ refl ]
on_last_push f (a ∷ b ∷ xs) x =
    ap (λ o. option_map (λ zs. a ∷ zs) o) (on_last_push f (b ∷ xs) x)
    ∙ elim (f x) as (λ o. option_map (λ zs. a ∷ zs) (option_map (λ y. b ∷ (xs ++ y ∷ [])) o) ≡ option_map (λ y. a ∷ b ∷ (xs ++ y ∷ [])) o) [ None ↦ refl | Some y ↦ refl ]
