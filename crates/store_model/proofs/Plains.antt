-- Plain values and their trees.
use Rattle.std.proofs.Common.{◌≡◌, ℕ, true, List, [], ◌∷◌, Some, ap, ◌∙◌, sym, refl}
use Rattle.store_record.specs.gql_plain.FromJson.{is_whole, plain_tree}
use Rattle.store_record.specs.gql_plain.Shown.{tree_of}
use Rattle.store_record.specs.gql_plain.Tree.{Tree, trees_of, members_of}
use Rattle.store_record.specs.gql_plain.declared.plain.Plain.{Plain}
use Rattle.store_record.specs.gql_plain.declared.plain.Plain.TheVariants as P
use Rattle.serde_json.specs.Data as J
use Rattle.store_model.specs.Events.{plain_of_tree, plain_of_data, where_true, tree_list, pairs_list}

tree_list-trees_of : (ts : List Tree) → tree_list (trees_of ts) ≡ ts
tree_list-trees_of [] = refl
tree_list-trees_of (t ∷ ts) = ap (λ more. t ∷ more) (tree_list-trees_of ts)

pairs_list-members_of : (ms : List (List ℕ × Tree)) → pairs_list (members_of ms) ≡ ms
pairs_list-members_of [] = refl
pairs_list-members_of (m ∷ ms) = ap (λ more. m ∷ more) (pairs_list-members_of ms)

-- the plain value of its own tree
pub plain_of_tree-tree_of : (p : Plain) → plain_of_tree (tree_of p) ≡ p
plain_of_tree-tree_of P.Null = refl
plain_of_tree-tree_of (P.Bool b) = refl
plain_of_tree-tree_of (P.Int z) = refl
plain_of_tree-tree_of (P.Text s) = refl
plain_of_tree-tree_of (P.List ts) = ap P.List (tree_list-trees_of ts)
plain_of_tree-tree_of (P.Tree ms) = ap P.Tree (pairs_list-members_of ms)

pub plain_known : (p : Plain) (d : J.Data) → tree_of p ≡ plain_tree d → is_whole d ≡ true → Some p ≡ plain_of_data d
plain_known p d same whole =
    ap Some (sym (plain_of_tree-tree_of p) ∙ ap plain_of_tree same) ∙ ap (λ b. where_true b (Some (plain_of_tree (plain_tree d)))) (sym whole)
