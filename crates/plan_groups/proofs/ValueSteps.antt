-- Values of arguments.
use Rattle.std.proofs.Common.{◌≡◌, Option, Some, unwrap_or, ap, sym, ◌∙◌}
use Rattle.plan_ir.specs.gql_plain.Shown.{tree_of}
use Rattle.plan_ir.specs.gql_plain.Tree.{Tree, null}
use Rattle.plan_ir.specs.gql_plain.declared.plain.Plain.{Plain}
use Rattle.plan_ir.proofs.store_model_laws.Plains.{plain_of_tree-tree_of}
use Rattle.plan_ir.specs.store_model.Events.{plain_of_tree}

-- an argument that is given
pub given : (p : Plain) (o : Option Tree) → Some (tree_of p) ≡ o → p ≡ plain_of_tree (unwrap_or o null)
given p o e = sym (plain_of_tree-tree_of p) ∙ ap (λ (q : Option Tree). plain_of_tree (unwrap_or q null)) e
