use Rattle.std.proofs.Common.{Some, sym, ap, ◌∙◌}
use Rattle.store_model.specs.gql_plain.Shown.{tree_of}
use Rattle.image_rows.proofs.Items.{items_are}
use Rattle.image_rows.specs.Texts.{row_of_tree}
use Rattle.image_rows.proofs.line.row_of_plain.Goals as goal

pub returns-in-List : goal.returns-in-List
returns-in-List c = ap Some (sym (items_are c.in-List.plains)) ∙ ap (λ p. row_of_tree (tree_of p)) (sym c.in-List.is)
