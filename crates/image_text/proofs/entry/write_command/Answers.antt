use Rattle.std.proofs.Common.{[], ◌∷◌, codes, subst}
use Rattle.store_model.specs.gql_plain.Tree.{Tree, text}
use Rattle.image_text.proofs.RowLaws.{more}
use Rattle.image_text.specs.Lines.{marks}
use Rattle.image_text.specs.Rows.{Adds}
use Rattle.image_text.proofs.entry.write_command.Goals as goal

pub returns-clause-row : goal.returns-clause-row
returns-clause-row c =
    subst (λ (t : Tree). Adds ((text (codes "do") ∷ marks t ∷ []) ∷ []) c.args.out.items c.in_ok-end_row.field-0.items) c.in_ok-plain.ensures
    (c.in_ok-end_row.ensures c.args.out.items _ (more c.in_ok-row.ensures c.in_ok-put_marks.ensures.marks))
