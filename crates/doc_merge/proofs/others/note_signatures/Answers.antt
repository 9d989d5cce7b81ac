-- Where all have one name and the same arguments, none is noted.
use Rattle.std.proofs.Common.{[], map, sym, ◌∙◌}
use Rattle.doc_merge.specs.RowView.{mark_of}
use Rattle.doc_merge.proofs.CellLaws.{one_differs_not}
use Rattle.doc_merge.proofs.LeastSteps.{least_by_members}
use Rattle.doc_merge.specs.Cells.{none_seen, others}
use Rattle.doc_merge.proofs.others.note_signatures.Goals as goal

pub returns-then-have_one_signature : goal.returns-then-have_one_signature
returns-then-have_one_signature c =
    least_by_members c.args.least.now.at [] (others none_seen (map mark_of c.args.rows.now))
    (λ p. sym (one_differs_not p (map mark_of c.args.rows.now) (sym c.have_one_signature.ensures ∙ c.if-have_one_signature.true)))
