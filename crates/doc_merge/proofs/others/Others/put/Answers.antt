-- A field more is put one level further out, under its object type or without one.
use Rattle.std.proofs.Common.{◌≡◌, Some, None, bytes_eq, cond, ap, sym, ◌∙◌}
use Rattle.std.specs.Prelude.{option_copied}
use Rattle.plan_ir.specs.schema_tables.Types.{Text}
use Rattle.doc_merge.specs.Cells.{Mark, all_out, has_other_among, innermost, one_out, put}
use Rattle.doc_merge.specs.CellView.{cells_of, cells_under}
use Rattle.doc_merge.specs.RowView.{mark_of}
use Rattle.doc_merge.proofs.OneOutLaws.{told_under, told_without}
use Rattle.doc_merge.proofs.others.Others.put.Goals as goal

pub returns-in_ok-put-in-Some : goal.returns-in_ok-put-in-Some
returns-in_ok-put-in-Some c = λ m.
    let row : Mark = mark_of c.args.row.now in
    let object : Text = c.in-Some.object.now in
    let inner : innermost row.pattern ≡ Some object = sym c.innermost.ensures ∙ ap option_copied c.in-Some.is in
    let whole_is : cells_of c.put.new.self ≡ put (cells_of c.args.self.now.whole) (all_out row) = c.in_ok-put.ensures ∙ ap (put (cells_of c.args.self.now.whole)) c.all_out-whole.ensures in
    let all_is : cells_of c.put-2.new.self ≡ put (cells_of c.args.self.now.all) (one_out row) = c.in_ok-put-2.ensures ∙ ap (put (cells_of c.args.self.now.all)) c.one_out-around.ensures in
    let under_is : (n : Text) → cells_under c.put-in-Some.new.self n ≡ cond (bytes_eq object n) (put (cells_under c.args.self.now.by_type n) (one_out row)) (cells_under c.args.self.now.by_type n) = λ n.
    c.in_ok-put-in-Some.ensures n ∙ ap (λ (x : Mark). cond (bytes_eq object n) (put (cells_under c.args.self.now.by_type n) x) (cells_under c.args.self.now.by_type n)) c.one_out-around.ensures in
    (λ k. has_other_among (cells_under c.put-in-Some.new.self) (cells_of c.args.self.now.without) (all_is k) (whole_is k) m)
    ∙ told_under (cells_under c.args.self.now.by_type) (cells_under c.put-in-Some.new.self) (cells_of c.args.self.now.without) (cells_of c.args.self.now.all) (cells_of c.args.self.now.whole) object row inner under_is m

pub returns-in_ok-put-in-None : goal.returns-in_ok-put-in-None
returns-in_ok-put-in-None c = λ m.
    let row : Mark = mark_of c.args.row.now in
    let inner : innermost row.pattern ≡ None = sym c.innermost.ensures ∙ ap option_copied c.in-None.is in
    let whole_is : cells_of c.put.new.self ≡ put (cells_of c.args.self.now.whole) (all_out row) = c.in_ok-put.ensures ∙ ap (put (cells_of c.args.self.now.whole)) c.all_out-whole.ensures in
    let all_is : cells_of c.put-2.new.self ≡ put (cells_of c.args.self.now.all) (one_out row) = c.in_ok-put-2.ensures ∙ ap (put (cells_of c.args.self.now.all)) c.one_out-around.ensures in
    let without_is : cells_of c.put-in-None.new.self ≡ put (cells_of c.args.self.now.without) (one_out row) = c.in_ok-put-in-None.ensures ∙ ap (put (cells_of c.args.self.now.without)) c.one_out-around.ensures in
    (λ k. has_other_among (cells_under c.args.self.now.by_type) (without_is k) (all_is k) (whole_is k) m)
    ∙ told_without (cells_under c.args.self.now.by_type) (cells_of c.args.self.now.without) (cells_of c.args.self.now.all) (cells_of c.args.self.now.whole) row inner m
