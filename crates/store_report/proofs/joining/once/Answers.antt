-- What dedup keeps.
use Rattle.std.proofs.Common.{◌≡◌, rules}
use Rattle.std.proofs.lemmas.Fn.{dedup_same}
use Rattle.std.specs.List.{dedup}
use Rattle.store_report.proofs.JoinOrder.{once_sorted}
use Rattle.store_report.proofs.JoinSteps.{once_same}
use Rattle.store_report.proofs.joining.once.Goals as goal
use Rattle.store_report.specs.Joining.{row_eq}

pub returns : goal.returns
returns c =
    let given = c.args.rows.items in
    let kept = c.dedup_by.new.self.items in
    let once : kept ≡ dedup row_eq given = dedup_same _ row_eq _ (λ x y b k x' y' called. search rules) given kept c.dedup_by.ensures.filtered in
    record { same = once_same given kept once; order = once_sorted given kept once }
