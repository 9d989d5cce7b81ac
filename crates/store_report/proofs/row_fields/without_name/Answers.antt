-- What the calls of the closure keep is a filter, which leaves the others.
use Rattle.std.proofs.Common.{◌≡◌, not, filter, rules, sym, subst}
use Rattle.std.proofs.lemmas.Fn.{filter_same}
use Rattle.store_report.proofs.TornFields.{others_left}
use Rattle.store_report.proofs.row_fields.without_name.Goals as goal
use Rattle.store_report.specs.RowFields.{AreOthers, says_name}

pub returns : goal.returns
returns c =
    let name = c.args.name.now in
    let all = c.args.fields.items in
    let left = c.retain.new.self.items in
    let is : left ≡ filter (λ e. not (says_name name e)) all = filter_same _ (λ e. not (says_name name e)) _ (λ x b k called. search rules) all left c.retain.ensures.filtered in
    subst (λ es. AreOthers name es all) (sym is) (others_left name all)
