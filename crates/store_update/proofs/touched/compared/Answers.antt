use Rattle.std.proofs.Common.{◌≡◌, ◌&&◌, not, subst, ap, ◌∙◌, arith}
use Rattle.store_conn.specs.gql_plain.Order.{has_text}
use Rattle.store_conn.specs.store_record.Keys.{Text}
use Rattle.store_update.proofs.Noted.{again_moved, noted_moved, touched_are}
use Rattle.store_update.proofs.touched.compared.Goals as goal
use Rattle.store_update.specs.Touched.{is_changed}
use Rattle.store_update.specs.Turns.{number_again, stands_again}

pub returns-in_err-stayed-clause-looks : goal.returns-in_err-stayed-clause-looks
returns-in_err-stayed-clause-looks g c =
    let sorted = c.sort.new.self.items in
    let same = ap number_again c.as_slice.ensures.value ∙ again_moved c.args.noted.items sorted c.sort.ensures.permutation in
    omega (arith, c.stayed.ensures.looks, same)

pub returns-in_err-touched-clause-looks : goal.returns-in_err-touched-clause-looks
returns-in_err-touched-clause-looks g c =
    let sorted = c.sort.new.self.items in
    let same = ap number_again c.as_slice.ensures.value ∙ again_moved c.args.noted.items sorted c.sort.ensures.permutation in
    omega (arith, c.stayed.ensures.looks, same)

pub returns-clause-touched : goal.returns-clause-touched
returns-clause-touched g c =
    let before = g.S.RecordSource.records c.args.before.now in
    let after = g.S.RecordSource.records c.args.after.now in
    let sorted = c.sort.new.self.items in
    touched_are before after sorted c.in_ok-stayed.stayed.items c.in_ok-touched.touched
    (noted_moved c.args.noted.items sorted c.sort.ensures.permutation before after c.requires)
    (subst (λ ids. (id : Text) → has_text c.in_ok-stayed.stayed.items id ≡ (stands_again ids id && not (is_changed before after id))) c.as_slice.ensures.value c.in_ok-stayed.ensures.stayed)
    c.in_ok-touched.ensures

pub returns-clause-looks : goal.returns-clause-looks
returns-clause-looks g c =
    let sorted = c.sort.new.self.items in
    let same = ap number_again c.as_slice.ensures.value ∙ again_moved c.args.noted.items sorted c.sort.ensures.permutation in
    omega (arith, c.stayed.ensures.looks, same)
