-- Each field is looked at beside the next one.
use Rattle.std.proofs.Common.{◌≡◌, rules}
use Rattle.std.proofs.lemmas.Fn.{always_returns_same}
use Rattle.std.specs.List.{IsAllAdjacentAnswer}
use Rattle.std.specs.Ordering.{is_lt}
use Rattle.store_model.specs.FactOrder.{text_cmp}
use Rattle.store_report.proofs.RowMembers.{keys_rise}
use Rattle.store_report.proofs.TornFields.{fall_of}
use Rattle.store_report.proofs.row_fields.do_rise.Goals as goal

pub returns : goal.returns
returns c =
    let told : IsAllAdjacentAnswer (λ x y b. b ≡ is_lt (text_cmp x.0 y.0)) c.args.fields.now c.is_sorted_by.result
    = c.is_sorted_by.ensures.cases (λ x y. is_lt (text_cmp x.0 y.0))
    (always_returns_same _ _ _ (λ a r k called. (let e : r ≡ is_lt (text_cmp a.0.now.0 a.1.0.now.0) = search rules in e, search rules))) in
    record {
      rise = keys_rise c.args.fields.now c.is_sorted_by.result told;
      fall = fall_of c.args.fields.now c.is_sorted_by.result told;
    }
