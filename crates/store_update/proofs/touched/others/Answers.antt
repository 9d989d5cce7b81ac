use Rattle.std.proofs.Common.{◌≡◌, ℕ, List, [], not, rules, IfOk, sym, ap, subst, ◌∙◌, arith}
use Rattle.std.proofs.lemmas.Fn.{filter_same}
use Rattle.std.proofs.lemmas.List.{nil_from_length}
use Rattle.store_conn.specs.gql_plain.Order.{AreSortedOf, has_text}
use Rattle.store_update.proofs.Noted.{filter_alike, has_sorted, none_out}
use Rattle.store_update.proofs.touched.others.Goals as goal

pub returns-then-is_empty : goal.returns-then-is_empty
returns-then-is_empty c =
    let none : c.args.but.items ≡ [] = nil_from_length c.args.but.items (grind (arith, c.is_empty.ensures)) in
    subst (λ kept. IfOk c.sort.result (AreSortedOf kept)) (sym (none_out c.args.but.items c.args.ids.items none)) c.sort.ensures

pub returns : goal.returns
returns c =
    let but = c.args.but.items in
    let sorted : List (List ℕ) = c.in_ok-but.but in
    let ids = c.args.ids.items in
    let left = filter_same _ (λ id. not (has_text sorted id)) _ (λ x b k called. search rules) ids c.retain.new.self.items c.retain.ensures.filtered in
    let alike = filter_alike (λ id. not (has_text sorted id)) (λ id. not (has_text but id)) (λ id. ap not (has_sorted but sorted c.in_ok-but.ensures id)) ids in
    subst (λ kept. IfOk c.sort-3.result (AreSortedOf kept)) (left ∙ alike) c.sort-3.ensures
