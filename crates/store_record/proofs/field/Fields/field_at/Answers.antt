-- The field at the place is the one of its key, since keys rise.
use Rattle.std.proofs.Common.{◌≡◌, ◌<◌, length, get_or, Equal, Some, nat_cmp, rules, sym, ap, subst, ◌∙◌}
use Rattle.std.proofs.lemmas.Cmp.{tied_itself}
use Rattle.std.proofs.lemmas.Slice.Eq.{bytes_eq-Decides}
use Rattle.std.specs.Cmp.Lexicographic.{slice_cmp, nat_list_cmp_total}
use Rattle.gql_plain.proofs.Searches.{member_at-some}
use Rattle.gql_plain.specs.Order.{member_at}
use Rattle.store_record.proofs.field.Fields.field_at.Goals as goal

pub returns-then-eq : goal.returns-then-eq
returns-then-eq c = λ f is.
    let es = c.self.inside.entries.items in
    let place = c.args.place in
    let key = c.args.key.now in
    let read = c.index-entry.result.now in
    let within : place < length es = search rules in
    let same : read.0 ≡ key = sym c.key.ensures ∙ (bytes_eq-Decides c.key.result.now key).0 (sym c.if-eq.ensures) in
    let there : get_or es place read ≡ read = sym c.index-entry.ensures in
    let here : slice_cmp nat_cmp (get_or es place read).0 key ≡ Equal = subst (λ e. slice_cmp nat_cmp e.0 key ≡ Equal) (sym there) (subst (λ k. slice_cmp nat_cmp k key ≡ Equal) (sym same) (tied_itself nat_list_cmp_total key)) in
    let some : member_at es key ≡ Some (get_or es place read).1 = member_at-some es key place read within c.self.invariant here in
    sym (ap (λ ms. member_at ms key) c.self.view_is) ∙ some ∙ ap (λ e. Some e.1) there ∙ ap Some (sym c.field.ensures) ∙ is
