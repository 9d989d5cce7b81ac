use Rattle.std.proofs.Common.{◌≡◌, ◌<◌, length, get_or, subst, Equal, Some, None, nat_cmp, rules, sym, ap, ◌∙◌}
use Rattle.std.proofs.lemmas.Fn.{always_returns_same}
use Rattle.std.specs.Cmp.Lexicographic.{slice_cmp}
use Rattle.std.specs.Map.{keys_of}
use Rattle.gql_plain.proofs.Searches.{absent, member_at-none, member_at-some}
use Rattle.gql_plain.specs.Order.{AreInOrder, member_at}
use Rattle.store_record.proofs.field.Fields.near.Goals as goal

pub returns-in-Ok : goal.returns-in-Ok
returns-in-Ok c =
    let es = c.self.inside.entries.items in
    let at = c.in-Ok.at in
    let key = c.args.key.now in
    let read = c.index.result.now in
    let facts = c.in-Ok.ensures in
    let equal = facts.position (λ e. slice_cmp nat_cmp e.0 key) (always_returns_same _ _ _ (λ a r g called. (search rules, search rules))) in
    let within : at < length es = subst (λ xs. at < length xs) c.deref.ensures.value facts.bound in
    let here : slice_cmp nat_cmp (get_or es at read).0 key ≡ Equal = subst (λ xs. slice_cmp nat_cmp (get_or xs at read).0 key ≡ Equal) c.deref.ensures.value (equal read) in
    let some : member_at es key ≡ Some (get_or es at read).1 = member_at-some es key at read within c.self.invariant here in
    ap Some c.field.ensures ∙ ap (λ e. Some e.1) c.index.ensures ∙ sym some ∙ ap (λ ms. member_at ms key) c.self.view_is

pub returns-in-Err : goal.returns-in-Err
returns-in-Err c =
    let es = c.deref.result.now in
    let key = c.args.key.now in
    let parted = c.in-Err.ensures.position (λ e. slice_cmp nat_cmp e.0 key) (always_returns_same _ _ _ (λ a r g called. (search rules, search rules))) in
    let sorted : AreInOrder (keys_of es) = rw c.deref.ensures.value c.self.invariant in
    let none : member_at es key ≡ None = member_at-none es key (absent (λ e. e.0) key es _ sorted parted) in
    sym none ∙ rw (c.deref.ensures.value, c.self.view_is)
