use Rattle.std.proofs.Common.{◌≡◌, ◌<◌, length, get_or, set, subst, Equal, nat_cmp, rules, sym, ap, ◌∙◌}
use Rattle.std.proofs.lemmas.Fn.{always_returns_same}
use Rattle.std.specs.Cmp.Lexicographic.{slice_cmp}
use Rattle.std.specs.FinMap.Entries.{put}
use Rattle.std.specs.List.{insert}
use Rattle.std.specs.Map.{keys_of}
use Rattle.gql_plain.specs.Order.{AreInOrder}
use Rattle.store_record.proofs.Puts.{AreInOrder-put, put-in_place, put-searched}
use Rattle.store_record.proofs.field.Fields.put_shared.Goals as goal

put_at : (c : goal.After-drop-index_mut) → set c.self.inside.entries.items c.in-Ok.at c.args.entry ≡ put (slice_cmp nat_cmp) c.args.entry.0 c.args.entry.1 c.self.inside.entries.items
put_at c =
    let es = c.self.inside.entries.items in
    let at = c.in-Ok.at in
    let key = c.args.entry.0 in
    let read = c.index_mut.result.now in
    let facts = c.in-Ok.ensures in
    let equal = facts.position (λ e. slice_cmp nat_cmp e.0 key) (always_returns_same _ _ _ (λ a r g called. (search rules, search rules))) in
    let within : at < length es = subst (λ xs. at < length xs) c.deref.ensures.value facts.bound in
    let here : slice_cmp nat_cmp (get_or es at read).0 key ≡ Equal = subst (λ xs. slice_cmp nat_cmp (get_or xs at read).0 key ≡ Equal) c.deref.ensures.value (equal read) in
    put-in_place c.args.entry es at read c.self.invariant within here

absent : (c : goal.In_ok-insert-in-Err) → c.insert.new.self.items ≡ put (slice_cmp nat_cmp) c.args.entry.0 c.args.entry.1 c.self.inside.entries.items
absent c =
    let es = c.deref.result.now in
    let key = c.args.entry.0 in
    let facts = c.in-Err.ensures in
    let parted = facts.position (λ e. slice_cmp nat_cmp e.0 key) (always_returns_same _ _ _ (λ a r g called. (search rules, search rules))) in
    let sorted : AreInOrder (keys_of es) = rw c.deref.ensures.value c.self.invariant in
    c.in_ok-insert-in-Err.ensures.items
    ∙ ap (λ xs. insert xs c.in-Err.at c.args.entry) (sym c.deref.ensures.value)
    ∙ sym (put-searched key c.args.entry.1 es c.in-Err.at sorted facts.bound parted)
    ∙ ap (put (slice_cmp nat_cmp) key c.args.entry.1) c.deref.ensures.value

pub invariant_of-self : goal.invariant_of-self
invariant_of-self c = rw (put_at c) (AreInOrder-put c.args.entry.0 c.args.entry.1 c.self.inside.entries.items c.self.invariant)

pub invariant_of-self-in-Continue-1 : goal.invariant_of-self-in-Continue-1
invariant_of-self-in-Continue-1 c = rw (absent c) (AreInOrder-put c.args.entry.0 c.args.entry.1 c.self.inside.entries.items c.self.invariant)

pub returns-in-Ok-clause-ok : goal.returns-in-Ok-clause-ok
returns-in-Ok-clause-ok c = put_at c ∙ ap (put (slice_cmp nat_cmp) c.args.entry.0 c.args.entry.1) c.self.view_is

pub returns-in_ok-insert-in-Err-clause-ok : goal.returns-in_ok-insert-in-Err-clause-ok
returns-in_ok-insert-in-Err-clause-ok c = absent c ∙ ap (put (slice_cmp nat_cmp) c.args.entry.0 c.args.entry.1) c.self.view_is
