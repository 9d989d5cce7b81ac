use Rattle.std.proofs.Common.{◌≡◌, true, refl, sym, ap, subst, ◌∙◌, []}
use Rattle.std.proofs.lemmas.Map.Text.{btree_map_updates_text}
use Rattle.std.specs.Option.{IsSome, option_map_or}
use Rattle.store_watch.proofs.Held.{put_grows}
use Rattle.store_watch.specs.Numbers.{has}
use Rattle.store_watch.proofs.index.Index.put.Goals as goal

pub returns-in-Some-clause-grows : goal.returns-in-Some-clause-grows
returns-in-Some-clause-grows c =
    let lists = c.args.self.now.lists in
    let id = c.args.id.now in
    let w = c.put_number.new.list in
    put_grows lists (c.get_mut.follows.lender w) id w
    (btree_map_updates_text id lists (c.get_mut.follows.lender w) _ ((c.get_mut.follows.holds w).3 (subst IsSome c.in-Some.ensures.value refl)))
    (λ n h. c.put_number.ensures.grows n (subst (λ o. has (option_map_or (λ v. v.items) o []) n ≡ true) (sym c.in-Some.ensures.value) h))
