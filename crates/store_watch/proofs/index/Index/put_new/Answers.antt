use Rattle.std.proofs.Common.{◌≡◌, true, true≢false, sym, ap, subst, ◌∙◌, string_bytes}
use Rattle.std.proofs.lemmas.Map.Text.{btree_map_updates_text}
use Rattle.store_watch.proofs.Held.{put_grows}
use Rattle.store_watch.specs.Lists.{under}
use Rattle.store_watch.specs.Numbers.{has}
use Rattle.store_watch.proofs.index.Index.put_new.Goals as goal

pub returns-clause-grows : goal.returns-clause-grows
returns-clause-grows c =
    let lists = c.args.self.now.lists in
    let id = string_bytes c.in_ok-id.id in
    put_grows lists c.insert.new.self id _ (btree_map_updates_text id lists c.insert.new.self _ c.in_ok-insert.ensures.updates)
    (λ n h. absurd (true≢false (sym h ∙ ap (λ xs. has xs n) (ap (under lists) c.in_ok-id.ensures.ok ∙ c.requires))))
