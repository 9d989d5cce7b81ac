use Rattle.std.proofs.Common.{◌≡◌, false, Option, Some, None, cond, is_some, string_bytes, bytes_eq, refl, sym, ap, subst, ◌∙◌}
use Rattle.std.proofs.lemmas.Map.Text.{btree_map_updates_text}
use Rattle.std.proofs.lemmas.Slice.Eq.{bytes_eq-Decides}
use Rattle.std.specs.BTreeMap.{get_by_text}
use Rattle.plan_project.proofs.Looking.{put_over}
use Rattle.plan_project.proofs.listing.put_new.Goals as goal

none_if : {X : Type 0} (r : Option X) → is_some r ≡ false → r ≡ None
none_if None e = refl
none_if (Some k) e = cc

pub returns-in_ok-insert : goal.returns-in_ok-insert
returns-in_ok-insert g c = λ n.
    let absent : get_by_text c.args.map.now c.args.name.now ≡ None = none_if _ (sym c.contains_key.ensures ∙ c.if-not-contains_key.true) in
    btree_map_updates_text (string_bytes c.in_ok-from_str.field-0) c.args.map.now c.insert.new.self _ c.in_ok-insert.ensures.updates n
    ∙ ap (λ k. cond (bytes_eq k n) (Some c.args.value) (get_by_text c.args.map.now n)) c.in_ok-from_str.ensures.ok
    ∙ put_over (bytes_eq c.args.name.now n) (get_by_text c.args.map.now n) c.args.value
    (λ e. subst (λ t. get_by_text c.args.map.now t ≡ None) ((bytes_eq-Decides c.args.name.now n).0 e) absent)
