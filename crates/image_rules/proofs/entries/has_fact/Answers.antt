use Rattle.std.proofs.Common.{nat_cmp, rules, sym, ap, ◌∙◌}
use Rattle.std.proofs.lemmas.Fn.{always_returns_same}
use Rattle.std.specs.Cmp.Lexicographic.{slice_cmp}
use Rattle.gql_plain.proofs.Searches.{absent}
use Rattle.image_rules.proofs.FactLaws.{ids_rise, none_of_id, one_of_id}
use Rattle.image_rules.specs.FactTests.{has_key}
use Rattle.image_rules.proofs.entries.has_fact.Goals as goal

pub returns-in-Ok : goal.returns-in-Ok
returns-in-Ok c =
    let rows = c.args.rows.now in
    let id = c.args.id.now in
    let key = c.args.key.now in
    let at = c.in-Ok.at in
    let read = c.index-rows-at.result in
    let facts = c.in-Ok.ensures in
    let equal = facts.position (λ r. slice_cmp nat_cmp r.id id) (always_returns_same _ _ _ (λ a r g called. (search rules, search rules))) in
    c.has_key.ensures ∙ ap (λ r. has_key r key) c.index-rows-at.is ∙ sym (one_of_id rows id key at read facts.bound (ids_rise rows c.requires.order) (equal read))

pub returns-in-Err : goal.returns-in-Err
returns-in-Err c =
    let rows = c.args.rows.now in
    let id = c.args.id.now in
    let parted = c.in-Err.ensures.position (λ r. slice_cmp nat_cmp r.id id) (always_returns_same _ _ _ (λ a r g called. (search rules, search rules))) in
    sym (none_of_id rows id c.args.key.now (absent (λ r. r.id) id rows _ (ids_rise rows c.requires.order) parted))
