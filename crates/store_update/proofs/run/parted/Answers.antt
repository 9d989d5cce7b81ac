use Rattle.std.proofs.Common.{◌≡◌, Some, ap, ◌∙◌, arith}
use Rattle.std.proofs.lemmas.List.{nil_from_length}
use Rattle.std.proofs.lemmas.List.Sums.{prefix_len-le-length}
use Rattle.std.specs.List.{prefix_len}
use Rattle.store_update.proofs.Turns.{behind_on, front_on, last_is, none_on}
use Rattle.store_update.proofs.run.parted.Goals as goal
use Rattle.store_update.specs.Turns.{goes_on, goes_with, last_id}

pub split_at-requires-in-Some : goal.split_at-requires-in-Some
split_at-requires-in-Some c = omega (arith, c.run_of.ensures, prefix_len-le-length (goes_with c.as_str.result.now) c.args.commands.now)

pub returns-in-Some-clause-first : goal.returns-in-Some-clause-first
returns-in-Some-clause-first c =
    let commands = c.args.commands.now in
    let last = c.in-Some.last.now in
    let is : last_id c.args.rows.now ≡ Some last.id = ap last_id c.in-Some.ensures.cases.0 ∙ last_is c.in-Some.field-0-1.now last in
    let at = c.run_of.ensures ∙ ap (λ id. prefix_len (goes_with id) commands) c.as_str.ensures in
    front_on (last_id c.args.rows.now) last.id c.run_of.result commands is at c.split_at-in-Some.result.0.now c.split_at-in-Some.ensures.front

pub returns-in-Some-clause-longest : goal.returns-in-Some-clause-longest
returns-in-Some-clause-longest c none =
    let commands = c.args.commands.now in
    let last = c.in-Some.last.now in
    let is : last_id c.args.rows.now ≡ Some last.id = ap last_id c.in-Some.ensures.cases.0 ∙ last_is c.in-Some.field-0-1.now last in
    let at = c.run_of.ensures ∙ ap (λ id. prefix_len (goes_with id) commands) c.as_str.ensures in
    behind_on (last_id c.args.rows.now) last.id c.run_of.result commands is at c.split_at-in-Some.result.1.now c.split_at-in-Some.ensures.back

pub returns-in-None-clause-longest : goal.returns-in-None-clause-longest
returns-in-None-clause-longest c none =
    let later = c.split_at-in-None.result.1.now in
    ap (λ rows. prefix_len (goes_on (last_id rows)) later) (nil_from_length c.args.rows.now c.in-None.ensures.cases) ∙ none_on later
