use Rattle.std.proofs.Common.{◌&&◌, ◌||◌, Bool, not, refl, ap, ◌∙◌, arith, bytes_eq}
use Rattle.std.proofs.lemmas.List.Sums.{prefix_len-le-length}
use Rattle.store_conn.specs.gql_plain.Order.{has_text}
use Rattle.store_conn.specs.store_record.Keys.{Text}
use Rattle.store_update.proofs.Groups.{rises_from, step_left, step_looks, step_stayed}
use Rattle.store_update.proofs.Noted.{again_there}
use Rattle.store_update.proofs.touched.stayed.Goals as goal
use Rattle.store_update.specs.Touched.{is_changed}
use Rattle.store_update.specs.Turns.{stands_again}

pub groups-init : goal.groups-init
groups-init g c =
    let sorted = c.args.sorted.now in
    let same : Text → Bool = λ id. not (is_changed (g.S.RecordSource.records c.args.before.now) (g.S.RecordSource.records c.args.after.now) id) in
    record {
      left = record { rises = rises_from sorted c.requires; counted = λ id there. refl };
      stayed = λ id.
          ap (λ texts. has_text texts id || (has_text sorted id && (stands_again sorted id && same id))) c.new-stayed.ensures.items ∙ again_there sorted id (same id);
      looks = omega arith;
      applies = refl;
    }

pub split_at-requires : goal.split_at-requires
split_at-requires g c =
    omega (arith, c.same_behind.ensures, prefix_len-le-length (λ one. bytes_eq one c.in-Some.first.now) c.in-Some.later.now)

pub returns-in_err-note_stayed-clause-looks : goal.returns-in_err-note_stayed-clause-looks
returns-in_err-note_stayed-clause-looks g c =
    let few = step_looks c.args.sorted.now c.groups.rest.now c.groups.invariant.left c.in-Some.first.now c.in-Some.later.now c.split_at.result.0.now c.split_at.result.1.now c.same_behind.result c.in-Some.ensures.cases.0
    c.split_at.ensures.front c.split_at.ensures.back c.same_behind.ensures in
    omega (arith, c.groups.invariant.looks, c.note_stayed.ensures.looks, few)

pub groups-preserved : goal.groups-preserved
groups-preserved g c =
    let sorted = c.args.sorted.now in
    let rest = c.groups.rest.now in
    let left = c.groups.invariant.left in
    let first = c.in-Some.first.now in
    let later = c.in-Some.later.now in
    let again = c.split_at.result.0.now in
    let others = c.split_at.result.1.now in
    let n = c.same_behind.result in
    let whole = c.in-Some.ensures.cases.0 in
    let front = c.split_at.ensures.front in
    let back = c.split_at.ensures.back in
    let same : Text → Bool = λ id. not (is_changed (g.S.RecordSource.records c.args.before.now) (g.S.RecordSource.records c.args.after.now) id) in
    let few = step_looks sorted rest left first later again others n whole front back c.same_behind.ensures in
    record {
      left = step_left sorted rest left first later again others n whole front back c.same_behind.ensures;
      stayed = step_stayed sorted rest left first later again others n whole front back c.same_behind.ensures same c.groups.stayed.items c.note_stayed.new.stayed.items c.groups.invariant.stayed c.in_ok-note_stayed.ensures.stayed;
      looks = omega (arith, c.groups.invariant.looks, c.note_stayed.ensures.looks, few);
      applies = c.note_stayed.ensures.applies ∙ c.groups.invariant.applies;
    }
