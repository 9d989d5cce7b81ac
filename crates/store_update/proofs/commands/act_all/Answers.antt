use Rattle.std.proofs.Common.{◌≡◌, true, ◌∷◌, ◌++◌, [], drop, take, length, map, refl, sym, ap, subst, ◌∙◌, arith}
use Rattle.std.proofs.lemmas.Bool.{and_parts}
use Rattle.std.proofs.lemmas.List.Sums.{sum_by-cons}
use Rattle.std.specs.List.{list_all, sum_by}
use Rattle.store_conn.specs.store_model.Entries.{asked_by_commands, weights}
use Rattle.store_conn.specs.store_model.Updates.{act_all}
use Rattle.store_update.proofs.Noted.{noted_more, noted_none}
use Rattle.store_update.proofs.Runs.{run_acts, run_weighs}
use Rattle.store_update.proofs.Turns.{passes_behind, run_goes, run_turn, run_within}
use Rattle.store_update.proofs.commands.act_all.Goals as goal
use Rattle.store_update.specs.Slots.{id_of}
use Rattle.store_update.specs.Turns.{AreOf, is_of_record, turns}

pub runs-init : goal.runs-init
runs-init g c = record {
  records = refl;
  noted = noted_none (g.S.RecordSource.records c.args.draft.source) c.args.draft.noted.items;
  few = omega arith;
  of_records = λ all. all;
  picked = λ all number. omega arith;
  looks = omega arith;
  turned = λ all. omega arith;
  applies = refl;
}

pub split_at-requires : goal.split_at-requires
split_at-requires g c = omega (arith, c.run_behind.ensures, run_within c.in-Some.first.now c.in-Some.later.now)

pub act_run-requires-clause-run : goal.act_run-requires-clause-run
act_run-requires-clause-run g c =
    let first = c.in-Some.first.now in
    let later = c.in-Some.later.now in
    subst (λ cs. AreOf (id_of first) cs) (sym (c.split_at.ensures.front ∙ ap (λ n. take n later) c.run_behind.ensures)) (run_goes first later)

pub runs-preserved : goal.runs-preserved
runs-preserved g c =
    let first = c.in-Some.first.now in
    let later = c.in-Some.later.now in
    let behind = c.split_at.result.0.now in
    let after = c.split_at.result.1.now in
    let before = g.S.RecordSource.records c.runs.current.source in
    let whole : c.runs.rest.now ≡ first ∷ later = c.in-Some.ensures.cases.0 in
    let parted : later ≡ behind ++ after = c.split_at.ensures.by_index.0 in
    let made = c.in_ok-current.ensures.records in
    let weighs = run_weighs first behind after later before parted in
    let rest = ap (λ m. weights (asked_by_commands after m)) made in
    let all = ap (λ cs. weights (asked_by_commands cs before)) whole in
    let of_record : list_all is_of_record c.args.commands.now ≡ true → list_all is_of_record (first ∷ later) ≡ true = λ h. ap (list_all is_of_record) (sym whole) ∙ c.runs.invariant.of_records h in
    let parts : list_all is_of_record c.args.commands.now ≡ true → (is_of_record first ≡ true) × (list_all is_of_record later ≡ true) =
    λ h. and_parts (is_of_record first) (list_all is_of_record later) (of_record h) in
    let turn : list_all is_of_record c.args.commands.now ≡ true → turns (map id_of c.runs.rest.now) ≡ id_of first ∷ turns (map id_of after) =
    λ h. ap (λ cs. turns (map id_of cs)) whole ∙ run_turn first later (of_record h)
    ∙ ap (λ cs. id_of first ∷ turns (map id_of cs)) (sym (c.split_at.ensures.back ∙ ap (λ n. drop n later) c.run_behind.ensures)) in
    record {
      records = ap (act_all after) made ∙ run_acts first behind after later before parted ∙ ap (λ cs. act_all cs before) (sym whole) ∙ c.runs.invariant.records;
      noted = noted_more _ _ _ _ _ _ c.runs.invariant.noted c.in_ok-current.ensures.noted;
      few = omega (arith, c.runs.invariant.few, c.in_ok-current.ensures.few, weighs, rest, all);
      of_records = λ h. ap (list_all is_of_record) c.split_at.ensures.back ∙ passes_behind is_of_record c.run_behind.result later (parts h).1;
      picked = λ h number.
          omega (
            arith,
            c.runs.invariant.picked h number,
            c.in_ok-current.ensures.picked (parts h).0 number,
            ap (sum_by number) (turn h),
            sum_by-cons number (id_of first) (turns (map id_of after)),
            sum_by-cons number (id_of first) [],
          );
      looks = omega (arith, c.runs.invariant.looks, c.act_run.ensures.looks, weighs, rest, all);
      turned = λ h. omega (arith, c.runs.invariant.turned h, c.act_run.ensures.turn (parts h).0, ap length (turn h));
      applies = c.act_run.ensures.applies ∙ c.runs.invariant.applies;
    }

pub returns-in_err-current-clause-looks : goal.returns-in_err-current-clause-looks
returns-in_err-current-clause-looks g c =
    let first = c.in-Some.first.now in
    let before = g.S.RecordSource.records c.runs.current.source in
    let whole : c.runs.rest.now ≡ first ∷ c.in-Some.later.now = c.in-Some.ensures.cases.0 in
    let weighs = run_weighs first c.split_at.result.0.now c.split_at.result.1.now c.in-Some.later.now before c.split_at.ensures.by_index.0 in
    let all = ap (λ cs. weights (asked_by_commands cs before)) whole in
    omega (arith, c.runs.invariant.looks, c.act_run.ensures.looks, weighs, all)

pub returns-in_err-current-clause-turns : goal.returns-in_err-current-clause-turns
returns-in_err-current-clause-turns g c h =
    let first = c.in-Some.first.now in
    let later = c.in-Some.later.now in
    let whole : c.runs.rest.now ≡ first ∷ later = c.in-Some.ensures.cases.0 in
    let all : list_all is_of_record (first ∷ later) ≡ true = ap (list_all is_of_record) (sym whole) ∙ c.runs.invariant.of_records h in
    omega (
      arith,
      c.runs.invariant.turned h,
      c.act_run.ensures.turn (and_parts (is_of_record first) (list_all is_of_record later) all).0,
      ap (λ cs. length (turns (map id_of cs))) whole,
      ap length (run_turn first later all),
    )
