-- An entry as it is applied: its rows with the commands that go on with the last of them, its pages, and the rest of its commands.
use Rattle.std.proofs.Common.{◌≡◌, ◌+◌, ◌*◌, ◌≤◌, ◌⊎◌, true, List, [], ◌++◌, map, length, length-append, refl, sym, ap, ◌∙◌, subst, arith}
use Rattle.std.proofs.lemmas.List.{length-map}
use Rattle.std.specs.List.{list_all, prefix_len}
use Rattle.store_conn.proofs.store_model_laws.FactRows.{put_rows_is}
use Rattle.store_conn.specs.store_model.Entries.{apply, asked_by_commands, asked_by_pages, merge_all, weight, weights}
use Rattle.store_conn.specs.store_model.FactRows.{AreFactRows, facts_of, put_rows}
use Rattle.store_conn.specs.store_model.Records.{Records, put}
use Rattle.store_conn.specs.store_model.Updates.{act_all}
use Rattle.store_conn.specs.store_model.declared.command.Command.{Command}
use Rattle.store_conn.specs.store_model.declared.entry.Entry.{Entry}
use Rattle.store_conn.specs.store_model.declared.facts.FactRow.{FactRow}
use Rattle.store_conn.specs.store_model.declared.facts.HandleFact.{HandleFact}
use Rattle.store_update.proofs.Runs.{parted_acts, parted_commands, parted_pages}
use Rattle.store_update.proofs.Turns.{entry_turns}
use Rattle.store_update.proofs.Weights.{rows_few, weight_is}
use Rattle.store_update.specs.Slots.{id_of}
use Rattle.store_update.specs.Turns.{IsOfRecords, goes_on, last_id, turns, turns_of}

module _ (e : Entry) (m : Records) (rows : List FactRow) (handles : List HandleFact) (first later : List Command) (facts : facts_of rows ≡ e.facts.facts) (order : AreFactRows rows) (same : handles ≡ e.facts.handles) (whole : e.commands ≡ first ++ later) where
  rows_put : put_rows rows m ≡ put e.facts.facts m
  rows_put = sym (put_rows_is rows m order.each) ∙ ap (λ fs. put fs m) facts

  module _ (apart : (handles ≡ []) ⊎ (first ≡ [])) (after merged : Records) (acted : after ≡ act_all first (put_rows rows m)) (put_on : merged ≡ merge_all handles after) where
    after_is : after ≡ act_all first (put e.facts.facts m)
    after_is = acted ∙ ap (act_all first) rows_put

    pub entry_acts : act_all later merged ≡ apply e m
    entry_acts =
        ap (act_all later) (put_on ∙ ap (merge_all handles) after_is) ∙ parted_acts handles first later (put e.facts.facts m) apart
        ∙ (λ i. act_all (sym whole i) (merge_all (same i) (put e.facts.facts m)))

    -- what is asked for in this order weighs no more than the entry
    pub entry_weighs : 2 * length rows + weights (asked_by_pages handles after) + weights (asked_by_commands later merged) ≤ weight e m
    entry_weighs =
        let before = put e.facts.facts m in
        let few : length rows ≤ length e.facts.facts = subst (λ fs. length rows ≤ length fs) facts (rows_few rows) in
        let pages : weights (asked_by_pages handles after) ≡ weights (asked_by_pages e.facts.handles before) = ap (λ r. weights (asked_by_pages handles r)) after_is ∙ parted_pages handles first later before apart ∙ ap (λ hs. weights (asked_by_pages hs before)) same in
        let least : weights (asked_by_commands later merged) ≤ weights (asked_by_commands (first ++ later) (merge_all handles before)) = subst (λ r. weights (asked_by_commands later r) ≤ weights (asked_by_commands (first ++ later) (merge_all handles before))) (sym (put_on ∙ ap (merge_all handles) after_is)) (parted_commands handles first later before apart) in
        let all : weights (asked_by_commands (first ++ later) (merge_all handles before)) ≡ weights (asked_by_commands e.commands (merge_all e.facts.handles before)) = λ i. weights (asked_by_commands (sym whole i) (merge_all (same i) before)) in
        omega (arith, weight_is e m before (merge_all e.facts.handles before) refl refl, few, pages, least, all)

  module _ (of : IsOfRecords e) (on : list_all (goes_on (last_id rows)) first ≡ true) (behind : handles ≡ [] → prefix_len (goes_on (last_id rows)) later ≡ 0) where
    pub no_pages : handles ≡ []
    no_pages = same ∙ of.0

    pub turns_are : turns_of e ≡ map (λ (r : FactRow). r.id) rows ++ turns (map id_of later)
    turns_are = entry_turns e rows first later facts whole order.order on (behind no_pages) of.1

    pub turns_count : length (turns_of e) ≡ length rows + length (turns (map id_of later))
    turns_count = ap length turns_are ∙ length-append (map (λ (r : FactRow). r.id) rows) (turns (map id_of later)) ∙ ap (λ n. n + length (turns (map id_of later))) (length-map rows (λ (r : FactRow). r.id))
