use Rattle.std.proofs.Common.{◌≡◌, ◌||◌, ◌++◌, [], ◌∷◌, false, true, bytes_eq, sym, ap, subst, ◌∙◌, arith}
use Rattle.std.proofs.lemmas.Result.{IfOk-weaker}
use Rattle.plan_ir.specs.gql_plain.Order.{has_text}
use Rattle.plan_ir.specs.store_model.Leads.{leads, with_infos}
use Rattle.plan_ir.specs.store_record.Keys.{Text}
use Rattle.store_retain.proofs.LeadingSteps.{all_led, no_texts, none_opened, put_back, smaller, start_sound, still_sound, taken_off, true_or, was_noted}
use Rattle.store_retain.proofs.leading.leads.Goals as goal
use Rattle.store_retain.specs.Leading.{IsOpened, out_of}

pub pending-init : goal.pending-init
pending-init g c =
    let m = g.S.RecordSource.records c.args.source.now in
    let ids = c.args.ids.now in
    let noted : (j : Text) → has_text c.see_all.new.leading.noted.keys j ≡ has_text (with_infos ids) j =
    λ j. c.in_ok-see_all.ensures.noted j ∙ ap (λ ks. has_text ks j || has_text (with_infos c.as_slice.result.now) j) c.new.ensures.empty ∙ ap (λ xs. has_text (with_infos xs) j) c.as_slice.ensures in
    record {
      given = λ j h. noted j ∙ h;
      sound = λ j h. start_sound m ids j (sym (noted j) ∙ h);
      opened = c.in_ok-see_all.ensures.opened (λ j. false) (none_opened m c.new.result.keys c.new-2.result.items c.new.ensures.empty c.new-2.ensures.items);
      applies = c.see_all.ensures.applies;
    }

pub pending-preserved : goal.pending-preserved
pending-preserved g c =
    let m = g.S.RecordSource.records c.args.source.now in
    let N = c.pending.leading.noted.keys in
    let O = c.pop.new.self.items in
    let id = c.in-Some.id in
    let before = c.pending.leading.pending.items in
    let taken : before ≡ O ++ id ∷ [] = c.in-Some.ensures.items in
    let noted = c.in_ok-open_record.ensures.noted in
    let here : has_text N id ≡ true = was_noted m N O before id taken c.pending.invariant.opened in
    record {
      given = λ j h. noted j ∙ true_or (has_text N j) (has_text (out_of m id) j) (c.pending.invariant.given j h);
      sound = still_sound m c.args.ids.now N c.open_record.new.leading.noted.keys id noted here c.pending.invariant.sound;
      opened = put_back m N c.open_record.new.leading.noted.keys c.open_record.new.leading.pending.items id noted
          (c.in_ok-open_record.ensures.opened (λ j. bytes_eq id j) (taken_off m N O before id taken c.pending.invariant.opened));
      applies = c.open_record.ensures.applies ∙ c.pending.invariant.applies;
    }

pub pending-smaller : goal.pending-smaller
pending-smaller g c =
    let taken : c.pending.leading.pending.items ≡ c.pop.new.self.items ++ c.in-Some.id ∷ [] = c.in-Some.ensures.items in
    smaller (g.S.RecordSource.records c.args.source.now) c.open_record.new.leading.noted.keys c.open_record.new.leading.pending.items c.pending.leading.noted.keys c.pop.new.self.items c.pending.leading.pending.items c.in-Some.id taken c.in_ok-open_record.ensures.less

pub returns-clause-ids : goal.returns-clause-ids
returns-clause-ids g c = λ j.
    let m = g.S.RecordSource.records c.args.source.now in
    let ids = c.args.ids.now in
    let N = c.pending.leading.noted.keys in
    let none : c.pending.leading.pending.items ≡ [] = no_texts c.pending.leading.pending.items (omega (arith, c.in_default.ensures.cases.0, c.pending.leading.pending.ok.0)) in
    let opened : IsOpened m N [] (λ j. false) = subst (λ xs. IsOpened m N xs (λ j. false)) none c.pending.invariant.opened in
    IfOk-weaker c.all_noted.result (λ found. has_text found j ≡ has_text N j) (λ found. has_text found j ≡ has_text (leads m ids) j)
    (λ found same. same ∙ all_led m ids N c.pending.invariant.given c.pending.invariant.sound opened j) (c.all_noted.ensures j)
