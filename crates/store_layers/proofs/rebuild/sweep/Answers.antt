use Rattle.std.proofs.Common.{◌≡◌, false, List, [], ◌∷◌, length, String, Global, refl, sym, ap, ◌∙◌, subst, arith}
use Rattle.std.specs.declared.rc.Rc.{Rc}
use Rattle.store_update.specs.gql_plain.Order.{has_text}
use Rattle.store_update.specs.store_record.Keys.{Text}
use Rattle.store_update.specs.store_model.Records.{Records, slot_at}
use Rattle.store_update.specs.store_model.declared.entry.Entry.{Entry}
use Rattle.store_update.specs.store_model.Sweeps.{sweep, dropped}
use Rattle.store_sweeps.proofs.Folds.{folds_same}
use Rattle.store_layers.proofs.Rebuilt.{Puts, all_put, within_all}
use Rattle.store_layers.proofs.Swept.{swept_of, dropped_gone, no_texts, none_swept}
use Rattle.store_layers.proofs.VersionSteps.{newest_is}
use Rattle.store_layers.proofs.rebuild.sweep.Goals as goal
use Rattle.store_layers.specs.Layered.{entries_of, view_of}
use Rattle.store_layers.specs.Versions.{shown, newest, AreVersions, layered_of, layers_of, entries_within}
use Rattle.store_layers.specs.Work.{weights}

pub returns-in_err-put_versions-clause-looks : goal.returns-in_err-put_versions-clause-looks
returns-in_err-put_versions-clause-looks g c =
    let r = g.S.RecordSource.records in
    let m = r c.args.base.now in
    let keep = has_text c.args.keep.now in
    let named = c.args.entries.now.entries in
    let n = c.len-count.result in
    let m1 = r c.in_ok-left.left in
    let made : m1 ≡ sweep keep m = c.in_ok-left.ensures.records ∙ ap (λ ids. swept_of ids m) c.in_ok-touched.ensures ∙ dropped_gone keep m in
    let h0 : AreVersions m1 [] (shown r c.new-after.result.items) = subst (λ xs. AreVersions m1 [] (shown r xs)) (sym c.new-after.ensures.items) tt in
    let later = c.put_versions.ensures.looks [] h0 in
    let weighs : weights (entries_within 0 n named) m1 ≡ weights (entries_of (layers_of named)) (sweep keep m) = λ i. weights (within_all named n c.len-count.ensures.len i) (made i) in
    omega (arith, c.without_ids.ensures.looks, later, weighs)

pub returns-in_err-view-2-clause-looks : goal.returns-in_err-view-2-clause-looks
returns-in_err-view-2-clause-looks g c =
    let r = g.S.RecordSource.records in
    let m = r c.args.base.now in
    let keep = has_text c.args.keep.now in
    let named = c.args.entries.now.entries in
    let n = c.len-count.result in
    let m1 = r c.in_ok-left.left in
    let made : m1 ≡ sweep keep m = c.in_ok-left.ensures.records ∙ ap (λ ids. swept_of ids m) c.in_ok-touched.ensures ∙ dropped_gone keep m in
    let h0 : AreVersions m1 [] (shown r c.new-after.result.items) = subst (λ xs. AreVersions m1 [] (shown r xs)) (sym c.new-after.ensures.items) tt in
    let later = c.put_versions.ensures.looks [] h0 in
    let weighs : weights (entries_within 0 n named) m1 ≡ weights (entries_of (layers_of named)) (sweep keep m) = λ i. weights (within_all named n c.len-count.ensures.len i) (made i) in
    omega (arith, c.without_ids.ensures.looks, later, weighs)

pub returns-clause-looks : goal.returns-clause-looks
returns-clause-looks g c =
    let r = g.S.RecordSource.records in
    let m = r c.args.base.now in
    let keep = has_text c.args.keep.now in
    let named = c.args.entries.now.entries in
    let n = c.len-count.result in
    let m1 = r c.in_ok-left.left in
    let made : m1 ≡ sweep keep m = c.in_ok-left.ensures.records ∙ ap (λ ids. swept_of ids m) c.in_ok-touched.ensures ∙ dropped_gone keep m in
    let h0 : AreVersions m1 [] (shown r c.new-after.result.items) = subst (λ xs. AreVersions m1 [] (shown r xs)) (sym c.new-after.ensures.items) tt in
    let later = c.put_versions.ensures.looks [] h0 in
    let weighs : weights (entries_within 0 n named) m1 ≡ weights (entries_of (layers_of named)) (sweep keep m) = λ i. weights (within_all named n c.len-count.ensures.len i) (made i) in
    omega (arith, c.without_ids.ensures.looks, later, weighs)

pub returns-clause-fits : goal.returns-clause-fits
returns-clause-fits g c =
    let r = g.S.RecordSource.records in
    let named = c.args.entries.now.entries in
    let m1 = r c.in_ok-left.left in
    let n = c.len-count.result in
    let news = shown r c.put_versions.new.versions.items in
    let put1 : Puts m1 [] (entries_within 0 n named) news =
    λ before h. c.in_ok-put_versions.ensures.versions before (subst (λ xs. AreVersions m1 before (shown r xs)) (sym c.new-after.ensures.items) h) in
    let new : AreVersions m1 (entries_of (layers_of named)) news = all_put m1 named n news c.len-count.ensures.len put1 in
    record {
      suits = (tt, new);
      view = c.in_ok-view-2.ensures ∙ c.newest-2.ensures ∙ ap (λ xs. newest m1 (shown r xs)) c.deref.ensures.value ∙ newest_is m1 (entries_of (layers_of named)) news new;
    }

pub returns-clause-placed : goal.returns-clause-placed
returns-clause-placed g c =
    let r = g.S.RecordSource.records in
    let m = r c.args.base.now in
    let keep = has_text c.args.keep.now in
    let made : r c.in_ok-left.left ≡ sweep keep m = c.in_ok-left.ensures.records ∙ ap (λ ids. swept_of ids m) c.in_ok-touched.ensures ∙ dropped_gone keep m in
    λ i. record { base = made i; live = layers_of c.args.entries.now.entries }

pub returns-clause-changed : goal.returns-clause-changed
returns-clause-changed g c = λ id out.
    let m = g.S.RecordSource.records c.args.base.now in
    let keep = has_text c.args.keep.now in
    sym (folds_same m (entries_of (layers_of c.args.entries.now.entries)) keep c.look_at_keys.ensures c.requires.kept id (subst (λ ids. has_text ids id ≡ false) c.in_ok-touched.ensures out))

nothing_goes : (keep : List Text) (m : Records) (ids : List Text) → ids ≡ dropped (has_text keep) m → length ids ≡ 0 → dropped (has_text keep) m ≡ []
nothing_goes keep m ids is none = sym is ∙ no_texts ids none

pub returns-then-is_empty-clause-placed : goal.returns-then-is_empty-clause-placed
returns-then-is_empty-clause-placed g c =
    let m = g.S.RecordSource.records c.args.base.now in
    let none = nothing_goes c.args.keep.now m c.in_ok-touched.touched c.in_ok-touched.ensures (grind (arith, c.is_empty.ensures)) in
    none_swept c.args.keep.now (layered_of m c.args.entries.now.entries) none

pub returns-then-is_empty-clause-fits : goal.returns-then-is_empty-clause-fits
returns-then-is_empty-clause-fits g c =
    let r = g.S.RecordSource.records in
    let m = r c.args.base.now in
    let es = entries_of (layers_of c.args.entries.now.entries) in
    record {
      suits = tt;
      view = c.in_ok-view.ensures ∙ c.newest.ensures ∙ newest_is m es (shown r c.args.versions.now) c.requires.versions.versions;
    }

pub returns-then-is_empty-clause-changed : goal.returns-then-is_empty-clause-changed
returns-then-is_empty-clause-changed g c = λ id out.
    let m = g.S.RecordSource.records c.args.base.now in
    let none = nothing_goes c.args.keep.now m c.in_ok-touched.touched c.in_ok-touched.ensures (grind (arith, c.is_empty.ensures)) in
    sym (ap (λ s. slot_at id (view_of s)) (none_swept c.args.keep.now (layered_of m c.args.entries.now.entries) none))

no_entries : (named : List (String Global × Rc Entry Global)) → entries_of (layers_of named) ≡ [] → length named ≡ 0
no_entries [] e = refl
no_entries (x ∷ named) e = absurd (omega (arith, ap length e))

pub returns-in_err-put_versions-clause-alone : goal.returns-in_err-put_versions-clause-alone
returns-in_err-put_versions-clause-alone g c = λ none.
    let few = no_entries c.args.entries.now.entries none in
    c.put_versions.ensures.none (omega (arith, few, c.len-count.ensures.len)) ∙ c.without_ids.ensures.applies

pub returns-in_err-view-2-clause-alone : goal.returns-in_err-view-2-clause-alone
returns-in_err-view-2-clause-alone g c = λ none.
    let few = no_entries c.args.entries.now.entries none in
    c.put_versions.ensures.none (omega (arith, few, c.len-count.ensures.len)) ∙ c.without_ids.ensures.applies

pub returns-clause-alone : goal.returns-clause-alone
returns-clause-alone g c = λ none.
    let few = no_entries c.args.entries.now.entries none in
    c.put_versions.ensures.none (omega (arith, few, c.len-count.ensures.len)) ∙ c.without_ids.ensures.applies
