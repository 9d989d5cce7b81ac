use Rattle.std.proofs.Common.{◌≡◌, [], ◌||◌, sym, ap, ◌∙◌, subst, arith}
use Rattle.store_update.specs.gql_plain.Order.{has_text}
use Rattle.store_update.specs.store_model.Entries.{apply}
use Rattle.store_update.specs.Touched.{AreTouched}
use Rattle.store_layers.proofs.Rebuilt.{Puts, all_put, confirmed_ids, confirm_weighs}
use Rattle.store_layers.proofs.rebuild.confirm.Goals as goal
use Rattle.store_layers.specs.Layered.{entries_of}
use Rattle.store_layers.proofs.VersionSteps.{newest_is}
use Rattle.store_layers.specs.Versions.{shown, newest, AreVersions, is_noted, layers_of, entries_within}

pub returns-in_err-put_versions-clause-looks : goal.returns-in_err-put_versions-clause-looks
returns-in_err-put_versions-clause-looks g c =
    let r = g.S.RecordSource.records in
    let m = r c.args.base.now in
    let e = c.args.entry.now in
    let named = c.args.entries.now.entries in
    let m1 = r c.in_ok-changed.changed.source in
    let made : m1 ≡ apply e m = c.in_ok-changed.ensures.records in
    let n = c.len-count.result in
    let h0 : AreVersions m1 [] (shown r c.new-after.result.items) = subst (λ xs. AreVersions m1 [] (shown r xs)) (sym c.new-after.ensures.items) tt in
    let weighs = confirm_weighs m m1 e named n made c.len-count.ensures.len in
    let later = c.put_versions.ensures.looks [] h0 in
    omega (arith, c.apply.ensures.looks, later, weighs)

pub returns-in_err-touched-clause-looks : goal.returns-in_err-touched-clause-looks
returns-in_err-touched-clause-looks g c =
    let r = g.S.RecordSource.records in
    let m = r c.args.base.now in
    let e = c.args.entry.now in
    let named = c.args.entries.now.entries in
    let m1 = r c.in_ok-changed.changed.source in
    let made : m1 ≡ apply e m = c.in_ok-changed.ensures.records in
    let n = c.len-count.result in
    let h0 : AreVersions m1 [] (shown r c.new-after.result.items) = subst (λ xs. AreVersions m1 [] (shown r xs)) (sym c.new-after.ensures.items) tt in
    let weighs = confirm_weighs m m1 e named n made c.len-count.ensures.len in
    let later = c.put_versions.ensures.looks [] h0 in
    omega (arith, c.apply.ensures.looks, later, weighs)

pub returns-in_err-view-clause-looks : goal.returns-in_err-view-clause-looks
returns-in_err-view-clause-looks g c =
    let r = g.S.RecordSource.records in
    let m = r c.args.base.now in
    let e = c.args.entry.now in
    let named = c.args.entries.now.entries in
    let m1 = r c.in_ok-changed.changed.source in
    let made : m1 ≡ apply e m = c.in_ok-changed.ensures.records in
    let n = c.len-count.result in
    let h0 : AreVersions m1 [] (shown r c.new-after.result.items) = subst (λ xs. AreVersions m1 [] (shown r xs)) (sym c.new-after.ensures.items) tt in
    let weighs = confirm_weighs m m1 e named n made c.len-count.ensures.len in
    let later = c.put_versions.ensures.looks [] h0 in
    omega (arith, c.apply.ensures.looks, later, weighs)

pub returns-clause-looks : goal.returns-clause-looks
returns-clause-looks g c =
    let r = g.S.RecordSource.records in
    let m = r c.args.base.now in
    let e = c.args.entry.now in
    let named = c.args.entries.now.entries in
    let m1 = r c.in_ok-changed.changed.source in
    let made : m1 ≡ apply e m = c.in_ok-changed.ensures.records in
    let n = c.len-count.result in
    let h0 : AreVersions m1 [] (shown r c.new-after.result.items) = subst (λ xs. AreVersions m1 [] (shown r xs)) (sym c.new-after.ensures.items) tt in
    let weighs = confirm_weighs m m1 e named n made c.len-count.ensures.len in
    let later = c.put_versions.ensures.looks [] h0 in
    omega (arith, c.apply.ensures.looks, later, weighs)

pub returns-clause-ids : goal.returns-clause-ids
returns-clause-ids g c =
    let r = g.S.RecordSource.records in
    let m = r c.args.base.now in
    let e = c.args.entry.now in
    let named = c.args.entries.now.entries in
    let m1 = r c.in_ok-changed.changed.source in
    let made : m1 ≡ apply e m = c.in_ok-changed.ensures.records in
    let n = c.len-count.result in
    let h0 : AreVersions m1 [] (shown r c.new-after.result.items) = subst (λ xs. AreVersions m1 [] (shown r xs)) (sym c.new-after.ensures.items) tt in
    let news = shown r c.put_versions.new.versions.items in
    let put1 : Puts m1 [] (entries_within 0 n named) news =
    λ before h. c.in_ok-put_versions.ensures.versions before (subst (λ xs. AreVersions m1 before (shown r xs)) (sym c.new-after.ensures.items) h) in
    let new : AreVersions (apply e m) (entries_of (layers_of named)) news = subst (λ x. AreVersions x (entries_of (layers_of named)) news) made (all_put m1 named n news c.len-count.ensures.len put1) in
    let olds = shown r c.args.versions.now in
    let touched : AreTouched m (apply e m) c.in_ok-changed.changed.touched = subst (λ x. AreTouched m x c.in_ok-changed.changed.touched) made c.in_ok-changed.ensures.touched in
    confirmed_ids m e (entries_of (layers_of named)) (entries_of (layers_of named)) olds news c.in_ok-changed.changed.touched c.in_ok-touched.touched c.requires.kept.versions touched new
    (λ id. c.in_ok-touched.ensures id ∙ (λ i. has_text c.in_ok-changed.changed.touched id || is_noted olds id || is_noted (shown r (c.deref.ensures.value i)) id))

pub returns-clause-fits : goal.returns-clause-fits
returns-clause-fits g c =
    let r = g.S.RecordSource.records in
    let named = c.args.entries.now.entries in
    let m1 = r c.in_ok-changed.changed.source in
    let n = c.len-count.result in
    let news = shown r c.put_versions.new.versions.items in
    let put1 : Puts m1 [] (entries_within 0 n named) news =
    λ before h. c.in_ok-put_versions.ensures.versions before (subst (λ xs. AreVersions m1 before (shown r xs)) (sym c.new-after.ensures.items) h) in
    let new : AreVersions m1 (entries_of (layers_of named)) news = all_put m1 named n news c.len-count.ensures.len put1 in
    record {
      suits = (tt, new);
      view = c.in_ok-view.ensures ∙ c.newest.ensures ∙ ap (λ xs. newest m1 (shown r xs)) c.deref-2.ensures.value ∙ newest_is m1 (entries_of (layers_of named)) news new;
    }

pub returns-clause-placed : goal.returns-clause-placed
returns-clause-placed g c = λ i. record { base = c.in_ok-changed.ensures.records i; live = layers_of c.args.entries.now.entries }
