-- The group at the place has one field more.
use Rattle.std.proofs.Common.{◌∷◌, [], map, ap, ◌∙◌, get_or, sym, subst}
use Rattle.std.proofs.lemmas.List.{map-append}
use Rattle.std.proofs.lemmas.List.Elements.{All-get_or, All-set}
use Rattle.store_read.proofs.GatherSteps.{put_behind_is}
use Rattle.store_read.proofs.gathered.put_behind.Goals as goal
use Rattle.store_read.specs.FieldView.{asked_at, IsKept}
use Rattle.store_read.specs.declared.gathered.Fields.{Fields}

pub returns-clause-put : goal.returns-clause-put
returns-clause-put c =
    put_behind_is c.args.groups.now.items c.args.place c.index_mut-group.result.now _ c.args.field c.requires c.index_mut-group.ensures.value
    (λ i. record { first = asked_at c.index_mut-group.result.now.first; others = (ap (map asked_at) c.in_ok-push.ensures.items ∙ map-append asked_at c.index_mut-group.result.now.others.items (c.args.field ∷ [])) i })

pub returns-clause-kept : goal.returns-clause-kept
returns-clause-kept c = λ kept.
    let there : IsKept (get_or c.args.groups.now.items c.args.place c.index_mut-group.result.now).first = All-get_or (λ (g : Fields). IsKept g.first) c.args.groups.now.items c.args.place c.index_mut-group.result.now c.requires kept in
    let same : IsKept c.index_mut-group.result.now.first = subst (λ (g : Fields). IsKept g.first) (sym c.index_mut-group.ensures.value) there in
    All-set (λ (g : Fields). IsKept g.first) c.args.groups.now.items c.args.place _ same kept
