use Rattle.std.proofs.Common.{map, sym, ap, ◌∙◌}
use Rattle.store_read.specs.Meeting.{Meeting}
use Rattle.store_show.proofs.StoodSteps.{last_kept}
use Rattle.store_show.specs.Stood.{ends_with}
use Rattle.store_show.proofs.standings.Standings.ends_with.Goals as goal

pub returns-in-Some : goal.returns-in-Some
returns-in-Some c =
    let id = c.args.id.now in
    c.eq.ensures
    ∙ last_kept c.deref.result.now c.in-Some.last.now id (sym c.in-Some.ensures.value)
    ∙ ap (λ ids. ends_with (map (λ i. i.now) ids) id) c.deref.ensures.value
    ∙ ap (λ (m : Meeting). ends_with m.seen id) c.self.view_is
