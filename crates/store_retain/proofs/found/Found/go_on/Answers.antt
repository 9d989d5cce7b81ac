use Rattle.std.proofs.Common.{◌||◌, ap, ◌∙◌, map}
use Rattle.std.specs.List.{list_any}
use Rattle.store_retain.proofs.Sets.{any_stand}
use Rattle.store_retain.specs.FoundView.{stand_of}
use Rattle.store_retain.proofs.found.Found.go_on.Goals as goal

pub returns-clause-next : goal.returns-clause-next
returns-clause-next c = λ p.
    ap (λ ks. list_any p (map stand_of ks)) c.in_ok-insert.ensures.keys
    ∙ any_stand p c.self.inside.next.keys (c.args.id, c.in_ok-parts.parts)
    ∙ (λ i. list_any p (c.self.view_is i).next || p (c.args.id.now, c.in_ok-parts.ensures i))
