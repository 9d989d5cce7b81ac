-- What the parts ask is made, and below it nothing yet.
use Rattle.std.proofs.Common.{◌-◌, map, refl, ap, ◌∙◌}
use Rattle.store_read.proofs.CacheSteps.{right_made}
use Rattle.store_read.proofs.caching.items_of_type.Goals as goal
use Rattle.store_read.specs.Caching.{read_group, read_pointer}
use Rattle.store_read.specs.FieldView.{part_at, spread_at}
use Rattle.store_read.specs.Gathering.{group_of, groups_in, spreads_in}

pub returns-clause-right : goal.returns-clause-right
returns-clause-right c =
    let fewer = c.args.levels - 1 in
    right_made (map part_at c.args.parts.now) c.args.levels fewer _ (groups_in c.in_ok-gathered.gathered) (spreads_in c.in_ok-gathered.gathered) refl c.requires
    c.in_ok-one_name.ensures
    (c.in_ok-groups.ensures ∙ ap (λ fs. map (read_group fewer) (map group_of fs)) c.deref.ensures.value)
    (c.in_ok-pointers.ensures ∙ ap (λ ss. map (read_pointer fewer) (map spread_at ss)) c.deref-2.ensures.value)
    c.in_ok-gathered.ensures.groups c.in_ok-gathered.ensures.spreads
