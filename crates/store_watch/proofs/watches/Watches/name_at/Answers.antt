use Rattle.std.proofs.Common.{◌≡◌, ◌<◌, [], map, sym, ap, subst, ◌∙◌, length, slice_index_or}
use Rattle.store_watch.proofs.Named.{name_here, name_none}
use Rattle.store_watch.specs.Watching.{Watch}
use Rattle.store_watch.proofs.watches.Watches.name_at.Goals as goal

pub returns-in-Some : goal.returns-in-Some
returns-in-Some c =
    c.as_str.ensures.value ∙ name_here c.self.inside.rows.entries c.args.place _ _ c.in-Some.ensures.entry
    ∙ ap (λ ws. slice_index_or (map (λ (w : Watch). w.name) ws) c.args.place []) c.self.view_is

pub returns-in-None : goal.returns-in-None
returns-in-None c = name_none c.self.inside.rows.entries c.args.place (subst (λ ws. c.args.place < length ws) (sym c.self.view_is) c.requires) c.in-None.ensures.entry
