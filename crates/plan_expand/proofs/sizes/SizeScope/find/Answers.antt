-- The size of what is given, else that of the default.
use Rattle.std.proofs.Common.{Option, option_map, ap, sym, ◌∙◌}
use Rattle.plan_expand.specs.Measuring.{gift_size_or}
use Rattle.plan_expand.specs.SizesView.{find_size, sizes_of}
use Rattle.plan_expand.specs.declared.local.Local.{Local}
use Rattle.plan_expand.specs.declared.sizes.SizeScope.{SizeScope}
use Rattle.plan_expand.proofs.sizes.SizeScope.find.Goals as goal

pub returns-in-Some : goal.returns-in-Some
returns-in-Some c =
    c.find_or.ensures
    ∙ ap (λ (o : Option Local). gift_size_or (find_size c.in-Spread.given c.args.name.now) (option_map (λ (l : Local). l.size) o)) (sym (ap (option_map (λ l. l.now)) c.in-Some.is) ∙ c.find.ensures)
    ∙ sym (ap (λ (s : SizeScope). sizes_of s c.args.name.now) c.in-Spread.is)
