use Rattle.std.proofs.Common.{◌≡◌, map, take}
use Rattle.image_text.specs.declared.image.ImageWatch.{ImageWatch}
use Rattle.image_rules.proofs.lists.watch_names.Given as goal

abbrev pub invariant-watches : goal.invariant-watches
invariant-watches l = map (λ t. t.now) l.names.items ≡ map (λ (x : ImageWatch). x.name) (take l.watch-index l.watches)
