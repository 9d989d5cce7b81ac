use Rattle.std.proofs.Common.{◌≡◌, map, take}
use Rattle.image_text.specs.declared.image.ImageHandle.{ImageHandle}
use Rattle.image_rules.proofs.lists.handle_names.Given as goal

abbrev pub invariant-handles : goal.invariant-handles
invariant-handles l = map (λ t. t.now) l.names.items ≡ map (λ (x : ImageHandle). x.name) (take l.handle-index l.handles)
