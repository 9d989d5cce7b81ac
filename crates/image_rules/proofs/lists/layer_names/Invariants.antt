use Rattle.std.proofs.Common.{◌≡◌, map, take}
use Rattle.image_text.specs.declared.image.ImageLayer.{ImageLayer}
use Rattle.image_rules.proofs.lists.layer_names.Given as goal

abbrev pub invariant-layers : goal.invariant-layers
invariant-layers l = map (λ t. t.now) l.names.items ≡ map (λ (x : ImageLayer). x.name) (take l.layer-index l.layers)
