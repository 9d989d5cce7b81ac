use Rattle.std.proofs.Common.{◌≡◌, drop}
use Rattle.std.specs.List.{list_all}
use Rattle.image_text.specs.Images.{is_entry}
use Rattle.image_text.specs.declared.image.ImageLayer.{ImageLayer}
use Rattle.image_rules.proofs.lists.have_entries.Given as goal

abbrev pub invariant-layers : goal.invariant-layers
invariant-layers l = list_all (λ (l : ImageLayer). is_entry l.entry) l.layers ≡ list_all (λ (l : ImageLayer). is_entry l.entry) (drop l.layer-index l.layers)
