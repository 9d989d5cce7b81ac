use Rattle.image_text.specs.declared.image.ImageLayer.{ImageLayer}
use Rattle.image_text.proofs.RowLaws.{Carries, Continues}
use Rattle.image_text.specs.Lines.{layer_rows, joined}
use Rattle.image_text.specs.Made.{IsLayerMade}
use Rattle.image_text.proofs.entry.write_layers.Given as goal

abbrev pub invariant-layers : goal.invariant-layers
invariant-layers l = record {
  rows : Continues {X = ImageLayer} (λ ls. joined layer_rows ls) l.layer-items l.layer-index l.initial.out.items l.out.items;
  made : Carries (IsLayerMade) l.layer-items l.layer-index;
}
