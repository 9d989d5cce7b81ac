use Rattle.std.proofs.Common.{subst}
use Rattle.image_text.proofs.RowLaws.{adds_both}
use Rattle.image_text.specs.Lines.{layer_rows}
use Rattle.image_text.specs.Rows.{Adds}
use Rattle.image_text.specs.declared.image.ImageLayer.{ImageLayer}
use Rattle.image_text.proofs.entry.write_layer.Goals as goal

pub returns-clause-rows : goal.returns-clause-rows
returns-clause-rows c =
    subst (λ (l : ImageLayer). Adds (layer_rows l) c.args.out.items c.in_ok-write_commands.field-0.items) c.layer.view_is
    (adds_both _ _ c.in_ok-named.ensures (adds_both _ _ c.in_ok-facts.ensures.rows (adds_both _ _ c.in_ok-pages.ensures.rows c.in_ok-write_commands.ensures.rows)))
