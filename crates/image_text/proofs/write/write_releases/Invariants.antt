use Rattle.std.proofs.Common.{map}
use Rattle.image_text.specs.declared.image.ImageRelease.{ImageRelease}
use Rattle.image_text.proofs.RowLaws.{Carries, Continues}
use Rattle.image_text.specs.Lines.{released_row}
use Rattle.image_text.specs.Made.{ArePairsMade}
use Rattle.image_text.proofs.write.write_releases.Given as goal

abbrev pub invariant-released : goal.invariant-released
invariant-released l = record {
  rows : Continues {X = ImageRelease} (λ rs. map released_row rs) l.release-items l.release-index l.initial.out.items l.out.items;
  made : Carries (λ (r : ImageRelease). ArePairsMade r.vars) l.release-items l.release-index;
}
