use Rattle.std.proofs.Common.{◌≡◌, map, take}
use Rattle.image_text.specs.declared.image.ImageRecord.{ImageRecord}
use Rattle.image_rules.proofs.records.record_ids.Given as goal

abbrev pub invariant-records : goal.invariant-records
invariant-records l = map (λ t. t.now) l.ids.items ≡ map (λ (x : ImageRecord). x.id) (take l.record-index l.records)
