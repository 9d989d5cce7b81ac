use Rattle.std.proofs.Common.{◌≡◌, true, ◌&&◌, length, nat_le}
use Rattle.image_text.specs.Images.{IsListed, are_counts, are_records, are_layers, are_handles, are_watches, are_marks}
use Rattle.image_text.specs.declared.image.Image.{Image}
use Rattle.image_rules.specs.Listed.{is_listed}
use Rattle.image_rules.proofs.ListedLaws.{both}
use Rattle.image_rules.proofs.laws.lists_are_decided.Goals as goal

listed_so : (v : Image) → is_listed v ≡ true → IsListed v
listed_so v e =
    let c = are_counts v in
    let r = are_records v.records in
    let l = are_layers v.layers in
    let h = are_handles v.marks v.handles in
    let b = nat_le (length v.released) v.buffer in
    let w = are_watches v.watches in
    let p = both (c && r && l && h && b && w) (are_marks v.marks v.whole v.marked) e in
    let q = both (c && r && l && h && b) w p.0 in
    let s = both (c && r && l && h) b q.0 in
    let t = both (c && r && l) h s.0 in
    let u = both (c && r) l t.0 in
    let x = both c r u.0 in
    record { counts = x.0; records = x.1; layers = u.1; handles = t.1; released = s.1; watches = q.1; marks = p.1 }

so_listed : (v : Image) → IsListed v → is_listed v ≡ true
so_listed v h = λ i. h.counts i && h.records i && h.layers i && h.handles i && h.released i && h.watches i && h.marks i

pub returns : goal.returns
returns c = λ v. (listed_so v, so_listed v)
