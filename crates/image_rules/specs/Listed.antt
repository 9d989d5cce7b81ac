-- Whether each list of an image is as that of an image, as one truth value.
use Rattle.std.specs.Prelude.{◌≡◌, ◌↔◌, Bool, true, ◌&&◌, nat_le, length}
use Rattle.image_text.specs.Images.{IsListed, are_counts, are_records, are_layers, are_handles, are_watches, are_marks}
use Rattle.image_text.specs.declared.image.Image.{Image}

abbrev pub is_listed : Image → Bool
is_listed v =
    are_counts v && are_records v.records && are_layers v.layers && are_handles v.marks v.handles && nat_le (length v.released) v.buffer
    && are_watches v.watches && are_marks v.marks v.whole v.marked

-- the truth value decides it
abbrev pub ListsAreDecided : Type 0
ListsAreDecided = (v : Image) → (is_listed v ≡ true) ↔ IsListed v
