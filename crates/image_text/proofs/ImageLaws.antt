-- The rows of a whole image.
use Rattle.std.proofs.Common.{◌≡◌, ℕ, List, [], ◌∷◌, ◌++◌, map, subst}
use Rattle.image_text.proofs.RowLaws.{adds_both}
use Rattle.image_text.specs.Lines.{Row, end_row, handle_row, head_row, joined, layer_rows, mark_row, record_rows, released_row, rows_of, watch_row}
use Rattle.image_text.specs.Rows.{Adds}
use Rattle.image_text.specs.declared.image.Image.{Image}

pub all_adds : (v : Image) {start a b c d e f g h : List ℕ} → start ≡ [] → Adds (head_row v ∷ []) start a → Adds (joined record_rows v.records) a b → Adds (joined layer_rows v.layers) b c
    → Adds (map handle_row v.handles) c d → Adds (map released_row v.released) d e → Adds (map watch_row v.watches) e f → Adds (map mark_row v.marked) f g → Adds (end_row ∷ []) g h
    → Adds (rows_of v) [] h
all_adds v {a = a} none head records layers handles released watches marks end =
    let marked : List Row = map mark_row v.marked ++ end_row ∷ [] in
    let watched : List Row = map watch_row v.watches ++ marked in
    let freed : List Row = map released_row v.released ++ watched in
    let handled : List Row = map handle_row v.handles ++ freed in
    let layered : List Row = joined layer_rows v.layers ++ handled in
    adds_both (head_row v ∷ []) (joined record_rows v.records ++ layered) (subst (λ (bs : List ℕ). Adds (head_row v ∷ []) bs a) none head)
    (adds_both (joined record_rows v.records) layered records
    (adds_both (joined layer_rows v.layers) handled layers
    (adds_both (map handle_row v.handles) freed handles
    (adds_both (map released_row v.released) watched released
    (adds_both (map watch_row v.watches) marked watches (adds_both (map mark_row v.marked) (end_row ∷ []) marks end))))))
