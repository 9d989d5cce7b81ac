-- One more field is compared with those that were put.
use Rattle.std.proofs.Common.{◌≡◌, ℕ, ◌+◌, ◌<◌, Bool, ◌||◌, List, Option, map, drop, length, get_or, ap, sym, ◌∙◌}
use Rattle.plan_ir.specs.gql_ast.declared.place.FilePlace.{FilePlace}
use Rattle.doc_merge.proofs.CellLaws.{others_same}
use Rattle.doc_merge.proofs.LeastSteps.{least-append}
use Rattle.doc_merge.proofs.NoteSteps.{drop_next}
use Rattle.doc_merge.specs.Cells.{Mark, differs, others}
use Rattle.doc_merge.specs.Places.{least_from, wrong}

pub others_next : {X : Type 0} (view : X → Mark) (xs : List X) (i : ℕ) (x : X) (b : Bool) (old new : Mark → Bool) (o p whole : Option FilePlace) → i < length xs → x ≡ get_or xs i x
    → b ≡ old (view x) → ((m : Mark) → new m ≡ (old m || differs (view x) m)) → p ≡ least_from o (wrong b (view x).place)
    → least_from o (others old (map view (drop i xs))) ≡ whole → least_from p (others new (map view (drop (i + 1) xs))) ≡ whole
others_next {X = X} view xs i x b old new o p whole h is f n e w =
    let rest : List Mark = map view (drop (i + 1) xs) in
    (λ k. least_from (e k) (others_same new (λ (m : Mark). old m || differs (view x) m) n rest k))
    ∙ ap (λ (d : Bool). least_from (least_from o (wrong d (view x).place)) (others (λ (m : Mark). old m || differs (view x) m) rest)) f
    ∙ sym (least-append o (wrong (old (view x)) (view x).place) (others (λ (m : Mark). old m || differs (view x) m) rest))
    ∙ sym (ap (λ (ys : List X). least_from o (others old (map view ys))) (drop_next xs i x h is)) ∙ w
