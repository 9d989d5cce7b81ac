-- Paths lead to the same as roads, and those that were made are right.
use Rattle.std.proofs.Common.{◌≡◌, ℕ, zero, suc, ◌+◌, ◌<◌, ◌≤◌, true, ◌&&◌, ◌||◌, List, [], ◌∷◌, ◌++◌, map, take, length, get_or, bytes_eq, refl, sym, ap, ◌∙◌, subst, arith}
use Rattle.std.proofs.lemmas.List.{map-append, take_all, take_more}
use Rattle.std.specs.List.{list_any}
use Rattle.plan_ir.proofs.gql_graph_laws.TextSteps.{same_text}
use Rattle.plan_ir.specs.store_model.Walks.{Fields}
use Rattle.plan_ir.specs.store_record.Keys.{Text}
use Rattle.store_retain.proofs.AlikeSteps.{any_more, both_first, both_second}
use Rattle.store_retain.specs.PathView.{AreRight, ArePathsOf, IsFor, IsMadeAt, IsPathOf, IsRight, path_steps, paths_steps}
use Rattle.store_retain.specs.RoadView.{road_of}
use Rattle.store_retain.specs.Steps.{Alike, road_steps, roads_steps, row_steps}
use Rattle.store_retain.specs.Ways.{Parts}
use Rattle.store_retain.specs.declared.paths.Path.{Path}
use Rattle.store_retain.specs.declared.paths.Paths.{Paths}
use Rattle.store_retain.specs.declared.roads.Road.{Road as Kept}

-- ---- the path of each road

pub paths_next : (rs : List Kept) (i : ℕ) (d r : Kept) (old new : List Path) (path : Path) → i < length rs → r ≡ get_or rs i d → new ≡ old ++ path ∷ [] → IsPathOf path (road_of r)
    → ArePathsOf old (map road_of (take i rs)) → ArePathsOf new (map road_of (take (i + 1) rs))
paths_next rs i d r old new path within is pushed one before = λ fields p.
    let whole : map road_of (take (i + 1) rs) ≡ map road_of (take i rs) ++ road_of r ∷ [] =
    ap (map road_of) (take_more rs i d within) ∙ map-append road_of (take i rs) (get_or rs i d ∷ []) ∙ ap (λ (x : Kept). map road_of (take i rs) ++ road_of x ∷ []) (sym is) in
    ap (λ ps. list_any p (paths_steps fields ps)) pushed
    ∙ any_more (path_steps fields) (paths_steps fields) refl (λ x xs. refl) p old path
    ∙ (λ j. before fields p j || one fields p j)
    ∙ sym (any_more (road_steps fields) (roads_steps fields) refl (λ x xs. refl) p (map road_of (take i rs)) (road_of r))
    ∙ ap (λ qs. list_any p (roads_steps fields qs)) (sym whole)

pub paths_end : (rs : List Kept) (i : ℕ) (ps : List Path) → length rs ≤ i → ArePathsOf ps (map road_of (take i rs)) → ArePathsOf ps (map road_of rs)
paths_end rs i ps h before = λ fields p. before fields p ∙ ap (λ (qs : List Kept). list_any p (roads_steps fields (map road_of qs))) (take_all i rs h)

-- ---- those that were made

pub for_both : (k : Paths) (T : Text) (ks : List ℕ) → (bytes_eq k.object.now T && bytes_eq k.numbers.now ks) ≡ true → IsFor k T ks
for_both k T ks e =
    (same_text k.object.now T (both_first (bytes_eq k.object.now T) (bytes_eq k.numbers.now ks) e), same_text k.numbers.now ks (both_second (bytes_eq k.object.now T) (bytes_eq k.numbers.now ks) e))

pub made_found : (ps : List Paths) (at : ℕ) (k : Paths) (T : Text) (ks : List ℕ) → at < length ps → k ≡ get_or ps at k → IsFor k T ks → IsMadeAt ps at T ks
made_found [] at k T ks within is e = absurd (omega (arith, within))
made_found (p ∷ ps) zero k T ks within is e = subst (λ (x : Paths). IsFor x T ks) is e
made_found (p ∷ ps) (suc at) k T ks within is e = made_found ps at k T ks (omega (arith, within)) is e

pub made_last : (ps : List Paths) (k : Paths) (T : Text) (ks : List ℕ) → IsFor k T ks → IsMadeAt (ps ++ k ∷ []) (length ps) T ks
made_last [] k T ks e = e
made_last (p ∷ ps) k T ks e = made_last ps k T ks e

pub made_within : (ps : List Paths) (at : ℕ) (T : Text) (ks : List ℕ) → IsMadeAt ps at T ks → at < length ps
made_within [] at T ks e = absurd e
made_within (p ∷ ps) zero T ks e = omega arith
made_within (p ∷ ps) (suc at) T ks e = omega (arith, made_within ps at T ks e)

pub right_last : (parts : Parts) (ps : List Paths) (k : Paths) → AreRight parts ps → IsRight parts k → AreRight parts (ps ++ k ∷ [])
right_last parts [] k right last = (last, tt)
right_last parts (p ∷ ps) k right last = (right.0, right_last parts ps k right.1 last)

-- what is made of a type and of parts leads to the same as the parts, from records of the type
pub made_steps : (parts : Parts) (ps : List Paths) (at : ℕ) (k : Paths) (T : Text) (ks : List ℕ) → AreRight parts ps → IsMadeAt ps at T ks → k ≡ get_or ps at k
    → (fields : Fields) → Alike (paths_steps fields k.paths.items) (row_steps parts ks T fields)
made_steps parts [] at k T ks right e is = absurd e
made_steps parts (p ∷ ps) zero k T ks right e is = λ fields q.
    ap (λ (x : Paths). list_any q (paths_steps fields x.paths.items)) is
    ∙ right.0 fields q
    ∙ (λ i. list_any q (row_steps parts (e.1 i) (e.0 i) fields))
made_steps parts (p ∷ ps) (suc at) k T ks right e is = made_steps parts ps at k T ks right.1 e is
