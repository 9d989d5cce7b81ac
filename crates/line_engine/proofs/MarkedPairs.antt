-- Pairs under marked names, put before pairs that are in order.
use Rattle.std.proofs.Common.{◌≡◌, ℕ, List, [], ◌∷◌, ◌++◌, map, codes, refl, sym, ap, ◌∙◌}
use Rattle.std.specs.List.Sorted.{IsStrictlySortedBy}
use Rattle.std.specs.Map.{keys_of}
use Rattle.std.specs.Ordering.{match_ordering}
use Rattle.plan_ir.specs.gql_plain.Order.{AreInOrder}
use Rattle.plan_ir.specs.gql_plain.Shown.{tree_of, shown_members}
use Rattle.plan_ir.specs.gql_plain.Tree.{Tree}
use Rattle.line_engine.specs.Marked.{marked}
use Rattle.relay_machine.specs.relay_model.Readings.{with_marked}
use Rattle.plan_ir.specs.schema_types.Environments.{Values, with_pair}
use Rattle.plan_ir.proofs.constant_values_laws.Placing.{Entries, put_all, put_all-first}
use Rattle.plan_ir.specs.constant_values.Listed.{first_of_each}

put_all-append : (ps qs : List (List ℕ × Tree)) (done : Values) → put_all with_pair (ps ++ qs) done ≡ put_all with_pair ps (put_all with_pair qs done)
put_all-append [] qs done = refl
put_all-append (p ∷ ps) qs done = ap (with_pair p.0 p.1) (put_all-append ps qs done)

-- pairs in order stay as they are
put_in_order : (es : Entries) → AreInOrder (keys_of es) → put_all with_pair (shown_members es) [] ≡ shown_members es
unfolding IsStrictlySortedBy
put_in_order [] sorted = refl
put_in_order (e ∷ []) sorted = refl
put_in_order (e ∷ f ∷ es) sorted =
    ap (with_pair e.0 (tree_of e.1)) (put_in_order (f ∷ es) sorted.1)
    ∙ ap (λ o. match_ordering o ((e.0, tree_of e.1) ∷ shown_members (f ∷ es)) ((e.0, tree_of e.1) ∷ shown_members es) ((f.0, tree_of f.1) ∷ with_pair e.0 (tree_of e.1) (shown_members es)))
    sorted.0.0

put_marked : (scope own : Values) → put_all with_pair (map marked scope) own ≡ with_marked own scope
put_marked [] own = refl
put_marked (x ∷ xs) own = ap (with_pair (codes ":" ++ x.0) x.1) (put_marked xs own)

pub marked_first : (es : Entries) (own scope : Values) → shown_members es ≡ own → AreInOrder (keys_of es)
    → first_of_each (map marked scope ++ shown_members es) ≡ with_marked own scope
marked_first es own scope is sorted =
    sym (put_all-first (map marked scope ++ shown_members es)) ∙ put_all-append (map marked scope) (shown_members es) []
    ∙ ap (put_all with_pair (map marked scope)) (put_in_order es sorted ∙ is) ∙ put_marked scope own
