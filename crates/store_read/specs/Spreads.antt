-- Pointers one after another, the first to each fragment.
use Rattle.std.specs.Prelude.{cond, List, [], ◌∷◌, ◌++◌, map}
use Rattle.plan_ir.specs.gql_plain.Order.{has_text}
use Rattle.plan_ir.specs.store_model.Items.{Item, asked, pointed, Pointer}
use Rattle.plan_ir.specs.store_record.Keys.{Text}

-- the fragments of pointers
abbrev pub fragments : {F : Type 0} → List (Pointer F) → List Text
fragments ps = map (λ p. p.fragment) ps

-- the pointers with one at the end, unless one to its fragment is there
abbrev pub with_pointer : {F : Type 0} → List (Pointer F) → Pointer F → List (Pointer F)
with_pointer ps p = cond (has_text (fragments ps) p.fragment) ps (ps ++ p ∷ [])

-- the pointers with those among items, one after another
abbrev pub pointers_onto : {F : Type 0} → List (Pointer F) → List (Item F) → List (Pointer F)
pointers_onto ps [] = ps
pointers_onto ps (asked a ∷ items) = pointers_onto ps items
pointers_onto ps (pointed p ∷ items) = pointers_onto (with_pointer ps p) items
