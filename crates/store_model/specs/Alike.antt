-- Groups that say the same, though what they were collected from, and what stands below them, may be of two kinds.
use Rattle.std.specs.Prelude.{◌≡◌, ℕ, zero, suc, true, List, [], ◌∷◌, ◌⊎◌}
use Rattle.std.specs.List.{AllByRecursion, AllZip}
use Rattle.store_record.specs.Keys.{Text}
use Rattle.store_record.specs.gql_plain.Order.{has_text}
use Rattle.store_model.specs.Items.{Pointer, Group, asks, parts, Collect, groups_at, pointers_on}
use Rattle.store_model.specs.Reaches.{types_of}

abbrev pub Among : {X : Type 0} → X → List X → Type 0
Among x [] = ⊥
Among x (y ∷ ys) = (y ≡ x) ⊎ Among x ys

-- how the parts below two selections are related, at the types that are possible there
abbrev pub Related : Type 0 → Type 0 → Type 1
Related F G = (types : List Text) → List F → List G → Type 0

-- one first field, the same set of fields, and joined parts that are related at the types of each
pub record AlikeGroup {F G : Type 0} (r : Related F G) (g : Group F) (h : Group G) : Type 0 where
  pub first : g.first.ask ≡ h.first.ask
  pub there : AllByRecursion (λ a. Among a (asks h)) (asks g)
  pub back : AllByRecursion (λ a. Among a (asks g)) (asks h)
  pub below : AllByRecursion (λ a. r (types_of a.form) (parts g) (parts h)) (asks g)

-- one pointer, and bodies that are related where they are read
pub record AlikePointer {F G : Type 0} (r : Related F G) (T : Text) (p : Pointer F) (q : Pointer G) : Type 0 where
  pub fragment : p.fragment ≡ q.fragment
  pub scope : p.scope ≡ q.scope
  pub inline : p.inline ≡ q.inline
  pub body : p.inline ≡ true → r (T ∷ []) (p.body ∷ []) (q.body ∷ [])

-- what two lists of parts give on an object type
pub record AlikeAt {F G : Type 0} (r : Related F G) (collect : Collect F) (gather : Collect G) (T : Text) (fs : List F) (gs : List G) : Type 0 where
  pub groups : AllZip (AlikeGroup r) (groups_at collect T fs) (groups_at gather T gs)
  pub pointers : AllZip (AlikePointer r T) (pointers_on collect T fs) (pointers_on gather T gs)

-- parts related from above give, at each type that is possible there, what is alike with parts related from below
abbrev pub Keeps : {F G : Type 0} → (below above : Related F G) → Collect F → Collect G → Type 0
Keeps {F} {G} below above collect gather = (T : Text) (types : List Text) (fs : List F) (gs : List G) → has_text types T ≡ true → above types fs gs → AlikeAt below collect gather T fs gs

-- parts that give, at each possible type, alike groups and pointers, and so on below, n deep: the widest of these relations
abbrev pub Alike : {F G : Type 0} → Collect F → Collect G → ℕ → Related F G
Alike collect gather zero types fs gs = Unit {0}
Alike collect gather (suc n) types fs gs = (T : Text) → has_text types T ≡ true → AlikeAt (Alike collect gather n) collect gather T fs gs
