-- The laws that the crates above stand on, for any two kinds of parts.
use Rattle.std.specs.Prelude.{◌≡◌, ℕ, suc, ◌≤◌, Bool, true, false, List, ◌∷◌, []}
use Rattle.std.specs.List.{AllByRecursion}
use Rattle.store_record.specs.gql_plain.Order.{has_text}
use Rattle.serde_json.specs.Data as J
use Rattle.store_record.specs.Keys.{Text}
use Rattle.store_model.specs.Alike.{Alike}
use Rattle.store_model.specs.Items.{Item, asked, pointed, Collect}
use Rattle.store_model.specs.Reaches.{reach_at}
use Rattle.store_model.specs.Says.{response_says}
use Rattle.store_model.specs.Walks.{Slots, read_at}

-- parts that are alike n deep are read alike, n records down: the same data, missing, seen, looked at and given
abbrev pub ReadsAreAlike : Type 0 → Type 0 → Type 0
ReadsAreAlike F G = (collect : Collect F) (gather : Collect G) (typed : Text → Text) (owner : Text) (m : Slots) (depth : ℕ) (types : List Text) (fs : List F) (gs : List G) (id : Text)
    → Alike collect gather depth types fs gs → read_at collect typed owner m depth types fs id ≡ read_at gather typed owner m depth types gs id

-- they reach the same ids
abbrev pub ReachesAreAlike : Type 0 → Type 0 → Type 0
ReachesAreAlike F G = (collect : Collect F) (gather : Collect G) (typed : Text → Text) (m : Slots) (depth : ℕ) (types : List Text) (fs : List F) (gs : List G) (id : Text)
    → Alike collect gather depth types fs gs
    → ((j : Text) → has_text (reach_at collect typed m depth types fs id) j ≡ has_text (reach_at gather typed m depth types gs id) j)

-- parts that are alike however deep say the same of every response
abbrev pub ResponsesAreAlike : Type 0 → Type 0 → Type 0
ResponsesAreAlike F G = (collect : Collect F) (gather : Collect G) (root_type : Text) (fs : List F) (gs : List G)
    → ((depth : ℕ) → Alike collect gather depth (root_type ∷ []) fs gs) → (response : J.Data) → response_says collect root_type fs response ≡ response_says gather root_type gs response

-- what stands below an item is n deep
abbrev pub IsLessDeep : {F : Type 0} → (ℕ → F → Bool) → ℕ → Item F → Type 0
IsLessDeep deep n (asked a) = deep n a.part ≡ true
IsLessDeep deep n (pointed p) = deep n p.body ≡ true

-- parts that are n deep are read alike, and reach the same ids, under every number of at least n
abbrev pub DepthsAreEnough : Type 0 → Type 0
DepthsAreEnough F = (collect : Collect F) (deep : ℕ → F → Bool) (typed : Text → Text) (owner : Text) (m : Slots)
    → ((f : F) → deep 0 f ≡ false) → ((n : ℕ) (T : Text) (f : F) → deep (suc n) f ≡ true → AllByRecursion (IsLessDeep deep n) (collect T f))
    → (n depth : ℕ) → n ≤ depth → (types : List Text) (f : F) (fs : List F) (id : Text) → AllByRecursion (λ g. deep n g ≡ true) (f ∷ fs)
    → (read_at collect typed owner m depth types (f ∷ fs) id ≡ read_at collect typed owner m n types (f ∷ fs) id)
    × ((j : Text) → has_text (reach_at collect typed m depth types (f ∷ fs) id) j ≡ has_text (reach_at collect typed m n types (f ∷ fs) id) j)
