-- Parts that collect alike items, one by one, are read alike.
use Rattle.std.proofs.Common.{◌≡◌, ℕ, zero, suc, ◌≤◌, true, List, [], ◌∷◌}
use Rattle.std.specs.List.{AllByRecursion, AllZip}
use Rattle.store_record.specs.Keys.{Text}
use Rattle.store_model.proofs.AlikeReads.{read_alike, read_enough}
use Rattle.store_model.proofs.SameItems.{AlikeItem, Holds, items_keep, zip_append}
use Rattle.store_model.specs.Alike.{Keeps}
use Rattle.store_model.specs.Items.{Pointer, Group, parts, asks, Collect, collect_all, groups_at, pointers_on}
use Rattle.store_model.specs.Reaches.{types_of}
use Rattle.store_model.specs.Walks.{Slots, read_at}

-- parts that give alike items one by one give them together
pub all_alike : {F G : Type 0} (below above : F → G → Type 0) (collect : Collect F) (gather : Collect G)
    → ((T : Text) (f : F) (g : G) → above f g → AllZip (AlikeItem below) (collect T f) (gather T g))
    → (T : Text) (fs : List F) (gs : List G) → AllZip above fs gs → AllZip (AlikeItem below) (collect_all collect T fs) (collect_all gather T gs)
all_alike below above collect gather each T [] [] h = tt
all_alike below above collect gather each T [] (g ∷ gs) h = absurd h
all_alike below above collect gather each T (f ∷ fs) [] h = absurd h
all_alike below above collect gather each T (f ∷ fs) (g ∷ gs) h =
    zip_append (AlikeItem below) (collect T f) (gather T g) (collect_all collect T fs) (collect_all gather T gs) (each T f g h.0) (all_alike below above collect gather each T fs gs h.1)

-- below each field, and in each body, there is a part
abbrev pub AreSome : {F : Type 0} → List Text → List F → Type 0
AreSome types [] = ⊥
AreSome types (f ∷ fs) = Unit {0}

below_each : {F : Type 0} (gs : List (Group F)) → AllByRecursion (λ g. AllByRecursion (λ a. AreSome (types_of a.form) (parts g)) (asks g)) gs
below_each [] = tt
below_each (g ∷ gs) = (each_unit (asks g), below_each gs)
  where
    each_unit : {X : Type 0} (xs : List X) → AllByRecursion (λ x. Unit {0}) xs
    each_unit [] = tt
    each_unit (x ∷ xs) = (tt, each_unit xs)

in_each : {F : Type 0} (T : Text) (ps : List (Pointer F)) → AllByRecursion (λ x. x.inline ≡ true → AreSome (T ∷ []) (x.body ∷ [])) ps
in_each T [] = tt
in_each T (p ∷ ps) = ((λ e. tt), in_each T ps)

pub some_hold : {F : Type 0} (collect : Collect F) (T : Text) (fs : List F) → Holds AreSome collect T fs
some_hold collect T fs = record { groups = below_each (groups_at collect T fs); pointers = in_each T (pointers_on collect T fs) }

module _ {F G : Type 0} (collect : Collect F) (gather : Collect G) where
  -- relations of parts, one above the other, where the upper one gives items alike one by one
  abbrev pub GivesItems : (below above : F → G → Type 0) → Type 0
  GivesItems below above = (T : Text) (f : F) (g : G) → above f g → AllZip (AlikeItem below) (collect T f) (gather T g)

  pub one_by_one : (below above : F → G → Type 0) → GivesItems below above
      → Keeps (λ types fs gs. AreSome types fs × AllZip below fs gs) (λ types fs gs. AreSome types fs × AllZip above fs gs) collect gather
  one_by_one below above gives =
      items_keep collect gather AreSome below above (λ T types fs here v. some_hold collect T fs) (λ T types fs gs here v h. all_alike below above collect gather gives T fs gs h)

  module _ (typed : Text → Text) (owner : Text) (m : Slots) where
    -- parts that are related, where related parts collect alike items, are read alike
    pub read_items : (r : F → G → Type 0) → GivesItems r r
        → (depth : ℕ) (types : List Text) (f : F) (fs : List F) (g : G) (gs : List G) (id : Text) → r f g → AllZip r fs gs
        → read_at collect typed owner m depth types (f ∷ fs) id ≡ read_at gather typed owner m depth types (g ∷ gs) id
    read_items r gives depth types f fs g gs id e h =
        read_alike collect gather typed owner m (λ n types fs gs. AreSome types fs × AllZip r fs gs) (λ n. one_by_one r r gives) depth types (f ∷ fs) (g ∷ gs) id (tt, (e, h))

    -- parts that are related n deep, where parts related n + 1 deep collect alike items whose parts are related n deep,
    -- are read alike under any two numbers of at least n
    pub read_items_enough : (r : ℕ → F → G → Type 0) → ((f : F) (g : G) → r zero f g → ⊥) → ((n : ℕ) → GivesItems (r n) (r (suc n)))
        → (n depth other : ℕ) → n ≤ depth → n ≤ other → (types : List Text) (f : F) (fs : List F) (g : G) (gs : List G) (id : Text) → r n f g → AllZip (r n) fs gs
        → read_at collect typed owner m depth types (f ∷ fs) id ≡ read_at gather typed owner m other types (g ∷ gs) id
    read_items_enough r none gives n depth other a b types f fs g gs id e h =
        read_enough collect gather typed owner m (λ n types fs gs. AreSome types fs × AllZip (r n) fs gs) nothing (λ n. one_by_one (r n) (r (suc n)) (gives n)) n depth other a b types (f ∷ fs) (g ∷ gs) id (tt, (e, h))
      where
        nothing : (types : List Text) (fs : List F) (gs : List G) → AreSome types fs × AllZip (r zero) fs gs → ⊥
        nothing types [] gs h = absurd h.0
        nothing types (f ∷ fs) [] h = absurd h.1
        nothing types (f ∷ fs) (g ∷ gs) h = none f g h.1.0
