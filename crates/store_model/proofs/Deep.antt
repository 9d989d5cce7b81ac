-- Parts that are n deep are read alike, and reach the same ids, under every number of at least n.
use Rattle.std.proofs.Common.{◌≡◌, ℕ, zero, suc, ◌≤◌, true, false, cond, List, [], ◌∷◌, map, refl, subst, bytes_eq, arith}
use Rattle.std.specs.List.{AllZip}
use Rattle.store_record.specs.Keys.{Text}
use Rattle.store_model.proofs.AlikeReaches.{reach_enough}
use Rattle.store_model.proofs.AlikeReads.{read_enough}
use Rattle.store_model.proofs.ItemReads.{AreSome}
use Rattle.store_model.proofs.Least.{Each, each_append, each_so}
use Rattle.store_model.proofs.Seated.{Fits, grouped_fits, each_among}
use Rattle.store_model.specs.Alike.{Among, Related, AlikeGroup, AlikePointer, AlikeAt, Keeps}
use Rattle.store_model.specs.Items.{Asked, Pointer, Item, asked, pointed, Group, members, parts, asks, asked_of, without, pointers, Collect, collect_all, groups_at, pointers_on}
use Rattle.store_model.specs.Reaches.{types_of, reach_at}
use Rattle.store_model.specs.Walks.{Slots, read_at}

module _ {F : Type 0} (collect : Collect F) (Deep : ℕ → F → Type 0) where
  abbrev pub LessDeep : ℕ → Item F → Type 0
  LessDeep n (asked a) = Deep n a.part
  LessDeep n (pointed p) = Deep n p.body

  -- the same parts, n deep
  abbrev pub Itself : ℕ → Related F F
  Itself n types fs gs = (fs ≡ gs) × (AreSome types fs × Each (Deep n) fs)

  deep_asked : (n : ℕ) (items : List (Item F)) → Each (LessDeep n) items → Each (λ a. Deep n a.part) (asked_of items)
  deep_asked n [] h = tt
  deep_asked n (asked a ∷ items) h = (h.0, deep_asked n items h.1)
  deep_asked n (pointed p ∷ items) h = deep_asked n items h.1

  deep_without : (n : ℕ) (name : Text) (ps : List (Pointer F)) → Each (λ p. Deep n p.body) ps → Each (λ p. Deep n p.body) (without name ps)
  deep_without n name [] h = tt
  deep_without n name (p ∷ ps) h =
      elim (bytes_eq p.fragment name) as (λ b. Each (λ q. Deep n q.body) (cond b (without name ps) (p ∷ without name ps))) [ true ↦ deep_without n name ps h.1 | false ↦ (h.0, deep_without n name ps h.1) ]

  deep_pointers : (n : ℕ) (items : List (Item F)) → Each (LessDeep n) items → Each (λ p. Deep n p.body) (pointers items)
  deep_pointers n [] h = tt
  deep_pointers n (asked a ∷ items) h = deep_pointers n items h.1
  deep_pointers n (pointed p ∷ items) h = (h.0, deep_without n p.fragment (pointers items) (deep_pointers n items h.1))

  deep_parts : (n : ℕ) (us : List (Asked F)) → Each (λ a. Deep n a.part) us → Each (Deep n) (map (λ a. a.part) us)
  deep_parts n [] h = tt
  deep_parts n (u ∷ us) h = (h.0, deep_parts n us h.1)

  all_there : {X : Type 0} (xs : List X) → Each (λ x. Among x xs) xs
  all_there xs = each_among (λ x. Among x xs) xs (λ x there. there)

  group_itself : (n : ℕ) (g : Group F) → Fits (λ a. Deep n a.part) g → AlikeGroup (Itself n) g g
  group_itself n g fits =
      let others = each_so (λ a. (g.first.ask.response ≡ a.ask.response) × Deep n a.part) (λ a. Deep n a.part) g.others (λ a e. e.1) fits.1 in
      record {
        first = refl;
        there = all_there (asks g);
        back = all_there (asks g);
        below = each_among (λ a. Itself n (types_of a.form) (parts g) (parts g)) (asks g) (λ a there. (refl, (tt, deep_parts n (members g) (fits.0, others))));
      }

  groups_itself : (n : ℕ) (gs : List (Group F)) → Each (Fits (λ a. Deep n a.part)) gs → AllZip (AlikeGroup (Itself n)) gs gs
  groups_itself n [] h = tt
  groups_itself n (g ∷ gs) h = (group_itself n g h.0, groups_itself n gs h.1)

  pointers_itself : (n : ℕ) (T : Text) (ps : List (Pointer F)) → Each (λ p. Deep n p.body) ps → AllZip (AlikePointer (Itself n) T) ps ps
  pointers_itself n T [] h = tt
  pointers_itself n T (p ∷ ps) h = (record { fragment = refl; scope = refl; inline = refl; body = λ e. (refl, (tt, (h.0, tt))) }, pointers_itself n T ps h.1)

  module _ (less : (n : ℕ) (T : Text) (f : F) → Deep (suc n) f → Each (LessDeep n) (collect T f)) where
    all_less : (n : ℕ) (T : Text) (fs : List F) → Each (Deep (suc n)) fs → Each (LessDeep n) (collect_all collect T fs)
    all_less n T [] h = tt
    all_less n T (f ∷ fs) h = each_append (LessDeep n) (collect T f) (collect_all collect T fs) (less n T f h.0) (all_less n T fs h.1)

    at_itself : (n : ℕ) (T : Text) (fs : List F) → Each (Deep (suc n)) fs → AlikeAt (Itself n) collect collect T fs fs
    at_itself n T fs h =
        let items = collect_all collect T fs in
        let deep = all_less n T fs h in
        record {
          groups = groups_itself n (groups_at collect T fs) (grouped_fits (λ a. Deep n a.part) items (deep_asked n items deep));
          pointers = pointers_itself n T (pointers_on collect T fs) (deep_pointers n items deep);
        }

    pub itself_keeps : (n : ℕ) → Keeps (Itself n) (Itself (suc n)) collect collect
    itself_keeps n T types fs gs here h = subst (λ hs. AlikeAt (Itself n) collect collect T fs hs) h.0 (at_itself n T fs h.1.1)

    nothing : ((f : F) → Deep zero f → ⊥) → (types : List Text) (fs gs : List F) → Itself zero types fs gs → ⊥
    nothing none types [] gs h = absurd h.1.0
    nothing none types (g ∷ fs) gs h = none g h.1.1.0

    pub reads_deep : ((f : F) → Deep zero f → ⊥) → (typed : Text → Text) (owner : Text) (m : Slots) (n depth : ℕ) → n ≤ depth → (types : List Text) (f : F) (fs : List F) (id : Text) → Each (Deep n) (f ∷ fs)
        → read_at collect typed owner m depth types (f ∷ fs) id ≡ read_at collect typed owner m n types (f ∷ fs) id
    reads_deep none typed owner m n depth le types f fs id h =
        read_enough collect collect typed owner m Itself (nothing none) itself_keeps n depth n le (omega arith) types (f ∷ fs) (f ∷ fs) id (refl, (tt, h))

    pub read_deep : ((f : F) → Deep zero f → ⊥) → (typed : Text → Text) (owner : Text) (m : Slots) (n depth : ℕ) → n ≤ depth → (types : List Text) (f : F) (id : Text) → Deep n f
        → read_at collect typed owner m depth types (f ∷ []) id ≡ read_at collect typed owner m n types (f ∷ []) id
    read_deep none typed owner m n depth le types f id h = reads_deep none typed owner m n depth le types f [] id (h, tt)

    -- what holds of each id reached under one number holds of each under another
    pub reaches_deep : (P : Text → Type 0) → ((f : F) → Deep zero f → ⊥) → (typed : Text → Text) (m : Slots) (n depth other : ℕ) → n ≤ depth → n ≤ other → (types : List Text) (f : F) (fs : List F) (id : Text) → Each (Deep n) (f ∷ fs)
        → Each P (reach_at collect typed m depth types (f ∷ fs) id) → Each P (reach_at collect typed m other types (f ∷ fs) id)
    reaches_deep P none typed m n depth other le short types f fs id h reach =
        reach_enough collect collect typed m P Itself (nothing none) itself_keeps n depth other le short types (f ∷ fs) (f ∷ fs) id (refl, (tt, h)) reach
