-- The faults of a joined set are those of its groups of one response key, which are taken out in turn.
use Rattle.std.proofs.Common.{◌≡◌, Bool, true, false, true≢false, cond, ◌&&◌, ◌||◌, List, [], ◌∷◌, ◌++◌, map, bytes_eq, refl, ap, sym, ◌∙◌}
use Rattle.std.specs.List.{filter, list_any}
use Rattle.doc_merge.proofs.Anys.{any-append, any-map, any_and, any_none, any_or, any_same, filter_any, or_true}
use Rattle.doc_merge.proofs.Classes.{class_faulty, filter-append}
use Rattle.doc_merge.proofs.Equals.{and_left}
use Rattle.doc_merge.proofs.JoinedSets.{every-append, every_map, filter_map_all, filter_map_none}
use Rattle.doc_merge.specs.Joined.{every, has_key}
use Rattle.doc_merge.specs.Paths.{Item, Path, Row, all_meet, clash, conflict, faulty, here, item_place, items, items_of_row, paths, places_of, under}
use Rattle.plan_ir.specs.gql_ast.declared.place.FilePlace.{FilePlace}
use Rattle.plan_ir.proofs.gql_graph_laws.TextSteps.{same_self, same_text}
use Rattle.plan_ir.specs.schema_tables.Types.{Text}

-- ---- groups lose no pair

abbrev path_key : Path → Text
path_key (here a) = a.key
path_key (under a s) = a.key

abbrev item_key : Item → Text
item_key x = path_key x.1

abbrev has_item_key : Text → Item → Bool
has_item_key k x = bytes_eq k (item_key x)

clash_keys : (x y : Item) → clash x y ≡ true → item_key x ≡ item_key y
clash_keys x y = on (all_meet x.0 y.0) x.1 y.1 where
  on : (m : Bool) (s t : Path) → conflict m s t ≡ true → path_key s ≡ path_key t
  on m (here a) (here b) e = same_text a.key b.key (and_left (bytes_eq a.key b.key) _ e)
  on m (under a s) (under b t) e = same_text a.key b.key (and_left (bytes_eq a.key b.key) _ e)
  on m (here a) (under b t) e = absurd (true≢false (sym e))
  on m (under a s) (here b) e = absurd (true≢false (sym e))

row_keyed : (k : Text) (w : Row) (b : Bool) → bytes_eq k w.1.key ≡ b → filter (has_item_key k) (items_of_row w) ≡ cond b (items_of_row w) []
row_keyed k w true e =
    (λ i. cond (e i) ((w.0, here w.1) ∷ filter (has_item_key k) (map (λ (s : Path). (w.0, under w.1 s)) (paths w.2))) (filter (has_item_key k) (map (λ (s : Path). (w.0, under w.1 s)) (paths w.2))))
    ∙ ap (λ (xs : List Item). (w.0, here w.1) ∷ xs) (filter_map_all (has_item_key k) (λ (s : Path). (w.0, under w.1 s)) (λ s. e) (paths w.2))
row_keyed k w false e =
    (λ i. cond (e i) ((w.0, here w.1) ∷ filter (has_item_key k) (map (λ (s : Path). (w.0, under w.1 s)) (paths w.2))) (filter (has_item_key k) (map (λ (s : Path). (w.0, under w.1 s)) (paths w.2))))
    ∙ filter_map_none (has_item_key k) (λ (s : Path). (w.0, under w.1 s)) (λ s. e) (paths w.2)

items_keyed : (k : Text) (ws : List Row) → filter (has_item_key k) (items ws) ≡ items (filter (has_key k) ws)
items_keyed k [] = refl
items_keyed k (w ∷ ws) =
    filter-append (has_item_key k) (items_of_row w) (items ws)
    ∙ (λ i. row_keyed k w (bytes_eq k w.1.key) refl i ++ items_keyed k ws i)
    ∙ on (bytes_eq k w.1.key) where
      on : (b : Bool) → cond b (items_of_row w) [] ++ items (filter (has_key k) ws) ≡ items (cond b (w ∷ filter (has_key k) ws) (filter (has_key k) ws))
      on true = refl
      on false = refl

-- ---- each item has the key of a row

abbrev in_row : Item → Row → Bool
in_row x w = has_item_key w.1.key x

abbrev is_in : List Row → Item → Bool
is_in ws x = list_any (in_row x) ws

every_more : {A : Type 0} (ok more : A → Bool) → ((x : A) → ok x ≡ true → more x ≡ true) → (xs : List A) → every ok xs → every more xs
every_more ok more h [] e = tt
every_more ok more h (x ∷ xs) e = (h x e.0, every_more ok more h xs e.1)

every_filter : {A : Type 0} (ok q : A → Bool) (xs : List A) → every ok xs → every ok (filter q xs)
every_filter ok q [] e = tt
every_filter {A = A} ok q (x ∷ xs) e = on (q x) (every_filter ok q xs e.1) where
  on : (b : Bool) → every ok (filter q xs) → every ok (cond b (x ∷ filter q xs) (filter q xs))
  on true h = (e.0, h)
  on false h = h

every_faulty : {A : Type 0} (ok : A → Bool) (c : A → A → Bool) (xs : List A) → every ok xs → every ok (faulty c xs)
every_faulty ok c [] e = tt
every_faulty ok c (x ∷ xs) e = every-append ok (filter (c x) xs) (faulty c xs) (every_filter ok (c x) xs e.1) (every_faulty ok c xs e.1)

items_in : (ws : List Row) → every (is_in ws) (items ws)
items_in [] = tt
items_in (w ∷ ws) =
    every-append (is_in (w ∷ ws)) (items_of_row w) (items ws) (
      ap (λ b. b || is_in ws (w.0, here w.1)) (same_self w.1.key),
      every_map (is_in (w ∷ ws)) (λ (s : Path). (w.0, under w.1 s)) (λ s. ap (λ b. b || is_in ws (w.0, under w.1 s)) (same_self w.1.key)) (paths w.2),
    )
    (every_more (is_in ws) (is_in (w ∷ ws)) (λ x h. ap (λ b. in_row x w || b) h ∙ or_true (in_row x w)) (items ws) (items_in ws))

-- ---- a list by the classes of its elements

any_swap : {A C : Type 0} (f : C → A → Bool) (cs : List C) (xs : List A) → list_any (λ c. list_any (λ x. f c x) xs) cs ≡ list_any (λ x. list_any (λ c. f c x) cs) xs
any_swap f [] xs = sym (any_none (λ x. false) (λ x. refl) xs)
any_swap f (c ∷ cs) xs = ap (λ b. list_any (λ x. f c x) xs || b) (any_swap f cs xs) ∙ sym (any_or (λ x. f c x) (λ x. list_any (λ d. f d x) cs) xs)

both_turned : (a b : Bool) → (a && b) ≡ (b && a)
both_turned true true = refl
both_turned true false = refl
both_turned false true = refl
both_turned false false = refl

in_classes : {A C : Type 0} (s : C → A → Bool) (cs : List C) (q : A → Bool) (xs : List A) → every (λ x. list_any (λ c. s c x) cs) xs → list_any q xs ≡ list_any (λ x. list_any (λ c. s c x && q x) cs) xs
in_classes s cs q [] h = refl
in_classes s cs q (x ∷ xs) h = λ k. one k || in_classes s cs q xs h.1 k where
  one : q x ≡ list_any (λ c. s c x && q x) cs
  one = sym (any_same (λ c. s c x && q x) (λ c. q x && s c x) (λ c. both_turned (s c x) (q x)) cs ∙ any_and (q x) (λ c. s c x) cs ∙ ap (λ b. q x && b) h.0 ∙ both_turned (q x) true)

by_classes : {A C : Type 0} (s : C → A → Bool) (cs : List C) (q : A → Bool) (xs : List A) → every (λ x. list_any (λ c. s c x) cs) xs → list_any q xs ≡ list_any (λ c. list_any q (filter (s c) xs)) cs
by_classes s cs q xs h =
    in_classes s cs q xs h ∙ sym (any_swap (λ c x. s c x && q x) cs xs)
    ∙ sym (any_same (λ c. list_any q (filter (s c) xs)) (λ c. list_any (λ x. s c x && q x) xs) (λ c. filter_any q (s c) xs) cs)

pub set_faults : (p : FilePlace → Bool) (ws : List Row) → list_any p (places_of ws) ≡ list_any (λ (w : Row). list_any p (places_of (filter (has_key w.1.key) ws))) ws
set_faults p ws =
    any-map item_place p (faulty clash (items ws))
    ∙ by_classes (λ (w : Row) (x : Item). has_item_key w.1.key x) ws (λ (x : Item). p (item_place x)) (faulty clash (items ws)) (every_faulty (is_in ws) clash (items ws) (items_in ws))
    ∙ any_same (λ (w : Row). list_any (λ (x : Item). p (item_place x)) (filter (has_item_key w.1.key) (faulty clash (items ws)))) (λ (w : Row). list_any p (places_of (filter (has_key w.1.key) ws)))
    (λ w. ap (list_any (λ (x : Item). p (item_place x)))
    (class_faulty clash (has_item_key w.1.key) (λ x y e. ap (λ (n : Text). bytes_eq w.1.key n) (sym (clash_keys x y e))) (items ws) ∙ ap (faulty clash) (items_keyed w.1.key ws))
    ∙ sym (any-map item_place p (faulty clash (items (filter (has_key w.1.key) ws))))) ws

-- ---- groups that are taken out in turn

abbrev pub in_turn : {R : Type 0} → (List R → List FilePlace) → (Text → List R) → List Text → List FilePlace
in_turn f tells [] = []
in_turn f tells (k ∷ ks) = f (tells k) ++ in_turn f (λ n. cond (bytes_eq k n) [] (tells n)) ks

beside : {A : Type 0} (a : Bool) (g h : A → Bool) → ((x : A) → (a || g x) ≡ (a || h x)) → (xs : List A) → (a || list_any g xs) ≡ (a || list_any h xs)
beside true g h e xs = refl
beside false g h e xs = any_same g h e xs

or_self : (a : Bool) → (a || false) ≡ (a || a)
or_self true = refl
or_self false = refl

pub in_turn_any : {R : Type 0} (p : FilePlace → Bool) (f : List R → List FilePlace) → f [] ≡ [] → (tells : Text → List R) (ks : List Text)
    → list_any p (in_turn f tells ks) ≡ list_any (λ k. list_any p (f (tells k))) ks
in_turn_any p f e tells [] = refl
in_turn_any {R = R} p f e tells (k ∷ ks) =
    any-append p (f (tells k)) (in_turn f (λ n. cond (bytes_eq k n) [] (tells n)) ks)
    ∙ ap (λ b. list_any p (f (tells k)) || b) (in_turn_any p f e (λ n. cond (bytes_eq k n) [] (tells n)) ks)
    ∙ beside (list_any p (f (tells k))) (λ n. list_any p (f (cond (bytes_eq k n) [] (tells n)))) (λ n. list_any p (f (tells n))) (λ n. on n (bytes_eq k n) refl) ks where
      on : (n : Text) (b : Bool) → bytes_eq k n ≡ b → (list_any p (f (tells k)) || list_any p (f (cond b [] (tells n)))) ≡ (list_any p (f (tells k)) || list_any p (f (tells n)))
      on n true h =
          ap (λ (ys : List FilePlace). list_any p (f (tells k)) || list_any p ys) e ∙ or_self (list_any p (f (tells k)))
          ∙ ap (λ (m : Text). list_any p (f (tells k)) || list_any p (f (tells m))) (same_text k n h)
      on n false h = refl
