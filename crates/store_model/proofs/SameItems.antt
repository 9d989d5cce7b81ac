-- Parts that collect alike items, item by item, have alike groups and alike pointers.
use Rattle.std.proofs.Common.{◌≡◌, Bool, true, false, cond, List, [], ◌∷◌, ◌++◌, map, sym, subst, bytes_eq, inl, inr}
use Rattle.std.specs.List.{AllByRecursion, AllZip}
use Rattle.store_record.specs.Keys.{Text}
use Rattle.store_record.specs.gql_plain.Order.{has_text}
use Rattle.store_model.specs.Alike.{Among, AlikeGroup, AlikePointer, Keeps}
use Rattle.store_model.specs.Items.{Asked, Pointer, Item, asked, pointed, Group, members, parts, asks, asked_of, with_asked, grouped_onto, groups_of, without, pointers, Collect, collect_all, groups_at, pointers_on}
use Rattle.store_model.specs.Reaches.{types_of}

-- one field, and related parts below it
pub record AlikeAsked {F G : Type 0} (p : F → G → Type 0) (a : Asked F) (b : Asked G) : Type 0 where
  pub ask : a.ask ≡ b.ask
  pub part : p a.part b.part

pub record AlikePointed {F G : Type 0} (p : F → G → Type 0) (x : Pointer F) (y : Pointer G) : Type 0 where
  pub fragment : x.fragment ≡ y.fragment
  pub scope : x.scope ≡ y.scope
  pub inline : x.inline ≡ y.inline
  pub body : x.inline ≡ true → p x.body y.body

abbrev pub AlikeItem : {F G : Type 0} → (F → G → Type 0) → Item F → Item G → Type 0
AlikeItem p (asked a) (asked b) = AlikeAsked p a b
AlikeItem p (asked a) (pointed q) = ⊥
AlikeItem p (pointed x) (asked b) = ⊥
AlikeItem p (pointed x) (pointed y) = AlikePointed p x y

pub zip_append : {X Y : Type 0} (r : X → Y → Type 0) (xs : List X) (ys : List Y) (more : List X) (others : List Y) → AllZip r xs ys → AllZip r more others → AllZip r (xs ++ more) (ys ++ others)
zip_append r [] [] more others a b = b
zip_append r [] (y ∷ ys) more others a b = absurd a
zip_append r (x ∷ xs) [] more others a b = absurd a
zip_append r (x ∷ xs) (y ∷ ys) more others a b = (a.0, zip_append r xs ys more others a.1 b)

pub zip_either : {X Y : Type 0} (r : X → Y → Type 0) (b : Bool) (xs more : List X) (ys others : List Y) → AllZip r xs ys → AllZip r more others → AllZip r (cond b xs more) (cond b ys others)
zip_either r true xs more ys others here later = here
zip_either r false xs more ys others here later = later

pub zip_cond : {X Y : Type 0} (r : X → Y → Type 0) (b c : Bool) → b ≡ c → (xs more : List X) (ys others : List Y) → AllZip r xs ys → AllZip r more others → AllZip r (cond b xs more) (cond c ys others)
zip_cond r b c e xs more ys others here later = subst (λ d. AllZip r (cond b xs more) (cond d ys others)) e (zip_either r b xs more ys others here later)

each_so : {X : Type 0} (P Q : X → Type 0) (xs : List X) → ((x : X) → P x → Q x) → AllByRecursion P xs → AllByRecursion Q xs
each_so P Q [] f h = tt
each_so P Q (x ∷ xs) f h = (f x h.0, each_so P Q xs f h.1)

-- a group field by field
abbrev pub Fieldwise : {F G : Type 0} → (F → G → Type 0) → Group F → Group G → Type 0
Fieldwise p g h = AllZip (AlikeAsked p) (members g) (members h)

module _ {F G : Type 0} (p : F → G → Type 0) where
  asked_alike : (xs : List (Item F)) (ys : List (Item G)) → AllZip (AlikeItem p) xs ys → AllZip (AlikeAsked p) (asked_of xs) (asked_of ys)
  asked_alike [] [] h = tt
  asked_alike [] (y ∷ ys) h = absurd h
  asked_alike (x ∷ xs) [] h = absurd h
  asked_alike (asked a ∷ xs) (asked b ∷ ys) h = (h.0, asked_alike xs ys h.1)
  asked_alike (asked a ∷ xs) (pointed q ∷ ys) h = absurd h.0
  asked_alike (pointed x ∷ xs) (asked b ∷ ys) h = absurd h.0
  asked_alike (pointed x ∷ xs) (pointed q ∷ ys) h = asked_alike xs ys h.1

  with_asked_alike : (gs : List (Group F)) (hs : List (Group G)) (a : Asked F) (b : Asked G) → AllZip (Fieldwise p) gs hs → AlikeAsked p a b → AllZip (Fieldwise p) (with_asked gs a) (with_asked hs b)
  with_asked_alike [] [] a b all e = ((e, tt), tt)
  with_asked_alike [] (h ∷ hs) a b all e = absurd all
  with_asked_alike (g ∷ gs) [] a b all e = absurd all
  with_asked_alike (g ∷ gs) (h ∷ hs) a b all e =
      zip_cond (Fieldwise p) (bytes_eq g.first.ask.response a.ask.response) (bytes_eq h.first.ask.response b.ask.response)
      (λ i. bytes_eq (all.0.0.ask i).response (e.ask i).response)
      _ _ _ _
      ((all.0.0, zip_append (AlikeAsked p) g.others h.others (a ∷ []) (b ∷ []) all.0.1 (e, tt)), all.1)
      (all.0, with_asked_alike gs hs a b all.1 e)

  onto_alike : (gs : List (Group F)) (hs : List (Group G)) (xs : List (Asked F)) (ys : List (Asked G)) → AllZip (Fieldwise p) gs hs → AllZip (AlikeAsked p) xs ys
      → AllZip (Fieldwise p) (grouped_onto gs xs) (grouped_onto hs ys)
  onto_alike gs hs [] [] all e = all
  onto_alike gs hs [] (y ∷ ys) all e = absurd e
  onto_alike gs hs (x ∷ xs) [] all e = absurd e
  onto_alike gs hs (x ∷ xs) (y ∷ ys) all e = onto_alike (with_asked gs x) (with_asked hs y) xs ys (with_asked_alike gs hs x y all e.0) e.1

  pub grouped_alike : (xs : List (Item F)) (ys : List (Item G)) → AllZip (AlikeItem p) xs ys → AllZip (Fieldwise p) (groups_of xs) (groups_of ys)
  grouped_alike xs ys h = onto_alike [] [] (asked_of xs) (asked_of ys) tt (asked_alike xs ys h)

  pub parts_alike : (us : List (Asked F)) (vs : List (Asked G)) → AllZip (AlikeAsked p) us vs → AllZip p (map (λ a. a.part) us) (map (λ a. a.part) vs)
  parts_alike [] [] h = tt
  parts_alike [] (v ∷ vs) h = absurd h
  parts_alike (u ∷ us) [] h = absurd h
  parts_alike (u ∷ us) (v ∷ vs) h = (h.0.part, parts_alike us vs h.1)

  asks_there : (us : List (Asked F)) (vs : List (Asked G)) → AllZip (AlikeAsked p) us vs → AllByRecursion (λ a. Among a (map (λ b. b.ask) vs)) (map (λ a. a.ask) us)
  asks_there [] [] h = tt
  asks_there [] (v ∷ vs) h = absurd h
  asks_there (u ∷ us) [] h = absurd h
  asks_there (u ∷ us) (v ∷ vs) h =
      (inl (sym h.0.ask), each_so (λ a. Among a (map (λ b. b.ask) vs)) (λ a. Among a (v.ask ∷ map (λ b. b.ask) vs)) (map (λ a. a.ask) us) (λ a there. inr there) (asks_there us vs h.1))

  asks_back : (us : List (Asked F)) (vs : List (Asked G)) → AllZip (AlikeAsked p) us vs → AllByRecursion (λ b. Among b (map (λ a. a.ask) us)) (map (λ b. b.ask) vs)
  asks_back [] [] h = tt
  asks_back [] (v ∷ vs) h = absurd h
  asks_back (u ∷ us) [] h = absurd h
  asks_back (u ∷ us) (v ∷ vs) h =
      (inl h.0.ask, each_so (λ b. Among b (map (λ a. a.ask) us)) (λ b. Among b (u.ask ∷ map (λ a. a.ask) us)) (map (λ b. b.ask) vs) (λ b there. inr there) (asks_back us vs h.1))

  group_alike : (V : List Text → List F → Type 0) (g : Group F) (h : Group G) → AllByRecursion (λ a. V (types_of a.form) (parts g)) (asks g) → Fieldwise p g h → AlikeGroup (λ types fs gs. V types fs × AllZip p fs gs) g h
  group_alike V g h valid e = record {
    first = e.0.ask;
    there = asks_there (members g) (members h) e;
    back = asks_back (members g) (members h) e;
    below = each_so (λ a. V (types_of a.form) (parts g)) (λ a. V (types_of a.form) (parts g) × AllZip p (parts g) (parts h)) (asks g) (λ a v. (v, parts_alike (members g) (members h) e)) valid;
  }

  groups_all : (V : List Text → List F → Type 0) (gs : List (Group F)) (hs : List (Group G)) → AllByRecursion (λ g. AllByRecursion (λ a. V (types_of a.form) (parts g)) (asks g)) gs
      → AllZip (Fieldwise p) gs hs → AllZip (AlikeGroup (λ types fs gs. V types fs × AllZip p fs gs)) gs hs
  groups_all V [] [] valid h = tt
  groups_all V [] (k ∷ ks) valid h = absurd h
  groups_all V (g ∷ gs) [] valid h = absurd h
  groups_all V (g ∷ gs) (k ∷ ks) valid h = (group_alike V g k valid.0 h.0, groups_all V gs ks valid.1 h.1)

  without_alike : (name other : Text) → name ≡ other → (ps : List (Pointer F)) (qs : List (Pointer G)) → AllZip (AlikePointed p) ps qs → AllZip (AlikePointed p) (without name ps) (without other qs)
  without_alike name other e [] [] h = tt
  without_alike name other e [] (q ∷ qs) h = absurd h
  without_alike name other e (x ∷ xs) [] h = absurd h
  without_alike name other e (x ∷ xs) (q ∷ qs) h =
      zip_cond (AlikePointed p) (bytes_eq x.fragment name) (bytes_eq q.fragment other) (λ i. bytes_eq (h.0.fragment i) (e i)) _ _ _ _
      (without_alike name other e xs qs h.1) (h.0, without_alike name other e xs qs h.1)

  pointers_alike : (xs : List (Item F)) (ys : List (Item G)) → AllZip (AlikeItem p) xs ys → AllZip (AlikePointed p) (pointers xs) (pointers ys)
  pointers_alike [] [] h = tt
  pointers_alike [] (y ∷ ys) h = absurd h
  pointers_alike (x ∷ xs) [] h = absurd h
  pointers_alike (asked a ∷ xs) (asked b ∷ ys) h = pointers_alike xs ys h.1
  pointers_alike (asked a ∷ xs) (pointed q ∷ ys) h = absurd h.0
  pointers_alike (pointed x ∷ xs) (asked b ∷ ys) h = absurd h.0
  pointers_alike (pointed x ∷ xs) (pointed q ∷ ys) h = (h.0, without_alike x.fragment q.fragment h.0.fragment (pointers xs) (pointers ys) (pointers_alike xs ys h.1))

  pointed_all : (V : List Text → List F → Type 0) (T : Text) (xs : List (Pointer F)) (ys : List (Pointer G)) → AllByRecursion (λ x. x.inline ≡ true → V (T ∷ []) (x.body ∷ [])) xs
      → AllZip (AlikePointed p) xs ys → AllZip (AlikePointer (λ types fs gs. V types fs × AllZip p fs gs) T) xs ys
  pointed_all V T [] [] valid h = tt
  pointed_all V T [] (y ∷ ys) valid h = absurd h
  pointed_all V T (x ∷ xs) [] valid h = absurd h
  pointed_all V T (x ∷ xs) (y ∷ ys) valid h =
      (record { fragment = h.0.fragment; scope = h.0.scope; inline = h.0.inline; body = λ e. (valid.0 e, (h.0.body e, tt)) }, pointed_all V T xs ys valid.1 h.1)

-- what is valid at types stays so below: the joined parts of each group at the types of each of its fields, and the bodies
-- that are read there
pub record Holds {F : Type 0} (V : List Text → List F → Type 0) (collect : Collect F) (T : Text) (fs : List F) : Type 0 where
  pub groups : AllByRecursion (λ g. AllByRecursion (λ a. V (types_of a.form) (parts g)) (asks g)) (groups_at collect T fs)
  pub pointers : AllByRecursion (λ x. x.inline ≡ true → V (T ∷ []) (x.body ∷ [])) (pointers_on collect T fs)

-- valid parts, related one by one, that collect items alike one by one are a kept relation
pub items_keep : {F G : Type 0} (collect : Collect F) (gather : Collect G) (V : List Text → List F → Type 0) (below above : F → G → Type 0)
    → ((T : Text) (types : List Text) (fs : List F) → has_text types T ≡ true → V types fs → Holds V collect T fs)
    → ((T : Text) (types : List Text) (fs : List F) (gs : List G) → has_text types T ≡ true → V types fs → AllZip above fs gs → AllZip (AlikeItem below) (collect_all collect T fs) (collect_all gather T gs))
    → Keeps (λ types fs gs. V types fs × AllZip below fs gs) (λ types fs gs. V types fs × AllZip above fs gs) collect gather
items_keep collect gather V below above holds each T types fs gs here h =
    let items = each T types fs gs here h.0 h.1 in
    let valid = holds T types fs here h.0 in
    record {
      groups = groups_all below V _ _ valid.groups (grouped_alike below (collect_all collect T fs) (collect_all gather T gs) items);
      pointers = pointed_all below V T _ _ valid.pointers (pointers_alike below (collect_all collect T fs) (collect_all gather T gs) items);
    }
