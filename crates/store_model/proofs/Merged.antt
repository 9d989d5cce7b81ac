-- Fields that ask for the same may be joined within a run: the groups stay alike.
use Rattle.std.proofs.Common.{◌≡◌, Bool, true, false, true≢false, append_assoc, cond, List, [], ◌∷◌, ◌++◌, map, refl, sym, ap, ◌∙◌, subst, bytes_eq, inl, inr, ◌⊎◌}
use Rattle.std.proofs.lemmas.Slice.Eq.{bytes_eq-Decides}
use Rattle.std.specs.List.{AllByRecursion, AllZip}
use Rattle.store_record.specs.Keys.{Text}
use Rattle.store_model.specs.Alike.{Among, Related, AlikeGroup}
use Rattle.store_model.specs.Items.{Ask, Asked, Group, members, parts, asks, with_asked, grouped_onto}
use Rattle.store_model.specs.Reaches.{types_of}

-- no field of the list has the response key
abbrev pub NoneOf : {F : Type 0} → Text → List (Asked F) → Type 0
NoneOf key us = AllByRecursion (λ u. bytes_eq key u.ask.response ≡ false) us

-- two groups, of which the second has two fields of the first joined to one
pub record Joined {F : Type 0} (a b c : Asked F) (g h : Group F) : Type 0 where
  pub before : List (Asked F)
  pub after : List (Asked F)
  pub left : members g ≡ before ++ a ∷ b ∷ after
  pub right : members h ≡ before ++ c ∷ after

-- two groups, of which the second has another field in the first one's place, the last
pub record Waiting {F : Type 0} (a c : Asked F) (g h : Group F) : Type 0 where
  pub before : List (Asked F)
  pub left : members g ≡ before ++ a ∷ []
  pub right : members h ≡ before ++ c ∷ []

-- the groups are equal but for the one of the response key, where the relation holds
abbrev pub AtOne : {F : Type 0} → (Group F → Group F → Type 0) → Text → List (Group F) → List (Group F) → Type 0
AtOne r key [] [] = ⊥
AtOne r key [] (h ∷ hs) = ⊥
AtOne r key (g ∷ gs) [] = ⊥
AtOne r key (g ∷ gs) (h ∷ hs) =
    ((g.first.ask.response ≡ key) × (h.first.ask.response ≡ key) × r g h × (gs ≡ hs))
    ⊎ ((g ≡ h) × (bytes_eq g.first.ask.response key ≡ false) × AtOne r key gs hs)

module _ {F : Type 0} where
  -- the relation of the one group moves on where a field of its key comes to both, or to the first alone
  put_both : (r s : Group F → Group F → Type 0) (key : Text) (a : Asked F) → ((g h : Group F) → r g h → s (record { first = g.first; others = g.others ++ a ∷ [] }) (record { first = h.first; others = h.others ++ a ∷ [] }))
      → a.ask.response ≡ key → (gs hs : List (Group F)) → AtOne r key gs hs → AtOne s key (with_asked gs a) (with_asked hs a)
  put_both r s key a step e [] [] h = absurd h
  put_both r s key a step e [] (k ∷ ks) h = absurd h
  put_both r s key a step e (g ∷ gs) [] h = absurd h
  put_both r s key a step e (g ∷ gs) (k ∷ ks) (inl here) =
      at (bytes_eq g.first.ask.response a.ask.response) (bytes_eq k.first.ask.response a.ask.response)
      ((bytes_eq-Decides g.first.ask.response a.ask.response).1 (here.0 ∙ sym e)) ((bytes_eq-Decides k.first.ask.response a.ask.response).1 (here.1 ∙ sym e))
    where
      at : (b c : Bool) → b ≡ true → c ≡ true → AtOne s key
          (cond b (record { first = g.first; others = g.others ++ a ∷ [] } ∷ gs) (g ∷ with_asked gs a))
          (cond c (record { first = k.first; others = k.others ++ a ∷ [] } ∷ ks) (k ∷ with_asked ks a))
      at true true x y = inl (here.0, here.1, step g k here.2, here.3)
      at true false x y = absurd (true≢false (sym y))
      at false c x y = absurd (true≢false (sym x))
  put_both r s key a step e (g ∷ gs) (k ∷ ks) (inr there) =
      at (put_both r s key a step e gs ks there.2) (bytes_eq g.first.ask.response a.ask.response) (bytes_eq k.first.ask.response a.ask.response)
      (ap (λ t. bytes_eq g.first.ask.response t) e ∙ there.1) (ap (λ x. bytes_eq x.first.ask.response a.ask.response) (sym there.0) ∙ ap (λ t. bytes_eq g.first.ask.response t) e ∙ there.1)
    where
      at : AtOne s key (with_asked gs a) (with_asked ks a) → (b c : Bool) → b ≡ false → c ≡ false → AtOne s key
          (cond b (record { first = g.first; others = g.others ++ a ∷ [] } ∷ gs) (g ∷ with_asked gs a))
          (cond c (record { first = k.first; others = k.others ++ a ∷ [] } ∷ ks) (k ∷ with_asked ks a))
      at rest true c x y = absurd (true≢false x)
      at rest false true x y = absurd (true≢false y)
      at rest false false x y = inr (there.0, there.1, rest)

  put_waiting : (key : Text) (a c : Asked F) → a.ask ≡ c.ask → a.ask.response ≡ key → (gs : List (Group F)) → AtOne (Waiting a c) key (with_asked gs a) (with_asked gs c)
  put_waiting key a c e k [] = inl (k, sym (ap (λ x. x.response) e) ∙ k, record { before = []; left = refl; right = refl }, refl)
  put_waiting key a c e k (g ∷ gs) =
      at (put_waiting key a c e k gs) (bytes_eq g.first.ask.response a.ask.response) refl (bytes_eq g.first.ask.response c.ask.response) (ap (λ x. bytes_eq g.first.ask.response x.response) e)
    where
      at : AtOne (Waiting a c) key (with_asked gs a) (with_asked gs c) → (b : Bool) → bytes_eq g.first.ask.response a.ask.response ≡ b → (d : Bool) → bytes_eq g.first.ask.response a.ask.response ≡ d
          → AtOne (Waiting a c) key (cond b (record { first = g.first; others = g.others ++ a ∷ [] } ∷ gs) (g ∷ with_asked gs a)) (cond d (record { first = g.first; others = g.others ++ c ∷ [] } ∷ gs) (g ∷ with_asked gs c))
      at rest true x true y =
          let same : g.first.ask.response ≡ key = (bytes_eq-Decides g.first.ask.response a.ask.response).0 x ∙ k in
          inl (same, same, record { before = members g; left = refl; right = refl }, refl)
      at rest true x false y = absurd (true≢false (sym x ∙ y))
      at rest false x true y = absurd (true≢false (sym y ∙ x))
      at rest false x false y = inr (refl, ap (λ t. bytes_eq g.first.ask.response t) (sym k) ∙ x, rest)

  put_left : (key : Text) (a b c : Asked F) → b.ask.response ≡ key → (gs hs : List (Group F)) → AtOne (Waiting a c) key gs hs → AtOne (Joined a b c) key (with_asked gs b) hs
  put_left key a b c k [] [] h = absurd h
  put_left key a b c k [] (y ∷ ys) h = absurd h
  put_left key a b c k (g ∷ gs) [] h = absurd h
  put_left key a b c k (g ∷ gs) (y ∷ ys) (inl here) = at (bytes_eq g.first.ask.response b.ask.response) ((bytes_eq-Decides g.first.ask.response b.ask.response).1 (here.0 ∙ sym k))
    where
      at : (d : Bool) → d ≡ true → AtOne (Joined a b c) key (cond d (record { first = g.first; others = g.others ++ b ∷ [] } ∷ gs) (g ∷ with_asked gs b)) (y ∷ ys)
      at true e = inl (here.0, here.1, record { before = here.2.before; after = []; left = ap (λ xs. xs ++ b ∷ []) here.2.left ∙ append_assoc here.2.before (a ∷ []) (b ∷ []); right = here.2.right }, here.3)
      at false e = absurd (true≢false (sym e))
  put_left key a b c k (g ∷ gs) (y ∷ ys) (inr there) =
      at (put_left key a b c k gs ys there.2) (bytes_eq g.first.ask.response b.ask.response) (ap (λ t. bytes_eq g.first.ask.response t) k ∙ there.1)
    where
      at : AtOne (Joined a b c) key (with_asked gs b) ys → (d : Bool) → d ≡ false → AtOne (Joined a b c) key (cond d (record { first = g.first; others = g.others ++ b ∷ [] } ∷ gs) (g ∷ with_asked gs b)) (y ∷ ys)
      at rest true e = absurd (true≢false e)
      at rest false e = inr (there.0, there.1, rest)

  put_other : (r : Group F → Group F → Type 0) (key : Text) (u : Asked F) → bytes_eq key u.ask.response ≡ false → (gs hs : List (Group F)) → AtOne r key gs hs → AtOne r key (with_asked gs u) (with_asked hs u)
  put_other r key u n [] [] h = absurd h
  put_other r key u n [] (y ∷ ys) h = absurd h
  put_other r key u n (g ∷ gs) [] h = absurd h
  put_other r key u n (g ∷ gs) (y ∷ ys) (inl here) =
      at (bytes_eq g.first.ask.response u.ask.response) (bytes_eq y.first.ask.response u.ask.response)
      (ap (λ t. bytes_eq t u.ask.response) here.0 ∙ n) (ap (λ t. bytes_eq t u.ask.response) here.1 ∙ n)
    where
      at : (b c : Bool) → b ≡ false → c ≡ false → AtOne r key (cond b (record { first = g.first; others = g.others ++ u ∷ [] } ∷ gs) (g ∷ with_asked gs u)) (cond c (record { first = y.first; others = y.others ++ u ∷ [] } ∷ ys) (y ∷ with_asked ys u))
      at true c e f = absurd (true≢false e)
      at false true e f = absurd (true≢false f)
      at false false e f = inl (here.0, here.1, here.2, ap (λ xs. with_asked xs u) here.3)
  put_other r key u n (g ∷ gs) (y ∷ ys) (inr there) =
      at (put_other r key u n gs ys there.2) (bytes_eq g.first.ask.response u.ask.response) (bytes_eq y.first.ask.response u.ask.response) (ap (λ x. bytes_eq x.first.ask.response u.ask.response) there.0)
    where
      at : AtOne r key (with_asked gs u) (with_asked ys u) → (b c : Bool) → b ≡ c → AtOne r key (cond b (record { first = g.first; others = g.others ++ u ∷ [] } ∷ gs) (g ∷ with_asked gs u)) (cond c (record { first = y.first; others = y.others ++ u ∷ [] } ∷ ys) (y ∷ with_asked ys u))
      at rest true true e = inr (ap (λ x. record { first = x.first; others = x.others ++ u ∷ [] }) there.0, there.1, there.2)
      at rest true false e = absurd (true≢false e)
      at rest false true e = absurd (true≢false (sym e))
      at rest false false e = inr (there.0, there.1, rest)

  -- ---- runs of fields

  pass_run : (r : Group F → Group F → Type 0) (key : Text) (q : List (Asked F)) → NoneOf key q → (gs hs : List (Group F)) → AtOne r key gs hs → AtOne r key (grouped_onto gs q) (grouped_onto hs q)
  pass_run r key [] n gs hs h = h
  pass_run r key (u ∷ q) n gs hs h = pass_run r key q n.1 (with_asked gs u) (with_asked hs u) (put_other r key u n.0 gs hs h)

  joined_more : (a b c u : Asked F) (g h : Group F) → Joined a b c g h → Joined a b c (record { first = g.first; others = g.others ++ u ∷ [] }) (record { first = h.first; others = h.others ++ u ∷ [] })
  joined_more a b c u g h j = record {
    before = j.before;
    after = j.after ++ u ∷ [];
    left = ap (λ xs. xs ++ u ∷ []) j.left ∙ append_assoc j.before (a ∷ b ∷ j.after) (u ∷ []);
    right = ap (λ xs. xs ++ u ∷ []) j.right ∙ append_assoc j.before (c ∷ j.after) (u ∷ []);
  }

  pass_rest : (key : Text) (a b c : Asked F) (us : List (Asked F)) (gs hs : List (Group F)) → AtOne (Joined a b c) key gs hs → AtOne (Joined a b c) key (grouped_onto gs us) (grouped_onto hs us)
  pass_rest key a b c [] gs hs h = h
  pass_rest key a b c (u ∷ us) gs hs h = pass_rest key a b c us (with_asked gs u) (with_asked hs u) (either (bytes_eq key u.ask.response) refl)
    where
      either : (d : Bool) → bytes_eq key u.ask.response ≡ d → AtOne (Joined a b c) key (with_asked gs u) (with_asked hs u)
      either true e = put_both (Joined a b c) (Joined a b c) key u (joined_more a b c u) (sym ((bytes_eq-Decides key u.ask.response).0 e)) gs hs h
      either false e = put_other (Joined a b c) key u e gs hs h

  onto_append : (gs : List (Group F)) (us vs : List (Asked F)) → grouped_onto gs (us ++ vs) ≡ grouped_onto (grouped_onto gs us) vs
  onto_append gs [] vs = refl
  onto_append gs (u ∷ us) vs = onto_append (with_asked gs u) us vs

  -- a and b ask for the same, with no field of their key between; c stands for both
  pub joined_groups : (a b c : Asked F) → a.ask ≡ c.ask → b.ask ≡ c.ask → (p q rest : List (Asked F)) → NoneOf a.ask.response q
      → AtOne (Joined a b c) a.ask.response (grouped_onto [] (p ++ a ∷ (q ++ b ∷ rest))) (grouped_onto [] (p ++ c ∷ (q ++ rest)))
  joined_groups a b c e f p q rest none =
      let key = a.ask.response in
      let gs = grouped_onto [] p in
      let one = pass_run (Waiting a c) key q none (with_asked gs a) (with_asked gs c) (put_waiting key a c e refl gs) in
      let same : b.ask.response ≡ key = ap (λ x. x.response) f ∙ sym (ap (λ x. x.response) e) in
      let two = put_left key a b c same (grouped_onto (with_asked gs a) q) (grouped_onto (with_asked gs c) q) one in
      let three = pass_rest key a b c rest (with_asked (grouped_onto (with_asked gs a) q) b) (grouped_onto (with_asked gs c) q) two in
      let left : grouped_onto [] (p ++ a ∷ (q ++ b ∷ rest)) ≡ grouped_onto (with_asked (grouped_onto (with_asked gs a) q) b) rest
      = onto_append [] p (a ∷ (q ++ b ∷ rest)) ∙ onto_append (with_asked gs a) q (b ∷ rest) in
      let right : grouped_onto [] (p ++ c ∷ (q ++ rest)) ≡ grouped_onto (grouped_onto (with_asked gs c) q) rest
      = onto_append [] p (c ∷ (q ++ rest)) ∙ onto_append (with_asked gs c) q rest in
      subst (λ xs. AtOne (Joined a b c) key xs (grouped_onto [] (p ++ c ∷ (q ++ rest)))) (sym left)
      (subst (λ ys. AtOne (Joined a b c) key (grouped_onto (with_asked (grouped_onto (with_asked gs a) q) b) rest) ys) (sym right) three)

-- ---- such groups are alike

each_so : {X : Type 0} (P Q : X → Type 0) (xs : List X) → ((x : X) → P x → Q x) → AllByRecursion P xs → AllByRecursion Q xs
each_so P Q [] f h = tt
each_so P Q (x ∷ xs) f h = (f x h.0, each_so P Q xs f h.1)

of_all : {X : Type 0} (P : X → Type 0) → ((x : X) → P x) → (xs : List X) → AllByRecursion P xs
of_all P f [] = tt
of_all P f (x ∷ xs) = (f x, of_all P f xs)

all_there : {X : Type 0} (xs : List X) → AllByRecursion (λ x. Among x xs) xs
all_there [] = tt
all_there (x ∷ xs) = (inl refl, each_so (λ y. Among y xs) (λ y. Among y (x ∷ xs)) xs (λ y there. inr there) (all_there xs))

module _ {F : Type 0} where
  abbrev asks_in : List (Asked F) → List Ask
  asks_in us = map (λ u. u.ask) us

  abbrev parts_in : List (Asked F) → List F
  parts_in us = map (λ u. u.part) us

  -- the first field of a list asks for this
  abbrev Heads : Ask → List (Asked F) → Type 0
  Heads k [] = ⊥
  Heads k (u ∷ us) = k ≡ u.ask

  module _ (r : Related F F) (a b c : Asked F) (e : a.ask ≡ c.ask) (f : b.ask ≡ c.ask)
      (whole : (types : List Text) (fs : List F) → r types fs fs)
      (join : (types : List Text) (before after : List (Asked F)) → r types (parts_in (before ++ a ∷ b ∷ after)) (parts_in (before ++ c ∷ after))) where
    heads_same : (x y : Ask) (before after : List (Asked F)) → Heads x (before ++ a ∷ b ∷ after) → Heads y (before ++ c ∷ after) → x ≡ y
    heads_same x y [] after h k = h ∙ e ∙ sym k
    heads_same x y (u ∷ us) after h k = h ∙ sym k

    there_in : (before after : List (Asked F)) → AllByRecursion (λ x. Among x (asks_in (before ++ c ∷ after))) (asks_in (before ++ a ∷ b ∷ after))
    there_in [] after = (inl (sym e), (inl (sym f), each_so (λ x. Among x (asks_in after)) (λ x. Among x (c.ask ∷ asks_in after)) (asks_in after) (λ x there. inr there) (all_there (asks_in after))))
    there_in (u ∷ us) after = (inl refl, each_so (λ x. Among x (asks_in (us ++ c ∷ after))) (λ x. Among x (u.ask ∷ asks_in (us ++ c ∷ after))) (asks_in (us ++ a ∷ b ∷ after)) (λ x there. inr there) (there_in us after))

    back_in : (before after : List (Asked F)) → AllByRecursion (λ x. Among x (asks_in (before ++ a ∷ b ∷ after))) (asks_in (before ++ c ∷ after))
    back_in [] after = (inl e, each_so (λ x. Among x (asks_in after)) (λ x. Among x (a.ask ∷ b.ask ∷ asks_in after)) (asks_in after) (λ x there. inr (inr there)) (all_there (asks_in after)))
    back_in (u ∷ us) after = (inl refl, each_so (λ x. Among x (asks_in (us ++ a ∷ b ∷ after))) (λ x. Among x (u.ask ∷ asks_in (us ++ a ∷ b ∷ after))) (asks_in (us ++ c ∷ after)) (λ x there. inr there) (back_in us after))

    joined_below : (g h : Group F) → Joined a b c g h → (types : List Text) → r types (parts g) (parts h)
    joined_below g h j types = subst (λ xs. r types (parts_in xs) (parts h)) (sym j.left) (subst (λ ys. r types (parts_in (j.before ++ a ∷ b ∷ j.after)) (parts_in ys)) (sym j.right) (join types j.before j.after))

    joined_alike : (g h : Group F) → Joined a b c g h → AlikeGroup r g h
    joined_alike g h j = record {
      first = heads_same g.first.ask h.first.ask j.before j.after (subst (Heads g.first.ask) j.left refl) (subst (Heads h.first.ask) j.right refl);
      there = subst (λ xs. AllByRecursion (λ x. Among x (asks h)) (asks_in xs)) (sym j.left) (subst (λ ys. AllByRecursion (λ x. Among x (asks_in ys)) (asks_in (j.before ++ a ∷ b ∷ j.after))) (sym j.right) (there_in j.before j.after));
      back = subst (λ xs. AllByRecursion (λ x. Among x (asks_in xs)) (asks h)) (sym j.left) (subst (λ ys. AllByRecursion (λ x. Among x (asks_in (j.before ++ a ∷ b ∷ j.after))) (asks_in ys)) (sym j.right) (back_in j.before j.after));
      below = of_all (λ x. r (types_of x.form) (parts g) (parts h)) (λ x. joined_below g h j (types_of x.form)) (asks g);
    }

    group_itself : (g h : Group F) → g ≡ h → AlikeGroup r g h
    group_itself g h e = subst (λ k. AlikeGroup r g k) e (record { first = refl; there = all_there (asks g); back = all_there (asks g); below = of_all (λ x. r (types_of x.form) (parts g) (parts g)) (λ x. whole (types_of x.form) (parts g)) (asks g) })

    all_itself : (gs : List (Group F)) → AllZip (AlikeGroup r) gs gs
    all_itself [] = tt
    all_itself (g ∷ gs) = (group_itself g g refl, all_itself gs)

    at_one_alike : (key : Text) (gs hs : List (Group F)) → AtOne (Joined a b c) key gs hs → AllZip (AlikeGroup r) gs hs
    at_one_alike key [] [] h = tt
    at_one_alike key [] (y ∷ ys) h = absurd h
    at_one_alike key (g ∷ gs) [] h = absurd h
    at_one_alike key (g ∷ gs) (y ∷ ys) (inl here) = (joined_alike g y here.2, subst (λ zs. AllZip (AlikeGroup r) gs zs) here.3 (all_itself gs))
    at_one_alike key (g ∷ gs) (y ∷ ys) (inr there) = (group_itself g y there.0, at_one_alike key gs ys there.2)

    -- two fields that ask for the same, without one of their key between, may be one
    pub joining : (p q rest : List (Asked F)) → NoneOf a.ask.response q
        → AllZip (AlikeGroup r) (grouped_onto [] (p ++ a ∷ (q ++ b ∷ rest))) (grouped_onto [] (p ++ c ∷ (q ++ rest)))
    joining p q rest none = at_one_alike a.ask.response _ _ (joined_groups a b c e f p q rest none)

-- groups are alike to themselves
pub group_itself_as : {F : Type 0} (r : Related F F) → ((types : List Text) (fs : List F) → r types fs fs) → (gs : List (Group F)) → AllZip (AlikeGroup r) gs gs
group_itself_as r whole [] = tt
group_itself_as r whole (g ∷ gs) =
    (record { first = refl; there = all_there (asks g); back = all_there (asks g); below = of_all (λ x. r (types_of x.form) (parts g) (parts g)) (λ x. whole (types_of x.form) (parts g)) (asks g) }, group_itself_as r whole gs)
