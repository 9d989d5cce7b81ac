-- Marks that are read as a value are the value's.
use Rattle.std.proofs.Common.{◌≡◌, true, false, true≢false, Bool, List, [], ◌∷◌, ◌++◌, codes, Option, Some, None, option_and_then, cond, refl, sym, ap, subst, ◌∙◌, append_assoc, append-nil, eqb-true}
use Rattle.std.specs.Prelude.{◌==◌, bytes_eq, unwrap_or}
use Rattle.std.proofs.lemmas.List.{append_cancel_left}
use Rattle.std.proofs.lemmas.Slice.Eq.{bytes_eq-Decides}
use Rattle.std.specs.Cmp.Lexicographic.{slice_cmp, nat_list_cmp_total}
use Rattle.std.specs.List.{AllByRecursion}
use Rattle.std.specs.List.Sorted.{IsStrictlySortedBy}
use Rattle.std.specs.Ordering.{nat_cmp, is_lt}
use Rattle.std.specs.Map as pairs
use Rattle.std.specs.declared.cmp.Ordering.{Ordering}
use Rattle.std.specs.declared.cmp.Ordering.TheVariants.{Less, Equal, Greater}
use Rattle.store_record.proofs.gql_plain_laws.InOrder.{AreInOrder-none, AreInOrder-push}
use Rattle.store_record.specs.gql_plain.Order.{AreInOrder, IsAfter}
use Rattle.store_record.specs.gql_plain.Tree.{Tree, null, truth, whole, text, list, object, trees_of, members_of}
use Rattle.store_record.specs.Keys.{Text, Arguments}
use Rattle.image_marks.proofs.FlatReads.{unflat-flat}
use Rattle.image_marks.specs.Flat.{FlatIsReadBack, flat, flat_items, flat_members, quote, keys_of, IsOrdered, AreOrdered, HasOrdered, Open, in_list, at_key, at_value, is_next, place, begin, end_list, end_object, take_quoted, take_text, take_mark, take_marks, single, unflat}

no_some : {X : Type 0} {A : Type 0} {x : X} → None ≡ Some x → A
no_some e = absurd (cc)

same_some : {X : Type 0} (x y : X) → Some x ≡ Some y → x ≡ y
same_some x y e = ap (λ o. unwrap_or o x) e

-- ---- the marks of what is open

abbrev items_marks : List Tree → List Tree
items_marks [] = []
items_marks (t ∷ ts) = flat t ++ items_marks ts

abbrev pairs_marks : Arguments → List Tree
pairs_marks [] = []
pairs_marks (m ∷ ms) = quote m.0 ∷ (flat m.1 ++ pairs_marks ms)

abbrev front : List Open → List Tree
front [] = []
front (in_list ts ∷ os) = front os ++ (text (codes "[") ∷ items_marks ts)
front (at_key ms ∷ os) = front os ++ (text (codes "{") ∷ pairs_marks ms)
front (at_value ms k ∷ os) = front os ++ (text (codes "{") ∷ (pairs_marks ms ++ quote k ∷ []))

items_marks-push : (ts : List Tree) (t : Tree) → items_marks (ts ++ t ∷ []) ≡ items_marks ts ++ flat t
items_marks-push [] t = append-nil (flat t)
items_marks-push (x ∷ ts) t = ap (λ ms. flat x ++ ms) (items_marks-push ts t) ∙ sym (append_assoc (flat x) (items_marks ts) (flat t))

pairs_marks-push : (ms : Arguments) (k : Text) (t : Tree) → pairs_marks (ms ++ (k, t) ∷ []) ≡ (pairs_marks ms ++ quote k ∷ []) ++ flat t
pairs_marks-push [] k t = ap (λ rest. quote k ∷ rest) (append-nil (flat t))
pairs_marks-push (m ∷ ms) k t =
    ap (λ rest. quote m.0 ∷ (flat m.1 ++ rest)) (pairs_marks-push ms k t)
    ∙ ap (λ rest. quote m.0 ∷ rest) (sym (append_assoc (flat m.1) (pairs_marks ms ++ quote k ∷ []) (flat t)) ∙ ap (λ rest. rest ++ flat t) (sym (append_assoc (flat m.1) (pairs_marks ms) (quote k ∷ []))))

items_marks-end : (ts : List Tree) → flat_items (trees_of ts) ≡ items_marks ts ++ text (codes "]") ∷ []
items_marks-end [] = refl
items_marks-end (t ∷ ts) = ap (λ ms. flat t ++ ms) (items_marks-end ts) ∙ sym (append_assoc (flat t) (items_marks ts) (text (codes "]") ∷ []))

pairs_marks-end : (ms : Arguments) → flat_members (members_of ms) ≡ pairs_marks ms ++ text (codes "}") ∷ []
pairs_marks-end [] = refl
pairs_marks-end (m ∷ ms) = ap (λ rest. quote m.0 ∷ (flat m.1 ++ rest)) (pairs_marks-end ms) ∙ ap (λ rest. quote m.0 ∷ rest) (sym (append_assoc (flat m.1) (pairs_marks ms) (text (codes "}") ∷ [])))

-- ---- what is open is in order

abbrev PairsSorted : Arguments → Type 0
PairsSorted ms = AreInOrder (pairs.keys_of ms) × AllByRecursion (λ (m : Text × Tree). IsOrdered m.1) ms

abbrev IsSorted : Open → Type 0
IsSorted (in_list ts) = AllByRecursion IsOrdered ts
IsSorted (at_key ms) = PairsSorted ms
IsSorted (at_value ms k) = PairsSorted ms

abbrev AreSorted : List Open → Type 0
AreSorted os = AllByRecursion IsSorted os

all_push : {X : Type 0} (P : X → Type 0) (xs : List X) (x : X) → AllByRecursion P xs → P x → AllByRecursion P (xs ++ x ∷ [])
all_push P [] x all here = (here, tt)
all_push P (y ∷ xs) x all here = (all.0, all_push P xs x all.1 here)

less_than : (o : Ordering) → is_lt o ≡ true → o ≡ Less
less_than Less e = refl
less_than Equal e = absurd (true≢false (sym e))
less_than Greater e = absurd (true≢false (sym e))

pub after_keys : (ms : Arguments) (k : Text) → AreInOrder (pairs.keys_of ms) → is_next ms k ≡ true → IsAfter k (pairs.keys_of ms)
unfolding IsStrictlySortedBy
after_keys [] k order h = tt
after_keys (m ∷ []) k order h = (less_than (slice_cmp nat_cmp m.0 k) h, tt)
after_keys (m ∷ n ∷ ms) k order h = let rest = after_keys (n ∷ ms) k order.1 h in (nat_list_cmp_total.trans m.0 n.0 k order.0.0 rest.0, rest)

keys_push : (ms : Arguments) (k : Text) (t : Tree) → pairs.keys_of (ms ++ (k, t) ∷ []) ≡ pairs.keys_of ms ++ k ∷ []
keys_push [] k t = refl
keys_push (m ∷ ms) k t = ap (λ ks. m.0 ∷ ks) (keys_push ms k t)

pairs_push : (ms : Arguments) (k : Text) (t : Tree) → PairsSorted ms → is_next ms k ≡ true → IsOrdered t → PairsSorted (ms ++ (k, t) ∷ [])
pairs_push ms k t sorted next h =
    (subst AreInOrder (sym (keys_push ms k t)) (AreInOrder-push (pairs.keys_of ms) k sorted.0 (after_keys ms k sorted.0 next)), all_push (λ (m : Text × Tree). IsOrdered m.1) ms (k, t) sorted.1 h)

-- ---- a step

-- what the marks m make of what is open
record Step (os : List Open) (marks : List Tree) (next : List Open) : Type 0 where
  marks_are : front next ≡ front os ++ marks
  sorted : AreSorted next

-- a condition that led to a step held, or another one did
by_cond : {os next : List Open} {marks : List Tree} (b : Bool) (first other : Option (List Open)) → (b ≡ true → first ≡ Some next → Step os marks next) → (other ≡ Some next → Step os marks next)
    → cond b first other ≡ Some next → Step os marks next
by_cond true first other f g e = f refl e
by_cond false first other f g e = g e

place_step : (t : Tree) (os next : List Open) → AreSorted os → IsOrdered t → place t os ≡ Some next → Step os (flat t) next
place_step t [] next s h e = no_some e
place_step t (in_list ts ∷ os) next s h e =
    let is : (in_list (ts ++ t ∷ []) ∷ os) ≡ next = same_some _ _ e in
    subst (Step (in_list ts ∷ os) (flat t)) is (record {
      marks_are = ap (λ ms. front os ++ (text (codes "[") ∷ ms)) (items_marks-push ts t) ∙ sym (append_assoc (front os) (text (codes "[") ∷ items_marks ts) (flat t));
      sorted = (all_push IsOrdered ts t s.0 h, s.1);
    })
place_step t (at_key ms ∷ os) next s h e = no_some e
place_step t (at_value ms k ∷ os) next s h e =
    by_cond (is_next ms k) (Some (at_key (ms ++ (k, t) ∷ []) ∷ os)) None
    (λ after is. subst (Step (at_value ms k ∷ os) (flat t)) (same_some _ _ is) (record {
      marks_are = ap (λ rest. front os ++ (text (codes "{") ∷ rest)) (pairs_marks-push ms k t) ∙ sym (append_assoc (front os) (text (codes "{") ∷ (pairs_marks ms ++ quote k ∷ [])) (flat t));
      sorted = (pairs_push ms k t s.0 after h, s.1);
    }))
    (λ is. no_some is) e

-- ---- each mark

begin_step : (o : Open) (mark : Tree) (os next : List Open) → IsSorted o → ((rest : List Open) → front (o ∷ rest) ≡ front rest ++ mark ∷ []) → AreSorted os → begin o os ≡ Some next → Step os (mark ∷ []) next
begin_step o mark [] next sorted shown s e = no_some e
begin_step o mark (in_list ts ∷ os) next sorted shown s e =
    subst (Step (in_list ts ∷ os) (mark ∷ [])) (same_some _ _ e) (record { marks_are = shown (in_list ts ∷ os); sorted = (sorted, s) })
begin_step o mark (at_key ms ∷ os) next sorted shown s e = no_some e
begin_step o mark (at_value ms k ∷ os) next sorted shown s e =
    subst (Step (at_value ms k ∷ os) (mark ∷ [])) (same_some _ _ e) (record { marks_are = shown (at_value ms k ∷ os); sorted = (sorted, s) })

-- what closes turns what was open into a value in its place
closed : (o : Open) (mark t : Tree) (os next : List Open) → front (o ∷ os) ++ mark ∷ [] ≡ front os ++ flat t → AreSorted os → IsOrdered t → place t os ≡ Some next → Step (o ∷ os) (mark ∷ []) next
closed o mark t os next shown s h e =
    let step = place_step t os next s h e in
    record { marks_are = step.marks_are ∙ sym shown; sorted = step.sorted }

ordered_items : (ts : List Tree) → AllByRecursion IsOrdered ts → AreOrdered (trees_of ts)
ordered_items [] h = tt
ordered_items (t ∷ ts) h = (h.0, ordered_items ts h.1)

keys_same : (ms : Arguments) → keys_of (members_of ms) ≡ pairs.keys_of ms
keys_same [] = refl
keys_same (m ∷ ms) = ap (λ ks. m.0 ∷ ks) (keys_same ms)

ordered_pairs : (ms : Arguments) → AllByRecursion (λ (m : Text × Tree). IsOrdered m.1) ms → HasOrdered (members_of ms)
ordered_pairs [] h = tt
ordered_pairs (m ∷ ms) h = (h.0, ordered_pairs ms h.1)

end_list_step : (os next : List Open) → AreSorted os → end_list os ≡ Some next → Step os (text (codes "]") ∷ []) next
end_list_step [] next s e = no_some e
end_list_step (in_list ts ∷ os) next s e =
    closed (in_list ts) (text (codes "]")) (list (trees_of ts)) os next
    (append_assoc (front os) (text (codes "[") ∷ items_marks ts) (text (codes "]") ∷ []) ∙ ap (λ ms. front os ++ (text (codes "[") ∷ ms)) (sym (items_marks-end ts)))
    s.1 (ordered_items ts s.0) e
end_list_step (at_key ms ∷ os) next s e = no_some e
end_list_step (at_value ms k ∷ os) next s e = no_some e

end_object_step : (os next : List Open) → AreSorted os → end_object os ≡ Some next → Step os (text (codes "}") ∷ []) next
end_object_step [] next s e = no_some e
end_object_step (in_list ts ∷ os) next s e = no_some e
end_object_step (at_key ms ∷ os) next s e =
    closed (at_key ms) (text (codes "}")) (object (members_of ms)) os next
    (append_assoc (front os) (text (codes "{") ∷ pairs_marks ms) (text (codes "}") ∷ []) ∙ ap (λ rest. front os ++ (text (codes "{") ∷ rest)) (sym (pairs_marks-end ms)))
    s.1 (subst AreInOrder (sym (keys_same ms)) s.0.0, ordered_pairs ms s.0.1) e
end_object_step (at_value ms k ∷ os) next s e = no_some e

quoted_step : (c : Text) (os next : List Open) → AreSorted os → take_quoted c os ≡ Some next → Step os (quote c ∷ []) next
quoted_step c [] next s e = no_some e
quoted_step c (in_list ts ∷ os) next s e = place_step (text c) (in_list ts ∷ os) next s tt e
quoted_step c (at_key ms ∷ os) next s e =
    subst (Step (at_key ms ∷ os) (quote c ∷ [])) (same_some _ _ e) (record {
      marks_are = sym (append_assoc (front os) (text (codes "{") ∷ pairs_marks ms) (quote c ∷ []));
      sorted = (s.0, s.1);
    })
quoted_step c (at_value ms k ∷ os) next s e = place_step (text c) (at_value ms k ∷ os) next s tt e

-- where the text is this one
by_text : {os next : List Open} (t sign : Text) (first other : Option (List Open)) → (first ≡ Some next → Step os (text sign ∷ []) next) → (other ≡ Some next → Step os (text t ∷ []) next)
    → cond (bytes_eq t sign) first other ≡ Some next → Step os (text t ∷ []) next
by_text {os} {next} t sign first other f g e =
    by_cond (bytes_eq t sign) first other (λ same is. subst (λ u. Step os (text u ∷ []) next) (sym ((bytes_eq-Decides t sign).0 same)) (f is)) g e

text_step : (t : Text) (os next : List Open) → AreSorted os → take_text t os ≡ Some next → Step os (text t ∷ []) next
text_step [] os next s e = no_some e
text_step (c ∷ cs) os next s e =
    by_cond (c == 39) _ _
    (λ same is. subst (λ x. Step os (text (x ∷ cs) ∷ []) next) (sym (eqb-true c 39 same)) (quoted_step cs os next s is))
    (by_text (c ∷ cs) (codes "[") _ _ (begin_step (in_list []) (text (codes "[")) os next tt (λ rest. refl) s)
    (by_text (c ∷ cs) (codes "]") _ _ (end_list_step os next s)
    (by_text (c ∷ cs) (codes "{") _ _ (begin_step (at_key []) (text (codes "{")) os next (AreInOrder-none, tt) (λ rest. refl) s)
    (by_text (c ∷ cs) (codes "}") _ _ (end_object_step os next s) (λ is. no_some is))))) e

mark_step : (m : Tree) (os next : List Open) → AreSorted os → take_mark m os ≡ Some next → Step os (m ∷ []) next
mark_step null os next s e = place_step null os next s tt e
mark_step (truth b) os next s e = place_step (truth b) os next s tt e
mark_step (whole z) os next s e = place_step (whole z) os next s tt e
mark_step (text t) os next s e = text_step t os next s e
mark_step (list ts) os next s e = no_some e
mark_step (object ms) os next s e = no_some e

marks_step : (ms : List Tree) (os next : List Open) → AreSorted os → take_marks ms os ≡ Some next → Step os ms next
marks_step [] os next s e = subst (Step os []) (same_some _ _ e) (record { marks_are = sym (append-nil (front os)); sorted = s })
marks_step (m ∷ ms) os next s e = through (take_mark m os) refl (λ between. marks_step ms between next) e
  where
    through : (o : Option (List Open)) → take_mark m os ≡ o → ((between : List Open) → AreSorted between → take_marks ms between ≡ Some next → Step between ms next)
        → option_and_then (take_marks ms) o ≡ Some next → Step os (m ∷ ms) next
    through None is more f = no_some f
    through (Some between) is more f =
        let first = mark_step m os between s is in
        let rest = more between first.sorted f in
        record { marks_are = rest.marks_are ∙ ap (λ fs. fs ++ ms) first.marks_are ∙ append_assoc (front os) (m ∷ []) ms; sorted = rest.sorted }

alone : (os : List Open) (t : Tree) → single os ≡ Some t → os ≡ in_list (t ∷ []) ∷ []
alone [] t e = no_some e
alone (in_list [] ∷ []) t e = no_some e
alone (in_list (x ∷ []) ∷ []) t e = ap (λ y. in_list (y ∷ []) ∷ []) (same_some x t e)
alone (in_list (x ∷ y ∷ ys) ∷ []) t e = no_some e
alone (in_list ts ∷ o ∷ os) t e = no_some e
alone (at_key ms ∷ os) t e = no_some e
alone (at_value ms k ∷ os) t e = no_some e

-- the marks of which the value is read are its own
pub flat-unflat : (marks : List Tree) (t : Tree) → unflat marks ≡ Some t → (marks ≡ flat t) × IsOrdered t
flat-unflat marks t e = through (take_marks marks (in_list [] ∷ [])) refl e
  where
    through : (o : Option (List Open)) → take_marks marks (in_list [] ∷ []) ≡ o → option_and_then single o ≡ Some t → (marks ≡ flat t) × IsOrdered t
    through None is f = no_some f
    through (Some os) is f =
        let step = marks_step marks (in_list [] ∷ []) os (tt, tt) is in
        let end : os ≡ in_list (t ∷ []) ∷ [] = alone os t f in
        let sorted : AreSorted (in_list (t ∷ []) ∷ []) = subst AreSorted end step.sorted in
        let shown : text (codes "[") ∷ (flat t ++ []) ≡ text (codes "[") ∷ marks = sym (ap front end) ∙ step.marks_are in
        (sym (sym (append-nil (flat t)) ∙ append_cancel_left (text (codes "[") ∷ []) (flat t ++ []) marks shown), sorted.0.0)

pub flat_is_read_back : FlatIsReadBack
flat_is_read_back marks t = (flat-unflat marks t, λ h. ap unflat h.0 ∙ unflat-flat t h.1)
