-- Members that are put one after another, and those that are sorted.
use Rattle.std.proofs.Common.{◌≡◌, Bool, false, true≢false, nat_eq, codes, length, append_assoc, List, [], ◌∷◌, ◌++◌, Ordering, Less, Equal, Greater, nat_cmp, refl, sym, ap, ◌∙◌}
use Rattle.std.proofs.lemmas.Cmp.{nat_list_cmp_total, on_total}
use Rattle.std.proofs.lemmas.List.{map-append}
use Rattle.std.proofs.lemmas.Map.Text.{is_eq-slice_cmp}
use Rattle.std.proofs.lemmas.Slice.Eq.{bytes_eq-Decides}
use Rattle.std.specs.Cmp.{IsTotalOrder}
use Rattle.std.specs.Cmp.Lexicographic.{slice_cmp}
use Rattle.std.specs.FinMap.Entries.{by_order}
use Rattle.std.specs.List.{AllByRecursion}
use Rattle.std.specs.List.Sorted.{IsStrictlySortedBy}
use Rattle.std.specs.Map.{keys_of}
use Rattle.std.specs.Ordering.{is_eq, match_ordering}
use Rattle.plan_ir.specs.gql_plain.Order.{AreInOrder}
use Rattle.plan_ir.specs.gql_plain.Shown.{shown_members, tree_of}
use Rattle.plan_ir.specs.gql_plain.Tree.{Tree, text}
use Rattle.plan_ir.specs.gql_plain.declared.plain.Plain.{Plain}
use Rattle.plan_ir.specs.gql_plain.declared.plain.Plain.TheVariants as P
use Rattle.plan_ir.specs.store_model.Verdicts.{in_order, with_one}
use Rattle.plan_ir.specs.store_model.Walks.{Shown, mark_members, shown_object, with_value}
use Rattle.store_read.specs.Members.{put_all}
use Rattle.plan_ir.specs.store_record.Keys.{Text}
use Rattle.plan_ir.proofs.store_model_laws.InOrder.{order_map}

pub put_all-append : (ps qs : List (Text × Tree)) (end : Shown) → put_all (ps ++ qs) end ≡ put_all ps (put_all qs end)
put_all-append [] qs end = refl
put_all-append (p ∷ ps) qs end = ap (with_value p.0 p.1) (put_all-append ps qs end)

-- ---- members in the order of their keys

abbrev pub by_tree_key : Text × Tree → Text × Tree → Ordering
by_tree_key p q = slice_cmp nat_cmp p.0 q.0

abbrev pub Member : Type 0
Member = Text × Plain

abbrev pub by_key : Member → Member → Ordering
by_key p q = slice_cmp nat_cmp p.0 q.0

abbrev pub is_same_key : Member → Member → Bool
is_same_key p q = is_eq (by_key p q)

abbrev shown_member : Text × Plain → Text × Tree
shown_member p = (p.0, tree_of p.1)

pub keys_total : IsTotalOrder by_key
keys_total = on_total (λ (p : Text × Plain). p.0) nat_list_cmp_total

same_text : (a b : Text) → slice_cmp nat_cmp a b ≡ Equal → a ≡ b
same_text a b e = (bytes_eq-Decides a b).0 (sym (is_eq-slice_cmp a b) ∙ ap is_eq e)

one_is_put : (p : Text × Tree) (ms : Shown) → with_one by_tree_key p ms ≡ with_value p.0 p.1 ms
one_is_put p [] = refl
one_is_put p (m ∷ ms) = on (slice_cmp nat_cmp p.0 m.0) refl (one_is_put p ms)
  where
    on : (o : Ordering) → slice_cmp nat_cmp p.0 m.0 ≡ o → with_one by_tree_key p ms ≡ with_value p.0 p.1 ms
        → match_ordering o (p ∷ m ∷ ms) (p ∷ ms) (m ∷ with_one by_tree_key p ms) ≡ by_order o ((p.0, p.1) ∷ m ∷ ms) ((m.0, p.1) ∷ ms) (m ∷ with_value p.0 p.1 ms)
    on Less e rest = refl
    on Equal e rest = ap (λ k. (k, p.1) ∷ ms) (same_text p.0 m.0 e)
    on Greater e rest = ap (λ more. m ∷ more) rest

order_is_put : (ps : List (Text × Tree)) → in_order by_tree_key ps ≡ put_all ps []
order_is_put [] = refl
order_is_put (p ∷ ps) = one_is_put p (in_order by_tree_key ps) ∙ ap (with_value p.0 p.1) (order_is_put ps)

pub sorted_is_put : (ps : List (Text × Plain)) → shown_members (in_order by_key ps) ≡ put_all (shown_members ps) []
sorted_is_put ps = order_map shown_member by_tree_key ps ∙ order_is_put (shown_members ps)

-- keys of members in strict order are in order
pub keys_rise : (ps : List Member) → IsStrictlySortedBy by_key ps → AreInOrder (keys_of ps)
unfolding IsStrictlySortedBy
keys_rise [] up = tt
keys_rise (p ∷ ps) up = (each_key p.0 ps up.0, keys_rise ps up.1)
  where
    each_key : (k : Text) (qs : List Member) → AllByRecursion (λ (q : Member). slice_cmp nat_cmp k q.0 ≡ Less) qs → AllByRecursion (λ later. slice_cmp nat_cmp k later ≡ Less) (keys_of qs)
    each_key k [] all = tt
    each_key k (q ∷ qs) all = (all.0, each_key k qs all.1)

-- ---- what an object with pointers tells

marks_of : (owner id : Text) (ms : Shown) → nat_eq (length ms) 0 ≡ false
    → mark_members owner id ms ≡ (codes "__fragments", shown_object ms) ∷ (codes "__id", text id) ∷ (codes "__owner", text owner) ∷ []
marks_of owner id [] some = absurd (true≢false some)
marks_of owner id (m ∷ ms) some = refl

pub marks_pushed : (owner id : Text) (pointers : Shown) (old one two three : List Member) (f i o x y : Text)
    → one ≡ old ++ (f, P.Tree pointers) ∷ [] → two ≡ one ++ (i, P.Text x) ∷ [] → three ≡ two ++ (o, P.Text y) ∷ []
    → f ≡ codes "__fragments" → i ≡ codes "__id" → o ≡ codes "__owner" → x ≡ id → y ≡ owner → nat_eq (length pointers) 0 ≡ false
    → shown_members three ≡ shown_members old ++ mark_members owner id pointers
marks_pushed owner id pointers old one two three f i o x y first second third key_f key_i key_o value_i value_o some =
    let whole : three ≡ old ++ (f, P.Tree pointers) ∷ (i, P.Text x) ∷ (o, P.Text y) ∷ [] =
    third ∙ ap (λ (ps : List Member). ps ++ (o, P.Text y) ∷ []) (second ∙ ap (λ (ps : List Member). ps ++ (i, P.Text x) ∷ []) first)
    ∙ append_assoc (old ++ (f, P.Tree pointers) ∷ []) ((i, P.Text x) ∷ []) ((o, P.Text y) ∷ [])
    ∙ append_assoc old ((f, P.Tree pointers) ∷ []) ((i, P.Text x) ∷ (o, P.Text y) ∷ []) in
    ap shown_members whole
    ∙ map-append shown_member old ((f, P.Tree pointers) ∷ (i, P.Text x) ∷ (o, P.Text y) ∷ [])
    ∙ (λ j. shown_members old ++ (key_f j, shown_object pointers) ∷ (key_i j, text (value_i j)) ∷ (key_o j, text (value_o j)) ∷ [])
    ∙ sym (ap (λ ps. shown_members old ++ ps) (marks_of owner id pointers some))
