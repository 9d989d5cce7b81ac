-- Where all fields can merge, fields that are collected for one object under one key have one form.
use Rattle.std.proofs.Common.{◌≡◌, Bool, true, false, true≢false, cond, not, ◌&&◌, ◌||◌, List, [], ◌∷◌, Option, Some, None, bytes_eq, refl, ap, sym, ◌∙◌}
use Rattle.std.proofs.lemmas.Bool.{or_parts}
use Rattle.std.specs.List.{All, filter, list_any}
use Rattle.std.proofs.lemmas.List.Elements.{All-cons, All-nil}
use Rattle.plan_ir.proofs.gql_graph_laws.TextSteps.{same_self}
use Rattle.plan_ir.specs.schema_tables.Types.{Text}
use Rattle.doc_merge.proofs.Anys.{any-append}
use Rattle.doc_merge.proofs.Bridge.{differences_are}
use Rattle.doc_merge.proofs.Equals.{and_left, and_right}
use Rattle.doc_merge.proofs.Levels.{none_or, one_type_meets}
use Rattle.doc_merge.proofs.ShapeLaws.{same_shape-sound}
use Rattle.doc_merge.specs.Collected.{AreAlike, HaveOneForm, Pairwise, is_collected, keys_of, may_be_on}
use Rattle.doc_merge.specs.Merging.{Field, Fields, differ, differences, meet}
use Rattle.doc_merge.specs.Paths.{Path, conflict, faulty, here, paths, under}
use Rattle.doc_merge.specs.Shapes.{same_shape}
use Rattle.doc_merge.specs.Signatures.{same_signature}

-- ---- two fields for one object meet

on_object : (t : Text) (p : Option Text) → may_be_on t p ≡ none_or t p
on_object t None = refl
on_object t (Some p) = refl

they_meet : (t : Text) (p q : Option Text) → may_be_on t p ≡ true → may_be_on t q ≡ true → meet p q ≡ true
they_meet t p q e f = one_type_meets t p q (sym (on_object t p) ∙ e) (sym (on_object t q) ∙ f)

same_key : (m n : Text) → m ≡ n → bytes_eq m n ≡ true
same_key m n e = ap (λ (k : Text). bytes_eq m k) (sym e) ∙ same_self m

not_true : (b : Bool) → not b ≡ false → b ≡ true
not_true true e = refl
not_true false e = absurd (true≢false e)

-- two fields that do not differ
one_form : (a b : Field) → differ true a b ≡ false → HaveOneForm a b
one_form a b e = record {
  shape = same_shape-sound a.shape b.shape (not_true (same_shape a.shape b.shape) ((or_parts (not (same_shape a.shape b.shape)) (not (same_signature a.signature b.signature)) e).0));
  signature = not_true (same_signature a.signature b.signature) ((or_parts (not (same_shape a.shape b.shape)) (not (same_signature a.signature b.signature)) e).1);
}

abbrev head_of : List Text → Text
head_of [] = []
head_of (k ∷ ks) = k

abbrev tail_of : List Text → List Text
tail_of [] = []
tail_of (k ∷ ks) = ks

no_keys : (s : Path) → keys_of s ≡ [] → ⊥
no_keys (here a) e = cc
no_keys (under a s) e = cc

-- paths without conflict
alike : (s u : Path) → conflict true s u ≡ false → AreAlike s u
alike s u e [] f g k = absurd (true≢false (sym f))
alike (here a) (here b) e (t ∷ ts) f g k =
    one_form a b (sym (λ i. same_key a.key b.key (ap head_of k) i && differ (they_meet t a.parent b.parent f g i) a b) ∙ e)
alike (under a s) (under b u) e (t ∷ ts) f g k =
    alike s u (sym (λ i. same_key a.key b.key (ap head_of k) i && conflict (they_meet t a.parent b.parent (and_left (may_be_on t a.parent) (is_collected ts s) f) (and_left (may_be_on t b.parent) (is_collected ts u) g) i) s u) ∙ e)
    ts (and_right (may_be_on t a.parent) (is_collected ts s) f) (and_right (may_be_on t b.parent) (is_collected ts u) g) (ap tail_of k)
alike (here a) (under b u) e (t ∷ ts) f g k = absurd (no_keys u (sym (ap tail_of k)))
alike (under a s) (here b) e (t ∷ ts) f g k = absurd (no_keys s (ap tail_of k))

-- ---- no fault, no conflict

any_true : {A : Type 0} (xs : List A) → list_any (λ x. true) xs ≡ false → xs ≡ []
any_true [] e = refl
any_true (x ∷ xs) e = absurd (true≢false e)

none_with : {A : Type 0} (c : A → A → Bool) (r : A → A → Type 0) → ((x y : A) → c x y ≡ false → r x y) → (x : A) (ys : List A)
    → list_any (λ y. true) (filter (c x) ys) ≡ false → All (r x) ys
none_with c r h x [] f = All-nil (r x)
none_with c r h x (y ∷ ys) f = on (c x y) refl f (λ i. none_with c r h x ys i) where
  on : (b : Bool) → c x y ≡ b → list_any (λ z. true) (cond b (y ∷ filter (c x) ys) (filter (c x) ys)) ≡ false
      → (list_any (λ z. true) (filter (c x) ys) ≡ false → All (r x) ys) → All (r x) (y ∷ ys)
  on true g i k = absurd (true≢false i)
  on false g i k = All-cons (r x) y ys (h x y g) (k i)

none_in_conflict : {A : Type 0} (c : A → A → Bool) (r : A → A → Type 0) → ((x y : A) → c x y ≡ false → r x y) → (xs : List A)
    → list_any (λ x. true) (faulty c xs) ≡ false → Pairwise r xs
none_in_conflict c r h [] e = tt
none_in_conflict {A = A} c r h (x ∷ xs) e =
    let parts : (list_any (λ y. true) (filter (c x) xs) || list_any (λ y. true) (faulty c xs)) ≡ false = sym (any-append (λ y. true) (filter (c x) xs) (faulty c xs)) ∙ e in
    (none_with c r h x xs ((or_parts _ _ parts).0), none_in_conflict c r h xs ((or_parts _ _ parts).1))

pub collected_alike : (fs : Fields) → differences fs ≡ [] → Pairwise AreAlike (paths fs)
collected_alike fs e = none_in_conflict (conflict true) AreAlike alike (paths fs) (sym (differences_are (λ p. true) fs) ∙ ap (list_any (λ p. true)) e)
