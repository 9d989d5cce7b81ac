-- Each object type stands in one class, and on it the field leads to what it leads to on the class.
use Rattle.std.proofs.Common.{◌≡◌, Bool, true, false, true≢false, cond, not, ◌&&◌, ◌||◌, List, [], ◌∷◌, ◌++◌, map, bytes_eq, refl, ap, sym, ◌∙◌, subst, ◌⊎◌, inl, inr}
use Rattle.std.proofs.lemmas.Bool.{or_parts}
use Rattle.std.specs.Bool.{beq}
use Rattle.std.specs.List.{filter}
use Rattle.std.specs.Cmp.{booleans_Decides}
use Rattle.std.specs.Cmp.Lexicographic.{pointwise_decides, bytes_decides}
use Rattle.plan_ir.proofs.gql_graph_laws.TextSteps.{same_self, same_text}
use Rattle.plan_ir.specs.gql_graph.Rules.{each}
use Rattle.plan_ir.proofs.gql_plain_laws.Booleans.{or_false, or_true}
use Rattle.plan_ir.proofs.gql_plain_laws.SortedTexts.{has_text-sorted_texts}
use Rattle.plan_ir.specs.gql_plain.Equal.{texts_eq}
use Rattle.plan_ir.specs.gql_plain.Order.{has_text}
use Rattle.plan_ir.specs.Additions.{is_abstract}
use Rattle.relay_model.specs.Collection.{below_type}
use Rattle.plan_ir.specs.schema_tables.Types.{Text, Defs, has_id, is_composite, possible}
use Rattle.plan_ir.specs.store_model.Items.{Below, Form, leaf, one, many}
use Rattle.plan_build.specs.Classes.{Class, Target, classes_of, same_base, same_target, sorted_class, target_on, with_type, with_types}

-- ---- the form of a target

abbrev pub objects : (are_many : Bool) → Below → Form
objects m b = cond m (many b) (one b)

abbrev pub form_of : Defs → Target → Form
form_of defs t = cond (is_composite defs t.base) (objects t.many (below_type defs t.base)) leaf

and_so : (a b : Bool) → (a && b) ≡ true → (a ≡ true) × (b ≡ true)
and_so true b e = (refl, e)
and_so false b e = absurd (true≢false (sym e))

or_so : (a b : Bool) → (a || b) ≡ true → (a ≡ true) ⊎ (b ≡ true)
or_so true b e = inl refl
or_so false b e = inr e

same_below : (defs : Defs) (a b : Text) → same_base defs a b ≡ true → below_type defs a ≡ below_type defs b
same_below defs a b e = elim (or_so (bytes_eq a b) (beq (is_abstract defs a) (is_abstract defs b) && texts_eq (possible defs a) (possible defs b)) e) [
  | inl same ↦ ap (below_type defs) (same_text a b same)
  | inr both ↦ on (and_so _ _ both)
] where
  on : (beq (is_abstract defs a) (is_abstract defs b) ≡ true) × (texts_eq (possible defs a) (possible defs b) ≡ true) → below_type defs a ≡ below_type defs b
  on h =
      let opens : is_abstract defs a ≡ is_abstract defs b = (booleans_Decides (is_abstract defs a) (is_abstract defs b)).0 h.0 in
      let types : possible defs a ≡ possible defs b = (pointwise_decides bytes_decides (possible defs a) (possible defs b)).0 h.1 in
      λ i. record { types = types i; identified = filter (has_id defs) (types i); open_type = opens i }

-- targets that are the same have one form
pub same_form : (defs : Defs) (a b : Target) → same_target defs a b ≡ true → form_of defs a ≡ form_of defs b
same_form defs a b e = on (is_composite defs a.base) (is_composite defs b.base) refl refl e where
  on : (c d : Bool) → is_composite defs a.base ≡ c → is_composite defs b.base ≡ d
      → cond c (d && (beq a.many b.many && same_base defs a.base b.base)) (not d) ≡ true
      → cond c (objects a.many (below_type defs a.base)) leaf ≡ cond d (objects b.many (below_type defs b.base)) leaf
  on true true f g h =
      let both : (beq a.many b.many ≡ true) × (same_base defs a.base b.base ≡ true) = and_so _ _ h in
      let lists : a.many ≡ b.many = (booleans_Decides a.many b.many).0 both.0 in
      let below : below_type defs a.base ≡ below_type defs b.base = same_below defs a.base b.base both.1 in
      λ i. objects (lists i) (below i)
  on true false f g h = absurd (true≢false (sym h))
  on false true f g h = absurd (true≢false (sym h))
  on false false f g h = refl

-- ---- the targets of the classes that hold a type

abbrev pub held : Text → Class → List Target
held T c = cond (has_text c.types T) (c.target ∷ []) []

abbrev pub found : Text → List Class → List Target
found T cs = each (held T) cs

pub has_push : (xs : List Text) (X T : Text) → has_text (xs ++ X ∷ []) T ≡ (has_text xs T || bytes_eq X T)
has_push [] X T = or_false (bytes_eq X T)
has_push (x ∷ xs) X T = ap (λ (b : Bool). bytes_eq x T || b) (has_push xs X T) ∙ or_assoc (bytes_eq x T) (has_text xs T) (bytes_eq X T) where
  or_assoc : (a b c : Bool) → (a || (b || c)) ≡ ((a || b) || c)
  or_assoc true b c = refl
  or_assoc false b c = refl

has_other : (xs : List Text) (X T : Text) → bytes_eq X T ≡ false → has_text (xs ++ X ∷ []) T ≡ has_text xs T
has_other xs X T e = has_push xs X T ∙ ap (λ (b : Bool). has_text xs T || b) e ∙ or_false (has_text xs T)

has_here : (xs : List Text) (T : Text) → has_text (xs ++ T ∷ []) T ≡ true
has_here xs T = has_push xs T T ∙ ap (λ (b : Bool). has_text xs T || b) (same_self T) ∙ or_true (has_text xs T)

-- another type that is put changes nothing
other_put : (defs : Defs) (cs : List Class) (t : Target) (X T : Text) → bytes_eq X T ≡ false → found T (with_type defs cs t X) ≡ found T cs
other_put defs [] t X T e = ap (λ (b : Bool). cond (b || false) (t ∷ []) [] ++ []) e
other_put defs (c ∷ cs) t X T e = on (other_put defs cs t X T e) (same_target defs c.target t) where
  on : found T (with_type defs cs t X) ≡ found T cs → (b : Bool)
      → found T (cond b (record { target = c.target; types = c.types ++ X ∷ [] } ∷ cs) (c ∷ with_type defs cs t X)) ≡ found T (c ∷ cs)
  on rest true = ap (λ (b : Bool). cond b (c.target ∷ []) [] ++ found T cs) (has_other c.types X T e)
  on rest false = ap (λ (ts : List Target). held T c ++ ts) rest

-- a target that leads to what this one leads to
abbrev pub Like : Defs → Target → Target → Type 0
Like defs a b = form_of defs a ≡ form_of defs b

abbrev pub OneLike : Defs → Target → List Target → Type 0
OneLike defs t ts = (a : Target) × (ts ≡ a ∷ []) × Like defs a t

none_left : {X : Type 0} (xs ys : List X) → xs ++ ys ≡ [] → (xs ≡ []) × (ys ≡ [])
none_left [] ys e = (refl, e)
none_left (x ∷ xs) ys e = cc

-- a type that is in no class is then in one
put_here : (defs : Defs) (cs : List Class) (t : Target) (T : Text) → found T cs ≡ [] → OneLike defs t (found T (with_type defs cs t T))
put_here defs [] t T e = (t, ap (λ (b : Bool). cond (b || false) (t ∷ []) [] ++ []) (same_self T), refl)
put_here defs (c ∷ cs) t T e = on (none_left (held T c) (found T cs) e) (λ none. put_here defs cs t T none) (same_target defs c.target t) refl where
  on : (held T c ≡ []) × (found T cs ≡ []) → (found T cs ≡ [] → OneLike defs t (found T (with_type defs cs t T))) → (b : Bool) → same_target defs c.target t ≡ b
      → OneLike defs t (found T (cond b (record { target = c.target; types = c.types ++ T ∷ [] } ∷ cs) (c ∷ with_type defs cs t T)))
  on none later true same = (
    c.target,
    (λ i. cond (has_here c.types T i) (c.target ∷ []) [] ++ none.1 i),
    same_form defs c.target t same,
  )
  on none later false same =
      let rest = later none.1 in
      (rest.0, ap (λ (ts : List Target). ts ++ found T (with_type defs cs t T)) none.0 ∙ rest.1, rest.2)

-- ---- all types, each of which is put once

abbrev pub Differ : List Text → Type 0
Differ [] = Unit {0}
Differ (T ∷ Ts) = (has_text Ts T ≡ false) × Differ Ts

others_put : (defs : Defs) (n T : Text) (ts : List Text) (cs : List Class) → has_text ts T ≡ false → found T (with_types defs n cs ts) ≡ found T cs
others_put defs n T [] cs e = refl
others_put defs n T (X ∷ ts) cs e =
    let parts = or_parts (bytes_eq X T) (has_text ts T) e in
    others_put defs n T ts (with_type defs cs (target_on defs X n) X) parts.1 ∙ other_put defs cs (target_on defs X n) X T parts.0

all_put : (defs : Defs) (n T : Text) (ts : List Text) (cs : List Class) → Differ ts → has_text ts T ≡ true → found T cs ≡ [] → OneLike defs (target_on defs T n) (found T (with_types defs n cs ts))
all_put defs n T [] cs d e none = absurd (true≢false (sym e))
all_put defs n T (X ∷ ts) cs d e none = on (λ h put. all_put defs n T ts (with_type defs cs (target_on defs X n) X) d.1 h put) (bytes_eq X T) refl e where
  on : (has_text ts T ≡ true → found T (with_type defs cs (target_on defs X n) X) ≡ [] → OneLike defs (target_on defs T n) (found T (with_types defs n (with_type defs cs (target_on defs X n) X) ts)))
      → (b : Bool) → bytes_eq X T ≡ b → (b || has_text ts T) ≡ true → OneLike defs (target_on defs T n) (found T (with_types defs n (with_type defs cs (target_on defs X n) X) ts))
  on later true same h =
      let is : X ≡ T = same_text X T same in
      let here : OneLike defs (target_on defs T n) (found T (with_type defs cs (target_on defs X n) X)) =
      subst (λ (Y : Text). OneLike defs (target_on defs T n) (found T (with_type defs cs (target_on defs Y n) Y))) (sym is) (put_here defs cs (target_on defs T n) T none) in
      (here.0, others_put defs n T ts (with_type defs cs (target_on defs X n) X) (ap (has_text ts) (sym is) ∙ d.0) ∙ here.1, here.2)
  on later false same h = later h (other_put defs cs (target_on defs X n) X T same ∙ none)

found_sorted : (T : Text) (cs : List Class) → found T (map sorted_class cs) ≡ found T cs
found_sorted T [] = refl
found_sorted T (c ∷ cs) = λ i. cond (has_text-sorted_texts c.types T i) (c.target ∷ []) [] ++ found_sorted T cs i

-- the one class that holds a type leads to what the field leads to on the type
pub one_class : (defs : Defs) (n T : Text) (ts : List Text) → Differ ts → has_text ts T ≡ true → OneLike defs (target_on defs T n) (found T (classes_of defs n ts))
one_class defs n T ts d e =
    let here = all_put defs n T ts [] d e refl in
    (here.0, found_sorted T (with_types defs n [] ts) ∙ here.1, here.2)
