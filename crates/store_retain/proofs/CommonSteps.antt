-- Texts that stand in both of two lists, texts that are put one after another, and guards of the types that they name.
use Rattle.std.proofs.Common.{◌≡◌, ℕ, zero, suc, ◌+◌, ◌<◌, ◌≤◌, Bool, true, false, ◌||◌, ◌&&◌, List, [], ◌∷◌, ◌++◌, map, drop, length, get_or, Option, Some, Bor, bytes_eq, append_assoc, refl, sym, ap, ◌∙◌, arith}
use Rattle.std.proofs.lemmas.List.{append-nil}
use Rattle.std.specs.List.{list_all}
use Rattle.plan_ir.proofs.gql_graph_laws.TextSteps.{same_self, same_text}
use Rattle.plan_ir.specs.gql_plain.Order.{has_text}
use Rattle.plan_ir.specs.NormalMeaning.{condition_passes, guard_passes, type_passes}
use Rattle.plan_ir.specs.declared.guard.Guard.{Guard}
use Rattle.plan_ir.specs.schema_types.Environments.{Values}
use Rattle.plan_ir.specs.store_record.Keys.{Text}
use Rattle.store_retain.proofs.Bools.{any_append, or_false}
use Rattle.store_retain.proofs.Follow.{drop_at}

drop_none : {X : Type 0} (xs : List X) (i : ℕ) → length xs ≤ i → drop i xs ≡ []
drop_none [] zero h = refl
drop_none [] (suc i) h = refl
drop_none (x ∷ xs) zero h = absurd (omega (arith, h))
drop_none (x ∷ xs) (suc i) h = drop_none xs i (omega (arith, h))

-- ---- texts one after another

pub texts_next : (ws new : List Text) (w : Text) (x : Bor (List ℕ)) (left rest : List (Bor (List ℕ))) (whole : List Text) → new ≡ ws ++ w ∷ [] → w ≡ x.now → left ≡ x ∷ rest
    → ws ++ map (λ (k : Bor (List ℕ)). k.now) left ≡ whole → new ++ map (λ (k : Bor (List ℕ)). k.now) rest ≡ whole
texts_next ws new w x left rest whole pushed same is before =
    let more : List Text = map (λ (k : Bor (List ℕ)). k.now) rest in
    ap (λ ts. ts ++ more) pushed
    ∙ append_assoc ws (w ∷ []) more
    ∙ ap (λ t. ws ++ t ∷ more) same
    ∙ ap (λ (ks : List (Bor (List ℕ))). ws ++ map (λ (k : Bor (List ℕ)). k.now) ks) (sym is) ∙ before

pub texts_end : (ws : List Text) (left start keys : List (Bor (List ℕ))) → left ≡ [] → ws ++ map (λ (k : Bor (List ℕ)). k.now) left ≡ map (λ (k : Bor (List ℕ)). k.now) start → start ≡ keys
    → ws ≡ map (λ (k : Bor (List ℕ)). k.now) keys
texts_end ws left start keys none same is =
    sym (append-nil ws)
    ∙ ap (λ (ks : List (Bor (List ℕ))). ws ++ map (λ (k : Bor (List ℕ)). k.now) ks) (sym none)
    ∙ same ∙ ap (map (λ (k : Bor (List ℕ)). k.now)) is

-- ---- texts of both lists

test_with : (list : List Text) (text T : Text) (b : Bool) → bytes_eq text T ≡ b → has_text list text ≡ true → b ≡ (b && has_text list T)
test_with list text T true e h = sym h ∙ ap (has_text list) (same_text text T e)
test_with list text T false e h = refl

test_without : (list : List Text) (text T : Text) (b : Bool) → bytes_eq text T ≡ b → has_text list text ≡ false → (b && has_text list T) ≡ false
test_without list text T true e h = ap (has_text list) (sym (same_text text T e)) ∙ h
test_without list text T false e h = refl

pub common_put : (old new list : List Text) (text copied T : Text) → new ≡ old ++ copied ∷ [] → copied ≡ text → has_text list text ≡ true → has_text new T ≡ (has_text old T || (bytes_eq text T && has_text list T))
common_put old new list text copied T pushed same h =
    ap (λ ts. has_text ts T) pushed
    ∙ any_append (λ one. bytes_eq one T) old (copied ∷ [])
    ∙ ap (λ t. has_text old T || (bytes_eq t T || false)) same
    ∙ ap (λ b. has_text old T || b) (or_false (bytes_eq text T) ∙ test_with list text T (bytes_eq text T) refl h)

pub common_not : (old list : List Text) (text T : Text) → has_text list text ≡ false → has_text old T ≡ (has_text old T || (bytes_eq text T && has_text list T))
common_not old list text T h = sym (or_false (has_text old T)) ∙ ap (λ b. has_text old T || b) (sym (test_without list text T (bytes_eq text T) refl h))

or_same : (a : Bool) → (a || a) ≡ a
or_same true = refl
or_same false = refl

either_and : (o a b c : Bool) → ((o || (a && c)) || (b && c)) ≡ (o || ((a || b) && c))
either_and true a b c = refl
either_and false true true c = or_same c
either_and false true false c = or_false c
either_and false false b c = refl

pub common_next : (xs other : List Text) (i : ℕ) (d x T : Text) (old new whole : Bool) → i < length xs → x ≡ get_or xs i d → new ≡ (old || (bytes_eq x T && has_text other T))
    → (old || (has_text (drop i xs) T && has_text other T)) ≡ whole → (new || (has_text (drop (i + 1) xs) T && has_text other T)) ≡ whole
common_next xs other i d x T old new whole within is here before =
    ap (λ b. b || (has_text (drop (i + 1) xs) T && has_text other T)) here
    ∙ either_and old (bytes_eq x T) (has_text (drop (i + 1) xs) T) (has_text other T)
    ∙ sym (ap (λ (ys : List Text). old || (has_text ys T && has_text other T)) (drop_at xs i d x within is)) ∙ before

pub common_end : (xs other : List Text) (i : ℕ) (T : Text) (now whole : Bool) → length xs ≤ i → (now || (has_text (drop i xs) T && has_text other T)) ≡ whole → now ≡ whole
common_end xs other i T now whole h e = sym (or_false now) ∙ ap (λ (ys : List Text). now || (has_text ys T && has_text other T)) (sym (drop_none xs i h)) ∙ e

-- ---- guards

first_has : (ts : List Text) (d x : Text) → 1 ≤ length ts → x ≡ get_or ts 0 d → has_text ts x ≡ true
first_has [] d x h is = absurd (omega (arith, h))
first_has (t ∷ ts) d x h is = ap (λ y. bytes_eq t y || has_text ts y) is ∙ ap (λ b. b || has_text ts t) (same_self t)

-- a guard of types passes the first of them, if its conditions hold
pub some_passes : (o : Option (List Text)) (ts xs : List Text) (d x name : Text) → o ≡ Some ts → xs ≡ ts → 1 ≤ length xs → x ≡ get_or xs 0 d → name ≡ x → type_passes o name ≡ true
some_passes o ts xs d x name some same long is named =
    ap (λ p. type_passes p name) some ∙ ap (λ ys. has_text ys name) (sym same) ∙ ap (has_text xs) named ∙ first_has xs d x long is

pub lets_is : (env : Values) (g : Guard) (first T : Text) (lets : Bool) → lets ≡ guard_passes env first g → type_passes g.types first ≡ true → guard_passes env T g ≡ (type_passes g.types T && lets)
lets_is env g first T lets is passed =
    ap (λ b. type_passes g.types T && b) (sym (is ∙ ap (λ b. b && list_all (condition_passes env) g.conditions) passed))
