-- Steps one after another: their response keys and fragments, and that the plans below them have an order.
use Rattle.std.proofs.Common.{◌≡◌, ℕ, zero, suc, ◌+◌, ◌<◌, Bool, true, false, ◌&&◌, List, [], ◌∷◌, ◌++◌, length, get_or, take, append-nil, Some, None, refl, sym, ap, subst, ◌∙◌, arith}
use Rattle.plan_ir.proofs.gql_plain_laws.Booleans.{and_false}
use Rattle.plan_ir.specs.Reader as r
use Rattle.plan_ir.specs.Reader.{Reader, reader_append}
use Rattle.plan_ir.specs.ReaderView.{step_before, step_of, steps_of}
use Rattle.plan_ir.specs.declared.guard.Guard.{Guard}
use Rattle.plan_ir.specs.declared.reader.ReaderStep.{ReaderStep}
use Rattle.plan_ir.specs.declared.reader.ReaderStep.TheVariants as N
use Rattle.plan_order.proofs.NotedSteps.{one_more}
use Rattle.plan_order.proofs.Shuffles.{Shuffle, nothing, next, turned, chained, shuffle-append_left, shuffle-turn}
use Rattle.plan_order.specs.HasOrder.{has_order_below, is_orderable}
use Rattle.plan_order.specs.Responses.{fragments, responses}
use Rattle.plan_order.specs.Singles.{guard_each}
use Rattle.plan_ir.specs.schema_tables.Types.{Text}

pub responses_step : (x : ReaderStep) (s : Reader) → responses (step_before x s) ≡ responses (step_of x) ++ responses s
responses_step (N.Typename n) s = refl
responses_step (N.Leaf n name xs) s = refl
responses_step (N.Object n name xs m ts is o c child) s = refl
responses_step (N.Guarded g child) s = ap (λ (ks : List Text). ks ++ responses s) (sym (append-nil (responses child.steps)))
responses_step (N.Pointer f xs None) s = refl
responses_step (N.Pointer f xs (Some child)) s = refl

pub fragments_step : (x : ReaderStep) (s : Reader) → fragments (step_before x s) ≡ fragments (step_of x) ++ fragments s
fragments_step (N.Typename n) s = refl
fragments_step (N.Leaf n name xs) s = refl
fragments_step (N.Object n name xs m ts is o c child) s = refl
fragments_step (N.Guarded g child) s = ap (λ (fs : List Text). fs ++ fragments s) (sym (append-nil (fragments child.steps)))
fragments_step (N.Pointer f xs None) s = refl
fragments_step (N.Pointer f xs (Some child)) s = refl

-- ---- in another order

abbrev each_of : (ReaderStep → List Text) → List ReaderStep → List Text
each_of say [] = []
each_of say (x ∷ xs) = say x ++ each_of say xs

each_shuffled : (say : ReaderStep → List Text) {xs ys : List ReaderStep} → Shuffle xs ys → Shuffle (each_of say xs) (each_of say ys)
each_shuffled say nothing = nothing
each_shuffled say (next {x = x} s) = shuffle-append_left (say x) (each_shuffled say s)
each_shuffled say (turned {x = x} {y = y} {xs = xs}) = shuffle-turn (say x) (say y) (each_of say xs)
each_shuffled say (chained s t) = chained (each_shuffled say s) (each_shuffled say t)

responses_each : (xs : List ReaderStep) → each_of (λ x. responses (step_of x)) xs ≡ responses (steps_of xs)
responses_each [] = refl
responses_each (x ∷ xs) = ap (λ (ks : List Text). responses (step_of x) ++ ks) (responses_each xs) ∙ sym (responses_step x (steps_of xs))

fragments_each : (xs : List ReaderStep) → each_of (λ x. fragments (step_of x)) xs ≡ fragments (steps_of xs)
fragments_each [] = refl
fragments_each (x ∷ xs) = ap (λ (fs : List Text). fragments (step_of x) ++ fs) (fragments_each xs) ∙ sym (fragments_step x (steps_of xs))

pub responses_shuffled : (xs ys : List ReaderStep) → Shuffle xs ys → Shuffle (responses (steps_of xs)) (responses (steps_of ys))
responses_shuffled xs ys s = subst (λ ks. Shuffle ks (responses (steps_of ys))) (responses_each xs)
    (subst (Shuffle (each_of (λ x. responses (step_of x)) xs)) (responses_each ys) (each_shuffled (λ x. responses (step_of x)) s))

pub fragments_shuffled : (xs ys : List ReaderStep) → Shuffle xs ys → Shuffle (fragments (steps_of xs)) (fragments (steps_of ys))
fragments_shuffled xs ys s = subst (λ fs. Shuffle fs (fragments (steps_of ys))) (fragments_each xs)
    (subst (Shuffle (each_of (λ x. fragments (step_of x)) xs)) (fragments_each ys) (each_shuffled (λ x. fragments (step_of x)) s))

-- ---- behind guards

pub guard_responses : (g : Guard) (xs : List ReaderStep) → responses (guard_each g xs) ≡ responses (steps_of xs)
guard_responses g [] = refl
guard_responses g (x ∷ xs) = ap (λ (ks : List Text). responses (step_of x) ++ ks) (guard_responses g xs) ∙ sym (responses_step x (steps_of xs))

pub guard_fragments : (g : Guard) (xs : List ReaderStep) → fragments (guard_each g xs) ≡ fragments (steps_of xs)
guard_fragments g [] = refl
guard_fragments g (x ∷ xs) = ap (λ (fs : List Text). fragments (step_of x) ++ fs) (guard_fragments g xs) ∙ sym (fragments_step x (steps_of xs))

-- ---- plans below

and_around : (a b c : Bool) → ((a && b) && c) ≡ ((a && c) && b)
and_around true true true = refl
and_around true true false = refl
and_around true false true = refl
and_around true false false = refl
and_around false b c = refl

and_swap : (a b : Bool) → (a && b) ≡ (b && a)
and_swap true true = refl
and_swap true false = refl
and_swap false true = refl
and_swap false false = refl

has_below-append : (a b : Reader) → has_order_below (reader_append a b) ≡ (has_order_below a && has_order_below b)
has_below-append r.done b = refl
has_below-append (r.typename n rest) b = has_below-append rest b
has_below-append (r.leaf n name xs rest) b = has_below-append rest b
has_below-append (r.object n name xs m ts is o c child rest) b =
    ap (λ z. z && is_orderable child) (has_below-append rest b) ∙ and_around (has_order_below rest) (has_order_below b) (is_orderable child)
has_below-append (r.guarded g child rest) b =
    ap (λ z. z && has_order_below child) (has_below-append rest b) ∙ and_around (has_order_below rest) (has_order_below b) (has_order_below child)
has_below-append (r.pointer f xs rest) b = has_below-append rest b
has_below-append (r.pointer_inline f xs child rest) b =
    ap (λ z. z && is_orderable child) (has_below-append rest b) ∙ and_around (has_order_below rest) (has_order_below b) (is_orderable child)

has_below_step : (x : ReaderStep) (s : Reader) → has_order_below (step_before x s) ≡ (has_order_below s && has_order_below (step_of x))
has_below_step (N.Typename n) s = and_swap true (has_order_below s)
has_below_step (N.Leaf n name xs) s = and_swap true (has_order_below s)
has_below_step (N.Object n name xs m ts is o c child) s = refl
has_below_step (N.Guarded g child) s = refl
has_below_step (N.Pointer f xs None) s = and_swap true (has_order_below s)
has_below_step (N.Pointer f xs (Some child)) s = refl

-- one step more of a list
pub has_below_next : (steps : List ReaderStep) (i : ℕ) (x : ReaderStep) → i < length steps → x ≡ get_or steps i x
    → has_order_below (step_of x) ≡ true → has_order_below (steps_of (take i steps)) ≡ true → has_order_below (steps_of (take (i + 1) steps)) ≡ true
has_below_next steps i x lt is here so_far =
    ap has_order_below (one_more steps i x lt is) ∙ has_below-append (steps_of (take i steps)) (step_of x)
    ∙ ap (λ z. z && has_order_below (step_of x)) so_far ∙ here

-- a step below which there is no order
pub has_below_not : (steps : List ReaderStep) (i : ℕ) (x : ReaderStep) → i < length steps → x ≡ get_or steps i x
    → has_order_below (step_of x) ≡ false → has_order_below (steps_of steps) ≡ false
has_below_not [] i x lt is not_here = absurd (omega arith)
has_below_not (y ∷ ys) zero x lt is not_here =
    has_below_step y (steps_of ys) ∙ ap (λ b. has_order_below (steps_of ys) && b) (ap (λ z. has_order_below (step_of z)) (sym is) ∙ not_here) ∙ and_false (has_order_below (steps_of ys))
has_below_not (y ∷ ys) (suc i) x lt is not_here =
    has_below_step y (steps_of ys) ∙ ap (λ b. b && has_order_below (step_of y)) (has_below_not ys i x (omega arith) is not_here)
