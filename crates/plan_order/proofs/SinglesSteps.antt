-- Single steps gathered, one step after another.
use denote.Ref.{Bor}
use Rattle.std.proofs.Common.{◌≡◌, append-nil, ℕ, ◌+◌, ◌<◌, List, [], ◌∷◌, ◌++◌, map, length, get_or, take, Some, None, refl, sym, ap, subst, ◌∙◌, arith}
use Rattle.std.proofs.lemmas.List.{map-append, take_more}
use Rattle.std.proofs.lemmas.List.Sorted.{IsPermutation-map}
use Rattle.std.specs.List.{AllByRecursion}
use Rattle.std.specs.List.Sorted.{IsPermutation}
use Rattle.plan_ir.proofs.ReaderLaws.{reader_append_assoc, reader_append_done, steps_of-append}
use Rattle.plan_ir.specs.Reader as r
use Rattle.plan_ir.specs.Reader.{Reader}
use Rattle.plan_ir.specs.ReaderView.{step_before, step_of, steps_of}
use Rattle.plan_ir.specs.declared.guard.Guard.{Guard}
use Rattle.plan_ir.specs.declared.reader.ReaderStep.{ReaderStep}
use Rattle.plan_ir.specs.declared.reader.ReaderStep.TheVariants as N
use Rattle.plan_order.proofs.NotedSteps.{fragments-append, responses-append}
use Rattle.plan_order.proofs.OrderedCopies.{copy_ordered}
use Rattle.plan_order.proofs.Rising.{all-append}
use Rattle.plan_order.proofs.StepKeys.{guard_fragments, guard_responses}
use Rattle.plan_order.proofs.TakenSteps.{taken-append, taken-guarded, taken-nothing}
use Rattle.plan_order.specs.Ordered.{IsInOrder}
use Rattle.plan_order.specs.Responses.{fragments, responses}
use Rattle.plan_order.specs.Singles.{AreSingles, AreTaken, IsKeyed, IsOrderedCopy, guard_each, key_in, single_of, step_in, steps_in}
use Rattle.plan_order.specs.declared.single.Single.{Single}
use Rattle.plan_ir.specs.schema_tables.Types.{Text}

pub singles_nothing : (xs : List Single) → xs ≡ [] → AreSingles r.done xs
singles_nothing xs none = subst (AreSingles r.done) (sym none) (record { taken = taken-nothing; told = refl; spread = refl; keyed = tt })

-- one step, of which nothing changes but what stands below it
pub singles_alone : (plan : Reader) (key : Bor Text) (x : ReaderStep) (xs : List Single) → xs ≡ single_of key x ∷ [] → AreTaken plan (step_of x)
    → responses (step_of x) ≡ responses plan → fragments (step_of x) ≡ fragments plan → responses plan ++ fragments plan ≡ key.now ∷ [] → AreSingles plan xs
singles_alone plan key x xs is taken told spread keyed =
    subst (AreSingles plan) (sym is)
    (record { taken = taken; told = told; spread = spread; keyed = ((λ i. told i ++ spread i) ∙ keyed, tt) })

-- steps that were taken apart, each behind a guard of its own
pub singles_guarded : (g : Guard) (child : Reader) (inner behind : List Single) → AreSingles child inner → steps_in behind ≡ guard_each g (map step_in inner) → AllByRecursion IsKeyed behind
    → AreSingles (r.guarded g child r.done) behind
singles_guarded g child inner behind are is keyed = record {
  taken = subst (AreTaken (r.guarded g child r.done)) (sym is) (taken-guarded g child (map step_in inner) are.taken);
  told = ap responses is ∙ guard_responses g (map step_in inner) ∙ are.told ∙ sym (append-nil (responses child));
  spread = ap fragments is ∙ guard_fragments g (map step_in inner) ∙ are.spread ∙ sym (append-nil (fragments child));
  keyed = keyed;
}

-- one step more of a list
pub singles_next : (steps : List ReaderStep) (i : ℕ) (x : ReaderStep) (xs more all : List Single) → i < length steps → x ≡ get_or steps i x → all ≡ xs ++ more
    → AreSingles (step_of x) more → AreSingles (steps_of (take i steps)) xs → AreSingles (steps_of (take (i + 1) steps)) all
singles_next steps i x xs more all lt is are second first =
    let before = steps_of (take i steps) in
    let left : steps_of (take (i + 1) steps) ≡ r.reader_append before (step_of x) =
    ap steps_of (take_more steps i x lt ∙ ap (λ (y : ReaderStep). take i steps ++ y ∷ []) (sym is)) ∙ steps_of-append (take i steps) (x ∷ []) in
    let right : steps_in all ≡ r.reader_append (steps_in xs) (steps_in more) =
    ap steps_in are ∙ ap steps_of (map-append step_in xs more) ∙ steps_of-append (map step_in xs) (map step_in more) in
    record {
      taken = subst (λ plan. AreTaken plan (steps_in all)) (sym left)
          (subst (AreTaken (r.reader_append before (step_of x))) (sym right) (taken-append before (steps_in xs) (step_of x) (steps_in more) first.taken second.taken));
      told = ap responses right ∙ responses-append (steps_in xs) (steps_in more) ∙ (λ j. first.told j ++ second.told j) ∙ sym (ap responses left ∙ responses-append before (step_of x));
      spread = ap fragments right ∙ fragments-append (steps_in xs) (steps_in more) ∙ (λ j. first.spread j ++ second.spread j) ∙ sym (ap fragments left ∙ fragments-append before (step_of x));
      keyed = subst (AllByRecursion IsKeyed) (sym are) (all-append IsKeyed xs more first.keyed second.keyed);
    }

-- the singles in order are an ordered copy, where they are in order
pub singles_ordered : (plan copy : Reader) (xs ys : List Single) → AreSingles plan xs → IsPermutation xs ys → copy ≡ steps_in ys → IsInOrder copy → IsOrderedCopy plan copy
singles_ordered plan copy xs ys are moved is order =
    subst (IsOrderedCopy plan) (sym is) (copy_ordered plan (map step_in xs) (map step_in ys) are.taken (IsPermutation-map step_in xs ys moved) (subst IsInOrder is order))

-- ---- steps put together anew

step_front : (x : ReaderStep) (t : Reader) → r.reader_append (step_of x) t ≡ step_before x t
step_front (N.Typename n) t = refl
step_front (N.Leaf n name xs) t = refl
step_front (N.Object n name xs m ts is o c child) t = refl
step_front (N.Guarded g child) t = refl
step_front (N.Pointer f xs None) t = refl
step_front (N.Pointer f xs (Some child)) t = refl

pub plan_next : (s new : Reader) (x : Single) (left rest : List Single) (whole : Reader) → left ≡ x ∷ rest → new ≡ r.reader_append s (step_of x.step)
    → r.reader_append s (steps_in left) ≡ whole → r.reader_append new (steps_in rest) ≡ whole
plan_next s new x left rest whole is put all =
    ap (λ (p : Reader). r.reader_append p (steps_in rest)) put
    ∙ reader_append_assoc s (step_of x.step) (steps_in rest)
    ∙ ap (r.reader_append s) (step_front x.step (steps_in rest) ∙ ap steps_in (sym is))
    ∙ all

pub plan_whole : (s whole : Reader) (left : List Single) → left ≡ [] → r.reader_append s (steps_in left) ≡ whole → s ≡ whole
plan_whole s whole left none all = sym (reader_append_done s) ∙ ap (λ xs. r.reader_append s (steps_in xs)) (sym none) ∙ all

pub guard_next : (g : Guard) (put : List Single) (x y : Single) (left rest more : List Single) (whole : Reader) → left ≡ x ∷ rest → more ≡ put ++ y ∷ []
    → step_of y.step ≡ r.guarded g (step_of x.step) r.done
    → r.reader_append (steps_in put) (guard_each g (map step_in left)) ≡ whole → r.reader_append (steps_in more) (guard_each g (map step_in rest)) ≡ whole
guard_next g put x y left rest more whole is are one all =
    let tail = guard_each g (map step_in rest) in
    ap (λ (p : Reader). r.reader_append p tail) (ap steps_in are ∙ ap steps_of (map-append step_in put (y ∷ [])) ∙ steps_of-append (map step_in put) (y.step ∷ []))
    ∙ reader_append_assoc (steps_in put) (step_of y.step) tail
    ∙ ap (λ (p : Reader). r.reader_append (steps_in put) (r.reader_append p tail)) one
    ∙ ap (λ (xs : List Single). r.reader_append (steps_in put) (guard_each g (map step_in xs))) (sym is)
    ∙ all

pub guard_whole : (g : Guard) (put left : List Single) (whole : Reader) → left ≡ [] → r.reader_append (steps_in put) (guard_each g (map step_in left)) ≡ whole → steps_in put ≡ whole
guard_whole g put left whole none all =
    sym (reader_append_done (steps_in put)) ∙ ap (λ (xs : List Single). r.reader_append (steps_in put) (guard_each g (map step_in xs))) (sym none) ∙ all

-- ---- keys behind guards

keyed_behind : (g : Guard) (x y : Single) → key_in y ≡ key_in x → step_of y.step ≡ r.guarded g (step_of x.step) r.done → IsKeyed x → IsKeyed y
keyed_behind g x y same one keyed =
    (λ i. responses (one i) ++ fragments (one i))
    ∙ (λ i. append-nil (responses (step_of x.step)) i ++ append-nil (fragments (step_of x.step)) i)
    ∙ keyed ∙ ap (λ (k : Text). k ∷ []) (sym same)

keyed_turned : (put rest : List Single) (x y : Single) → (IsKeyed x → IsKeyed y) → AllByRecursion IsKeyed (put ++ x ∷ rest) → AllByRecursion IsKeyed ((put ++ y ∷ []) ++ rest)
keyed_turned [] rest x y so all = (so all.0, all.1)
keyed_turned (z ∷ put) rest x y so all = (all.0, keyed_turned put rest x y so all.1)

pub keyed_next : (g : Guard) (put : List Single) (x y : Single) (left rest more : List Single) → left ≡ x ∷ rest → more ≡ put ++ y ∷ []
    → key_in y ≡ key_in x → step_of y.step ≡ r.guarded g (step_of x.step) r.done
    → AllByRecursion IsKeyed (put ++ left) → AllByRecursion IsKeyed (more ++ rest)
keyed_next g put x y left rest more is are same one all =
    subst (λ ys. AllByRecursion IsKeyed (ys ++ rest)) (sym are)
    (keyed_turned put rest x y (keyed_behind g x y same one) (subst (λ xs. AllByRecursion IsKeyed (put ++ xs)) is all))

pub keyed_whole : (put left : List Single) → left ≡ [] → AllByRecursion IsKeyed (put ++ left) → AllByRecursion IsKeyed put
keyed_whole put left none all = subst (AllByRecursion IsKeyed) (append-nil put) (subst (λ xs. AllByRecursion IsKeyed (put ++ xs)) none all)

pub none_left : {A : Type 0} (xs : List A) → length xs ≡ 0 → xs ≡ []
none_left [] e = refl
none_left (x ∷ xs) e = absurd (omega (arith, e))
