-- Two members of two keys are put in either order.
use Rattle.std.proofs.Common.{◌≡◌, false, true≢false, bytes_eq, [], ◌∷◌, Ordering, Less, Equal, Greater, nat_cmp, Option, Some, None, refl, sym, ap, ◌∙◌}
use Rattle.std.proofs.lemmas.Cmp.{nat_list_cmp_total}
use Rattle.std.proofs.lemmas.Map.Text.{is_eq-slice_cmp}
use Rattle.std.specs.Cmp.Lexicographic.{slice_cmp}
use Rattle.std.specs.FinMap.Entries.{by_order}
use Rattle.std.specs.Ordering.{is_eq, ordering_reverse}
use Rattle.plan_ir.specs.gql_plain.Tree.{Tree}
use Rattle.plan_order.proofs.Rising.{IsBelow, above, below-trans}
use Rattle.plan_ir.specs.store_model.Walks.{Shown, with_found, with_value}
use Rattle.plan_ir.specs.store_record.Keys.{Text}

at_order : (o : Ordering) (k : Text) (v : Tree) (e : Text × Tree) (es : Shown) → slice_cmp nat_cmp k e.0 ≡ o → with_value k v (e ∷ es) ≡ by_order o ((k, v) ∷ e ∷ es) ((e.0, v) ∷ es) (e ∷ with_value k v es)
at_order o k v e es is = ap (λ r. by_order r ((k, v) ∷ e ∷ es) ((e.0, v) ∷ es) (e ∷ with_value k v es)) is

higher : (a b : Text) → slice_cmp nat_cmp a b ≡ Greater → IsBelow b a
higher a b e = nat_list_cmp_total.antisymm b a ∙ ap ordering_reverse e

module _ (k l : Text) (v w : Tree) (low : IsBelow k l) where
  put_lower : (ms : Shown) → with_value k v (with_value l w ms) ≡ with_value l w (with_value k v ms)
  put_lower [] = at_order Less k v (l, w) [] low ∙ sym (at_order Greater l w (k, v) [] (above k l low))
  put_lower (e ∷ es) = on (slice_cmp nat_cmp k e.0) refl (put_lower es)
    where
      fits : (o : Ordering) → IsBelow k e.0
          → with_value k v (by_order o ((l, w) ∷ e ∷ es) ((e.0, w) ∷ es) (e ∷ with_value l w es)) ≡ (k, v) ∷ by_order o ((l, w) ∷ e ∷ es) ((e.0, w) ∷ es) (e ∷ with_value l w es)
      fits Less here = at_order Less k v (l, w) (e ∷ es) low
      fits Equal here = at_order Less k v (e.0, w) es here
      fits Greater here = at_order Less k v e (with_value l w es) here

      on : (o : Ordering) → slice_cmp nat_cmp k e.0 ≡ o → with_value k v (with_value l w es) ≡ with_value l w (with_value k v es)
          → with_value k v (with_value l w (e ∷ es)) ≡ with_value l w (with_value k v (e ∷ es))
      on Less here rest = fits (slice_cmp nat_cmp l e.0) here ∙ sym (ap (with_value l w) (at_order Less k v e es here) ∙ at_order Greater l w (k, v) (e ∷ es) (above k l low))
      on Equal here rest =
          let up : slice_cmp nat_cmp l e.0 ≡ Greater = above e.0 l (sym (nat_list_cmp_total.congr k e.0 l here) ∙ low) in
          ap (with_value k v) (at_order Greater l w e es up) ∙ at_order Equal k v e (with_value l w es) here
          ∙ sym (ap (with_value l w) (at_order Equal k v e es here) ∙ at_order Greater l w (e.0, v) es up)
      on Greater here rest =
          let up : slice_cmp nat_cmp l e.0 ≡ Greater = above e.0 l (below-trans e.0 k l (higher k e.0 here) low) in
          ap (with_value k v) (at_order Greater l w e es up) ∙ at_order Greater k v e (with_value l w es) here ∙ ap (λ (ms : Shown). e ∷ ms) rest
          ∙ sym (ap (with_value l w) (at_order Greater k v e es here) ∙ at_order Greater l w e (with_value k v es) up)

put_turned : (k l : Text) (v w : Tree) (o : Ordering) → slice_cmp nat_cmp k l ≡ o → bytes_eq k l ≡ false → (ms : Shown) → with_value k v (with_value l w ms) ≡ with_value l w (with_value k v ms)
put_turned k l v w Less e other ms = put_lower k l v w e ms
put_turned k l v w Equal e other ms = absurd (true≢false (sym (ap is_eq e) ∙ is_eq-slice_cmp k l ∙ other))
put_turned k l v w Greater e other ms = sym (put_lower l k w v (higher k l e) ms)

pub found_turned : (k l : Text) (v w : Option Tree) → bytes_eq k l ≡ false → (ms : Shown) → with_found k v (with_found l w ms) ≡ with_found l w (with_found k v ms)
found_turned k l None w other ms = refl
found_turned k l (Some x) None other ms = refl
found_turned k l (Some x) (Some y) other ms = put_turned k l x y (slice_cmp nat_cmp k l) refl other ms
