-- A key stands below `__fragments`, or else it has to stand above `__owner`.
use Rattle.std.proofs.Common.{◌≡◌, ℕ, List, Bool, false, ◌||◌, codes, nat_cmp, sym, ap, ◌∙◌}
use Rattle.std.specs.Cmp.Lexicographic.{slice_cmp}
use Rattle.std.specs.Ordering.{is_lt}
use Rattle.plan_order.proofs.keys.is_apart.Goals as goal

abbrev higher : List ℕ → Bool
higher key = is_lt (slice_cmp nat_cmp (codes "__owner") key)

pub returns-then-is_below : goal.returns-then-is_below
returns-then-is_below c = ap (λ b. b || higher c.args.key.now) (sym c.if-is_below.true ∙ c.is_below.ensures)

pub returns : goal.returns
returns c =
    let not_below : false ≡ is_lt (slice_cmp nat_cmp c.args.key.now (codes "__fragments")) = sym c.if-is_below.false ∙ c.is_below.ensures in
    c.is_below-2.ensures ∙ ap (λ b. b || higher c.args.key.now) not_below
