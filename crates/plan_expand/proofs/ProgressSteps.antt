-- What is measured, step by step.
use Rattle.std.proofs.Common.{◌≡◌, ℕ, zero, suc, ◌+◌, ◌-◌, ◌<◌, ◌≤◌, List, [], ◌∷◌, ◌++◌, drop, length, get_or, nat_le, true, Option, Some, None, refl, ap, sym, ◌∙◌, arith}
use Rattle.std.proofs.lemmas.Bool.{leb-true, le-leb}
use Rattle.std.proofs.lemmas.List.{drop_all, drop_more}
use Rattle.plan_ir.specs.gql_ast.SelectionView.{sel_before, sel_of, sels_of}
use Rattle.plan_ir.specs.gql_ast.Sels as sels
use Rattle.plan_ir.specs.gql_ast.Sels.{Sels}
use Rattle.plan_ir.specs.gql_ast.declared.directive.Directive.{Directive}
use Rattle.plan_ir.specs.gql_ast.declared.selection.Selection.{Selection}
use Rattle.plan_ir.specs.gql_ast.declared.selection.Selection.TheVariants as S
use Rattle.plan_ir.specs.schema_tables.Types.{Text, Defs}
use Rattle.plan_expand.proofs.ExtentLaws.{both_assoc, both_last, both_none, both_swap, none_both}
use Rattle.plan_expand.specs.Extents.{both, no_extent}
use Rattle.plan_expand.specs.Making.{Find, Ready}
use Rattle.plan_expand.specs.Measuring.{Sizes, enter_steps, enter_total, entering_steps, entering_total, ready_sizes, spread_extent, steps, total}
use Rattle.plan_expand.specs.ProgressView.{all_steps, all_total, pending_steps, pending_total}
use Rattle.plan_expand.specs.declared.extent.Extent.{Extent}
use Rattle.plan_expand.specs.declared.measure.Pending.{Pending}

-- ---- a selection, and those that follow it

total_before : (k : ℕ) (defs : Defs) (find : Find) (sizes : Sizes) (level : ℕ) (around : Option Text) (x : Selection) (t : Sels)
    → total k defs find sizes level around (sel_before x t) ≡ both (total k defs find sizes level around (sel_of x)) (total k defs find sizes level around t)
total_before k defs find sizes level around (S.Field a n xs ds s) t = ap (λ (e : Extent). both e (total k defs find sizes level around t)) (sym (both_none _))
total_before k defs find sizes level around (S.Spread n ds) t = ap (λ (e : Extent). both e (total k defs find sizes level around t)) (sym (both_none _))
total_before k defs find sizes level around (S.Inline o ds s) t = ap (λ (e : Extent). both e (total k defs find sizes level around t)) (sym (both_none _))

steps_before : (k : ℕ) (find : Find) (x : Selection) (t : Sels) → steps k find (sel_before x t) ≡ steps k find (sel_of x) + steps k find t
steps_before k find (S.Field a n xs ds s) t = omega arith
steps_before k find (S.Spread n ds) t = omega arith
steps_before k find (S.Inline o ds s) t = omega arith

-- a selection alone
pub total_alone : (k : ℕ) (defs : Defs) (find : Find) (sizes : Sizes) (level : ℕ) (around : Option Text) (x y : Selection) (part old new : Extent)
    → x ≡ y → both part no_extent ≡ total k defs find sizes level around (sel_of y) → new ≡ both old part → new ≡ both old (total k defs find sizes level around (sel_of x))
total_alone k defs find sizes level around x y part old new is whole put =
    put ∙ ap (both old) (sym (both_none part) ∙ whole ∙ ap (λ (z : Selection). total k defs find sizes level around (sel_of z)) (sym is))

-- one more selection of a set
pub total_next : (k : ℕ) (defs : Defs) (find : Find) (sizes : Sizes) (level : ℕ) (around : Option Text) (xs : List Selection) (i : ℕ) (x : Selection) (old new whole : Extent)
    → i < length xs → x ≡ get_or xs i x → new ≡ both old (total k defs find sizes level around (sel_of x))
    → both old (total k defs find sizes level around (sels_of (drop i xs))) ≡ whole
    → both new (total k defs find sizes level around (sels_of (drop (i + 1) xs))) ≡ whole
total_next k defs find sizes level around xs i x old new whole h is put w =
    let rest : Sels = sels_of (drop (i + 1) xs) in
    ap (λ (e : Extent). both e (total k defs find sizes level around rest)) put
    ∙ both_assoc old (total k defs find sizes level around (sel_of x)) (total k defs find sizes level around rest)
    ∙ sym (ap (both old) (total_before k defs find sizes level around x rest))
    ∙ ap (λ (y : Selection). both old (total k defs find sizes level around (sel_before y rest))) is
    ∙ sym (ap (λ (ys : List Selection). both old (total k defs find sizes level around (sels_of ys))) (drop_more xs i x h)) ∙ w

pub total_end : (k : ℕ) (defs : Defs) (find : Find) (sizes : Sizes) (level : ℕ) (around : Option Text) (xs : List Selection) (i : ℕ) (old whole : Extent)
    → length xs ≤ i → both old (total k defs find sizes level around (sels_of (drop i xs))) ≡ whole → old ≡ whole
total_end k defs find sizes level around xs i old whole h w =
    sym (both_none old) ∙ sym (ap (λ (ys : List Selection). both old (total k defs find sizes level around (sels_of ys))) (drop_all i xs h)) ∙ w

pub steps_next : (k : ℕ) (find : Find) (xs : List Selection) (i : ℕ) (x : Selection) (old new whole : ℕ) → i < length xs → x ≡ get_or xs i x
    → new ≡ old + steps k find (sel_of x) → old + steps k find (sels_of (drop i xs)) ≡ whole → new + steps k find (sels_of (drop (i + 1) xs)) ≡ whole
steps_next k find xs i x old new whole h is put w =
    let same : steps k find (sels_of (drop i xs)) ≡ steps k find (sel_before (get_or xs i x) (sels_of (drop (i + 1) xs))) = ap (λ (ys : List Selection). steps k find (sels_of ys)) (drop_more xs i x h) in
    let here : steps k find (sel_before (get_or xs i x) (sels_of (drop (i + 1) xs))) ≡ steps k find (sel_before x (sels_of (drop (i + 1) xs))) = ap (λ (y : Selection). steps k find (sel_before y (sels_of (drop (i + 1) xs)))) (sym is) in
    let parts : steps k find (sel_before x (sels_of (drop (i + 1) xs))) ≡ steps k find (sel_of x) + steps k find (sels_of (drop (i + 1) xs)) = steps_before k find x (sels_of (drop (i + 1) xs)) in
    omega arith

pub steps_end : (k : ℕ) (find : Find) (xs : List Selection) (i : ℕ) (old whole : ℕ) → length xs ≤ i → old + steps k find (sels_of (drop i xs)) ≡ whole → old ≡ whole
steps_end k find xs i old whole h w =
    let none : steps k find (sels_of (drop i xs)) ≡ 0 = ap (λ (ys : List Selection). steps k find (sels_of ys)) (drop_all i xs h) in
    omega arith

-- ---- spreads

total_none : (k : ℕ) (defs : Defs) (find : Find) (sizes : Sizes) (level : ℕ) (n : Text) (ds : List Directive) → k ≡ 0 → entering_total k defs find sizes level n ds ≡ no_extent
total_none zero defs find sizes level n ds e = refl
total_none (suc k) defs find sizes level n ds e = absurd (omega (arith, e))

total_missing : (k : ℕ) (defs : Defs) (find : Find) (sizes : Sizes) (level : ℕ) (n : Text) (ds : List Directive) → find n ≡ None → entering_total k defs find sizes level n ds ≡ no_extent
total_missing zero defs find sizes level n ds e = refl
total_missing (suc k) defs find sizes level n ds e = ap (λ (o : Option Ready). enter_total (total k defs find) sizes level o ds) e

total_found : (k : ℕ) (defs : Defs) (find : Find) (sizes : Sizes) (level : ℕ) (n : Text) (ds : List Directive) (r : Ready) → 0 < k → find n ≡ Some r
    → enter_total (total (k - 1) defs find) sizes level (Some r) ds ≡ entering_total k defs find sizes level n ds
total_found zero defs find sizes level n ds r some e = absurd (omega (arith, some))
total_found (suc k) defs find sizes level n ds r some e =
    let less : suc k - 1 ≡ k = omega arith in
    ap (λ (j : ℕ). enter_total (total j defs find) sizes level (Some r) ds) less ∙ sym (ap (λ (o : Option Ready). enter_total (total k defs find) sizes level o ds) e)

pub spread_none : (k : ℕ) (defs : Defs) (find : Find) (sizes : Sizes) (level : ℕ) (n : Text) (ds : List Directive) (old : Extent) → k ≡ 0 → old ≡ both old (entering_total k defs find sizes level n ds)
spread_none k defs find sizes level n ds old e = sym (both_none old) ∙ sym (ap (both old) (total_none k defs find sizes level n ds e))

pub spread_missing : (k : ℕ) (defs : Defs) (find : Find) (sizes : Sizes) (level : ℕ) (n : Text) (ds : List Directive) (old : Extent) → find n ≡ None → old ≡ both old (entering_total k defs find sizes level n ds)
spread_missing k defs find sizes level n ds old e = sym (both_none old) ∙ sym (ap (both old) (total_missing k defs find sizes level n ds e))

pub spread_found : (k : ℕ) (defs : Defs) (find : Find) (sizes : Sizes) (level : ℕ) (n : Text) (ds : List Directive) (r : Ready) (old new : Extent) → 0 < k → find n ≡ Some r
    → new ≡ both old (enter_total (total (k - 1) defs find) sizes level (Some r) ds) → new ≡ both old (entering_total k defs find sizes level n ds)
spread_found k defs find sizes level n ds r old new some e put = put ∙ ap (both old) (total_found k defs find sizes level n ds r some e)

entering_steps_none : (k : ℕ) (find : Find) (n : Text) → k ≡ 0 → entering_steps k find n ≡ 0
entering_steps_none zero find n e = refl
entering_steps_none (suc k) find n e = absurd (omega (arith, e))

entering_steps_missing : (k : ℕ) (find : Find) (n : Text) → find n ≡ None → entering_steps k find n ≡ 0
entering_steps_missing zero find n e = refl
entering_steps_missing (suc k) find n e = ap (λ (o : Option Ready). enter_steps (steps k find) o) e

entering_steps_found : (k : ℕ) (find : Find) (n : Text) (r : Ready) → 0 < k → find n ≡ Some r → enter_steps (steps (k - 1) find) (Some r) ≡ entering_steps k find n
entering_steps_found zero find n r some e = absurd (omega (arith, some))
entering_steps_found (suc k) find n r some e =
    let less : suc k - 1 ≡ k = omega arith in
    ap (λ (j : ℕ). enter_steps (steps j find) (Some r)) less ∙ sym (ap (λ (o : Option Ready). enter_steps (steps k find) o) e)

pub steps_none : (k : ℕ) (find : Find) (n : Text) (old : ℕ) → k ≡ 0 → old ≡ old + entering_steps k find n
steps_none k find n old e = omega (arith, entering_steps_none k find n e)

pub steps_missing : (k : ℕ) (find : Find) (n : Text) (old : ℕ) → find n ≡ None → old ≡ old + entering_steps k find n
steps_missing k find n old e = omega (arith, entering_steps_missing k find n e)

pub steps_found : (k : ℕ) (find : Find) (n : Text) (r : Ready) (old new : ℕ) → 0 < k → find n ≡ Some r → new ≡ old + enter_steps (steps (k - 1) find) (Some r) → new ≡ old + entering_steps k find n
steps_found k find n r old new some e put = put ∙ ap (λ (m : ℕ). old + m) (entering_steps_found k find n r some e)

-- ---- spreads that wait

pub waiting_more : (defs : Defs) (find : Find) (ps : List Pending) (p : Pending) → all_total defs find (ps ++ p ∷ []) ≡ both (all_total defs find ps) (pending_total defs find p)
waiting_more defs find [] p = both_none (pending_total defs find p) ∙ sym (none_both (pending_total defs find p))
waiting_more defs find (q ∷ ps) p = ap (both (pending_total defs find q)) (waiting_more defs find ps p) ∙ sym (both_assoc (pending_total defs find q) (all_total defs find ps) (pending_total defs find p))

pub steps_more : (find : Find) (ps : List Pending) (p : Pending) → all_steps find (ps ++ p ∷ []) ≡ all_steps find ps + pending_steps find p
steps_more find [] p = omega arith
steps_more find (q ∷ ps) p = omega (arith, steps_more find ps p)

-- the spread is put, and its own node is added
pub pending_put : (defs : Defs) (find : Find) (sizes : Sizes) (ds : List Directive) (level k : ℕ) (r : Ready) (old new : Extent) (ps qs : List Pending) (p : Pending)
    → new ≡ both old (spread_extent sizes level ds) → qs ≡ ps ++ p ∷ [] → pending_total defs find p ≡ total k defs find (ready_sizes sizes ds r) (level + 1) (Some r.on) r.selections
    → both new (all_total defs find qs) ≡ both (both old (all_total defs find ps)) (enter_total (total k defs find) sizes level (Some r) ds)
pending_put defs find sizes ds level k r old new ps qs p node put is =
    ap (λ (e : Extent). both e (all_total defs find qs)) node
    ∙ ap (both (both old (spread_extent sizes level ds))) (ap (all_total defs find) put ∙ waiting_more defs find ps p ∙ ap (both (all_total defs find ps)) is)
    ∙ both_swap old (spread_extent sizes level ds) (all_total defs find ps) (total k defs find (ready_sizes sizes ds r) (level + 1) (Some r.on) r.selections)

-- ---- selections nest less deep than their set

depth_here : (x : Selection) (t : Sels) → sels.depth (sel_of x) ≤ sels.depth (sel_before x t)
depth_here (S.Field a n xs ds s) t = omega arith
depth_here (S.Spread n ds) t = omega arith
depth_here (S.Inline o ds s) t = omega arith

depth_rest : (x : Selection) (t : Sels) → sels.depth t ≤ sels.depth (sel_before x t)
depth_rest (S.Field a n xs ds s) t = omega arith
depth_rest (S.Spread n ds) t = omega arith
depth_rest (S.Inline o ds s) t = omega arith

depth_left : (xs : List Selection) (i : ℕ) → sels.depth (sels_of (drop i xs)) ≤ sels.depth (sels_of xs)
depth_left xs zero = omega arith
depth_left [] (suc i) = omega arith
depth_left (x ∷ xs) (suc i) = omega (arith, depth_left xs i, depth_rest x (sels_of xs))

pub one_below : (s : Sels) (xs : List Selection) (i : ℕ) (x : Selection) → i < length xs → x ≡ get_or xs i x → sels_of xs ≡ s → sels.depth (sel_of x) ≤ sels.depth s
one_below s xs i x h is e =
    let same : sels.depth (sels_of (drop i xs)) ≡ sels.depth (sel_before (get_or xs i x) (sels_of (drop (i + 1) xs))) = ap (λ (ys : List Selection). sels.depth (sels_of ys)) (drop_more xs i x h) in
    let here : sels.depth (sel_before (get_or xs i x) (sels_of (drop (i + 1) xs))) ≡ sels.depth (sel_before x (sels_of (drop (i + 1) xs))) = ap (λ (y : Selection). sels.depth (sel_before y (sels_of (drop (i + 1) xs)))) (sym is) in
    let all : sels.depth (sels_of xs) ≡ sels.depth s = ap sels.depth e in
    omega (arith, depth_left xs i, depth_here x (sels_of (drop (i + 1) xs)))

-- a node, and then what it holds
pub node_then : (old mid new node inner waiting : Extent) → mid ≡ both old node → new ≡ both (both mid waiting) inner → new ≡ both (both old waiting) (both node inner)
node_then old mid new node inner waiting put e =
    e ∙ ap (λ (x : Extent). both (both x waiting) inner) put ∙ ap (λ (x : Extent). both x inner) (both_last old node waiting) ∙ both_assoc (both old waiting) node inner

-- ---- the last spread that waits is followed

pub popped_total : (defs : Defs) (find : Find) (e : Extent) (ps qs : List Pending) (p : Pending) → qs ≡ ps ++ p ∷ [] → both (both e (all_total defs find ps)) (pending_total defs find p) ≡ both e (all_total defs find qs)
popped_total defs find e ps qs p put =
    both_assoc e (all_total defs find ps) (pending_total defs find p) ∙ ap (both e) (sym (waiting_more defs find ps p)) ∙ ap (λ (l : List Pending). both e (all_total defs find l)) (sym put)

pub popped_steps : (find : Find) (ps qs : List Pending) (p : Pending) (n : ℕ) → qs ≡ ps ++ p ∷ [] → 1 + n ≡ all_steps find ps + pending_steps find p → n + 1 ≡ all_steps find qs
popped_steps find ps qs p n put e =
    let s : all_steps find qs ≡ all_steps find ps + pending_steps find p = ap (all_steps find) put ∙ steps_more find ps p in
    omega arith

-- there are too many nodes already
pub many_already : (e rest whole : Extent) → both e rest ≡ whole → nat_le 100001 e.count ≡ true → nat_le 100001 whole.count ≡ true
many_already e rest whole h many =
    let same : e.count + rest.count ≡ whole.count = ap (λ (x : Extent). x.count) h in
    let more : 100001 ≤ e.count = leb-true 100001 e.count many in
    le-leb 100001 whole.count (omega arith)

-- no spread waits any more
none_left : (ps : List Pending) → length ps ≡ 0 → ps ≡ []
none_left [] e = refl
none_left (p ∷ ps) e = absurd (omega (arith, e))

pub all_there : (defs : Defs) (find : Find) (e : Extent) (ps : List Pending) (whole : Extent) → length ps ≡ 0 → both e (all_total defs find ps) ≡ whole → e ≡ whole
all_there defs find e ps whole none w = sym (both_none e) ∙ sym (ap (λ (l : List Pending). both e (all_total defs find l)) (none_left ps none)) ∙ w
