-- Steps of the walk that makes nodes: one more selection, and all of them.
use Rattle.std.proofs.Common.{◌≡◌, ℕ, zero, suc, ◌+◌, ◌-◌, ◌<◌, ◌≤◌, List, ◌∷◌, drop, length, get_or, Option, Some, None, refl, ap, sym, ◌∙◌, arith}
use Rattle.std.proofs.lemmas.List.{drop_all, drop_more}
use Rattle.plan_ir.specs.gql_ast.SelectionView.{sel_before, sel_of, sels_of}
use Rattle.plan_ir.specs.gql_ast.Sels.{Sels}
use Rattle.plan_ir.specs.gql_ast.declared.directive.Directive.{Directive}
use Rattle.plan_ir.specs.gql_ast.declared.selection.Selection.{Selection}
use Rattle.plan_ir.specs.gql_ast.declared.selection.Selection.TheVariants as S
use Rattle.plan_ir.specs.gql_ast.declared.place.FilePlace.{FilePlace}
use Rattle.plan_ir.proofs.NodeLaws.{nodes_append_end, nodes_append_assoc}
use Rattle.plan_ir.specs.Nodes as nodes
use Rattle.plan_ir.specs.Nodes.{Nodes, nodes_append}
use Rattle.plan_ir.specs.Substitution.{Scope}
use Rattle.plan_ir.specs.schema_tables.Types.{Text, Defs}
use Rattle.plan_ir.specs.Projects.{Places}
use Rattle.plan_expand.specs.Making.{Find, Ready, enter_ready, entering, making, selections_count, spread_node}

-- what a spread becomes stands in front of what follows it
entering_rest : (k : ℕ) (defs : Defs) (find : Find) (scope : Scope) (h : FilePlace) (n : Text) (ds : List Directive) (rest : Nodes)
    → entering k defs find scope h n ds rest ≡ nodes_append (entering k defs find scope h n ds nodes.end) rest
entering_rest zero defs find scope h n ds rest = refl
entering_rest (suc k) defs find scope h n ds rest = on (find n) where
  on : (o : Option Ready) → enter_ready (entering k defs find) defs scope h o ds rest ≡ nodes_append (enter_ready (entering k defs find) defs scope h o ds nodes.end) rest
  on None = refl
  on (Some r) = refl

-- a selection, and those that follow it
making_before : (k : ℕ) (defs : Defs) (find : Find) (scope : Scope) (places : Places) (at : ℕ) (around : Option Text) (x : Selection) (t : Sels)
    → making k defs find scope places at around (sel_before x t)
    ≡ nodes_append (making k defs find scope places at around (sel_of x)) (making k defs find scope places (at + selections_count (sel_of x)) around t)
making_before k defs find scope places at around (S.Field a n xs ds s) t =
    let e : 1 + selections_count s ≡ 1 + selections_count s + 0 = omega arith in
    ap (λ (m : ℕ). nodes_append (making k defs find scope places at around (sel_of (S.Field a n xs ds s))) (making k defs find scope places (at + m) around t)) e
making_before k defs find scope places at around (S.Spread n ds) t = entering_rest k defs find scope _ n ds _
making_before k defs find scope places at around (S.Inline o ds s) t =
    let e : 1 + selections_count s ≡ 1 + selections_count s + 0 = omega arith in
    ap (λ (m : ℕ). nodes_append (making k defs find scope places at around (sel_of (S.Inline o ds s))) (making k defs find scope places (at + m) around t)) e

count_before : (x : Selection) (t : Sels) → selections_count (sel_before x t) ≡ selections_count (sel_of x) + selections_count t
count_before (S.Field a n xs ds s) t = omega arith
count_before (S.Spread n ds) t = omega arith
count_before (S.Inline o ds s) t = omega arith

-- one more selection of a set
pub make_next : (k : ℕ) (defs : Defs) (find : Find) (scope : Scope) (places : Places) (around : Option Text) (xs : List Selection) (i at at' : ℕ) (x : Selection) (old new whole : Nodes)
    → i < length xs → x ≡ get_or xs i x → new ≡ nodes_append old (making k defs find scope places at around (sel_of x)) → at' ≡ at + selections_count (sel_of x)
    → nodes_append old (making k defs find scope places at around (sels_of (drop i xs))) ≡ whole
    → nodes_append new (making k defs find scope places at' around (sels_of (drop (i + 1) xs))) ≡ whole
make_next k defs find scope places around xs i at at' x old new whole h is made passed w =
    let rest : Sels = sels_of (drop (i + 1) xs) in
    let same : drop i xs ≡ get_or xs i x ∷ drop (i + 1) xs = drop_more xs i x h in
    ap (λ (a : ℕ). nodes_append new (making k defs find scope places a around rest)) passed
    ∙ ap (λ (ns : Nodes). nodes_append ns (making k defs find scope places (at + selections_count (sel_of x)) around rest)) made
    ∙ nodes_append_assoc old (making k defs find scope places at around (sel_of x)) _
    ∙ sym (ap (nodes_append old) (making_before k defs find scope places at around x rest))
    ∙ ap (λ (y : Selection). nodes_append old (making k defs find scope places at around (sel_before y rest))) is
    ∙ sym (ap (λ (ys : List Selection). nodes_append old (making k defs find scope places at around (sels_of ys))) same) ∙ w

pub count_next : (xs : List Selection) (i at at' : ℕ) (x : Selection) (whole : ℕ) → i < length xs → x ≡ get_or xs i x → at' ≡ at + selections_count (sel_of x)
    → at + selections_count (sels_of (drop i xs)) ≡ whole → at' + selections_count (sels_of (drop (i + 1) xs)) ≡ whole
count_next xs i at at' x whole h is passed w =
    let same : selections_count (sels_of (drop i xs)) ≡ selections_count (sel_before (get_or xs i x) (sels_of (drop (i + 1) xs))) = ap (λ (ys : List Selection). selections_count (sels_of ys)) (drop_more xs i x h) in
    let here : selections_count (sel_before (get_or xs i x) (sels_of (drop (i + 1) xs))) ≡ selections_count (sel_before x (sels_of (drop (i + 1) xs))) = ap (λ (y : Selection). selections_count (sel_before y (sels_of (drop (i + 1) xs)))) (sym is) in
    omega (arith, passed, w, same, here, count_before x (sels_of (drop (i + 1) xs)))

-- all selections are made
pub make_end : (k : ℕ) (defs : Defs) (find : Find) (scope : Scope) (places : Places) (around : Option Text) (xs : List Selection) (i at : ℕ) (old whole : Nodes)
    → length xs ≤ i → nodes_append old (making k defs find scope places at around (sels_of (drop i xs))) ≡ whole → old ≡ whole
make_end k defs find scope places around xs i at old whole h w =
    sym (nodes_append_end old) ∙ sym (ap (λ (ys : List Selection). nodes_append old (making k defs find scope places at around (sels_of ys))) (drop_all i xs h)) ∙ w

pub count_end : (xs : List Selection) (i at whole : ℕ) → length xs ≤ i → at + selections_count (sels_of (drop i xs)) ≡ whole → at ≡ whole
count_end xs i at whole h w = omega (arith, w, ap (λ (ys : List Selection). selections_count (sels_of ys)) (drop_all i xs h))

-- ---- spreads

entering_none : (k : ℕ) (defs : Defs) (find : Find) (scope : Scope) (h : FilePlace) (n : Text) (ds : List Directive) → k ≡ 0 → entering k defs find scope h n ds nodes.end ≡ nodes.end
entering_none zero defs find scope h n ds e = refl
entering_none (suc k) defs find scope h n ds e = absurd (omega (arith, e))

entering_missing : (k : ℕ) (defs : Defs) (find : Find) (scope : Scope) (h : FilePlace) (n : Text) (ds : List Directive) → find n ≡ None → entering k defs find scope h n ds nodes.end ≡ nodes.end
entering_missing zero defs find scope h n ds e = refl
entering_missing (suc k) defs find scope h n ds e = ap (λ (o : Option Ready). enter_ready (entering k defs find) defs scope h o ds nodes.end) e

entering_found : (k : ℕ) (defs : Defs) (find : Find) (scope : Scope) (h : FilePlace) (n : Text) (ds : List Directive) (r : Ready) → 0 < k → find n ≡ Some r
    → spread_node (k - 1) defs find scope h r ds ≡ entering k defs find scope h n ds nodes.end
entering_found zero defs find scope h n ds r some e = absurd (omega (arith, some))
entering_found (suc k) defs find scope h n ds r some e =
    let less : suc k - 1 ≡ k = omega arith in
    ap (λ (j : ℕ). spread_node j defs find scope h r ds) less ∙ sym (ap (λ (o : Option Ready). enter_ready (entering k defs find) defs scope h o ds nodes.end) e)

-- no spread may be entered
pub put_none : (k : ℕ) (defs : Defs) (find : Find) (scope : Scope) (h : FilePlace) (n : Text) (ds : List Directive) (old : Nodes) → k ≡ 0 → old ≡ nodes_append old (entering k defs find scope h n ds nodes.end)
put_none k defs find scope h n ds old e = sym (nodes_append_end old) ∙ sym (ap (nodes_append old) (entering_none k defs find scope h n ds e))

-- there is no fragment of that name
pub put_missing : (k : ℕ) (defs : Defs) (find : Find) (scope : Scope) (h : FilePlace) (n : Text) (ds : List Directive) (old : Nodes) → find n ≡ None → old ≡ nodes_append old (entering k defs find scope h n ds nodes.end)
put_missing k defs find scope h n ds old e = sym (nodes_append_end old) ∙ sym (ap (nodes_append old) (entering_missing k defs find scope h n ds e))

-- the fragment is put
pub put_found : (k : ℕ) (defs : Defs) (find : Find) (scope : Scope) (h : FilePlace) (n : Text) (ds : List Directive) (r : Ready) (old new node : Nodes) → 0 < k → find n ≡ Some r
    → new ≡ nodes_append old node → node ≡ spread_node (k - 1) defs find scope h r ds → new ≡ nodes_append old (entering k defs find scope h n ds nodes.end)
put_found k defs find scope h n ds r old new node some e put made = put ∙ ap (nodes_append old) (made ∙ entering_found k defs find scope h n ds r some e)
