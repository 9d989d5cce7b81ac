-- Loops: what is done so far, and what is left.
use Rattle.std.proofs.Common.{◌≡◌, ℕ, zero, suc, ◌+◌, ◌<◌, ◌≤◌, Bool, true, false, true≢false, IsTrue, cond, ◌&&◌, List, [], ◌∷◌, ◌++◌, drop, take, set, length, get_or, map, Option, Some, None, bytes_eq, refl, ap, sym, subst, ◌∙◌, append_assoc, arith}
use Rattle.std.proofs.lemmas.List.{append-nil, drop_all, drop_more}
use Rattle.std.proofs.lemmas.List.Kept.{IsStrictlySortedBy-filter}
use Rattle.std.specs.Cmp.Lexicographic.{slice_cmp}
use Rattle.std.specs.List.{filter, filter_map}
use Rattle.std.specs.Ordering.{nat_cmp}
use Rattle.std.specs.Prelude.{◌↔◌, codes, option_map}
use Rattle.plan_ir.specs.gql_ast.Value.{Val}
use Rattle.plan_ir.specs.gql_ast.ValueView.{argument_of, value_of}
use Rattle.plan_ir.specs.gql_ast.declared.directive.Directive.{Directive}
use Rattle.plan_ir.specs.gql_ast.declared.place.FilePlace.{FilePlace}
use Rattle.plan_ir.specs.gql_ast.declared.type_tree.TypeTree.{TypeTree}
use Rattle.plan_ir.specs.gql_ast.declared.value.Argument.{Argument}
use Rattle.plan_ir.proofs.gql_plain_laws.SortedTexts.{AreInOrder-sorted_texts}
use Rattle.plan_ir.specs.gql_plain.Order.{AreInOrder}
use Rattle.plan_ir.specs.gql_plain.declared.ids.Conn.{Conn}
use Rattle.plan_ir.proofs.NormalLaws.{normal_append_assoc, normal_append_done}
use Rattle.plan_ir.specs.Nodes.{Nodes, set_depth}
use Rattle.plan_ir.specs.NodesView.{node_before, node_of, nodes_of}
use Rattle.plan_ir.specs.NormalLeads.{lead_of}
use Rattle.plan_ir.specs.Normal.{Normal, done, guarded, normal_append, typename}
use Rattle.plan_ir.specs.declared.guard.Condition.{Condition}
use Rattle.plan_ir.specs.declared.guard.Guard.{Guard}
use Rattle.plan_ir.specs.declared.node.Node.{Node}
use Rattle.plan_ir.specs.declared.node.Node.TheVariants as N
use Rattle.plan_ir.proofs.schema_tables_laws.Finding.{first_at-next}
use Rattle.plan_ir.specs.schema_tables.Places.{first_at, first_place}
use Rattle.plan_ir.specs.gql_ast.TypeView.{ty_of}
use Rattle.plan_ir.specs.schema_tables.Types.{Text, Defs, applies, base_of, has_id, is_composite, object_name, possible}
use Rattle.plan_build.specs.Classes.{Class, Target, all_lead_to, classes_of, one_target, same_target, sorted_class, target_on, with_object, with_type, with_types}
use Rattle.plan_build.specs.ClassView.{class_view, group_view, target_view}
use Rattle.plan_build.specs.Conditions.{conditions_of, last_if}
use Rattle.plan_build.specs.Steps.{FieldNode, are_within, behind, class_steps, field_steps, guarded_classes, inline_steps, is_one, leaf_step, object_step, on_steps, steps_of, target_step, types_at}
use Rattle.plan_build.specs.declared.classes.Class as code
use Rattle.plan_build.specs.declared.classes.Group.{Group}

-- ---- lists

pub list_next : {X Y : Type 0} (f : List X → List Y) (one : X → List Y) → ((x : X) (xs : List X) → f (x ∷ xs) ≡ one x ++ f xs)
    → (xs : List X) (i : ℕ) (x : X) (old new whole : List Y) → i < length xs → x ≡ get_or xs i x → new ≡ old ++ one x
    → old ++ f (drop i xs) ≡ whole → new ++ f (drop (i + 1) xs) ≡ whole
list_next {X = X} {Y = Y} f one law xs i x old new whole h is put w =
    let rest : List Y = f (drop (i + 1) xs) in
    ap (λ (l : List Y). l ++ rest) put ∙ append_assoc old (one x) rest
    ∙ ap (λ (y : X). old ++ (one y ++ rest)) is
    ∙ sym (ap (λ (l : List Y). old ++ l) (ap f (drop_more xs i x h) ∙ law (get_or xs i x) (drop (i + 1) xs))) ∙ w

pub list_end : {X Y : Type 0} (f : List X → List Y) → f [] ≡ [] → (xs : List X) (i : ℕ) (old whole : List Y) → length xs ≤ i → old ++ f (drop i xs) ≡ whole → old ≡ whole
list_end {X = X} {Y = Y} f none xs i old whole h w = sym (append-nil old) ∙ sym (ap (λ (l : List Y). old ++ l) (ap f (drop_all i xs h) ∙ none)) ∙ w

pub filter_before : {X : Type 0} (p : X → Bool) (x : X) (xs : List X) → filter p (x ∷ xs) ≡ filter p (x ∷ []) ++ filter p xs
filter_before p x xs = on (p x) where
  on : (b : Bool) → cond b (x ∷ filter p xs) (filter p xs) ≡ cond b (x ∷ []) [] ++ filter p xs
  on true = refl
  on false = refl

-- the types that have an id are in byte order, as all are
pub identified_in_order : (defs : Defs) (t : Text) (names : List Text) → names ≡ filter (has_id defs) (possible defs t) → AreInOrder names
identified_in_order defs t names e =
    subst AreInOrder (sym e)
    (IsStrictlySortedBy-filter (slice_cmp nat_cmp) (has_id defs) (possible defs t) (AreInOrder-sorted_texts (filter (λ object. applies defs object t) (filter_map object_name defs))))

-- ---- the last argument `if`

pub last_next : (xs : List Argument) (i : ℕ) (x : Argument) (old new whole : Val) → i < length xs → x ≡ get_or xs i x → new ≡ cond (bytes_eq x.name (codes "if")) (value_of x.value) old
    → last_if old (map argument_of (drop i xs)) ≡ whole → last_if new (map argument_of (drop (i + 1) xs)) ≡ whole
last_next xs i x old new whole h is put w =
    let rest : List (Text × Val) = map argument_of (drop (i + 1) xs) in
    ap (λ (v : Val). last_if v rest) put
    ∙ ap (λ (y : Argument). last_if (cond (bytes_eq y.name (codes "if")) (value_of y.value) old) rest) is
    ∙ sym (ap (λ (ys : List Argument). last_if old (map argument_of ys)) (drop_more xs i x h)) ∙ w

pub last_end : (xs : List Argument) (i : ℕ) (old whole : Val) → length xs ≤ i → last_if old (map argument_of (drop i xs)) ≡ whole → old ≡ whole
last_end xs i old whole h w = sym (ap (λ (ys : List Argument). last_if old (map argument_of ys)) (drop_all i xs h)) ∙ w

-- ---- groups

abbrev pub leads_to : Defs → Target → Group → Bool
leads_to defs t g = same_target defs (target_view g.target) t

-- the first so far that passes
pub first_here : {X : Type 0} (p : X → Bool) (xs : List X) (i : ℕ) (x : X) → i < length xs → x ≡ get_or xs i x → first_at p (take i xs) ≡ None → p x ≡ true → first_at p xs ≡ Some i
first_here p [] i x h is none e = absurd (omega arith)
first_here p (y ∷ ys) zero x h is none e = ap (λ b. cond b (Some 0) (option_map suc (first_at p ys))) (sym (ap p is) ∙ e)
first_here p (y ∷ ys) (suc i) x h is none e = on (λ k. first_here p ys i x (omega arith) is k e) (p y) none where
  none_of : (o : Option ℕ) → option_map suc o ≡ None → o ≡ None
  none_of None k = refl
  none_of (Some m) k = cc

  on : (first_at p (take i ys) ≡ None → first_at p ys ≡ Some i) → (b : Bool) → cond b (Some 0) (option_map suc (first_at p (take i ys))) ≡ None
      → cond b (Some 0) (option_map suc (first_at p ys)) ≡ Some (suc i)
  on later true k = cc
  on later false k = ap (option_map suc) (later (none_of (first_at p (take i ys)) k))

pub first_later : {X : Type 0} (p : X → Bool) (xs : List X) (i : ℕ) (x : X) → i < length xs → x ≡ get_or xs i x → first_at p (take i xs) ≡ None → p x ≡ false → first_at p (take (i + 1) xs) ≡ None
first_later p xs i x h is none e = sym (first_at-next p xs i x h is) ∙ (λ k. first_place (none k) (e k) i)

pub with_here : (defs : Defs) (gs : List Group) (t : Target) (T : Text) (at : ℕ) (x new : Group) → first_at (leads_to defs t) gs ≡ Some at → x ≡ get_or gs at x
    → group_view new ≡ with_object (group_view x) T → map group_view (set gs at new) ≡ with_type defs (map group_view gs) t T
with_here defs [] t T at x new e is n = absurd cc
with_here defs (g ∷ gs) t T at x new e is n = on (λ k f i. with_here defs gs t T k x new f i n) (leads_to defs t g) refl (first_at (leads_to defs t) gs) refl at e is where
  on : ((k : ℕ) → first_at (leads_to defs t) gs ≡ Some k → x ≡ get_or gs k x → map group_view (set gs k new) ≡ with_type defs (map group_view gs) t T)
      → (b : Bool) → leads_to defs t g ≡ b → (o : Option ℕ) → first_at (leads_to defs t) gs ≡ o → (m : ℕ) → cond b (Some 0) (option_map suc o) ≡ Some m → x ≡ get_or (g ∷ gs) m x
      → map group_view (set (g ∷ gs) m new) ≡ cond b (with_object (group_view g) T ∷ map group_view gs) (group_view g ∷ with_type defs (map group_view gs) t T)
  on later true f o q zero h i = ap (λ (c : Class). c ∷ map group_view gs) (n ∙ ap (λ (y : Group). with_object (group_view y) T) i)
  on later true f o q (suc m) h i = absurd cc
  on later false f None q m h i = absurd cc
  on later false f (Some k) q zero h i = absurd cc
  on later false f (Some k) q (suc m) h i =
      let same : k ≡ m = cc h in
      ap (λ (cs : List Class). group_view g ∷ cs) (later m (q ∙ ap Some same) i)

pub with_none : (defs : Defs) (gs : List Group) (t : Target) (T : Text) → first_at (leads_to defs t) gs ≡ None
    → map group_view gs ++ record { target = t; types = T ∷ [] } ∷ [] ≡ with_type defs (map group_view gs) t T
with_none defs [] t T e = refl
with_none defs (g ∷ gs) t T e = on (λ k. with_none defs gs t T k) (leads_to defs t g) e where
  none_of : (o : Option ℕ) → option_map suc o ≡ None → o ≡ None
  none_of None k = refl
  none_of (Some m) k = cc

  on : (first_at (leads_to defs t) gs ≡ None → map group_view gs ++ record { target = t; types = T ∷ [] } ∷ [] ≡ with_type defs (map group_view gs) t T)
      → (b : Bool) → cond b (Some 0) (option_map suc (first_at (leads_to defs t) gs)) ≡ None
      → group_view g ∷ (map group_view gs ++ record { target = t; types = T ∷ [] } ∷ []) ≡ cond b (with_object (group_view g) T ∷ map group_view gs) (group_view g ∷ with_type defs (map group_view gs) t T)
  on later true k = cc
  on later false k = ap (λ (cs : List Class). group_view g ∷ cs) (later (none_of (first_at (leads_to defs t) gs) k))

-- ---- steps

behind_is : (conditions : List Condition) (child : Normal) (b : Bool) → IsTrue b ↔ (conditions ≡ []) → b ≡ false → guarded (record { types = None; conditions = conditions }) child done ≡ behind None conditions child
behind_is [] child b h e = absurd (true≢false (sym (h.1 refl) ∙ e))
behind_is (c ∷ cs) child b h e = refl

-- steps behind conditions, or without any
pub put_behind : (old new child : Normal) (conditions own : List Condition) (b : Bool) → IsTrue b ↔ (conditions ≡ []) → b ≡ false → conditions ≡ own
    → new ≡ normal_append old (guarded (record { types = None; conditions = conditions }) child done) → new ≡ normal_append old (behind None own child)
put_behind old new child conditions own b h e is put =
    put ∙ ap (normal_append old) (behind_is conditions child b h e) ∙ ap (λ (cs : List Condition). normal_append old (behind None cs child)) is

pub put_bare : (old new child : Normal) (conditions own : List Condition) (b : Bool) → IsTrue b ↔ (conditions ≡ []) → b ≡ true → conditions ≡ own
    → new ≡ normal_append old child → new ≡ normal_append old (behind None own child)
put_bare old new child conditions own b h e is put =
    put ∙ sym (ap (λ (cs : List Condition). normal_append old (behind None cs child)) (h.0 e)) ∙ ap (λ (cs : List Condition). normal_append old (behind None cs child)) is

steps_before : (defs : Defs) (ts : List Text) (x : Node) (t : Nodes) → steps_of defs ts (node_before x t) ≡ normal_append (steps_of defs ts (node_of x)) (steps_of defs ts t)
steps_before defs ts (N.Field r n xs ds c of s p) t = ap (λ (a : Normal). normal_append a (steps_of defs ts t)) (sym (normal_append_done _))
steps_before defs ts (N.Inline o ds s p) t = ap (λ (a : Normal). normal_append a (steps_of defs ts t)) (sym (normal_append_done _))

pub steps_next : (defs : Defs) (ts : List Text) (xs : List Node) (i : ℕ) (x : Node) (old new whole : Normal) → i < length xs → x ≡ get_or xs i x
    → new ≡ normal_append old (steps_of defs ts (node_of x)) → normal_append old (steps_of defs ts (nodes_of (drop i xs))) ≡ whole
    → normal_append new (steps_of defs ts (nodes_of (drop (i + 1) xs))) ≡ whole
steps_next defs ts xs i x old new whole h is put w =
    let rest : Nodes = nodes_of (drop (i + 1) xs) in
    ap (λ (a : Normal). normal_append a (steps_of defs ts rest)) put
    ∙ normal_append_assoc old (steps_of defs ts (node_of x)) (steps_of defs ts rest)
    ∙ sym (ap (normal_append old) (steps_before defs ts x rest))
    ∙ ap (λ (y : Node). normal_append old (steps_of defs ts (node_before y rest))) is
    ∙ sym (ap (λ (ys : List Node). normal_append old (steps_of defs ts (nodes_of ys))) (drop_more xs i x h)) ∙ w

pub steps_end : (defs : Defs) (ts : List Text) (xs : List Node) (i : ℕ) (old whole : Normal) → length xs ≤ i → normal_append old (steps_of defs ts (nodes_of (drop i xs))) ≡ whole → old ≡ whole
steps_end defs ts xs i old whole h w =
    sym (normal_append_done old) ∙ sym (ap (λ (ys : List Node). normal_append old (steps_of defs ts (nodes_of ys))) (drop_all i xs h)) ∙ w

-- ---- steps of classes

classes_before : (step : Target → Normal) (c : Class) (cs : List Class) → guarded_classes step (c ∷ cs) ≡ normal_append (guarded_classes step (c ∷ [])) (guarded_classes step cs)
classes_before step c cs = refl

pub classes_next : (step : Target → Normal) (xs : List code.Class) (i : ℕ) (x : code.Class) (old new whole : Normal) → i < length xs → x ≡ get_or xs i x
    → new ≡ normal_append old (guarded_classes step (class_view x ∷ [])) → normal_append old (guarded_classes step (map class_view (drop i xs))) ≡ whole
    → normal_append new (guarded_classes step (map class_view (drop (i + 1) xs))) ≡ whole
classes_next step xs i x old new whole h is put w =
    let rest : Normal = guarded_classes step (map class_view (drop (i + 1) xs)) in
    ap (λ (a : Normal). normal_append a rest) put
    ∙ normal_append_assoc old (guarded_classes step (class_view x ∷ [])) rest
    ∙ ap (λ (y : code.Class). normal_append old (guarded_classes step (class_view y ∷ map class_view (drop (i + 1) xs)))) is
    ∙ sym (ap (λ (ys : List code.Class). normal_append old (guarded_classes step (map class_view ys))) (drop_more xs i x h)) ∙ w

pub classes_end : (step : Target → Normal) (xs : List code.Class) (i : ℕ) (old whole : Normal) → length xs ≤ i → normal_append old (guarded_classes step (map class_view (drop i xs))) ≡ whole → old ≡ whole
classes_end step xs i old whole h w =
    sym (normal_append_done old) ∙ sym (ap (λ (ys : List code.Class). normal_append old (guarded_classes step (map class_view ys))) (drop_all i xs h)) ∙ w

-- the step of a class whose target is of objects leads to what stands below the field
pub class_lead : (defs : Defs) (f : FieldNode) (child : Normal) (t : Target) (inside step : Normal) (g : Guard) → inside ≡ target_step defs f child t → step ≡ guarded g inside done
    → is_composite defs t.base ≡ true → lead_of step ≡ Some child
class_lead defs f child t inside step g put is composite =
    ap lead_of is ∙ ap lead_of put ∙ ap (λ (b : Bool). lead_of (cond b (object_step defs f t child) (leaf_step f))) composite

-- classes that are not one alone
pub many_classes : (step : Target → Normal) (xs : List code.Class) → (length xs ≡ 1 → ⊥) → class_steps step (map class_view xs) ≡ guarded_classes step (map class_view xs)
many_classes step [] h = refl
many_classes step (x ∷ []) h = absurd (h refl)
many_classes step (x ∷ y ∷ xs) h = refl

-- where all types lead to one target there is one class
abbrev LeavesOne : Defs → Text → Target → List Text → List Text → Type 0
LeavesOne defs n t us ts = (vs : List Text) × (with_types defs n (record { target = t; types = us } ∷ []) ts ≡ record { target = t; types = vs } ∷ [])

one_class_left : (defs : Defs) (n : Text) (t : Target) (us ts : List Text) → all_lead_to defs n t ts ≡ true
    → LeavesOne defs n t us ts
one_class_left defs n t us [] e = (us, refl)
one_class_left defs n t us (T ∷ ts) e = on (same_target defs t (target_on defs T n)) refl e (λ h. one_class_left defs n t (us ++ T ∷ []) ts h) where
  on : (b : Bool) → same_target defs t (target_on defs T n) ≡ b → (b && all_lead_to defs n t ts) ≡ true → (all_lead_to defs n t ts ≡ true → LeavesOne defs n t (us ++ T ∷ []) ts)
      → LeavesOne defs n t us (T ∷ ts)
  on true f h later =
      let rest = later h in
      (rest.0, ap (λ (b : Bool). with_types defs n (cond b (record { target = t; types = us ++ T ∷ [] } ∷ []) (record { target = t; types = us } ∷ record { target = target_on defs T n; types = T ∷ [] } ∷ [])) ts) f ∙ rest.1)
  on false f h later = absurd (true≢false (sym h))

pub one_target_steps : (defs : Defs) (n : Text) (step : Target → Normal) (ts : List Text) (t : Target) → one_target defs n ts ≡ Some t → class_steps step (classes_of defs n ts) ≡ step t
one_target_steps defs n step [] t e = absurd cc
one_target_steps defs n step (T ∷ ts) t e = on (all_lead_to defs n (target_on defs T n) ts) refl e where
  on : (b : Bool) → all_lead_to defs n (target_on defs T n) ts ≡ b → cond b (Some (target_on defs T n)) None ≡ Some t → class_steps step (classes_of defs n (T ∷ ts)) ≡ step t
  on true f h =
      let one = one_class_left defs n (target_on defs T n) (T ∷ []) ts f in
      let same : target_on defs T n ≡ t = cc h in
      ap (λ (cs : List Class). class_steps step (map sorted_class cs)) one.1 ∙ ap step same
  on false f h = absurd cc

-- ---- a node

pub put_field_node : (defs : Defs) (ts : List Text) (x : Node) (r n : Text) (xs : List (Text × Val)) (ds : List Directive) (c : Option Conn) (of : TypeTree) (s : Nodes) (p : FilePlace) (old new : Normal)
    → x ≡ N.Field r n xs ds c of s p
    → new ≡ normal_append old (behind None (conditions_of ds) (field_steps defs ts (record { response = r; name = n; arguments = xs; connection = c }) (steps_of defs (types_at defs (base_of (ty_of of))) s)))
    → new ≡ normal_append old (steps_of defs ts (node_of x))
put_field_node defs ts x r n xs ds c of s p old new is put =
    put ∙ sym (ap (λ (y : Node). normal_append old (steps_of defs ts (node_of y))) is ∙ ap (normal_append old) (normal_append_done _))

pub put_inline_node : (defs : Defs) (ts : List Text) (x : Node) (o : Option Text) (ds : List Directive) (s : Nodes) (p : FilePlace) (old new : Normal) → x ≡ N.Inline o ds s p
    → new ≡ normal_append old (inline_steps defs ts o (conditions_of ds) (λ us. steps_of defs us s)) → new ≡ normal_append old (steps_of defs ts (node_of x))
put_inline_node defs ts x o ds s p old new is put =
    put ∙ sym (ap (λ (y : Node). normal_append old (steps_of defs ts (node_of y))) is ∙ ap (normal_append old) (normal_append_done _))

pub put_one_target : (defs : Defs) (ts : List Text) (f : FieldNode) (below : Normal) (old new : Normal) (t : Target) → bytes_eq f.name (codes "__typename") ≡ false
    → one_target defs f.name ts ≡ Some t → new ≡ normal_append old (target_step defs f below t) → new ≡ normal_append old (field_steps defs ts f below)
put_one_target defs ts f below old new t own one put =
    put
    ∙ sym (ap (λ (b : Bool). normal_append old (cond b (typename f.response done) (class_steps (target_step defs f below) (classes_of defs f.name ts)))) own
    ∙ ap (normal_append old) (one_target_steps defs f.name (target_step defs f below) ts t one))

-- ---- depths

before_deep : (x : Node) (t : Nodes) → set_depth (node_of x) ≤ set_depth (node_before x t)
before_deep (N.Field r n xs ds c of s p) t = omega arith
before_deep (N.Inline o ds s p) t = omega arith

rest_deep : (x : Node) (t : Nodes) → set_depth t ≤ set_depth (node_before x t)
rest_deep (N.Field r n xs ds c of s p) t = omega arith
rest_deep (N.Inline o ds s p) t = omega arith

node_deep : (xs : List Node) (i : ℕ) (d : Node) → i < length xs → set_depth (node_of (get_or xs i d)) ≤ set_depth (nodes_of xs)
node_deep [] i d h = absurd (omega arith)
node_deep (x ∷ xs) zero d h = before_deep x (nodes_of xs)
node_deep (x ∷ xs) (suc i) d h =
    let e : set_depth (node_of (get_or xs i d)) ≤ set_depth (nodes_of xs) = node_deep xs i d (omega arith) in
    omega (arith, e, rest_deep x (nodes_of xs))

-- a node is at most as deep as the set that it stands in
pub node_below : (xs : List Node) (whole : Nodes) (i : ℕ) (x : Node) → i < length xs → x ≡ get_or xs i x → nodes_of xs ≡ whole → set_depth (node_of x) ≤ set_depth whole
node_below xs whole i x h is e =
    let held : set_depth (node_of (get_or xs i x)) ≤ set_depth (nodes_of xs) = node_deep xs i x h in
    omega (arith, held, ap (λ (y : Node). set_depth (node_of y)) is, ap set_depth e)

-- ---- inline fragments of which nothing is taken

pub put_no_type : (defs : Defs) (ts : List Text) (o : Text) (cs : List Condition) (below : List Text → Normal) (old : Normal) → is_composite defs o ≡ false
    → old ≡ normal_append old (inline_steps defs ts (Some o) cs below)
put_no_type defs ts o cs below old e = sym (ap (λ (b : Bool). normal_append old (cond b (on_steps defs ts o cs below) done)) e ∙ normal_append_done old)

on_composite : (defs : Defs) (ts : List Text) (o : Text) (cs : List Condition) (below : List Text → Normal) (old : Normal) → is_composite defs o ≡ true
    → normal_append old (inline_steps defs ts (Some o) cs below) ≡ normal_append old (on_steps defs ts o cs below)
on_composite defs ts o cs below old e = ap (λ (b : Bool). normal_append old (cond b (on_steps defs ts o cs below) done)) e

pub put_no_object : (defs : Defs) (ts : List Text) (o : Text) (cs : List Condition) (below : List Text → Normal) (old : Normal) → is_composite defs o ≡ true
    → are_within (possible defs o) ts ≡ false → is_one ts ≡ true → old ≡ normal_append old (inline_steps defs ts (Some o) cs below)
put_no_object defs ts o cs below old composite within one = sym (
    on_composite defs ts o cs below old composite
    ∙ (λ i. normal_append old (cond (within i) (behind None cs (below ts)) (cond (one i) done (behind (Some (possible defs o)) cs (below (possible defs o))))))
    ∙ normal_append_done old)

-- all types around are of the fragment's type
pub put_all_within : (defs : Defs) (ts : List Text) (o : Text) (cs : List Condition) (below : List Text → Normal) (old new : Normal) → is_composite defs o ≡ true
    → are_within (possible defs o) ts ≡ true → new ≡ normal_append old (behind None cs (below ts)) → new ≡ normal_append old (inline_steps defs ts (Some o) cs below)
put_all_within defs ts o cs below old new composite within put =
    put
    ∙ sym (on_composite defs ts o cs below old composite
    ∙ ap (λ (b : Bool). normal_append old (cond b (behind None cs (below ts)) (cond (is_one ts) done (behind (Some (possible defs o)) cs (below (possible defs o)))))) within)

-- some may be, behind a guard
pub put_some_within : (defs : Defs) (ts : List Text) (o : Text) (cs : List Condition) (below : List Text → Normal) (old new : Normal) → is_composite defs o ≡ true
    → are_within (possible defs o) ts ≡ false → is_one ts ≡ false → new ≡ normal_append old (behind (Some (possible defs o)) cs (below (possible defs o)))
    → new ≡ normal_append old (inline_steps defs ts (Some o) cs below)
put_some_within defs ts o cs below old new composite within one put =
    put
    ∙ sym (on_composite defs ts o cs below old composite
    ∙ (λ i. normal_append old (cond (within i) (behind None cs (below ts)) (cond (one i) done (behind (Some (possible defs o)) cs (below (possible defs o)))))))
