-- What the code measures is how large the expansion is.
use Rattle.std.proofs.Common.{◌≡◌, ℕ, zero, suc, ◌+◌, ◌≤◌, Bool, List, [], ◌++◌, map, Option, Some, None, option_map, refl, ap, sym, ◌∙◌, arith}
use Rattle.std.specs.Prelude.{is_some, max}
use Rattle.plan_ir.specs.gql_ast.Sels as sels
use Rattle.plan_ir.specs.gql_ast.Sels.{Sels}
use Rattle.plan_ir.specs.gql_ast.Value.{Val}
use Rattle.plan_ir.specs.gql_ast.declared.directive.Directive.{Directive}
use Rattle.plan_ir.specs.gql_graph.Rules.{each}
use Rattle.plan_ir.specs.Additions.{additions, type_or}
use Rattle.plan_ir.specs.Expansion.{Project, enter_with, expansion, expansion_with, gifts, gifts_inside, gifts_with, is_condition, is_printed, printed_conditions, printed_directives, selections_from}
use Rattle.plan_ir.specs.relay_marks.Connections.{connection_among}
use Rattle.plan_ir.specs.Nodes.{Nodes, nodes_append, set_depth}
use Rattle.plan_ir.specs.Sizes.{all_count, all_depth, arguments_count, arguments_depth, directives_count, directives_depth, nodes_count, nodes_value_depth}
use Rattle.plan_ir.specs.Substitution.{Scope, arguments_at_spread, arguments_in, scope_at_spread, substitute_in}
use Rattle.plan_ir.specs.schema_tables.Types.{Text, base_of}
use Rattle.plan_ir.specs.schema_trees.Located.{directives_nodes}
use Rattle.plan_ir.specs.schema_types.NameRules.{fragment_named}
use Rattle.plan_ir.specs.schema_types.Sites.{FragmentAt, arguments_nodes, below, condition_or, field_type, head_nodes, optional_name_nodes, selections_nodes}
use Rattle.plan_expand.proofs.ExtentLaws.{none_both}
use Rattle.plan_expand.proofs.NodeSizes.{Sized, all_count_append, all_depth_append, count_append, depth_append, sized_additions, value_depth_append}
use Rattle.plan_expand.proofs.ValueSizes.{AreSizes, arguments_is, directives_is, gifts_count, gifts_depth, pairs_size, printed_size, spread_is}
use Rattle.plan_expand.specs.AdditionSizes.{additions_size}
use Rattle.plan_expand.specs.Extents.{both}
use Rattle.plan_expand.specs.Making.{Find, Ready}
use Rattle.plan_expand.specs.Measuring.{Enter, Sizes, directives_size, enter_total, entering_total, ready_sizes, total, total_with}
use Rattle.plan_expand.specs.ReadyView.{HasFragments, ready_fragment}
use Rattle.plan_expand.specs.Sizes.{arguments_size}
use Rattle.plan_expand.specs.declared.extent.Extent.{Extent}
use Rattle.plan_expand.specs.declared.size.Size.{Size}

-- ---- levels

-- the deepest level of sets that nest so deep, the outermost of them on this level
abbrev pub on_level : (level depth : ℕ) → ℕ
on_level level zero = 0
on_level level (suc d) = level + d

on_level_is : (level d : ℕ) → 1 ≤ d → on_level level d + 1 ≡ level + d
on_level_is level zero h = absurd (omega (arith, h))
on_level_is level (suc d) h = omega arith

-- a node with `a` levels of added nodes beside `s` levels in its set, and `r` levels beside it
field_levels : (level a s r : ℕ) → max (max (level + a) (on_level (level + 1) s)) (on_level level r) ≡ on_level level (max (max s a + 1) r)
field_levels level a zero zero = let e : on_level level (max (max 0 a + 1) 0) + 1 ≡ level + max (max 0 a + 1) 0 = on_level_is level (max (max 0 a + 1) 0) (omega arith) in omega arith
field_levels level a zero (suc r) = let e : on_level level (max (max 0 a + 1) (suc r)) + 1 ≡ level + max (max 0 a + 1) (suc r) = on_level_is level (max (max 0 a + 1) (suc r)) (omega arith) in omega arith
field_levels level a (suc s) zero = let e : on_level level (max (max (suc s) a + 1) 0) + 1 ≡ level + max (max (suc s) a + 1) 0 = on_level_is level (max (max (suc s) a + 1) 0) (omega arith) in omega arith
field_levels level a (suc s) (suc r) =
    let e : on_level level (max (max (suc s) a + 1) (suc r)) + 1 ≡ level + max (max (suc s) a + 1) (suc r) = on_level_is level (max (max (suc s) a + 1) (suc r)) (omega arith) in omega arith

inline_levels : (level s r : ℕ) → max (max (level + 0) (on_level (level + 1) s)) (on_level level r) ≡ on_level level (max (s + 1) r)
inline_levels level s r = field_levels level 0 s r ∙ ap (λ (k : ℕ). on_level level (max (k + 1) r)) (none_more s) where
  none_more : (k : ℕ) → max k 0 ≡ k
  none_more k = omega arith

-- ---- depths of values

max_assoc : (a b c : ℕ) → max (max a b) c ≡ max a (max b c)
max_assoc a b c = omega arith

max_swap : (a b c d : ℕ) → max (max a b) (max c d) ≡ max (max a c) (max b d)
max_swap a b c d = omega arith

max_none : (a : ℕ) → max a 0 ≡ a
max_none a = omega arith

-- values of depth `v` at a node with `s` in its set and `r` beside it; what is given there and there has the depths `g` and `h`
inline_depths : (v s g r h : ℕ) → max (max v (max s g)) (max r h) ≡ max (max v (max s r)) (max g h)
inline_depths v s g r h = max_assoc v (max s g) (max r h) ∙ ap (max v) (max_swap s g r h) ∙ sym (max_assoc v (max s r) (max g h))

field_depths : (x d s g r h : ℕ) → max (max (max x d) (max s g)) (max r h) ≡ max (max x (max d (max s r))) (max g h)
field_depths x d s g r h = inline_depths (max x d) s g r h ∙ ap (λ (m : ℕ). max m (max g h)) (max_assoc x d (max s r))

-- ---- nodes on a level, and values that are given

abbrev pub extent_of : (level : ℕ) → Nodes → List Val → Extent
extent_of level ns gs = record { count = nodes_count ns + all_count gs; sets = on_level level (set_depth ns); values = max (nodes_value_depth ns) (all_depth gs) }

module _ (enter : Enter) (p : Project) (sizes : Sizes) (scope : Scope) (known : AreSizes sizes scope)
    (other : (from : ℕ) → Text → List Directive → Nodes → Nodes) (gift : Text → List Directive → List Val)
    (same : (from level : ℕ) (n : Text) (ds : List Directive) (rest : Nodes) (gs : List Val) → both (enter sizes level n ds) (extent_of level rest gs) ≡ extent_of level (other from n ds rest) (gift n ds ++ gs)) where
  measured : (s : Sels) (from level : ℕ) (around : Option Text) → total_with enter p.defs sizes level around s ≡ extent_of level (expansion_with other p scope from around s) (gifts_with gift s)
  measured sels.end from level around = refl
  measured (sels.field a n xs ds s rest) from level around =
      let inner : ℕ = from + head_nodes a + arguments_nodes xs + directives_nodes ds in
      let c : Bool = is_some (connection_among ds) in
      let base : Text = base_of (type_or (field_type p.defs around n)) in
      let inside : Nodes = expansion_with other p scope inner (below p.defs around n) s in
      let after : Nodes = expansion_with other p scope (inner + selections_nodes s) around rest in
      let added : Nodes = additions p.defs c base s (p.place from) in
      let size : Size = additions_size p.defs c base s in
      let ys : List (Text × Val) = substitute_in scope xs in
      let es : List Directive = printed_directives scope ds in
      let gs : List Val = gifts_with gift s in
      let hs : List Val = gifts_with gift rest in
      let args : arguments_size sizes xs ≡ pairs_size ys = arguments_is sizes scope known xs in
      let dirs : directives_size is_printed sizes ds ≡ printed_size es = directives_is is_printed sizes scope known ds in
      let h : Sized added size = sized_additions p.defs c base s (p.place from) in
      let one : total_with enter p.defs sizes (level + 1) (below p.defs around n) s ≡ extent_of (level + 1) inside gs = measured s inner (level + 1) (below p.defs around n) in
      let two : total_with enter p.defs sizes level around rest ≡ extent_of level after hs = measured rest (inner + selections_nodes s) level around in
      let count_is : (1 + ((arguments_count ys + directives_count es) + size.count)) + (nodes_count inside + all_count gs) + (nodes_count after + all_count hs)
      ≡ (1 + arguments_count ys + directives_count es + nodes_count (nodes_append inside added) + nodes_count after) + all_count (gs ++ hs) =
      omega (arith, count_append inside added, all_count_append gs hs, h.count) in
      let sets_is : max (max (level + size.depth) (on_level (level + 1) (set_depth inside))) (on_level level (set_depth after)) ≡ on_level level (max (set_depth (nodes_append inside added) + 1) (set_depth after)) =
      field_levels level size.depth (set_depth inside) (set_depth after)
      ∙ ap (λ (k : ℕ). on_level level (max (k + 1) (set_depth after))) (sym (depth_append inside added ∙ ap (max (set_depth inside)) h.depth)) in
      let flat : nodes_value_depth (nodes_append inside added) ≡ nodes_value_depth inside =
      value_depth_append inside added ∙ ap (max (nodes_value_depth inside)) h.flat ∙ max_none (nodes_value_depth inside) in
      let values_is : max (max (max (arguments_depth ys) (directives_depth es)) (max (nodes_value_depth inside) (all_depth gs))) (max (nodes_value_depth after) (all_depth hs))
      ≡ max (max (arguments_depth ys) (max (directives_depth es) (max (nodes_value_depth (nodes_append inside added)) (nodes_value_depth after)))) (all_depth (gs ++ hs)) =
      field_depths (arguments_depth ys) (directives_depth es) (nodes_value_depth inside) (all_depth gs) (nodes_value_depth after) (all_depth hs)
      ∙ (λ i. max (max (arguments_depth ys) (max (directives_depth es) (max (sym flat i) (nodes_value_depth after)))) (sym (all_depth_append gs hs) i)) in
      (λ i. both (both (record {
        count = 1 + (((args i).count + (dirs i).count) + size.count);
        sets = level + size.depth;
        values = max (args i).depth (dirs i).depth;
      }) (one i)) (two i))
      ∙ (λ i. record { count = count_is i; sets = sets_is i; values = values_is i })
  measured (sels.spread n ds rest) from level around =
      ap (both (enter sizes level n ds)) (measured rest (from + 2 + directives_nodes ds) level around)
      ∙ same from level n ds (expansion_with other p scope (from + 2 + directives_nodes ds) around rest) (gifts_with gift rest)
  measured (sels.inline o ds s rest) from level around =
      let inner : ℕ = from + 1 + optional_name_nodes o + directives_nodes ds in
      let inside : Nodes = expansion_with other p scope inner (condition_or around o) s in
      let after : Nodes = expansion_with other p scope (inner + selections_nodes s) around rest in
      let es : List Directive = printed_directives scope ds in
      let gs : List Val = gifts_with gift s in
      let hs : List Val = gifts_with gift rest in
      let dirs : directives_size is_printed sizes ds ≡ printed_size es = directives_is is_printed sizes scope known ds in
      let one : total_with enter p.defs sizes (level + 1) (condition_or around o) s ≡ extent_of (level + 1) inside gs = measured s inner (level + 1) (condition_or around o) in
      let two : total_with enter p.defs sizes level around rest ≡ extent_of level after hs = measured rest (inner + selections_nodes s) level around in
      let count_is : (1 + (directives_count es + 0)) + (nodes_count inside + all_count gs) + (nodes_count after + all_count hs) ≡ (1 + directives_count es + nodes_count inside + nodes_count after) + all_count (gs ++ hs) =
      omega (arith, all_count_append gs hs) in
      let sets_is : max (max (level + 0) (on_level (level + 1) (set_depth inside))) (on_level level (set_depth after)) ≡ on_level level (max (set_depth inside + 1) (set_depth after)) =
      inline_levels level (set_depth inside) (set_depth after) in
      let values_is : max (max (directives_depth es) (max (nodes_value_depth inside) (all_depth gs))) (max (nodes_value_depth after) (all_depth hs))
      ≡ max (max (directives_depth es) (max (nodes_value_depth inside) (nodes_value_depth after))) (all_depth (gs ++ hs)) =
      inline_depths (directives_depth es) (nodes_value_depth inside) (all_depth gs) (nodes_value_depth after) (all_depth hs)
      ∙ ap (max (max (directives_depth es) (max (nodes_value_depth inside) (nodes_value_depth after)))) (sym (all_depth_append gs hs)) in
      (λ i. both (both (record { count = 1 + ((dirs i).count + 0); sets = level + 0; values = (dirs i).depth }) (one i)) (two i))
      ∙ (λ i. record { count = count_is i; sets = sets_is i; values = values_is i })

-- ---- spreads

abbrev IsMeasured : Project → Find → (k : ℕ) → Type 0
IsMeasured p find k = (sizes : Sizes) (scope : Scope) → AreSizes sizes scope → (s : Sels) (from level : ℕ) (around : Option Text)
    → total k p.defs find sizes level around s ≡ extent_of level (expansion k p scope from around s) (gifts k p scope s)

module _ (p : Project) (find : Find) (k : ℕ) (fewer : IsMeasured p find k) (sizes : Sizes) (scope : Scope) (known : AreSizes sizes scope) where
  spread_measured : (from level : ℕ) (ds : List Directive) (rest : Nodes) (gs : List Val) (q : Option FragmentAt)
      → both (enter_total (total k p.defs find) sizes level (option_map (ready_fragment p.place) q) ds) (extent_of level rest gs)
      ≡ extent_of level (enter_with (λ f. expansion k p (scope_at_spread scope ds f) (selections_from f) (Some f.on.name) f.selections) p scope from q ds rest)
      (gifts_inside (λ f. gifts k p (scope_at_spread scope ds f) f.selections) scope q ds ++ gs)
  spread_measured from level ds rest gs None = none_both (extent_of level rest gs)
  spread_measured from level ds rest gs (Some f) =
      let inner : Scope = scope_at_spread scope ds f in
      let inside : Nodes = expansion k p inner (selections_from f) (Some f.on.name) f.selections in
      let es : List Directive = printed_conditions scope ds in
      let ys : List (Text × Val) = arguments_at_spread scope ds in
      let here : List Val = map (λ (x : Text × Val). x.1) ys in
      let hs : List Val = gifts k p inner f.selections in
      let args : arguments_size sizes (each arguments_in ds) ≡ pairs_size ys = arguments_is sizes scope known (each arguments_in ds) in
      let dirs : directives_size is_condition sizes ds ≡ printed_size es = directives_is is_condition sizes scope known ds in
      let one : total k p.defs find (ready_sizes sizes ds (ready_fragment p.place f)) (level + 1) (Some f.on.name) f.selections ≡ extent_of (level + 1) inside hs =
      fewer (ready_sizes sizes ds (ready_fragment p.place f)) inner (spread_is sizes scope known ds f) f.selections (selections_from f) (level + 1) (Some f.on.name) in
      let count_is : ((1 + ((directives_count es + arguments_count ys) + 0)) + (nodes_count inside + all_count hs)) + (nodes_count rest + all_count gs)
      ≡ (1 + directives_count es + nodes_count inside + nodes_count rest) + all_count ((here ++ hs) ++ gs) =
      omega (arith, all_count_append (here ++ hs) gs, all_count_append here hs, gifts_count ys) in
      let values_is : max (max (max (directives_depth es) (arguments_depth ys)) (max (nodes_value_depth inside) (all_depth hs))) (max (nodes_value_depth rest) (all_depth gs))
      ≡ max (max (directives_depth es) (max (nodes_value_depth inside) (nodes_value_depth rest))) (all_depth ((here ++ hs) ++ gs)) =
      omega (arith, all_depth_append (here ++ hs) gs, all_depth_append here hs, gifts_depth ys) in
      let sets_is : max (max (level + 0) (on_level (level + 1) (set_depth inside))) (on_level level (set_depth rest)) ≡ on_level level (max (set_depth inside + 1) (set_depth rest)) =
      inline_levels level (set_depth inside) (set_depth rest) in
      (λ i. both (both (record { count = 1 + (((dirs i).count + (args i).count) + 0); sets = level + 0; values = max (dirs i).depth (args i).depth }) (one i)) (extent_of level rest gs))
      ∙ (λ i. record { count = count_is i; sets = sets_is i; values = values_is i })

no_gifts : (s : Sels) → gifts_with (λ n ds. []) s ≡ []
no_gifts sels.end = refl
no_gifts (sels.field a n xs ds s rest) = λ i. no_gifts s i ++ no_gifts rest i
no_gifts (sels.spread n ds rest) = no_gifts rest
no_gifts (sels.inline o ds s rest) = λ i. no_gifts s i ++ no_gifts rest i

pub measured_is : (p : Project) (find : Find) → HasFragments p.place find p.fragments → (k : ℕ) → IsMeasured p find k
measured_is p find ready zero sizes scope known s from level around =
    measured (entering_total zero p.defs find) p sizes scope known (λ f n ds rest. rest) (λ n ds. []) (λ f l n ds rest gs. none_both (extent_of l rest gs)) s from level around
    ∙ ap (extent_of level (expansion zero p scope from around s)) (no_gifts s)
measured_is p find ready (suc k) sizes scope known s from level around =
    measured (entering_total (suc k) p.defs find) p sizes scope known
    (λ f n ds rest. enter_with (λ g. expansion k p (scope_at_spread scope ds g) (selections_from g) (Some g.on.name) g.selections) p scope f (fragment_named p.fragments n) ds rest)
    (λ n ds. gifts_inside (λ g. gifts k p (scope_at_spread scope ds g) g.selections) scope (fragment_named p.fragments n) ds)
    (λ f l n ds rest gs.
    ap (λ (o : Option Ready). both (enter_total (total k p.defs find) sizes l o ds) (extent_of l rest gs)) (ready n)
    ∙ spread_measured p find k (measured_is p find ready k) sizes scope known f l ds rest gs (fragment_named p.fragments n))
    s from level around
