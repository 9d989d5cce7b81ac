-- How many records a walk by steps, by nodes and by selections stands at one below another.
use Rattle.std.proofs.Common.{◌≡◌, ℕ, zero, suc, ◌+◌, ◌≤◌, Bool, true, false, cond, List, [], ◌∷◌, Option, Some, None, inl, inr, max, refl, arith}
use Rattle.plan_ir.specs.gql_ast.Sels as sels
use Rattle.plan_ir.specs.gql_ast.Sels.{Sels}
use Rattle.plan_ir.specs.gql_ast.declared.directive.Directive.{Directive}
use Rattle.plan_build.proofs.ReachDepths.{ItemWithin, walk_enough}
use Rattle.plan_build.specs.NodesMeaning.{Set, ask_of_node, collect_nodes, collect_nodes_in}
use Rattle.plan_ir.specs.Nodes as nodes
use Rattle.plan_ir.specs.Nodes.{Nodes, set_depth}
use Rattle.plan_ir.specs.Normal as n
use Rattle.plan_ir.specs.Normal.{Normal}
use Rattle.plan_ir.specs.NormalMeaning.{Plan, collect_plan, collect_steps, guard_passes}
use Rattle.plan_ir.specs.NormalReach.{plan_reaches, records_below}
use Rattle.relay_model.proofs.plan_collect_laws.WholeForm.{Around, fragment_selections, items_at_spread, items_of_spread, setting}
use Rattle.relay_model.specs.plan_collect.Collecting.{applies, environment_inside, is_left_out}
use Rattle.relay_model.specs.Collection.{Part, ask_of, collect, collect_in, collect_with, selections_of}
use Rattle.relay_model.specs.Reaches.{part_reaches, whole_depth}
use Rattle.relay_model.specs.Readings.{depth_inside, depth_with}
use Rattle.plan_ir.specs.schema_tables.Types.{Text, Defs}
use Rattle.plan_ir.specs.schema_types.Environments.{Values}
use Rattle.plan_ir.specs.schema_types.NameRules.{fragment_named}
use Rattle.plan_ir.specs.schema_types.Sites.{FragmentAt}
use Rattle.plan_ir.proofs.store_model_laws.Least.{Each, each_append}
use Rattle.plan_ir.specs.store_model.Items.{Item, asked}
use Rattle.plan_ir.specs.store_model.Reaches.{reach_at}
use Rattle.plan_ir.specs.store_model.Walks.{Slots, type_of_record}

-- ---- numbers

pub left_below : (a b n : ℕ) → max a b ≤ n → a ≤ n
left_below a b n le = omega arith

pub right_below : (a b n : ℕ) → max a b ≤ n → b ≤ n
right_below a b n le = omega arith

pub less_below : (a k : ℕ) → a + 1 ≤ k → a ≤ k
less_below a k le = omega arith

pub as_deep : (a b k : ℕ) → a ≡ b → b + 1 ≤ k → a + 1 ≤ k
as_deep a b k e le = omega arith

-- ---- what one condition lets through

each_where : {X : Type 0} (P : X → Type 0) (b : Bool) (xs : List X) → Each P xs → Each P (cond b xs [])
each_where P true xs h = h
each_where P false xs h = tt

each_unless : {X : Type 0} (P : X → Type 0) (b : Bool) (xs : List X) → Each P xs → Each P (cond b [] xs)
each_unless P true xs h = tt
each_unless P false xs h = h

-- ---- steps

abbrev steps_below : Plan → ℕ
steps_below p = records_below p.steps

steps_within : (k : ℕ) (T : Text) (env : Values) (s : Normal) → records_below s ≤ k → Each (ItemWithin steps_below k) (collect_steps env T s)
steps_within k T env n.done le = tt
steps_within k T env (n.typename r rest) le = (inr (refl, refl), steps_within k T env rest le)
steps_within k T env (n.leaf r name xs rest) le = (inr (refl, refl), steps_within k T env rest le)
steps_within k T env (n.object r name xs m ts is o c child rest) le =
    (inl (left_below (records_below child + 1) (records_below rest) k le), steps_within k T env rest (right_below (records_below child + 1) (records_below rest) k le))
steps_within k T env (n.guarded g child rest) le =
    each_append (ItemWithin steps_below k) (cond (guard_passes env T g) (collect_steps env T child) []) (collect_steps env T rest)
    (each_where (ItemWithin steps_below k) (guard_passes env T g) (collect_steps env T child) (steps_within k T env child (left_below (records_below child) (records_below rest) k le)))
    (steps_within k T env rest (right_below (records_below child) (records_below rest) k le))

-- a plan reaches the same under every number that is more than the records that it stands at
pub plan_enough : (typed : Text → Text) (m : Slots) (depth : ℕ) (types : List Text) (env : Values) (steps : Normal) (id : Text) → records_below steps + 1 ≤ depth
    → reach_at collect_plan typed m depth types (record { environment = env; steps = steps } ∷ []) id ≡ plan_reaches typed m env steps types id
plan_enough typed m depth types env steps id le =
    walk_enough steps_below collect_plan (λ k T p short. steps_within k T p.environment p.steps short) typed m depth types (record { environment = env; steps = steps }) id le

-- ---- nodes

abbrev nodes_below : Set → ℕ
nodes_below f = set_depth f.nodes

nodes_within : (defs : Defs) (k : ℕ) (T : Text) (env : Values) (s : Nodes) → set_depth s ≤ k → Each (ItemWithin nodes_below k) (collect_nodes_in defs T env s)
nodes_within defs k T env nodes.end le = tt
nodes_within defs k T env (nodes.field r name xs ds c of s p rest) le =
    let own : List (Item Set) = asked (record { ask = ask_of_node defs T env r name xs c; part = record { environment = env; nodes = s } }) ∷ [] in
    each_append (ItemWithin nodes_below k) (cond (is_left_out env ds) [] own) (collect_nodes_in defs T env rest)
    (each_unless (ItemWithin nodes_below k) (is_left_out env ds) own (inl (left_below (set_depth s + 1) (set_depth rest) k le), tt))
    (nodes_within defs k T env rest (right_below (set_depth s + 1) (set_depth rest) k le))
nodes_within defs k T env (nodes.inline o ds s p rest) le =
    let inside : List (Item Set) = collect_nodes_in defs T env s in
    each_append (ItemWithin nodes_below k) (cond (is_left_out env ds) [] (cond (applies defs o T) inside [])) (collect_nodes_in defs T env rest)
    (each_unless (ItemWithin nodes_below k) (is_left_out env ds) (cond (applies defs o T) inside [])
    (each_where (ItemWithin nodes_below k) (applies defs o T) inside (nodes_within defs k T env s (less_below (set_depth s) k (left_below (set_depth s + 1) (set_depth rest) k le)))))
    (nodes_within defs k T env rest (right_below (set_depth s + 1) (set_depth rest) k le))

pub nodes_enough : (defs : Defs) (typed : Text → Text) (m : Slots) (depth : ℕ) (types : List Text) (f : Set) (id : Text) → set_depth f.nodes + 1 ≤ depth
    → reach_at (collect_nodes defs) typed m depth types (f ∷ []) id ≡ reach_at (collect_nodes defs) typed m (set_depth f.nodes + 1) types (f ∷ []) id
nodes_enough defs typed m depth types f id le =
    walk_enough nodes_below (collect_nodes defs) (λ k T g short. nodes_within defs k T g.environment g.nodes short) typed m depth types f id le

-- ---- selections of documents, with their additions

module _ (w : Around) where
  abbrev selections_below : Part → ℕ
  selections_below f = whole_depth f.spreads (setting w) f.selections

  abbrev Within : ℕ → List (Item Part) → Type 0
  Within k items = Each (ItemWithin selections_below k) items

  -- where what a spread enters is so deep
  selections_within : (spreads : ℕ) (T : Text) (env : Values) (enter : Text → List Directive → List (Item Part)) (deep : Text → ℕ)
      → ((s : Sels) → whole_depth spreads (setting w) s ≡ depth_with deep s)
      → (k : ℕ) → ((name : Text) (ds : List Directive) → deep name ≤ k → Within k (enter name ds))
      → (s : Sels) → depth_with deep s ≤ k → Within k (collect_with enter w.project.defs T spreads env s)
  selections_within spreads T env enter deep is k entered sels.end le = tt
  selections_within spreads T env enter deep is k entered (sels.field a name xs ds s rest) le =
      let own : List (Item Part) = asked (record { ask = ask_of w.project.defs T env a name xs ds; part = record { spreads = spreads; environment = env; selections = s } }) ∷ [] in
      each_append (ItemWithin selections_below k) (cond (is_left_out env ds) [] own) (collect_with enter w.project.defs T spreads env rest)
      (each_unless (ItemWithin selections_below k) (is_left_out env ds) own
      (inl (as_deep (whole_depth spreads (setting w) s) (depth_with deep s) k (is s) (left_below (depth_with deep s + 1) (depth_with deep rest) k le)), tt))
      (selections_within spreads T env enter deep is k entered rest (right_below (depth_with deep s + 1) (depth_with deep rest) k le))
  selections_within spreads T env enter deep is k entered (sels.spread name ds rest) le =
      each_append (ItemWithin selections_below k) (cond (is_left_out env ds) [] (enter name ds)) (collect_with enter w.project.defs T spreads env rest)
      (each_unless (ItemWithin selections_below k) (is_left_out env ds) (enter name ds) (entered name ds (left_below (deep name) (depth_with deep rest) k le)))
      (selections_within spreads T env enter deep is k entered rest (right_below (deep name) (depth_with deep rest) k le))
  selections_within spreads T env enter deep is k entered (sels.inline o ds s rest) le =
      let inside : List (Item Part) = collect_with enter w.project.defs T spreads env s in
      each_append (ItemWithin selections_below k) (cond (is_left_out env ds) [] (cond (applies w.project.defs o T) inside [])) (collect_with enter w.project.defs T spreads env rest)
      (each_unless (ItemWithin selections_below k) (is_left_out env ds) (cond (applies w.project.defs o T) inside [])
      (each_where (ItemWithin selections_below k) (applies w.project.defs o T) inside
      (selections_within spreads T env enter deep is k entered s (left_below (depth_with deep s) (depth_with deep rest) k le))))
      (selections_within spreads T env enter deep is k entered rest (right_below (depth_with deep s) (depth_with deep rest) k le))

  -- a fragment that is entered
  entered_within : (spreads : ℕ) (T : Text) (env : Values) (k : ℕ) (ds : List Directive)
      → ((inner : Values) (s : Sels) → whole_depth spreads (setting w) s ≤ k → Within k (collect_in spreads (setting w) T inner s))
      → (f : Option FragmentAt) → depth_inside (λ g. whole_depth spreads (setting w) (selections_of (setting w) (Some g.on.name) g.selections) + 1) f ≤ k
      → Within k (items_of_spread spreads w T env ds f)
  entered_within spreads T env k ds inside None le = tt
  entered_within spreads T env k ds inside (Some f) le =
      let there : List (Item Part) = collect_in spreads (setting w) T (environment_inside w.own env ds f) (fragment_selections w f) in
      each_where (ItemWithin selections_below k) (applies w.project.defs (Some f.on.name) T) there
      (inside (environment_inside w.own env ds f) (fragment_selections w f) (omega (arith, le)))

  part_within : (spreads : ℕ) (T : Text) (k : ℕ) (env : Values) (s : Sels) → whole_depth spreads (setting w) s ≤ k → Within k (collect_in spreads (setting w) T env s)
  part_within zero T k env s le =
      selections_within zero T env (items_at_spread zero w T env) (λ name. 0) (λ t. refl) k (λ name ds short. tt) s le
  part_within (suc spreads) T k env s le =
      selections_within (suc spreads) T env (items_at_spread (suc spreads) w T env)
      (λ name. depth_inside (λ f. whole_depth spreads (setting w) (selections_of (setting w) (Some f.on.name) f.selections) + 1) (fragment_named w.project.fragments name)) (λ t. refl) k
      (λ name ds short. entered_within spreads T env k ds (λ inner t deep. part_within spreads T k inner t deep) (fragment_named w.project.fragments name) short)
      s le

  pub selections_enough : (T : Text) (m : Slots) (depth : ℕ) (f : Part) (id : Text) → whole_depth f.spreads (setting w) f.selections + 1 ≤ depth
      → reach_at (collect (setting w)) (type_of_record T) m depth (T ∷ []) (f ∷ []) id ≡ part_reaches (setting w) T m f id
  selections_enough T m depth f id le =
      walk_enough selections_below (collect (setting w)) (λ k U g short. part_within g.spreads U k g.environment g.selections short) (type_of_record T) m depth (T ∷ []) f id le
