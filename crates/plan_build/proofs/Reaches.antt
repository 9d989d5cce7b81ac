-- The steps of an expanded operation, its nodes and the documents reach the same ids.
use Rattle.std.proofs.Common.{◌≡◌, ℕ, ◌+◌, ◌≤◌, List, [], ◌∷◌, max, ap, sym, ◌∙◌, arith}
use Rattle.plan_ir.specs.gql_ast.declared.place.FilePlace.{FilePlace}
use Rattle.plan_ir.proofs.gql_plain_laws.Booleans.{both_ways}
use Rattle.plan_ir.specs.gql_plain.Order.{has_text}
use Rattle.plan_build.proofs.DocumentsAsNodes.{AllCome, kept, operation_comes}
use Rattle.plan_build.proofs.Meaning.{ArePlans, plans_keep, root_plans}
use Rattle.plan_build.proofs.PartDepths.{nodes_enough, plan_enough, selections_enough}
use Rattle.plan_build.proofs.SoundTypes.{are_sound}
use Rattle.plan_build.specs.FieldsAlike.{FieldsAreAlike}
use Rattle.plan_build.specs.NodesMeaning.{Set, collect_nodes}
use Rattle.plan_build.specs.NodesReach.{nodes_reach}
use Rattle.plan_build.specs.Steps.{plan_of}
use Rattle.plan_build.specs.Suited.{IsSuited}
use Rattle.plan_ir.specs.Expansion.{Project, name_or, whole_operation}
use Rattle.plan_ir.specs.Nodes.{set_depth}
use Rattle.plan_ir.specs.NormalMeaning.{Plan, collect_plan}
use Rattle.plan_ir.specs.NormalReach.{plan_reaches, records_below}
use Rattle.plan_ir.specs.declared.expanded.Expanded.{Expanded}
use Rattle.relay_model.proofs.plan_collect_laws.WholeForm.{Around, setting}
use Rattle.relay_model.specs.Collection.{Part, collect, part_of}
use Rattle.relay_model.specs.Reaches.{operation_reaches, whole_depth}
use Rattle.plan_ir.specs.schema_rules.Checked.{IsSound}
use Rattle.plan_ir.specs.schema_tables.Types.{Text, Defs, root}
use Rattle.plan_ir.specs.schema_types.Environments.{Values}
use Rattle.plan_ir.specs.schema_types.Sites.{OperationAt}
use Rattle.plan_ir.proofs.store_model_laws.AlikeReaches.{reach_same}
use Rattle.plan_ir.proofs.store_model_laws.Least.{In, each_from, of_member}
use Rattle.plan_ir.specs.store_model.Alike.{Keeps, Related}
use Rattle.plan_ir.specs.store_model.Items.{Collect}
use Rattle.plan_ir.specs.store_model.Reaches.{reach_at}
use Rattle.plan_ir.specs.store_model.Walks.{Slots, type_of_record}

first_fits : (a b : ℕ) → a + 1 ≤ max a b + 1
first_fits a b = omega arith

second_fits : (a b : ℕ) → b + 1 ≤ max a b + 1
second_fits a b = omega arith

-- related parts reach the same ids under one number
alike_reach : {F G : Type 0} (r : Related F G) (collect : Collect F) (gather : Collect G) → Keeps r r collect gather
    → (typed : Text → Text) (m : Slots) (depth : ℕ) (types : List Text) (fs : List F) (gs : List G) (id : Text) → r types fs gs
    → (j : Text) → has_text (reach_at collect typed m depth types fs id) j ≡ has_text (reach_at gather typed m depth types gs id) j
alike_reach r collect gather keeps typed m depth types fs gs id h j =
    let xs = reach_at collect typed m depth types fs id in
    let ys = reach_at gather typed m depth types gs id in
    let same = reach_same collect gather typed m (λ k. r) (λ k. keeps) depth types fs gs id h in
    both_ways (has_text xs j) (has_text ys j)
    (of_member (λ k. In k ys) xs j ((same (λ k. In k ys)).1 (each_from (λ k. In k ys) ys (λ k there. there))))
    (of_member (λ k. In k xs) ys j ((same (λ k. In k xs)).0 (each_from (λ k. In k xs) xs (λ k there. there))))

-- ---- steps and nodes

pub plan_reaches_nodes : (defs : Defs) (e : Expanded) → IsSound defs → IsSuited defs e → FieldsAreAlike defs e → (own : Values) (m : Slots) (id j : Text)
    → has_text (plan_reaches (type_of_record e.root) m own (plan_of defs e) (e.root ∷ []) id) j ≡ has_text (nodes_reach defs e own m id) j
plan_reaches_nodes defs e sound suited alike own m id j =
    let typed : Text → Text = type_of_record e.root in
    let types : List Text = e.root ∷ [] in
    let nodes : Set = record { environment = own; nodes = e.selections } in
    let steps : Plan = record { environment = own; steps = plan_of defs e } in
    let depth : ℕ = max (records_below (plan_of defs e)) (set_depth e.selections) + 1 in
    ap (λ ids. has_text ids j) (sym (plan_enough typed m depth types own (plan_of defs e) id (first_fits (records_below (plan_of defs e)) (set_depth e.selections))))
    ∙ sym (alike_reach (ArePlans defs) (collect_nodes defs) collect_plan (plans_keep defs (are_sound defs sound)) typed m depth types (nodes ∷ []) (steps ∷ []) id (root_plans defs own e sound suited alike) j)
    ∙ ap (λ ids. has_text ids j) (nodes_enough defs typed m depth types nodes id (second_fits (records_below (plan_of defs e)) (set_depth e.selections)))

-- ---- nodes and documents

around_reaches : (w : Around) (o : OperationAt) (m : Slots) (id j : Text)
    → has_text (operation_reaches w.project w.place o w.own m id) j ≡ has_text (nodes_reach w.project.defs (whole_operation w.project o).expanded w.own m id) j
around_reaches w o m id j =
    let T : Text = name_or (root w.project.defs o.kind) in
    let f : Part = part_of (setting w) o in
    let g : Set = record { environment = w.own; nodes = (whole_operation w.project o).expanded.selections } in
    let a : ℕ = whole_depth f.spreads (setting w) f.selections in
    let b : ℕ = set_depth g.nodes in
    let depth : ℕ = max a b + 1 in
    ap (λ ids. has_text ids j) (sym (selections_enough w T m depth f id (first_fits a b)))
    ∙ alike_reach (AllCome w) (collect (setting w)) (collect_nodes w.project.defs) (kept w) (type_of_record T) m depth (T ∷ []) (f ∷ []) (g ∷ []) id (tt, (operation_comes w o, tt)) j
    ∙ ap (λ ids. has_text ids j) (nodes_enough w.project.defs (type_of_record T) m depth (T ∷ []) g id (second_fits a b))

pub documents_reach_nodes : (p : Project) (place : FilePlace) (o : OperationAt) (own : Values) (m : Slots) (id j : Text)
    → has_text (operation_reaches p place o own m id) j ≡ has_text (nodes_reach p.defs (whole_operation p o).expanded own m id) j
documents_reach_nodes p place o own m id j = around_reaches (record { project = p; place = place; own = own }) o m id j
