-- All that is held are operations of the project, with their plans.
use Rattle.std.proofs.Common.{◌≡◌, ℕ, zero, suc, ◌-◌, List, [], ◌∷◌, ◌++◌, length, map, drop, Bool, true, false, cond, bytes_eq, Option, Some, None, is_some, sym, ap, subst, ◌∙◌}
use Rattle.plan_ir.specs.gql_ast.declared.document.Document.{Document}
use Rattle.plan_ir.specs.gql_ast.declared.place.Placed.{Placed}
use Rattle.plan_ir.specs.gql_plain.Order.{has_text}
use Rattle.plan_ir.specs.Expansion.{name_or}
use Rattle.plan_ir.specs.NormalReach.{plan_reaches}
use Rattle.plan_ir.specs.ReaderMeaning.{plan_reads}
use Rattle.plan_project.specs.Lookups.{Agree, IsOperation, KeepsOperation, Normalizes, ReadsOperation, operation_in}
use Rattle.plan_project.specs.declared.operations.Compiled.{Compiled}
use Rattle.line_engine.proofs.Names.{agreed, found_left}
use Rattle.line_engine.specs.Kept as engine
use Rattle.line_engine.specs.Operations.{HoldPlans, HoldsPlan}
use Rattle.plan_ir.specs.schema_tables.Types.{Text, Defs, root}
use Rattle.plan_ir.specs.schema_types.Sites.{OperationAt}
use Rattle.plan_ir.specs.store_model.Walks.{type_of_record}
use Rattle.store_retain.specs.Kept.{Kept, all_held, held_under, released, retained, some_held, without}
use Rattle.store_retain.specs.declared.held.Held.{Held}

abbrev pub held_by : List (Text × Held) → List Held
held_by xs = map (λ (h : Text × Held). h.1) xs

module _ (defs : Defs) (ps : List (Placed Document)) where
  -- ---- lists

  left : (xs ys : List Held) → HoldPlans defs ps (xs ++ ys) → HoldPlans defs ps xs
  left [] ys all = tt
  left (x ∷ xs) ys all = (all.0, left xs ys all.1)

  right : (xs ys : List Held) → HoldPlans defs ps (xs ++ ys) → HoldPlans defs ps ys
  right [] ys all = all
  right (x ∷ xs) ys all = right xs ys all.1

  both : (xs ys : List Held) → HoldPlans defs ps xs → HoldPlans defs ps ys → HoldPlans defs ps (xs ++ ys)
  both [] ys all more = more
  both (x ∷ xs) ys all more = (all.0, both xs ys all.1 more)

  without_first : (n : ℕ) (xs : List Held) → HoldPlans defs ps xs → HoldPlans defs ps (drop n xs)
  without_first zero xs all = all
  without_first (suc n) [] all = tt
  without_first (suc n) (x ∷ xs) all = without_first n xs all.1

  -- ---- by names

  abbrev IfHeld : Option Held → Type 0
  IfHeld None = Unit {0}
  IfHeld (Some h) = HoldsPlan defs ps h

  one_of : (b : Bool) (h : Held) (o : Option Held) → HoldsPlan defs ps h → IfHeld o → IfHeld (cond b (Some h) o)
  one_of true h o first rest = first
  one_of false h o first rest = rest

  held_is : (xs : List (Text × Held)) (name : Text) → HoldPlans defs ps (held_by xs) → IfHeld (held_under name xs)
  held_is [] name all = tt
  held_is (x ∷ xs) name all = one_of (bytes_eq name x.0) x.1 (held_under name xs) all.0 (held_is xs name all.1)

  -- what is found under a name is an operation of the project
  pub is_there : (k : Kept) (name : Text) (h : Held) → HoldPlans defs ps (all_held k) → held_under name k.live ≡ Some h → HoldsPlan defs ps h
  is_there k name h all e = subst IfHeld e (held_is k.live name (left (held_by k.live) k.released all))

  -- ---- the calls

  after : (xs : List (Text × Held)) (name : Text) (h : Held) → HoldPlans defs ps (held_by xs) → HoldsPlan defs ps h → HoldPlans defs ps (held_by (xs ++ (name, h) ∷ []))
  after [] name h all last = (last, tt)
  after (x ∷ xs) name h all last = (all.0, after xs name h all.1 last)

  pub plans_retained : (k : Kept) (name : Text) (h : Held) → HoldPlans defs ps (all_held k) → HoldsPlan defs ps h → HoldPlans defs ps (all_held (retained name h k))
  plans_retained k name h all last =
      both (held_by (k.live ++ (name, h) ∷ [])) k.released (after k.live name h (left (held_by k.live) k.released all) last) (right (held_by k.live) k.released all)

  one_less : (b : Bool) (x : Text × Held) (xs ys : List (Text × Held)) → HoldsPlan defs ps x.1 → HoldPlans defs ps (held_by xs) → HoldPlans defs ps (held_by ys)
      → HoldPlans defs ps (held_by (cond b xs (x ∷ ys)))
  one_less true x xs ys first all rest = all
  one_less false x xs ys first all rest = (first, rest)

  fewer : (xs : List (Text × Held)) (name : Text) → HoldPlans defs ps (held_by xs) → HoldPlans defs ps (held_by (without name xs))
  fewer [] name all = tt
  fewer (x ∷ xs) name all = one_less (bytes_eq name x.0) x xs (without name xs) all.0 all.1 (fewer xs name all.1)

  found : (o : Option Held) → IfHeld o → HoldPlans defs ps (some_held o)
  found None all = tt
  found (Some h) all = (all, tt)

  pub plans_released : (k : Kept) (name : Text) → HoldPlans defs ps (all_held k) → HoldPlans defs ps (all_held (released name k))
  plans_released k name all =
      let live : HoldPlans defs ps (held_by k.live) = left (held_by k.live) k.released all in
      let gone : List Held = k.released ++ some_held (held_under name k.live) in
      both (held_by (without name k.live)) (drop (length gone - k.buffer) gone) (fewer k.live name live)
      (without_first (length gone - k.buffer) gone
      (both k.released (some_held (held_under name k.live)) (right (held_by k.live) k.released all) (found (held_under name k.live) (held_is k.live name live))))

-- ---- an operation that is found

module _ (project : Defs × List (Placed Document)) (called : Text) (r : Option Compiled) (c : Compiled) (found : r ≡ Some c)
    (kept : Agree (KeepsOperation project.0 called) (operation_in project.0 project.1 called) r) where
  -- the documents have it
  pub kept_there : (o : OperationAt) × (operation_in project.0 project.1 called ≡ Some o) × KeepsOperation project.0 called o c
  kept_there = found_left (KeepsOperation project.0 called) (operation_in project.0 project.1 called) r c kept found

  -- it is an operation of the project that is kept
  pub found_operation : (k : engine.Kept) → project.0 ≡ k.defs → project.1 ≡ k.documents
      → Agree (Normalizes project.0 project.1) (operation_in project.0 project.1 called) r → Agree (ReadsOperation project.0 project.1) (operation_in project.0 project.1 called) r
      → (o : OperationAt) → operation_in k.defs k.documents c.name ≡ Some o → IsOperation k.defs k.documents c.name o c
  found_operation k defs documents normal reads =
      let here : (o : OperationAt) → operation_in project.0 project.1 called ≡ Some o → IsOperation project.0 project.1 called o c =
      λ o there. record {
        keeps = agreed (KeepsOperation project.0 called) (operation_in project.0 project.1 called) r o c kept there found;
        normalizes = agreed (Normalizes project.0 project.1) (operation_in project.0 project.1 called) r o c normal there found;
        reads = agreed (ReadsOperation project.0 project.1) (operation_in project.0 project.1 called) r o c reads there found;
      } in
      subst (λ (ds : Defs). (o : OperationAt) → operation_in ds k.documents c.name ≡ Some o → IsOperation ds k.documents c.name o c) defs
      (subst (λ (ps : List (Placed Document)). (o : OperationAt) → operation_in project.0 ps c.name ≡ Some o → IsOperation project.0 ps c.name o c) documents
      (subst (λ (t : Text). (o : OperationAt) → operation_in project.0 project.1 t ≡ Some o → IsOperation project.0 project.1 t o c) (sym kept_there.2.name) here))

  pub found_there : (k : engine.Kept) → project.0 ≡ k.defs → project.1 ≡ k.documents → is_some (operation_in k.defs k.documents c.name) ≡ true
  found_there k defs documents = (λ i. is_some (operation_in (sym defs i) (sym documents i) (kept_there.2.name i))) ∙ ap is_some kept_there.1

-- what is held of it has its plans
pub plan_is_held : (defs : Defs) (ps : List (Placed Document)) (h : Held) (c : Compiled) → h.name ≡ c.name → h.normal.value ≡ c.normal.value → h.reader.value ≡ c.reader.value
    → is_some (operation_in defs ps c.name) ≡ true → ((o : OperationAt) → operation_in defs ps c.name ≡ Some o → IsOperation defs ps c.name o c) → HoldsPlan defs ps h
plan_is_held defs ps h c name normal reader there all = record {
  there = ap (λ t. is_some (operation_in defs ps t)) name ∙ there;
  reaches = λ o e own m id j.
      let is : IsOperation defs ps c.name o c = all o (ap (operation_in defs ps) (sym name) ∙ e) in
      (λ i. has_text (plan_reaches (type_of_record (sym is.keeps.root i)) m own (normal i).steps (sym is.keeps.root i ∷ []) id) j)
      ∙ is.normalizes.reaches own m id j;
  reads = λ o e own owner m id.
      let is : IsOperation defs ps c.name o c = all o (ap (operation_in defs ps) (sym name) ∙ e) in
      let types : name_or (root defs o.kind) ∷ [] ≡ c.types = ap (λ (t : Text). t ∷ []) (sym is.keeps.root) ∙ sym is.keeps.types in
      (λ i. plan_reads (type_of_record (sym is.keeps.root i)) owner m own (reader i).steps (types i) id) ∙ is.reads.reads own owner m id;
}
