-- What was noted of all definitions is the first fault of what they become.
use Rattle.std.proofs.Common.{◌≡◌, ℕ, Bool, true, false, true≢false, cond, List, [], ◌∷◌, ◌++◌, Option, Some, None, refl, sym, ap, subst, ◌∙◌}
use Rattle.plan_read.proofs.doc_merge_laws.LeastSteps.{least-append}
use Rattle.plan_read.specs.doc_merge.Faults.{fault_or, field_differences, values_unfit}
use Rattle.plan_read.specs.doc_merge.Places as places
use Rattle.plan_ir.specs.gql_ast.declared.document.Document.{Document}
use Rattle.plan_ir.specs.gql_ast.declared.place.FilePlace.{FilePlace}
use Rattle.plan_ir.specs.gql_ast.declared.place.Placed.{Placed}
use Rattle.plan_ir.proofs.gql_graph_laws.LeastSteps.{breaks, holds}
use Rattle.plan_ir.specs.gql_graph.Leasts.{least_from}
use Rattle.plan_ir.specs.gql_graph.Rules.{each, first_broken}
use Rattle.plan_read.specs.plan_expand.Answers.{whole_is}
use Rattle.plan_ir.specs.Projects.{definitions_in}
use Rattle.plan_ir.specs.Expansion.{Whole}
use Rattle.plan_ir.specs.Sizes.{has_too_many_nodes, is_too_deep}
use Rattle.plan_project.proofs.LeastLaws.{least_alone, no_nodes, no_places, nothing_first, nothing_then, place_list}
use Rattle.plan_project.specs.Expansions.{IsWithinLimits, differences_at, merge_fault, name_node, node_of, size_rules, too_deep, too_many, values_unfit_at, whole_at, whole_of_operation}
use Rattle.plan_project.specs.Noting.{IsFaultOfExpansions, HasNotedAll, fields_in, first_fault_of, depth_at, fields_at, first_noted, size_at, values_at, values_in}
use Rattle.plan_project.specs.declared.fault.DocumentsFault.{DocumentsFault}
use Rattle.plan_project.specs.declared.least_faults.LeastFaults.{LeastFaults}
use Rattle.plan_ir.specs.schema_rules.declared.fault.Rule.TheVariants as R
use Rattle.plan_ir.specs.schema_tables.Types.{Defs}
use Rattle.plan_ir.specs.schema_trees.Located.{Located}
use Rattle.plan_ir.specs.schema_types.Sites.{DefinitionAt, operation, fragment}

-- ---- one definition

not_listed : (b : Bool) (n : ℕ) → cond b (n ∷ []) [] ≡ [] → b ≡ false
not_listed true n e = cc
not_listed false n e = refl

depth_counts : (many deep : Bool) (ns : List ℕ) → cond many ns [] ≡ [] → cond many [] (cond deep ns []) ≡ cond deep ns []
depth_counts true true ns e = sym e
depth_counts true false ns e = refl
depth_counts false deep ns e = refl

values_told : (v f : Option FilePlace) → values_in (fault_or v f) ≡ place_list v
values_told (Some p) f = refl
values_told None (Some q) = refl
values_told None None = refl

fields_told : (v f : Option FilePlace) → values_in (fault_or v f) ≡ [] → fields_in (fault_or v f) ≡ place_list f
fields_told (Some p) f e = cc
fields_told None (Some q) e = refl
fields_told None None e = refl

-- what is within the limits has the faults of its check
check_counts : (defs : Defs) (w : Option Whole) → whole_is has_too_many_nodes w ≡ false → whole_is is_too_deep w ≡ false
    → first_fault_of defs w ≡ fault_or (places.least (values_unfit_at defs w)) (places.least (differences_at defs w))
check_counts defs None m d = refl
check_counts defs (Some w) m d =
    λ i. cond (m i) None (cond (d i) None (fault_or (places.least (values_unfit defs w.expanded.kind w.expanded)) (places.least (field_differences defs w.expanded))))

module _ (defs : Defs) (ps : List (Placed Document)) where
  -- what is not noted by its name is within a limit: an operation without a name becomes nothing
  within : (test : Whole → Bool) (d : DefinitionAt) → cond (whole_is test (whole_at defs ps d)) (name_node d) [] ≡ [] → whole_is test (whole_at defs ps d) ≡ false
  within test (operation o) e = named o.name e where
    named : (n : Option Located) → cond (whole_is test (whole_of_operation defs ps n)) (node_of n) [] ≡ [] → whole_is test (whole_of_operation defs ps n) ≡ false
    named None g = refl
    named (Some l) g = not_listed (whole_is test (whole_of_operation defs ps (Some l))) l.at g
  within test (fragment f) e = not_listed (whole_is test (whole_at defs ps (fragment f))) f.name.at e

  deep_within : (many : Bool) (d : DefinitionAt) → many ≡ false → cond many [] (cond (whole_is is_too_deep (whole_at defs ps d)) (name_node d) []) ≡ []
      → whole_is is_too_deep (whole_at defs ps d) ≡ false
  deep_within true d m e = absurd (true≢false m)
  deep_within false d m e = within is_too_deep d e

  -- each limit by itself
  pub limits_by : (d : DefinitionAt) → size_at defs ps d ≡ [] → cond (whole_is is_too_deep (whole_at defs ps d)) (name_node d) [] ≡ [] → IsWithinLimits defs ps d
  limits_by d s e = (within has_too_many_nodes d s, within is_too_deep d e)

  limits_of : (d : DefinitionAt) → size_at defs ps d ≡ [] → depth_at defs ps d ≡ [] → IsWithinLimits defs ps d
  limits_of d s e =
      let m = within has_too_many_nodes d s in
      (m, deep_within (whole_is has_too_many_nodes (whole_at defs ps d)) d m e)

  -- ---- all definitions

  deep_all : (ds : List DefinitionAt) → each (size_at defs ps) ds ≡ [] → each (depth_at defs ps) ds ≡ too_deep defs ps ds
  deep_all [] s = refl
  deep_all (d ∷ ds) s =
      let here = depth_counts (whole_is has_too_many_nodes (whole_at defs ps d)) (whole_is is_too_deep (whole_at defs ps d)) (name_node d) (nothing_first (size_at defs ps d) (each (size_at defs ps) ds) s) in
      let rest = deep_all ds (nothing_then (size_at defs ps d) (each (size_at defs ps) ds) s) in
      λ i. here i ++ rest i

  checked : (d : DefinitionAt) → size_at defs ps d ≡ [] → depth_at defs ps d ≡ []
      → first_fault_of defs (whole_at defs ps d) ≡ fault_or (places.least (values_unfit_at defs (whole_at defs ps d))) (places.least (differences_at defs (whole_at defs ps d)))
  checked d s e = let l = limits_of d s e in check_counts defs (whole_at defs ps d) l.0 l.1

  values_all : (ds : List DefinitionAt) (o : Option FilePlace) → each (size_at defs ps) ds ≡ [] → each (depth_at defs ps) ds ≡ []
      → places.least_from o (each (values_at defs ps) ds) ≡ places.least_from o (each (λ d. values_unfit_at defs (whole_at defs ps d)) ds)
  values_all [] o s e = refl
  values_all (d ∷ ds) o s e =
      let vs = values_unfit_at defs (whole_at defs ps d) in
      let said = checked d (nothing_first (size_at defs ps d) (each (size_at defs ps) ds) s) (nothing_first (depth_at defs ps d) (each (depth_at defs ps) ds) e) in
      let told : values_at defs ps d ≡ place_list (places.least vs) = ap values_in said ∙ values_told (places.least vs) (places.least (differences_at defs (whole_at defs ps d))) in
      let rest = values_all ds (places.least_from o (values_at defs ps d)) (nothing_then (size_at defs ps d) (each (size_at defs ps) ds) s) (nothing_then (depth_at defs ps d) (each (depth_at defs ps) ds) e) in
      least-append o (values_at defs ps d) (each (values_at defs ps) ds) ∙ rest
      ∙ ap (λ q. places.least_from q (each (λ d. values_unfit_at defs (whole_at defs ps d)) ds)) (ap (places.least_from o) told ∙ least_alone o vs)
      ∙ sym (least-append o vs (each (λ d. values_unfit_at defs (whole_at defs ps d)) ds))

  fields_all : (ds : List DefinitionAt) (o : Option FilePlace) → each (size_at defs ps) ds ≡ [] → each (depth_at defs ps) ds ≡ [] → each (values_at defs ps) ds ≡ []
      → places.least_from o (each (fields_at defs ps) ds) ≡ places.least_from o (each (λ d. differences_at defs (whole_at defs ps d)) ds)
  fields_all [] o s e v = refl
  fields_all (d ∷ ds) o s e v =
      let vs = values_unfit_at defs (whole_at defs ps d) in
      let fs = differences_at defs (whole_at defs ps d) in
      let said = checked d (nothing_first (size_at defs ps d) (each (size_at defs ps) ds) s) (nothing_first (depth_at defs ps d) (each (depth_at defs ps) ds) e) in
      let none : values_in (fault_or (places.least vs) (places.least fs)) ≡ [] = sym (ap values_in said) ∙ nothing_first (values_at defs ps d) (each (values_at defs ps) ds) v in
      let told : fields_at defs ps d ≡ place_list (places.least fs) = ap fields_in said ∙ fields_told (places.least vs) (places.least fs) none in
      let rest = fields_all ds (places.least_from o (fields_at defs ps d)) (nothing_then (size_at defs ps d) (each (size_at defs ps) ds) s) (nothing_then (depth_at defs ps d) (each (depth_at defs ps) ds) e) (nothing_then (values_at defs ps d) (each (values_at defs ps) ds) v) in
      least-append o (fields_at defs ps d) (each (fields_at defs ps) ds) ∙ rest
      ∙ ap (λ q. places.least_from q (each (λ d. differences_at defs (whole_at defs ps d)) ds)) (ap (places.least_from o) told ∙ least_alone o fs)
      ∙ sym (least-append o fs (each (λ d. differences_at defs (whole_at defs ps d)) ds))

  -- ---- the verdict

  abbrev ds : List DefinitionAt
  ds = definitions_in defs ps

  abbrev pub IsVerdict : Option DocumentsFault → Type 0
  IsVerdict None = (first_broken (size_rules defs ps) ≡ None) × (merge_fault defs ps ≡ None)
  IsVerdict (Some fault) = IsFaultOfExpansions defs ps fault

  module _ (s d : Option ℕ) (v f : Option FilePlace) (size : s ≡ least_from None (each (size_at defs ps) ds)) (depth : d ≡ least_from None (each (depth_at defs ps) ds))
      (values : v ≡ places.least (each (values_at defs ps) ds)) (fields : f ≡ places.least (each (fields_at defs ps) ds)) where
    no_size : s ≡ None → each (size_at defs ps) ds ≡ []
    no_size e = no_nodes (each (size_at defs ps) ds) (sym size ∙ e)

    depth_same : s ≡ None → d ≡ least_from None (too_deep defs ps ds)
    depth_same e = depth ∙ ap (least_from None) (deep_all ds (no_size e))

    no_depth : d ≡ None → each (depth_at defs ps) ds ≡ []
    no_depth e = no_nodes (each (depth_at defs ps) ds) (sym depth ∙ e)

    size_broken : (n : ℕ) → s ≡ Some n → first_broken (size_rules defs ps) ≡ Some (R.E1, n)
    size_broken n e = breaks R.E1 (too_many defs ps ds) ((R.E2, too_deep defs ps ds) ∷ []) None s n refl size e

    size_holds : s ≡ None → first_broken (size_rules defs ps) ≡ first_broken ((R.E2, too_deep defs ps ds) ∷ [])
    size_holds e = holds R.E1 (too_many defs ps ds) ((R.E2, too_deep defs ps ds) ∷ []) None s refl size e

    depth_broken : (n : ℕ) → s ≡ None → d ≡ Some n → first_broken (size_rules defs ps) ≡ Some (R.E2, n)
    depth_broken n e g = size_holds e ∙ breaks R.E2 (too_deep defs ps ds) [] None d n refl (depth_same e) g

    depth_holds : s ≡ None → d ≡ None → first_broken (size_rules defs ps) ≡ None
    depth_holds e g = size_holds e ∙ holds R.E2 (too_deep defs ps ds) [] None d refl (depth_same e) g

    values_same : s ≡ None → d ≡ None → v ≡ places.least (each (λ d. values_unfit_at defs (whole_at defs ps d)) ds)
    values_same e g = values ∙ values_all ds None (no_size e) (no_depth g)

    fields_same : s ≡ None → d ≡ None → v ≡ None → f ≡ places.least (each (λ d. differences_at defs (whole_at defs ps d)) ds)
    fields_same e g h = fields ∙ fields_all ds None (no_size e) (no_depth g) (no_places (each (values_at defs ps) ds) (sym values ∙ h))

    merged : s ≡ None → d ≡ None → v ≡ None → merge_fault defs ps ≡ fault_or None f
    merged e g h = λ i. fault_or ((sym (values_same e g) ∙ h) i) (sym (fields_same e g h) i)

  verdict_by : (s d : Option ℕ) (v f : Option FilePlace) → s ≡ least_from None (each (size_at defs ps) ds) → d ≡ least_from None (each (depth_at defs ps) ds)
      → v ≡ places.least (each (values_at defs ps) ds) → f ≡ places.least (each (fields_at defs ps) ds) → IsVerdict (first_noted s d v f)
  verdict_by (Some n) d v f size depth values fields = size_broken (Some n) d v f size depth values fields n refl
  verdict_by None (Some n) v f size depth values fields = depth_broken None (Some n) v f size depth values fields n refl refl
  verdict_by None None (Some p) f size depth values fields = (
    depth_holds None None (Some p) f size depth values fields refl refl,
    ap (λ o. fault_or o (places.least (each (λ d. differences_at defs (whole_at defs ps d)) ds))) (sym (values_same None None (Some p) f size depth values fields refl refl)),
  )
  verdict_by None None None (Some p) size depth values fields = (
    depth_holds None None None (Some p) size depth values fields refl refl,
    merged None None None (Some p) size depth values fields refl refl refl,
  )
  verdict_by None None None None size depth values fields = (
    depth_holds None None None None size depth values fields refl refl,
    merged None None None None size depth values fields refl refl refl,
  )

  -- what is first among what was noted
  pub verdict : (noted : LeastFaults) (found : Option DocumentsFault) → HasNotedAll defs ps noted → found ≡ first_noted noted.size.at noted.depth.at noted.values.at noted.fields.at → IsVerdict found
  verdict noted found h e =
      subst IsVerdict (sym e) (verdict_by noted.size.at noted.depth.at noted.values.at noted.fields.at h.size h.depth h.values h.fields)
