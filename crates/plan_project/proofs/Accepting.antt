-- What the rules give of the operations and the fragments of an accepted project, by their names.
use Rattle.std.proofs.Common.{◌≡◌, ℕ, Bool, true, false, true≢false, ◌&&◌, cond, List, [], ◌∷◌, ◌++◌, Option, Some, None, option_map, is_some, bytes_eq, refl, ap, sym, subst, ◌∙◌}
use Rattle.std.specs.List.{AllByRecursion, list_all}
use Rattle.plan_read.specs.doc_merge.Faults.{fault_or, field_differences, values_unfit}
use Rattle.plan_read.specs.doc_merge.Places.{least}
use Rattle.plan_ir.specs.gql_ast.declared.document.Document.{Document}
use Rattle.plan_ir.specs.gql_ast.declared.place.FilePlace.{FilePlace}
use Rattle.plan_ir.specs.gql_ast.declared.place.Placed.{Placed}
use Rattle.plan_ir.proofs.gql_graph_laws.TextSteps.{same_text}
use Rattle.plan_ir.specs.gql_graph.Rules.{each, first_broken}
use Rattle.plan_ir.specs.gql_plain.Names.{is_name}
use Rattle.plan_ir.specs.gql_syntax.Words.{IsName}
use Rattle.plan_read.proofs.plan_build_laws.CovarianceLists.{all_hold, right}
use Rattle.plan_read.specs.plan_build.Plans.{HaveNames}
use Rattle.plan_read.specs.plan_expand.Answers.{whole_in}
use Rattle.plan_ir.specs.Projects.{definitions_in, project}
use Rattle.plan_ir.specs.Expansion.{Whole, name_or, whole_fragment, whole_operation}
use Rattle.plan_ir.specs.declared.form.Form.TheVariants as F
use Rattle.plan_project.proofs.LeastLaws.{no_places, nothing_first}
use Rattle.plan_project.proofs.SchemaNames.{possible_names}
use Rattle.plan_project.proofs.SoundProjects.{operation_found}
use Rattle.plan_project.proofs.SpreadChains.{none_each}
use Rattle.plan_project.specs.Expansions.{differences_at, merge_fault, values_unfit_at, whole_at, whole_of_operation}
use Rattle.plan_project.specs.Lookups.{fragment_in, operation_in}
use Rattle.relay_dirs.specs.relay_rules.RelayRules.{document_rules}
use Rattle.plan_project.specs.Projects.{IsAccepted, IsAcceptedProject}
use Rattle.plan_ir.specs.schema_rules.declared.fault.Rule.{Rule}
use Rattle.plan_ir.specs.schema_tables.Types.{Text, Defs, is_composite, possible, root}
use Rattle.plan_ir.specs.schema_trees.Located.{Located}
use Rattle.plan_ir.specs.schema_types.NameRules.{condition_at, conditions_in, fragment_named, fragments, not_composite, operations, without_root}
use Rattle.plan_ir.specs.schema_types.Sites.{DefinitionAt, FragmentAt, OperationAt, fragment, operation}

-- ---- rules that hold

pub holds : (r : Rule) (ns : List ℕ) (more : List (Rule × List ℕ)) → first_broken ((r, ns) ∷ more) ≡ None → ns ≡ []
holds r [] more e = refl
holds r (n ∷ ns) more e = cc

pub rest_holds : (r : Rule) (ns : List ℕ) (more : List (Rule × List ℕ)) → first_broken ((r, ns) ∷ more) ≡ None → first_broken more ≡ None
rest_holds r [] more e = e
rest_holds r (n ∷ ns) more e = cc

-- ---- what holds of each definition holds of those of one sort

all_operations : (P : DefinitionAt → Type 0) (ds : List DefinitionAt) → AllByRecursion P ds → AllByRecursion (λ o. P (operation o)) (operations ds)
all_operations P [] h = tt
all_operations P (operation o ∷ ds) h = (h.0, all_operations P ds h.1)
all_operations P (fragment f ∷ ds) h = all_operations P ds h.1

all_fragments : (P : DefinitionAt → Type 0) (ds : List DefinitionAt) → AllByRecursion P ds → AllByRecursion (λ f. P (fragment f)) (fragments ds)
all_fragments P [] h = tt
all_fragments P (operation o ∷ ds) h = all_fragments P ds h.1
all_fragments P (fragment f ∷ ds) h = (h.0, all_fragments P ds h.1)

fragment_found : (P : FragmentAt → Type 0) (fs : List FragmentAt) (n : Text) (f : FragmentAt) → AllByRecursion P fs → fragment_named fs n ≡ Some f → P f × (f.name.name ≡ n)
fragment_found P [] n f h e = absurd cc
fragment_found P (g ∷ fs) n f h e = on (λ k. fragment_found P fs n f h.1 k) (bytes_eq g.name.name n) refl e
  where
    on : (fragment_named fs n ≡ Some f → P f × (f.name.name ≡ n)) → (b : Bool) → bytes_eq g.name.name n ≡ b → cond b (Some g) (fragment_named fs n) ≡ Some f
        → P f × (f.name.name ≡ n)
    on later true d e = let same : g ≡ f = cc e in (subst P same h.0, subst (λ (x : FragmentAt). x.name.name ≡ n) same (same_text g.name.name n d))
    on later false d e = later e

-- ---- V24

no_second : (v f : Option FilePlace) → fault_or v f ≡ None → f ≡ None
no_second (Some p) f e = absurd cc
no_second None (Some q) e = absurd cc
no_second None None e = refl

-- no definition has fields that differ
none_differ : (defs : Defs) (ps : List (Placed Document)) → merge_fault defs ps ≡ None → AllByRecursion (λ d. differences_at defs (whole_at defs ps d) ≡ []) (definitions_in defs ps)
none_differ defs ps e =
    let ds : List DefinitionAt = definitions_in defs ps in
    let values : List FilePlace = each (λ d. values_unfit_at defs (whole_at defs ps d)) ds in
    let fields : List FilePlace = each (λ d. differences_at defs (whole_at defs ps d)) ds in
    none_each (λ d. differences_at defs (whole_at defs ps d)) ds (no_places fields (no_second (least values) (least fields) e))

-- ---- V3 and V6

is_there : (r : Option Text) → is_some r ≡ true → r ≡ Some (name_or r)
is_there None h = absurd (true≢false (sym h))
is_there (Some t) h = refl

root_there : (defs : Defs) (o : OperationAt) (name : Option Located) (l : Located) → name ≡ Some l → without_root defs o name ≡ [] → root defs o.kind ≡ Some (name_or (root defs o.kind))
root_there defs o None l i e = absurd cc
root_there defs o (Some k) l i e = is_there (root defs o.kind) (right (is_some (root defs o.kind)) k.at e)

-- ---- names

all_names : (ns : List Text) → AllByRecursion IsName ns → list_all is_name ns ≡ true
all_names [] h = refl
all_names (n ∷ ns) h = both (is_name n) (list_all is_name ns) h.0 (all_names ns h.1)
  where
    both : (a b : Bool) → a ≡ true → b ≡ true → (a && b) ≡ true
    both true b e f = f
    both false b e f = absurd (true≢false (sym e))

-- ---- accepted projects

module _ (defs : Defs) (ps : List (Placed Document)) (a : IsAcceptedProject defs ps) where
  abbrev all : List DefinitionAt
  all = definitions_in defs ps

  -- the object types of the schema have Names
  pub have_names : HaveNames defs
  have_names =
      let x = a.accepted in
      subst HaveNames (sym x.says) (λ t. all_names (possible x.tree.tree.definitions t) (possible_names 0 a.schema x.tree x.trees.schema_is t))

  module _ (n : Text) where
    pub operation_has_root : (o : OperationAt) → operation_in defs ps n ≡ Some o → root defs o.kind ≡ Some (name_or (root defs o.kind))
    operation_has_root o e =
        let six = all_hold (document_rules defs all) a.accepted.meet in
        let two = operation_found (λ (q : OperationAt). without_root defs q q.name ≡ []) (operations all) n o
        (none_each (λ (q : OperationAt). without_root defs q q.name) (operations all) six.1.1.1.1.1.0) e in
        root_there defs o o.name two.1.located two.1.is two.0

    pub operation_merges : (o : OperationAt) → operation_in defs ps n ≡ Some o → field_differences defs (whole_operation (project defs ps) o).expanded ≡ []
    operation_merges o e =
        let two = operation_found (λ (q : OperationAt). differences_at defs (whole_of_operation defs ps q.name) ≡ []) (operations all) n o
        (all_operations (λ d. differences_at defs (whole_at defs ps d) ≡ []) all (none_differ defs ps a.accepted.merges)) e in
        let named : differences_at defs (whole_in defs ps F.Operation n) ≡ [] =
        subst (λ (k : Text). differences_at defs (whole_in defs ps F.Operation k) ≡ []) two.1.same
        (subst (λ (l : Option Located). differences_at defs (whole_of_operation defs ps l) ≡ []) two.1.is two.0) in
        sym (ap (λ (x : Option OperationAt). differences_at defs (option_map (whole_operation (project defs ps)) x)) e) ∙ named

    pub fragment_is_on_composite : (f : FragmentAt) → fragment_in defs ps n ≡ Some f → is_composite defs f.on.name ≡ true
    fragment_is_on_composite f e =
        let three = all_hold (document_rules defs all) a.accepted.meet in
        let two = fragment_found (λ g. each (not_composite defs) (conditions_in (fragment g)) ≡ []) (fragments all) n f
        (all_fragments (λ d. each (not_composite defs) (conditions_in d) ≡ []) all (none_each (λ d. each (not_composite defs) (conditions_in d)) all three.1.1.0)) e in
        right (is_composite defs f.on.name) f.on.at (nothing_first (not_composite defs f.on) _ two.0)

    pub fragment_merges : (f : FragmentAt) → fragment_in defs ps n ≡ Some f → field_differences defs (whole_fragment (project defs ps) f).expanded ≡ []
    fragment_merges f e =
        let two = fragment_found (λ g. differences_at defs (whole_in defs ps F.Fragment g.name.name) ≡ []) (fragments all) n f
        (all_fragments (λ d. differences_at defs (whole_at defs ps d) ≡ []) all (none_differ defs ps a.accepted.merges)) e in
        sym (ap (λ (x : Option FragmentAt). differences_at defs (option_map (whole_fragment (project defs ps)) x)) e)
        ∙ subst (λ (k : Text). differences_at defs (whole_in defs ps F.Fragment k) ≡ []) two.1 two.0
