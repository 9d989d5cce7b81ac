-- What the code answers for an operation or a fragment is the answer for its expansion.
use Rattle.std.proofs.Common.{◌≡◌, ℕ, zero, suc, ◌+◌, Bool, true, false, true≢false, cond, List, [], ◌∷◌, length, Option, Some, None, option_map, bytes_eq, refl, ap, sym, subst, ◌∙◌, arith}
use Rattle.std.specs.Prelude.{Result, Ok, Err, is_some, max}
use Rattle.std.proofs.lemmas.List.{append-nil}
use Rattle.plan_ir.specs.gql_ast.Sels.{Sels}
use Rattle.plan_ir.specs.gql_ast.declared.directive.Directive.{Directive}
use Rattle.plan_ir.proofs.gql_graph_laws.TextSteps.{same_text}
use Rattle.plan_ir.specs.Expansion.{Project, Whole, directive_trees, expansion, gifts, is_named, name_of_located_or, name_or, operation_from, operation_named, printed_directives, selections_from, variable_trees, whole_fragment, whole_operation}
use Rattle.plan_ir.specs.Nodes.{set_depth}
use Rattle.plan_ir.specs.Sizes.{all_count, all_depth, count, directives_count, directives_depth, has_too_many_nodes, is_too_deep, nodes_count, nodes_value_depth, value_depth}
use Rattle.plan_ir.specs.declared.form.Form.TheVariants as form
use Rattle.plan_ir.specs.Substitution.{Scope, operation_scope, scope_of_own}
use Rattle.plan_ir.specs.declared.expanded.Expanded.{Expanded}
use Rattle.plan_ir.specs.schema_tables.Types.{Text, root}
use Rattle.plan_ir.specs.schema_trees.Located.{Located}
use Rattle.plan_ir.specs.schema_types.DocumentRules.{places_of, trees_of}
use Rattle.plan_ir.specs.schema_types.NameRules.{fragment_named, fragments, operations}
use Rattle.plan_ir.specs.schema_types.Sites.{FragmentAt, OperationAt, sites}
use Rattle.plan_expand.proofs.Expanding.{making_is}
use Rattle.plan_expand.proofs.Listed.{fragments_listed, operations_listed}
use Rattle.plan_expand.proofs.Measured.{extent_of, measured_is, on_level}
use Rattle.plan_expand.proofs.ValueSizes.{AreSizes, alone_is, own_is, printed_size, values_is}
use Rattle.plan_expand.specs.Answers.{IsAnswer, whole_in}
use Rattle.plan_ir.specs.Projects.{definitions_in, project}
use Rattle.plan_expand.specs.Extents.{both, values_extent}
use Rattle.plan_expand.specs.Places.{site_places_in}
use Rattle.plan_ir.specs.Projects.{Places, place_in}
use Rattle.plan_expand.specs.Making.{Ready, making}
use Rattle.plan_expand.specs.Measuring.{total, values_size}
use Rattle.plan_expand.specs.OperationsView.{ReadyOperation, find_operation, ready_operation}
use Rattle.plan_expand.specs.Preparing.{IsFragment, IsOperation, IsReady, extent_made, fragment_with, nodes_made, operation_with}
use Rattle.plan_expand.specs.ReadyView.{find_in, ready_fragment}
use Rattle.plan_expand.specs.Sizes.{nothing, own_sizes}
use Rattle.plan_expand.specs.Verdicts.{Outcome, are_too_many, nests_too_deep}
use Rattle.plan_expand.specs.declared.expander.Expander.{Expander}
use Rattle.plan_expand.specs.declared.extent.Extent.{Extent}
use Rattle.plan_expand.specs.declared.fault.ExpandFault.{ExpandFault}
use Rattle.plan_expand.specs.declared.fault.ExpandFault.TheVariants as F
use Rattle.plan_expand.specs.declared.size.Size.{Size}

-- ---- outcomes

pub outcome_as : {A : Type 0} (m d m' d' : Bool) (P Q : A → Type 0) → m ≡ m' → d ≡ d' → ((a : A) → P a → Q a) → (r : Result A ExpandFault) → Outcome m d P r → Outcome m' d' Q r
outcome_as m d m' d' P Q e f to (Ok a) h = (to a h.0, sym e ∙ h.1, sym f ∙ h.2)
outcome_as m d m' d' P Q e f to (Err F.TooManyNodes) h = sym e ∙ h
outcome_as m d m' d' P Q e f to (Err F.TooDeep) h = (sym e ∙ h.0, sym f ∙ h.1)
outcome_as m d m' d' P Q e f to (Err F.NoMemory) h = tt

first_level : (d : ℕ) → max 0 (on_level 1 d) ≡ d
first_level zero = omega arith
first_level (suc d) = omega arith

-- how large it is, with the values of its directives
whole_extent : (v : Size) (w : Whole) → v ≡ printed_size w.expanded.directives
    → both (values_extent v) (extent_of 1 w.expanded.selections w.gifts) ≡ record { count = count w; sets = set_depth w.expanded.selections; values = value_depth w }
whole_extent v w e =
    let c : directives_count w.expanded.directives + (nodes_count w.expanded.selections + all_count w.gifts) ≡ directives_count w.expanded.directives + nodes_count w.expanded.selections + all_count w.gifts = omega arith in
    (λ i. both (values_extent (e i)) (extent_of 1 w.expanded.selections w.gifts))
    ∙ (λ i. record {
      count = c i;
      sets = first_level (set_depth w.expanded.selections) i;
      values = max (directives_depth w.expanded.directives) (max (nodes_value_depth w.expanded.selections) (all_depth w.gifts));
    })

-- ---- operations and fragments that stand ready

operation_first : (n : Text) (x o : OperationAt) (rest : Option OperationAt) (m : Option Located) → x.name ≡ m → (rest ≡ Some o → name_of_located_or o.name ≡ n)
    → cond (is_named n m) (Some x) rest ≡ Some o → name_of_located_or o.name ≡ n
operation_first n x o rest None f more e = more e
operation_first n x o rest (Some l) f more e = on (bytes_eq l.name n) refl e where
  on : (b : Bool) → bytes_eq l.name n ≡ b → cond b (Some x) rest ≡ Some o → name_of_located_or o.name ≡ n
  on true g h =
      let same : x ≡ o = cc h in
      ap (λ (y : OperationAt). name_of_located_or y.name) (sym same) ∙ ap name_of_located_or f ∙ same_text l.name n g
  on false g h = more h

operation_there : (n : Text) (os : List OperationAt) (o : OperationAt) → operation_named os n ≡ Some o → name_of_located_or o.name ≡ n
operation_there n [] o e = cc
operation_there n (x ∷ os) o e = operation_first n x o (operation_named os n) x.name refl (operation_there n os o) e

fragment_first : (n : Text) (x f : FragmentAt) (rest : Option FragmentAt) → (rest ≡ Some f → f.name.name ≡ n) → cond (bytes_eq x.name.name n) (Some x) rest ≡ Some f → f.name.name ≡ n
fragment_first n x f rest more e = on (bytes_eq x.name.name n) refl e where
  on : (b : Bool) → bytes_eq x.name.name n ≡ b → cond b (Some x) rest ≡ Some f → f.name.name ≡ n
  on true g h =
      let same : x ≡ f = cc h in
      ap (λ (y : FragmentAt). y.name.name) (sym same) ∙ same_text x.name.name n g
  on false g h = more h

fragment_there : (n : Text) (fs : List FragmentAt) (f : FragmentAt) → fragment_named fs n ≡ Some f → f.name.name ≡ n
fragment_there n [] f e = cc
fragment_there n (x ∷ fs) f e = fragment_first n x f (fragment_named fs n) (fragment_there n fs f) e

module _ (e : Expander) (ready : IsReady e) where
  nodes_are : (scope : Scope) (s : Sels) (from : ℕ) (around : Option Text) (hs : Places) → hs ≡ site_places_in (place_in (places_of e.documents.now)) (sites e.schema.now from around s)
      → nodes_made e scope hs around s
      ≡ expansion (length (fragments (definitions_in e.schema.now e.documents.now))) (project e.schema.now e.documents.now) scope from around s
  nodes_are scope s from around hs h =
      let p : Project = project e.schema.now e.documents.now in
      (λ i. making (ready.all_spreads i) (ready.same_schema i) (find_in e.fragments) scope (h i) 0 around s)
      ∙ making_is p (find_in e.fragments) ready.fragments_found (fragments_listed e.schema.now (trees_of e.documents.now)) (length p.fragments) scope (site_places_in p.place (sites p.defs from around s)) s from 0 around []
      (sym (append-nil (site_places_in p.place (sites p.defs from around s))))

  extent_is : (v : Size) (scope : Scope) (s : Sels) (from : ℕ) (around : Option Text) → AreSizes own_sizes scope
      → extent_made e v around s
      ≡ both (values_extent v) (extent_of 1
      (expansion (length (fragments (definitions_in e.schema.now e.documents.now))) (project e.schema.now e.documents.now) scope from around s)
      (gifts (length (fragments (definitions_in e.schema.now e.documents.now))) (project e.schema.now e.documents.now) scope s))
  extent_is v scope s from around known =
      let p : Project = project e.schema.now e.documents.now in
      ap (both (values_extent v))
      ((λ i. total (ready.all_spreads i) (ready.same_schema i) (find_in e.fragments) own_sizes 1 around s) ∙ measured_is p (find_in e.fragments) ready.fragments_found (length p.fragments) own_sizes scope known s from 1 around)

  operation_is : (n : Text) (o : OperationAt) → o.sites ≡ sites e.schema.now (operation_from o) (root e.schema.now o.kind) o.selections → name_of_located_or o.name ≡ n
      → (r : Result Expanded ExpandFault) → IsOperation e n (ready_operation e.schema.now (place_in (places_of e.documents.now)) o) r
      → IsAnswer (Some (whole_operation (project e.schema.now e.documents.now) o)) r
  operation_is n o listed named r h =
      let p : Project = project e.schema.now e.documents.now in
      let w : Whole = whole_operation p o in
      let ds : List Directive = printed_directives operation_scope (directive_trees o.directives) in
      let size : extent_made e (values_size own_sizes ds) (root e.schema.now o.kind) o.selections ≡ record { count = count w; sets = set_depth w.expanded.selections; values = value_depth w } =
      extent_is (values_size own_sizes ds) operation_scope o.selections (operation_from o) (root e.schema.now o.kind) own_is ∙ whole_extent (values_size own_sizes ds) w (values_is ds) in
      let nodes : nodes_made e operation_scope (site_places_in p.place o.sites) (root e.schema.now o.kind) o.selections ≡ w.expanded.selections =
      nodes_are operation_scope o.selections (operation_from o) (root e.schema.now o.kind) (site_places_in p.place o.sites) (ap (site_places_in p.place) listed) in
      let ready_one : ReadyOperation = ready_operation e.schema.now p.place o in
      let ext : Extent = extent_made e (values_size own_sizes ds) (root e.schema.now o.kind) o.selections in
      outcome_as (are_too_many ext) (nests_too_deep ext) (has_too_many_nodes w) (is_too_deep w)
      (λ (x : Expanded). x ≡ operation_with n ready_one (nodes_made e operation_scope (site_places_in p.place o.sites) (root e.schema.now o.kind) o.selections))
      (λ (x : Expanded). Some x ≡ Some w.expanded) (ap are_too_many size) (ap nests_too_deep size)
      (λ x g. ap Some (g ∙ (λ i. record {
        kind = Some o.kind;
        name = sym named i;
        root = name_or (root e.schema.now o.kind);
        variables = variable_trees o.variables;
        directives = ds;
        selections = nodes i;
      }))) r h

  fragment_is : (n : Text) (f : FragmentAt) → f.sites ≡ sites e.schema.now (selections_from f) (Some f.on.name) f.selections → f.name.name ≡ n
      → (r : Result Expanded ExpandFault) → IsFragment e n (ready_fragment (place_in (places_of e.documents.now)) f) r
      → IsAnswer (Some (whole_fragment (project e.schema.now e.documents.now) f)) r
  fragment_is n f listed named r h =
      let p : Project = project e.schema.now e.documents.now in
      let w : Whole = whole_fragment p f in
      let size : extent_made e nothing (Some f.on.name) f.selections ≡ record { count = count w; sets = set_depth w.expanded.selections; values = value_depth w } =
      extent_is nothing (scope_of_own f) f.selections (selections_from f) (Some f.on.name) (alone_is f) ∙ whole_extent nothing w refl in
      let nodes : nodes_made e (scope_of_own f) (site_places_in p.place f.sites) (Some f.on.name) f.selections ≡ w.expanded.selections =
      nodes_are (scope_of_own f) f.selections (selections_from f) (Some f.on.name) (site_places_in p.place f.sites) (ap (site_places_in p.place) listed) in
      let ext : Extent = extent_made e nothing (Some f.on.name) f.selections in
      outcome_as (are_too_many ext) (nests_too_deep ext) (has_too_many_nodes w) (is_too_deep w)
      (λ (x : Expanded). x ≡ fragment_with n f.on.name (nodes_made e (scope_of_own f) (site_places_in p.place f.sites) (Some f.on.name) f.selections))
      (λ (x : Expanded). Some x ≡ Some w.expanded) (ap are_too_many size) (ap nests_too_deep size)
      (λ x g. ap Some (g ∙ (λ i. record { kind = None; name = sym named i; root = f.on.name; variables = []; directives = []; selections = nodes i }))) r h

  operation_found : (n : Text) (q : Option OperationAt) (o : ReadyOperation) → operation_named (operations (definitions_in e.schema.now e.documents.now)) n ≡ q
      → Some o ≡ option_map (ready_operation e.schema.now (place_in (places_of e.documents.now))) q
      → (r : Result Expanded ExpandFault) → IsOperation e n o r → IsAnswer (option_map (whole_operation (project e.schema.now e.documents.now)) q) r
  operation_found n None o e' f r h = absurd (never f) where
    never : Some o ≡ None → ⊥
    never g = cc
  operation_found n (Some x) o e' f r h =
      let same : o ≡ ready_operation e.schema.now (place_in (places_of e.documents.now)) x = cc f in
      operation_is n x (operations_listed e.schema.now (trees_of e.documents.now) n x e') (operation_there n (operations (definitions_in e.schema.now e.documents.now)) x e') r
      (subst (λ (y : ReadyOperation). IsOperation e n y r) same h)

  fragment_found : (n : Text) (q : Option FragmentAt) (o : Ready) → fragment_named (fragments (definitions_in e.schema.now e.documents.now)) n ≡ q
      → Some o ≡ option_map (ready_fragment (place_in (places_of e.documents.now))) q
      → (r : Result Expanded ExpandFault) → IsFragment e n o r → IsAnswer (option_map (whole_fragment (project e.schema.now e.documents.now)) q) r
  fragment_found n None o e' f r h = absurd (never f) where
    never : Some o ≡ None → ⊥
    never g = cc
  fragment_found n (Some x) o e' f r h =
      let same : o ≡ ready_fragment (place_in (places_of e.documents.now)) x = cc f in
      fragment_is n x (fragments_listed e.schema.now (trees_of e.documents.now) n x e') (fragment_there n (fragments (definitions_in e.schema.now e.documents.now)) x e') r
      (subst (λ (y : Ready). IsFragment e n y r) same h)

-- what stands ready under a name
pub operation_answered : (e : Expander) → IsReady e → (n : Text) (o : ReadyOperation) → Some o ≡ find_operation e.operations n → (r : Result Expanded ExpandFault) → IsOperation e n o r
    → IsAnswer (whole_in e.schema.now e.documents.now form.Operation n) r
operation_answered e ready n o f r h =
    operation_found e ready n (operation_named (operations (definitions_in e.schema.now e.documents.now)) n) o refl (f ∙ ready.operations_found n) r h

pub fragment_answered : (e : Expander) → IsReady e → (n : Text) (o : Ready) → Some o ≡ find_in e.fragments n → (r : Result Expanded ExpandFault) → IsFragment e n o r
    → IsAnswer (whole_in e.schema.now e.documents.now form.Fragment n) r
fragment_answered e ready n o f r h =
    fragment_found e ready n (fragment_named (fragments (definitions_in e.schema.now e.documents.now)) n) o refl (f ∙ ready.fragments_found n) r h

-- a name that is wanted stands ready
pub some_map : {A B : Type 0} (f : A → B) (q : Option A) → is_some (option_map f q) ≡ is_some q
some_map f None = refl
some_map f (Some a) = refl

pub operation_has : (e : Expander) → IsReady e → (n : Text) → is_some (find_operation e.operations n) ≡ is_some (whole_in e.schema.now e.documents.now form.Operation n)
operation_has e ready n =
    let q : Option OperationAt = operation_named (operations (definitions_in e.schema.now e.documents.now)) n in
    ap is_some (ready.operations_found n) ∙ some_map (ready_operation e.schema.now (place_in (places_of e.documents.now))) q ∙ sym (some_map (whole_operation (project e.schema.now e.documents.now)) q)

pub fragment_has : (e : Expander) → IsReady e → (n : Text) → is_some (find_in e.fragments n) ≡ is_some (whole_in e.schema.now e.documents.now form.Fragment n)
fragment_has e ready n =
    let q : Option FragmentAt = fragment_named (fragments (definitions_in e.schema.now e.documents.now)) n in
    ap is_some (ready.fragments_found n) ∙ some_map (ready_fragment (place_in (places_of e.documents.now))) q ∙ sym (some_map (whole_fragment (project e.schema.now e.documents.now)) q)

-- what is not found is not wanted
pub found_none : {A B : Type 0} (f : A → B) (o : Option A) (b : Bool) → is_some (option_map f o) ≡ b → b ≡ true → o ≡ None → ⊥
found_none f o b e h n = true≢false (sym h ∙ sym e ∙ ap (λ q. is_some (option_map f q)) n)
