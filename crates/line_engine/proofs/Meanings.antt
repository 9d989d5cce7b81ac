-- The plans of operations and fragments mean what the machine asks of handles.
use Rattle.std.proofs.Common.{◌≡◌, Bool, true, false, true≢false, cond, bytes_eq, List, [], ◌∷◌, Some, None, is_some, unwrap_or, refl, ap, sym, subst, ◌∙◌}
use Rattle.std.proofs.lemmas.Slice.Eq.{bytes_eq-Decides}
use Rattle.plan_ir.specs.gql_ast.declared.document.Document.{Document}
use Rattle.plan_ir.specs.gql_ast.declared.place.Placed.{Placed}
use Rattle.plan_ir.specs.NormalMeaning.{plan_says}
use Rattle.plan_ir.specs.ReaderMeaning.{plan_reads}
use Rattle.plan_ir.specs.declared.normal.NormalPlan.{NormalPlan}
use Rattle.plan_project.specs.Lookups.{IsOperation, KeepsFragment, ReadsFragment, fragment_in, operation_in}
use Rattle.plan_project.specs.declared.operations.Compiled.{Compiled}
use Rattle.plan_project.specs.declared.operations.CompiledFragment.{CompiledFragment}
use Rattle.plan_project.specs.plan_read.Laws.{AreLocals}
use Rattle.plan_ir.specs.Projects.{definitions_in}
use Rattle.line_engine.specs.Handles.{held_as}
use Rattle.line_engine.specs.Kept.{HandleKept}
use Rattle.line_engine.specs.Operations.{HoldsPlan}
use Rattle.line_engine.specs.Parts.{IsProject}
use Rattle.line_engine.specs.Stands.{KeepsHandle, ShowsPart}
use Rattle.relay_machine.specs.Machine as machine
use Rattle.relay_machine.specs.Machine.{Handle, documents_of, fragment_read, operation_read, root_type}
use Rattle.relay_machine.specs.relay_model.Readings.{fragment_reads, no_place, with_marked}
use Rattle.relay_machine.specs.relay_model.Responses.{operation_says}
use Rattle.plan_ir.specs.schema_tables.Types.{Text, Defs}
use Rattle.plan_ir.specs.schema_types.Environments.{Values, environment}
use Rattle.plan_ir.specs.schema_types.NameRules.{fragment_named, fragments}
use Rattle.plan_ir.specs.schema_types.Sites.{FragmentAt, OperationAt}
use Rattle.plan_ir.specs.constant_values.declared.env.Env.{Env}
use Rattle.serde_json.specs.Data as J
use Rattle.plan_ir.specs.store_model.Records.{Records}
use Rattle.plan_ir.specs.store_model.Verdicts.{Verdict}
use Rattle.plan_ir.specs.store_model.Walks.{Slots, reading, type_of_record}
use Rattle.store_watch.specs.store_read.Reading.{slots}
use Rattle.plan_ir.specs.store_record.Keys as keys
use Rattle.store_retain.specs.declared.held.Held.{Held}
use Rattle.store_watch.specs.Rows.{look_of}
use Rattle.store_watch.specs.Watching.{read_of}
use Rattle.store_watch.specs.declared.watched.Watched.{Watched}

-- ---- operations

module _ (parts : Defs × List (Placed Document)) (p : machine.Project) (k : HandleKept) (h : Handle) (c : Compiled)
    (is : IsProject parts p) (kept : KeepsHandle p k h)
    (all : (o : OperationAt) → operation_in parts.0 parts.1 k.operation ≡ Some o → IsOperation parts.0 parts.1 k.operation o c) where
  held_is : IsOperation p.defs p.documents k.operation h.operation c
  held_is =
      let there : operation_in parts.0 parts.1 k.operation ≡ Some h.operation =
      ap (λ (ds : Defs). operation_in ds parts.1 k.operation) is.schema ∙ ap (λ (ps : List (Placed Document)). operation_in p.defs ps k.operation) is.documents ∙ kept.operation in
      subst (λ (ps : List (Placed Document)). IsOperation p.defs ps k.operation h.operation c) is.documents
      (subst (λ (ds : Defs). IsOperation ds parts.1 k.operation h.operation c) is.schema (all h.operation there))

  -- the handle's root type is the operation's
  same_root : k.root ≡ c.root
  same_root = kept.root ∙ sym held_is.keeps.root

  plan_says_held : (response : J.Data) → plan_says k.root k.values c.normal.value.steps response ≡ machine.said_to p h response
  plan_says_held response =
      ap (λ (T : Text). plan_says T k.values c.normal.value.steps response) same_root ∙ held_is.normalizes.says k.values response
      ∙ ap (λ (vs : Values). operation_says (documents_of p) no_place h.operation vs response) kept.values

-- what the plans of an operation that is held say and read
abbrev pub IsHeld : Defs × List (Placed Document) → Text → Compiled → Type 0
IsHeld parts n c = (o : OperationAt) → operation_in parts.0 parts.1 n ≡ Some o → IsOperation parts.0 parts.1 n o c

pub verdict_is_said : (parts : Defs × List (Placed Document)) (held : Held) (c : Compiled) → IsHeld parts held.name c → (plan : NormalPlan) → plan ≡ c.normal.value
    → (env : Env) → env ≡ held.env.value → (response : J.Data) (v : Verdict) → plan_says env.root env.values plan.steps response ≡ v
    → (p : machine.Project) (h : Handle) → IsProject parts p → KeepsHandle p (held_as h.name held) h → v ≡ machine.said_to p h response
verdict_is_said parts held c all plan same env under response v e p h is kept =
    sym e ∙ (λ i. plan_says (under i).root (under i).values (same i).steps response) ∙ plan_says_held parts p (held_as h.name held) h c is kept all response

module _ (parts : Defs × List (Placed Document)) (held : Held) (holds : HoldsPlan parts.0 parts.1 held) (c : Compiled) (all : IsHeld parts held.name c) (handle : Text) (what : Watched)
    (by : what.handle ≡ handle) (fragment : what.fragment ≡ None) (plan : what.plan.value ≡ held.reader.value) (types : what.types ≡ c.types) (env : what.env.value ≡ held.env.value)
    (id : what.id ≡ keys.root) (p : machine.Project) (h : Handle) (is : IsProject parts p) (kept : KeepsHandle p (held_as handle held) h) where
  here : HoldsPlan p.defs p.documents held
  here = subst (λ (ps : List (Placed Document)). HoldsPlan p.defs ps held) is.documents (subst (λ (ds : Defs). HoldsPlan ds parts.1 held) is.schema holds)

  types_are : what.types ≡ root_type p h ∷ []
  types_are =
      let known : IsOperation p.defs p.documents held.name h.operation c = held_is parts p (held_as handle held) h c is kept all in
      types ∙ known.keeps.types ∙ ap (λ (t : Text). t ∷ []) known.keeps.root

  pub operation_is_found : (m : Records) → read_of (slots m) (look_of what) ≡ operation_read p m h
  operation_is_found m =
      (λ i. plan_reads (type_of_record (env i).root) (by i) (slots m) (env i).values (plan i).steps (types_are i) (id i))
      ∙ (λ i. plan_reads (type_of_record (kept.root i)) (kept.name i) (slots m) (kept.values i) held.reader.value.steps (root_type p h ∷ []) keys.root)
      ∙ here.reads h.operation kept.operation h.values h.name (slots m) keys.root

  pub operation_is_shown : ShowsPart p (look_of what) h None
  operation_is_shown = record {
    handle = by ∙ kept.name;
    root = ap (λ (e : Env). e.root) env ∙ kept.root;
    values = ap (λ (e : Env). e.values) env ∙ kept.values;
    fragment = fragment;
    id = id;
    shows = λ m. ap reading (operation_is_found m);
  }

-- ---- fragments by their names

name_is : (n : Text) (fs : List FragmentAt) (f : FragmentAt) → fragment_named fs n ≡ Some f → f.name.name ≡ n
name_is n [] f e = absurd (true≢false (sym (ap is_some e)))
name_is n (g ∷ fs) f e = at (bytes_eq g.name.name n) refl e (name_is n fs f)
  where
    at : (b : Bool) → bytes_eq g.name.name n ≡ b → cond b (Some g) (fragment_named fs n) ≡ Some f → (fragment_named fs n ≡ Some f → f.name.name ≡ n) → f.name.name ≡ n
    at true is k later = sym (ap (λ o. (unwrap_or o g).name.name) k) ∙ (bytes_eq-Decides g.name.name n).0 is
    at false is k later = later k

-- ---- fragments, in an environment that has the marked values of a scope beside the operation's own

plan_reads_marked : (p : machine.Project) (k : HandleKept) (h : Handle) (f : FragmentAt) (n : Text) (c : CompiledFragment) → KeepsHandle p k h
    → KeepsFragment p.defs n f c → ReadsFragment p.defs p.documents f c → (scope given : Values) → scope ≡ environment c.locals given
    → (root : Text) (own : Values) → root ≡ k.root → own ≡ with_marked k.values scope → (owner : Text) (m : Slots) (id : Text)
    → plan_reads (type_of_record root) owner m own c.reader.value.steps c.types id ≡ fragment_reads (documents_of p) f (root_type p h) h.values scope owner m id
plan_reads_marked p k h f n c kept keeps reads scope given are root own at_root marked owner m id =
    ap (λ (T : Text). plan_reads (type_of_record T) owner m own c.reader.value.steps c.types id) (at_root ∙ kept.root)
    ∙ ap (λ (vs : Values). plan_reads (type_of_record (root_type p h)) owner m vs c.reader.value.steps c.types id) (marked ∙ ap (λ (vs : Values). with_marked vs scope) kept.values)
    ∙ reads.reads (root_type p h) h.values scope (subst (λ (vs : Values). AreLocals f vs) (sym are) (keeps.scopes given)) owner m id

module _ (held : Held) (c : CompiledFragment) (scope : Values) (handle id : Text) (what : Watched)
    (by : what.handle ≡ handle) (plan : what.plan.value ≡ c.reader.value) (types : what.types ≡ c.types) (root : what.env.value.root ≡ held.env.value.root)
    (values : what.env.value.values ≡ with_marked held.env.value.values scope) (at : what.id ≡ id)
    (p : machine.Project) (h : Handle) (f : FragmentAt) (n : Text)
    (keeps : KeepsFragment p.defs n f c) (reads : ReadsFragment p.defs p.documents f c) (kept : KeepsHandle p (held_as handle held) h)
    (given : Values) (are : scope ≡ environment c.locals given) where
  pub fragment_is_found : (m : Records) → read_of (slots m) (look_of what) ≡ fragment_read p m h f scope id
  fragment_is_found m =
      (λ i. plan_reads (type_of_record what.env.value.root) (by i) (slots m) what.env.value.values (plan i).steps (types i) (at i))
      ∙ plan_reads_marked p (held_as handle held) h f n c kept keeps reads scope given are what.env.value.root what.env.value.values root values handle (slots m) id
      ∙ ap (λ (owner : Text). fragment_reads (documents_of p) f (root_type p h) h.values scope owner (slots m) id) kept.name

  pub fragment_is_shown : fragment_in p.defs p.documents n ≡ Some f → what.fragment ≡ Some c.name → ShowsPart p (look_of what) h (Some (record { fragment = f; scope = scope; id = id }))
  fragment_is_shown there named = record {
    handle = by ∙ kept.name;
    root = root ∙ kept.root;
    values = values ∙ ap (λ (own : Values). with_marked own scope) kept.values;
    fragment = named ∙ ap Some (keeps.name ∙ sym (name_is n (fragments (definitions_in p.defs p.documents)) f there));
    id = at;
    shows = λ m. ap reading (fragment_is_found m);
  }
