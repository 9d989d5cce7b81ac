-- What the code answers for a name is the plan of the project.
use Rattle.std.proofs.Common.{◌≡◌, Bool, true, true≢false, List, [], ◌∷◌, Option, Some, None, option_map, IfSome, ap, sym, ◌∙◌}
use Rattle.std.specs.Prelude.{length, is_some}
use Rattle.plan_ir.specs.gql_ast.Sels.{Sels}
use Rattle.plan_ir.specs.Projects.{definitions_in, project}
use Rattle.plan_ir.specs.Expansion.{Project, name_or, operation_named}
use Rattle.plan_ir.specs.Reader.{Reader}
use Rattle.plan_ir.specs.Substitution.{Scope, operation_scope, scope_of_own}
use Rattle.plan_ir.specs.declared.form.Form.TheVariants as form
use Rattle.plan_read.specs.OperationsView.{ReadyOperation, find_operation, ready_operation}
use Rattle.plan_read.specs.Plans.{reader_in}
use Rattle.plan_read.specs.Premises.{IsComposite, IsOnComposite}
use Rattle.plan_read.specs.Preparing.{IsReady, fragment_steps, operation_steps, steps_made}
use Rattle.plan_read.specs.Reading.{Ready, reading, ready_fragment}
use Rattle.plan_read.specs.ReadyView.{find_in}
use Rattle.plan_read.specs.Steps.{fragment_reader, operation_reader, reader_steps}
use Rattle.plan_read.specs.declared.reader.Readers.{Readers}
use Rattle.plan_read.proofs.Entered.{reading_is}
use Rattle.plan_read.proofs.Tables.{some_mapped}
use Rattle.plan_ir.specs.schema_tables.Types.{Text, is_composite, possible, root}
use Rattle.plan_ir.specs.schema_types.NameRules.{fragment_named, fragments, operations}
use Rattle.plan_ir.specs.schema_types.Sites.{FragmentAt, OperationAt}

module _ (r : Readers) (ready : IsReady r) where
  steps_are : (scope : Scope) (over : Option Text) (ts : List Text) (s : Sels)
      → steps_made r scope over ts s ≡ reader_steps (length (fragments (definitions_in r.schema.now r.documents.now))) (project r.schema.now r.documents.now) scope over ts s
  steps_are scope over ts s =
      let p : Project = project r.schema.now r.documents.now in
      (λ i. reading (ready.all_spreads i) r.schema.now (find_in r.fragments) scope over ts s)
      ∙ reading_is p (find_in r.fragments) ready.fragments_found (length p.fragments) scope over ts s

  operation_found : (q : Option OperationAt) (o : ReadyOperation) (steps : Reader) → Some o ≡ option_map ready_operation q → steps ≡ operation_steps r o
      → Some steps ≡ option_map (operation_reader (project r.schema.now r.documents.now)) q
  operation_found None o steps e h = absurd (never e) where
    never : Some o ≡ None → ⊥
    never g = cc
  operation_found (Some x) o steps e h =
      let same : o ≡ ready_operation x = cc e in
      ap Some (h ∙ ap (operation_steps r) same ∙ steps_are operation_scope (root r.schema.now x.kind) (name_or (root r.schema.now x.kind) ∷ []) x.selections)

  fragment_found : (q : Option FragmentAt) (f : Ready) (steps : Reader) → Some f ≡ option_map ready_fragment q → steps ≡ fragment_steps r f
      → Some steps ≡ option_map (fragment_reader (project r.schema.now r.documents.now)) q
  fragment_found None f steps e h = absurd (never e) where
    never : Some f ≡ None → ⊥
    never g = cc
  fragment_found (Some x) f steps e h =
      let same : f ≡ ready_fragment x = cc e in
      ap Some (h ∙ ap (fragment_steps r) same ∙ steps_are (scope_of_own x) (Some x.on.name) (possible r.schema.now x.on.name) x.selections)

  composite_found : (q : Option FragmentAt) (f : Ready) → Some f ≡ option_map ready_fragment q → IfSome q (IsComposite r.schema.now) → is_composite r.schema.now f.on ≡ true
  composite_found None f e h = absurd (never e) where
    never : Some f ≡ None → ⊥
    never g = cc
  composite_found (Some x) f e h =
      let same : f ≡ ready_fragment x = cc e in
      ap (λ (g : Ready). is_composite r.schema.now g.on) same ∙ h

  -- what stands ready under a name
  pub operation_answered : (n : Text) (o : ReadyOperation) (steps : Reader) → Some o ≡ find_operation r.operations n → steps ≡ operation_steps r o
      → Some steps ≡ reader_in r.schema.now r.documents.now form.Operation n
  operation_answered n o steps e h =
      operation_found (operation_named (operations (definitions_in r.schema.now r.documents.now)) n) o steps (e ∙ ready.operations_found n) h

  pub fragment_answered : (n : Text) (f : Ready) (steps : Reader) → Some f ≡ find_in r.fragments n → steps ≡ fragment_steps r f
      → Some steps ≡ reader_in r.schema.now r.documents.now form.Fragment n
  fragment_answered n f steps e h =
      fragment_found (fragment_named (fragments (definitions_in r.schema.now r.documents.now)) n) f steps (e ∙ ready.fragments_found n) h

  pub fragment_composite : (n : Text) (f : Ready) → Some f ≡ find_in r.fragments n → IsOnComposite r.schema.now r.documents.now form.Fragment n
      → is_composite r.schema.now f.on ≡ true
  fragment_composite n f e h =
      composite_found (fragment_named (fragments (definitions_in r.schema.now r.documents.now)) n) f (e ∙ ready.fragments_found n) h

  -- a name that is wanted stands ready
  pub operation_has : (n : Text) → is_some (find_operation r.operations n) ≡ is_some (reader_in r.schema.now r.documents.now form.Operation n)
  operation_has n =
      let q : Option OperationAt = operation_named (operations (definitions_in r.schema.now r.documents.now)) n in
      ap is_some (ready.operations_found n) ∙ some_mapped ready_operation q ∙ sym (some_mapped (operation_reader (project r.schema.now r.documents.now)) q)

  pub fragment_has : (n : Text) → is_some (find_in r.fragments n) ≡ is_some (reader_in r.schema.now r.documents.now form.Fragment n)
  fragment_has n =
      let q : Option FragmentAt = fragment_named (fragments (definitions_in r.schema.now r.documents.now)) n in
      ap is_some (ready.fragments_found n) ∙ some_mapped ready_fragment q ∙ sym (some_mapped (fragment_reader (project r.schema.now r.documents.now)) q)

-- what is not found is not wanted
pub found_none : {A B : Type 0} (f : A → B) (o : Option A) (b : Bool) → is_some (option_map f o) ≡ b → b ≡ true → o ≡ None → ⊥
found_none f o b e h n = true≢false (sym h ∙ sym e ∙ ap (λ q. is_some (option_map f q)) n)
