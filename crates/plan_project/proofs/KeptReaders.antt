-- The plans by which operations and fragments of an accepted project are read mean reading along the documents.
use Rattle.std.proofs.Common.{◌≡◌, true, List, [], ◌∷◌, Option, Some, None, IfSome, option_map, is_some, refl, ap, ◌∙◌}
use Rattle.plan_ir.specs.gql_ast.declared.document.Document.{Document}
use Rattle.plan_ir.specs.gql_ast.declared.place.Placed.{Placed}
use Rattle.plan_read.specs.plan_expand.Answers.{whole_in}
use Rattle.plan_ir.specs.Projects.{project}
use Rattle.plan_ir.specs.Projects.{place_in}
use Rattle.plan_ir.specs.Expansion.{Project, Whole, name_or, whole_operation}
use Rattle.plan_ir.specs.ReaderMeaning.{plan_reads}
use Rattle.plan_ir.specs.declared.expanded.Expanded.{Expanded}
use Rattle.plan_ir.specs.declared.form.Form.{Form}
use Rattle.plan_ir.specs.declared.form.Form.TheVariants as F
use Rattle.plan_project.proofs.Accepting.{fragment_is_on_composite, fragment_merges, have_names, operation_merges}
use Rattle.plan_project.specs.Lookups.{ReadsFragment, ReadsOperation, fragment_in, operation_in}
use Rattle.plan_project.specs.Projects.{IsAcceptedProject}
use Rattle.plan_project.specs.declared.operations.Compiled.{Compiled}
use Rattle.plan_project.specs.declared.operations.CompiledFragment.{CompiledFragment}
use Rattle.plan_read.proofs.ReaderLaws.{readers_mean_fragments, readers_mean_operations}
use Rattle.plan_read.proofs.TypedReaders.{fragment_readers_are_typed, operation_readers_are_typed}
use Rattle.plan_read.proofs.plan_build_laws.SuitedOperations.{fragments_of_documents_meet, operations_of_documents_meet}
use Rattle.plan_read.specs.Plans.{reader_in}
use Rattle.plan_read.specs.ReaderTypes as reader_types
use Rattle.plan_read.specs.plan_build.Meeting.{FragmentsMeet}
use Rattle.plan_read.specs.Premises.{IsComposite, IsOnComposite}
use Rattle.plan_read.specs.Steps.{fragment_reader, operation_reader}
use Rattle.plan_read.specs.relay_model.Readings.{with_marked}
use Rattle.plan_ir.specs.schema_tables.Types.{Text, Defs, possible, root}
use Rattle.plan_ir.specs.schema_types.DocumentRules.{places_of}
use Rattle.plan_ir.specs.schema_types.Sites.{FragmentAt, OperationAt}
use Rattle.plan_ir.specs.store_model.Walks.{type_of_record}

module _ (defs : Defs) (ps : List (Placed Document)) where
  -- ---- which plans there are

  -- what becomes something has a plan
  pub whole_has_reader : (n : Text) (e : Expanded) → Some e ≡ option_map (λ (w : Whole). w.expanded) (whole_in defs ps F.Operation n) → is_some (reader_in defs ps F.Operation n) ≡ true
  whole_has_reader n e whole = on (operation_in defs ps n) whole
    where
      on : (x : Option OperationAt) → Some e ≡ option_map (λ (w : Whole). w.expanded) (option_map (whole_operation (project defs ps)) x)
          → is_some (option_map (operation_reader (project defs ps)) x) ≡ true
      on None w = absurd cc
      on (Some o) w = refl

  pub fragment_has_reader : (n : Text) → is_some (fragment_in defs ps n) ≡ true → is_some (reader_in defs ps F.Fragment n) ≡ true
  fragment_has_reader n there = on (fragment_in defs ps n) there
    where
      on : (x : Option FragmentAt) → is_some x ≡ true → is_some (option_map (fragment_reader (project defs ps)) x) ≡ true
      on None h = h
      on (Some f) h = refl

  module _ (a : IsAcceptedProject defs ps) where
    pub is_on_composite : (form : Form) (n : Text) → IsOnComposite defs ps form n
    is_on_composite F.Operation n = tt
    is_on_composite F.Fragment n = on (fragment_in defs ps n) refl
      where
        on : (x : Option FragmentAt) → fragment_in defs ps n ≡ x → IfSome x (IsComposite defs)
        on None e = tt
        on (Some f) e = fragment_is_on_composite defs ps a n f e

    -- ---- what they mean

    pub reads_operation : (n : Text) (o : OperationAt) (c : Compiled) → operation_in defs ps n ≡ Some o → c.root ≡ name_or (root defs o.kind) → c.types ≡ c.root ∷ []
        → Some c.reader.value.steps ≡ reader_in defs ps F.Operation n → ReadsOperation defs ps o c
    reads_operation n o c there at_root types planned =
        let p : Project = project defs ps in
        let is_planned : Some c.reader.value.steps ≡ Some (operation_reader p o) = planned ∙ ap (option_map (operation_reader p)) there in
        let steps : c.reader.value.steps ≡ operation_reader p o = cc is_planned in
        let typed : c.types ≡ name_or (root defs o.kind) ∷ [] = types ∙ ap (λ (r : Text). r ∷ []) at_root in
        record {
          typed =
              ap reader_types.is_typed steps
              ∙ operation_readers_are_typed p o (have_names defs ps a) a.accepted.sound
              (operations_of_documents_meet defs ps (place_in (places_of ps)) n o a.accepted.sound a.accepted.meet there);
          reads = λ own owner m id.
              (λ i. plan_reads (type_of_record (at_root i)) owner m own (steps i) (typed i) id)
              ∙ readers_mean_operations defs ps (place_in (places_of ps)) n o a.accepted.sound a.accepted.meet there (operation_merges defs ps a n o there) own owner m id;
        }

    pub reads_fragment : (n : Text) (f : FragmentAt) (c : CompiledFragment) → fragment_in defs ps n ≡ Some f → c.types ≡ possible defs f.on.name
        → Some c.reader.value.steps ≡ reader_in defs ps F.Fragment n → ReadsFragment defs ps f c
    reads_fragment n f c there types planned =
        let p : Project = project defs ps in
        let is_planned : Some c.reader.value.steps ≡ Some (fragment_reader p f) = planned ∙ ap (option_map (fragment_reader p)) there in
        let steps : c.reader.value.steps ≡ fragment_reader p f = cc is_planned in
        let all : FragmentsMeet p = fragments_of_documents_meet defs ps (place_in (places_of ps)) a.accepted.sound a.accepted.meet in
        record {
          typed =
              ap reader_types.is_typed steps
              ∙ fragment_readers_are_typed p f (have_names defs ps a) a.accepted.sound (record { selections = all n f there; fragments = all });
          reads = λ operation_type own scope locals owner m id.
              (λ i. plan_reads (type_of_record operation_type) owner m (with_marked own scope) (steps i) (types i) id)
              ∙ readers_mean_fragments defs ps (place_in (places_of ps)) n f a.accepted.sound a.accepted.meet there (fragment_merges defs ps a n f there) operation_type own scope locals owner m id;
        }
