-- Plans that read mean masked reading along the documents.
use Rattle.std.proofs.Common.{◌≡◌, ℕ, ◌+◌, ◌≤◌, List, [], ◌∷◌, map, Some, refl, ap, sym, ◌∙◌, subst, arith}
use Rattle.std.specs.List.{AllByRecursion, AllZip}
use Rattle.plan_ir.specs.gql_plain.Order.{has_text}
use Rattle.plan_build.proofs.FieldsAlike.{merging_fields_are_alike}
use Rattle.plan_build.proofs.Meaning.{merge_root, only_one, root_has}
use Rattle.plan_build.proofs.OrderLaws.{differ_one, differ_possible}
use Rattle.plan_build.proofs.PartLaws.{Merge}
use Rattle.plan_build.proofs.Parts as parts
use Rattle.plan_build.proofs.SoundTypes.{are_sound}
use Rattle.plan_build.proofs.StepLaws.{AreSound}
use Rattle.plan_build.proofs.SuitedOperations.{operations_are_suited}
use Rattle.plan_build.specs.FieldsAlike.{FieldsAreAlike}
use Rattle.plan_build.specs.Laws.{definitions}
use Rattle.plan_build.specs.Suited.{IsSuited, Suited}
use Rattle.plan_ir.proofs.ReaderDepth.{plan_enough}
use Rattle.plan_ir.specs.Expansion.{Project, name_or, operation_from, project_of, selections_from, whole_fragment, whole_operation}
use Rattle.plan_ir.specs.Nodes.{end}
use Rattle.plan_ir.specs.ReaderMeaning.{ReaderPart, collect_reader, plan_reads, records_below}
use Rattle.plan_ir.specs.Substitution.{operation_scope, scope_of_own}
use Rattle.plan_ir.specs.declared.expanded.Expanded.{Expanded}
use Rattle.plan_read.proofs.ConstantLocals.{locals_are_constant}
use Rattle.plan_read.proofs.KnownDocuments.{FromDocuments, document_items}
use Rattle.plan_read.proofs.KnownNodes.{Stands}
use Rattle.plan_read.proofs.KnownParts.{Known, as_nodes, as_plan, gather}
use Rattle.plan_read.proofs.KnownSteps.{AlikeSteps, IsPlan, plan_items}
use Rattle.plan_read.proofs.KnownValid.{AreKnown, known_holds}
use Rattle.plan_read.proofs.MarkedScopes.{marked_means}
use Rattle.plan_read.proofs.PlanDepth.{plan_deep}
use Rattle.plan_read.proofs.SuitedFragments.{fragments_are_suited}
use Rattle.plan_read.specs.Constants.{AreConstant}
use Rattle.plan_read.specs.Laws.{AreLocals, ReadersMeanFragments, ReadersMeanOperations, ReadersMeanSuitedFragments, ReadersMeanSuitedOperations}
use Rattle.plan_build.proofs.plan_collect_laws.Collects.{nodes_append-end}
use Rattle.plan_build.proofs.plan_collect_laws.Evaluating.{Means}
use Rattle.plan_build.specs.relay_model.Collection.{collect, part_of}
use Rattle.plan_build.specs.relay_model.Readings.{depth_of, fragment_part, masked_setting, part_reads, with_marked}
use Rattle.plan_ir.specs.schema_rules.Checked.{IsSound}
use Rattle.plan_ir.specs.schema_tables.Types.{Text, possible, root}
use Rattle.plan_ir.specs.schema_types.Environments.{Values}
use Rattle.plan_ir.specs.schema_types.Sites.{FragmentAt, OperationAt}
use Rattle.plan_ir.proofs.store_model_laws.AlikeReads.{read_alike}
use Rattle.plan_ir.proofs.store_model_laws.ItemReads.{read_items}
use Rattle.plan_ir.proofs.store_model_laws.SameItems.{AlikeItem, items_keep, zip_append}
use Rattle.plan_ir.specs.store_model.Alike.{Keeps, Related}
use Rattle.plan_ir.specs.store_model.Items.{collect_all}
use Rattle.plan_ir.specs.store_model.Walks.{Slots, type_of_record}

module _ (p : Project) (own : Values) (sound : AreSound p.defs) where
  -- ---- selections that are read, and their plan

  abbrev ArePlans : Related Known ReaderPart
  ArePlans types xs gs = AreKnown p own types xs × AllZip (IsPlan p own) xs gs

  plans_give : (T : Text) (xs : List Known) (gs : List ReaderPart) → AllByRecursion (Stands p own T) xs → AllZip (IsPlan p own) xs gs
      → AlikeSteps p own (collect_all (gather p own) T xs) (collect_all collect_reader T gs)
  plans_give T [] [] stands h = tt
  plans_give T [] (g ∷ gs) stands h = absurd h
  plans_give T (x ∷ xs) [] stands h = absurd h
  plans_give T (x ∷ xs) (g ∷ gs) stands h =
      zip_append (AlikeItem (IsPlan p own)) (gather p own T x) (collect_reader T g) (collect_all (gather p own) T xs) (collect_all collect_reader T gs)
      (subst (λ (z : ReaderPart). AlikeSteps p own (gather p own T x) (collect_reader T z)) (sym (h.0 T stands.0.met))
      (plan_items p own sound T x stands.0.means stands.0.differ stands.0.here stands.0.holds.there stands.0.holds.suited))
      (plans_give T xs gs stands.1 h.1)

  plans_keep : Keeps ArePlans ArePlans (gather p own) collect_reader
  plans_keep =
      items_keep (gather p own) collect_reader (AreKnown p own) (IsPlan p own) (IsPlan p own) (known_holds p own sound)
      (λ T types xs gs here known h. plans_give T xs gs (known T here).0 h)

  -- ---- a read

  pub reads_the_same : AreConstant p → (x : Known) → Means own x.scope x.part.environment → (types : List Text) → AreKnown p own types (x ∷ [])
      → (operation_type owner : Text) (m : Slots) (id : Text)
      → plan_reads (type_of_record operation_type) owner m own (as_plan p own x).steps types id ≡ part_reads p own operation_type owner m x.part types id
  reads_the_same constant x means types known operation_type owner m id =
      let typed : Text → Text = type_of_record operation_type in
      let n : ℕ = depth_of x.part.spreads p x.part.selections + 1 in
      let deep : records_below (as_plan p own x).steps ≤ depth_of x.part.spreads p x.part.selections = plan_deep x.part.spreads p x.scope x.over x.types x.part.selections in
      sym (plan_enough typed owner m n types own (as_plan p own x).steps id (omega (arith, deep)))
      ∙ sym (read_alike (gather p own) collect_reader typed owner m (λ k. ArePlans) (λ k. plans_keep) n types (x ∷ []) (as_plan p own x ∷ []) id (known, ((λ U h. refl), tt)))
      ∙ sym (read_items (collect (masked_setting p own)) (gather p own) typed owner m (FromDocuments own) (document_items p own constant) n types x.part [] x [] id (refl, means) tt)

  -- ---- at the top

  -- an expansion whose fields are alike, with nothing behind it
  merges_alone : (e : Expanded) → FieldsAreAlike p.defs e → (x : Known) → as_nodes p own x ≡ record { set = record { environment = own; nodes = e.selections }; types = x.types; around = e.root; type = e.root }
      → Merge p.defs (map (as_nodes p own) (x ∷ []))
  merges_alone e alike x is = subst (λ (q : parts.Part). Merge p.defs (q ∷ [])) (sym is) (merge_root p.defs own e x.types alike)

-- ---- operations

abbrev known_operation : Project → Values → OperationAt → Known
known_operation p own o = record {
  part = part_of (masked_setting p own) o;
  scope = operation_scope;
  types = name_or (root p.defs o.kind) ∷ [];
  met = name_or (root p.defs o.kind) ∷ [];
  around = name_or (root p.defs o.kind);
  type = name_or (root p.defs o.kind);
  from = operation_from o;
  over = root p.defs o.kind;
  added = end;
}

operation_known : (p : Project) (own : Values) (o : OperationAt) → IsSound p.defs → IsSuited p.defs (whole_operation p o).expanded → FieldsAreAlike p.defs (whole_operation p o).expanded
    → AreKnown p own (name_or (root p.defs o.kind) ∷ []) (known_operation p own o ∷ [])
operation_known p own o sound suited alike T h =
    let t : Text = name_or (root p.defs o.kind) in
    let e : Expanded = (whole_operation p o).expanded in
    let is : T ≡ t = only_one t T h in
    let bare = nodes_append-end e.selections in (
      (
        record {
          means = λ n. refl;
          differ = differ_one t;
          here = h;
          met = h;
          holds = record {
            suited = subst (Suited p.defs t t) (sym bare) suited.selections;
            differ = differ_one t;
            here = h;
            there = ap (has_text (possible p.defs t)) is ∙ root_has p.defs sound t suited.root;
            alone = λ b. is;
          };
        },
        tt,
      ),
      merges_alone p own (are_sound p.defs sound) e alike (known_operation p own o) (λ i. record { set = record { environment = own; nodes = bare i }; types = t ∷ []; around = t; type = t }),
    )

pub readers_mean_suited_operations : ReadersMeanSuitedOperations
readers_mean_suited_operations p o sound constant suited alike own owner m id =
    reads_the_same p own (are_sound p.defs sound) constant (known_operation p own o) (λ n. refl) (name_or (root p.defs o.kind) ∷ [])
    (operation_known p own o sound suited alike) (name_or (root p.defs o.kind)) owner m id

pub readers_mean_operations : ReadersMeanOperations
readers_mean_operations defs ps place name o sound meet found none own owner m id =
    let p : Project = project_of defs place (definitions defs ps) in
    readers_mean_suited_operations p o sound (locals_are_constant defs ps place meet) (operations_are_suited defs ps place name o sound meet found)
    (merging_fields_are_alike defs (whole_operation p o).expanded none) own owner m id

-- ---- fragments

abbrev known_fragment : Project → (own scope : Values) → FragmentAt → Known
known_fragment p own scope f = record {
  part = fragment_part p f own scope;
  scope = scope_of_own f;
  types = possible p.defs f.on.name;
  met = possible p.defs f.on.name;
  around = f.on.name;
  type = f.on.name;
  from = selections_from f;
  over = Some f.on.name;
  added = end;
}

fragment_known : (p : Project) (own scope : Values) (f : FragmentAt) → IsSound p.defs → AreLocals f scope → Suited p.defs f.on.name f.on.name (whole_fragment p f).expanded.selections
    → FieldsAreAlike p.defs (whole_fragment p f).expanded → AreKnown p (with_marked own scope) (possible p.defs f.on.name) (known_fragment p own scope f ∷ [])
fragment_known p own scope f sound locals suited alike T h =
    let t : Text = f.on.name in
    let e : Expanded = (whole_fragment p f).expanded in
    let bare = nodes_append-end e.selections in (
      (
        record {
          means = marked_means f own scope locals;
          differ = differ_possible p.defs t;
          here = h;
          met = h;
          holds = record {
            suited = subst (Suited p.defs t t) (sym bare) suited;
            differ = differ_possible p.defs t;
            here = h;
            there = h;
            alone = λ b. (are_sound p.defs sound).alone t T b h;
          };
        },
        tt,
      ),
      merges_alone p (with_marked own scope) (are_sound p.defs sound) e alike (known_fragment p own scope f)
          (λ i. record { set = record { environment = with_marked own scope; nodes = bare i }; types = possible p.defs t; around = t; type = t }),
    )

pub readers_mean_suited_fragments : ReadersMeanSuitedFragments
readers_mean_suited_fragments p f sound constant suited alike operation_type own scope locals owner m id =
    reads_the_same p (with_marked own scope) (are_sound p.defs sound) constant (known_fragment p own scope f) (marked_means f own scope locals)
    (possible p.defs f.on.name) (fragment_known p own scope f sound locals suited alike) operation_type owner m id

pub readers_mean_fragments : ReadersMeanFragments
readers_mean_fragments defs ps place name f sound meet found none operation_type own scope locals owner m id =
    let p : Project = project_of defs place (definitions defs ps) in
    readers_mean_suited_fragments p f sound (locals_are_constant defs ps place meet) (fragments_are_suited defs ps place name f sound meet found)
    (merging_fields_are_alike defs (whole_fragment p f).expanded none) operation_type own scope locals owner m id
