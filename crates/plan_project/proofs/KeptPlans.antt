-- What is kept of the operations and the fragments of an accepted project is what the documents have.
use Rattle.std.proofs.Common.{◌≡◌, ◌≤◌, ℕ, ◌+◌, true, cond, List, [], ◌∷◌, length, map, take, Option, Some, None, option_map, refl, ap, sym, subst, ◌∙◌}
use Rattle.plan_ir.specs.gql_ast.declared.document.Document.{Document}
use Rattle.plan_ir.specs.gql_ast.declared.document.Fragment.{Fragment}
use Rattle.plan_ir.specs.gql_ast.declared.document.Operation.{Operation}
use Rattle.plan_ir.specs.gql_ast.declared.place.Placed.{Placed}
use Rattle.plan_ir.specs.gql_plain.Order.{has_text}
use Rattle.plan_read.proofs.plan_build_laws.PlanLaws.{plans_mean_documents, plans_reach_documents}
use Rattle.plan_read.proofs.plan_build_laws.ConnectedNodes.{operations_that_meet_are_connected}
use Rattle.plan_read.proofs.plan_build_laws.SuitedOperations.{operations_are_suited, operations_of_documents_meet}
use Rattle.plan_read.specs.plan_build.Connected.{IsConnected}
use Rattle.plan_read.specs.plan_build.NormalTypes.{FitsSchema}
use Rattle.plan_read.specs.plan_build.Plans.{IsFitting, IsPaged, IsTyped, IsWellFormed, MeansTheSame, ReachesTheSame}
use Rattle.plan_read.specs.plan_build.Suited.{IsSuited}
use Rattle.plan_read.specs.plan_expand.Answers.{whole_in}
use Rattle.plan_ir.specs.Projects.{project}
use Rattle.plan_ir.specs.Projects.{place_in}
use Rattle.plan_ir.specs.Expansion.{Whole, name_or, whole_operation}
use Rattle.plan_ir.specs.Normal.{Normal}
use Rattle.plan_ir.specs.NormalMeaning.{plan_says}
use Rattle.plan_ir.specs.NormalReach.{plan_reaches}
use Rattle.plan_ir.specs.declared.expanded.Expanded.{Expanded}
use Rattle.plan_ir.specs.declared.form.Form.TheVariants as F
use Rattle.plan_project.proofs.Accepting.{fragment_is_on_composite, have_names, operation_has_root, operation_merges}
use Rattle.plan_project.proofs.KeptLocals.{are_locals}
use Rattle.plan_project.proofs.KeptReaders.{reads_fragment, reads_operation}
use Rattle.plan_project.proofs.Looking.{found_in_documents, in_document, takes_all, takes_whole}
use Rattle.plan_project.proofs.Trees.{AnyPlaces, HasPlaces, fragment_places, locals_define, operation_places}
use Rattle.plan_project.specs.Filling.{IsFragmentOf, IsNamedOperation, IsOperationOf, Takes, first_of, fragment_under, operation_under, trees_in}
use Rattle.plan_project.specs.Lookups.{Agree, HasFragments, HasOperations, IsFragment, IsOperation, Normalizes, fragment_in, operation_in}
use Rattle.plan_project.specs.Projects.{IsAcceptedProject}
use Rattle.plan_project.specs.declared.operations.Compiled.{Compiled}
use Rattle.plan_project.specs.declared.operations.CompiledFragment.{CompiledFragment}
use Rattle.plan_read.specs.Plans.{reader_in}
use Rattle.plan_ir.specs.relay_marks.Locals.{locals_of}
use Rattle.plan_ir.specs.relay_marks.View.{local_view}
use Rattle.plan_read.specs.relay_model.Readings.{no_place}
use Rattle.plan_ir.specs.schema_tables.Types.{Text, Defs, is_composite, possible, root}
use Rattle.plan_ir.specs.schema_types.DocumentRules.{places_of}
use Rattle.plan_ir.specs.schema_types.Sites.{FragmentAt, OperationAt}
use Rattle.plan_ir.specs.store_model.Walks.{type_of_record}

-- what holds of both, where both are there
pub agree_so : {X Y : Type 0} (P Q : X → Y → Type 0) → ((x : X) (y : Y) → P x y → Q x y) → (a : Option X) (b : Option Y) → Agree P a b → Agree Q a b
agree_so P Q f None None h = tt
agree_so P Q f None (Some y) h = absurd h
agree_so P Q f (Some x) None h = absurd h
agree_so P Q f (Some x) (Some y) h = f x y h

-- all that is said of the plan of an expanded operation
pub record IsPlanOf (defs : Defs) (e : Expanded) (plan : Normal) : Type 0 where
  pub formed : IsWellFormed defs plan
  pub typed : IsTyped defs e plan
  pub paged : IsPaged defs e plan
  pub fits : IsFitting defs e plan
  pub means : MeansTheSame defs e plan
  pub reaches : ReachesTheSame defs e plan

module _ (defs : Defs) (ps : List (Placed Document)) (a : IsAcceptedProject defs ps) where
  -- ---- operations

  module _ (n : Text) (o : OperationAt) (there : operation_in defs ps n ≡ Some o) where
    suited : IsSuited defs (whole_operation (project defs ps) o).expanded
    suited = operations_are_suited defs ps (place_in (places_of ps)) n o a.accepted.sound a.accepted.meet there

    connected : IsConnected defs (whole_operation (project defs ps) o).expanded
    connected =
        operations_that_meet_are_connected (project defs ps) o a.accepted.sound
        (operations_of_documents_meet defs ps (place_in (places_of ps)) n o a.accepted.sound a.accepted.meet there)

    -- a plan of the operation's expansion means the operation
    normalizes : (c : Compiled) → c.root ≡ name_or (root defs o.kind) → IsPlanOf defs (whole_operation (project defs ps) o).expanded c.normal.value.steps → Normalizes defs ps o c
    normalizes c at_root is = record {
      formed = is.formed (have_names defs ps a);
      typed = is.typed (have_names defs ps a) a.accepted.sound suited.root;
      paged = is.paged a.accepted.sound connected;
      fits = subst (λ (r : Text). FitsSchema defs r c.normal.value.steps) (sym at_root) (is.fits a.accepted.sound suited);
      says = λ own response.
          ap (λ (r : Text). plan_says r own c.normal.value.steps response) at_root
          ∙ plans_mean_documents defs ps (place_in (places_of ps)) no_place n o c.normal.value.steps a.accepted.sound a.accepted.meet there (operation_merges defs ps a n o there) is.means own response;
      reaches = λ own m id j.
          ap (λ (r : Text). has_text (plan_reaches (type_of_record r) m own c.normal.value.steps (r ∷ []) id) j) at_root
          ∙ plans_reach_documents defs ps (place_in (places_of ps)) no_place n o c.normal.value.steps a.accepted.sound a.accepted.meet there (operation_merges defs ps a n o there) is.reaches own m id j;
    }

  -- what is made of the expansion of the operation of a name
  pub operation_planned : (n : Text) (e : Expanded) (c : Compiled) → Some e ≡ option_map (λ (w : Whole). w.expanded) (whole_in defs ps F.Operation n)
      → c.name ≡ n → e.kind ≡ Some c.kind → c.root ≡ e.root → c.types ≡ e.root ∷ [] → c.variables ≡ e.variables
      → IsPlanOf defs e c.normal.value.steps → Some c.reader.value.steps ≡ reader_in defs ps F.Operation n → IsNamedOperation defs ps n c
  operation_planned n e c whole name kind at_root types variables is_plan planned = on (operation_in defs ps n) refl whole
    where
      on : (x : Option OperationAt) → operation_in defs ps n ≡ x → Some e ≡ option_map (λ (w : Whole). w.expanded) (option_map (whole_operation (project defs ps)) x) → IsNamedOperation defs ps n c
      on None d w = absurd cc
      on (Some o) d w =
          let same : e ≡ (whole_operation (project defs ps) o).expanded = cc w in
          let is_root : c.root ≡ name_or (root defs o.kind) = at_root ∙ ap (λ (x : Expanded). x.root) same in
          let typed : c.types ≡ c.root ∷ [] = types ∙ ap (λ (r : Text). r ∷ []) (sym at_root) in
          let of_kind : Some c.kind ≡ Some o.kind = sym kind ∙ ap (λ (x : Expanded). x.kind) same in
          record {
            at = o;
            there = d;
            is = record {
              keeps = record {
                name = name;
                kind = cc of_kind;
                root = is_root;
                rooted = operation_has_root defs ps a n o d ∙ ap Some (sym is_root);
                types = typed;
                variables = variables ∙ ap (λ (x : Expanded). x.variables) same;
              };
              normalizes = normalizes n o d c is_root (subst (λ (x : Expanded). IsPlanOf defs x c.normal.value.steps) same is_plan);
              reads = reads_operation defs ps a n o c d is_root typed planned;
            };
          }

  -- the table of the operations that are found first
  operations_kept : (find : Text → Option Compiled) → ((n : Text) → Agree (IsOperationOf defs ps n) (first_of (operation_under n) (trees_in ps)) (find n)) → HasOperations defs ps find
  operations_kept find h n = on (first_of (operation_under n) (trees_in ps)) (operation_in defs ps n) (find n) (operation_places defs ps n) (h n) refl
    where
      on : (x : Option Operation) (o : Option OperationAt) (c : Option Compiled) → Agree AnyPlaces x o → Agree (IsOperationOf defs ps n) x c → operation_in defs ps n ≡ o
          → Agree (IsOperation defs ps n) o c
      on None None None p k e = tt
      on None None (Some c) p k e = absurd k
      on None (Some o) c p k e = absurd p
      on (Some x) None c p k e = absurd p
      on (Some x) (Some o) None p k e = absurd k
      on (Some x) (Some o) (Some c) p k e =
          let found : Some k.at ≡ Some o = sym k.there ∙ e in
          let same : k.at ≡ o = cc found in
          subst (λ (y : OperationAt). IsOperation defs ps n y c) same k.is

  -- the table of all documents
  pub operations_filled : (xs : List (Placed Document)) (i : ℕ) (old new : Text → Option Compiled) → xs ≡ ps → length xs ≤ i → ((n : Text) → old n ≡ None)
      → Takes (IsOperationOf defs ps) (λ n. first_of (in_document (operation_under n)) (take i xs)) old new → HasOperations defs ps new
  operations_filled xs i old new e behind empty t =
      let all = takes_all (IsOperationOf defs ps) (λ n. in_document (operation_under n)) xs i old new behind t in
      operations_kept new (λ n.
      subst (λ x. Agree (IsOperationOf defs ps n) x (new n)) (ap (first_of (in_document (operation_under n))) e ∙ found_in_documents (operation_under n) ps)
      (takes_whole (IsOperationOf defs ps) (λ m. first_of (in_document (operation_under m)) xs) old new empty all n))

  -- ---- fragments

  fragment_kept : (n : Text) (f : Fragment) (g : FragmentAt) (c : CompiledFragment) → fragment_in defs ps n ≡ Some g → HasPlaces defs f g → IsFragmentOf defs ps n f c → IsFragment defs ps n g c
  fragment_kept n f g c e p k =
      let on : c.on ≡ g.on.name = k.on ∙ sym (ap (λ (x : FragmentAt). x.on.name) p.1) in
      let composite : is_composite defs c.on ≡ true = ap (is_composite defs) on ∙ fragment_is_on_composite defs ps a n g e in
      let locals : map local_view c.locals ≡ locals_of g.directives =
      k.locals ∙ sym (locals_define (p.0 + 4) f.directives) ∙ sym (ap (λ (x : FragmentAt). locals_of x.directives) p.1) in
      let types : c.types ≡ possible defs c.on =
      k.types ∙ (λ i. cond (is_composite defs (sym k.on i)) (possible defs (sym k.on i)) []) ∙ ap (λ b. cond b (possible defs c.on) []) composite in
      record {
        keeps = record {
          name = k.name;
          on = on;
          composite = composite;
          types = types;
          locals = locals;
          bare = k.bare;
          scopes = are_locals g c.locals locals;
        };
        reads = reads_fragment defs ps a n g c e (types ∙ ap (possible defs) on) k.planned;
      }

  -- the table of the fragments that are found first
  fragments_kept : (find : Text → Option CompiledFragment) → ((n : Text) → Agree (IsFragmentOf defs ps n) (first_of (fragment_under n) (trees_in ps)) (find n)) → HasFragments defs ps find
  fragments_kept find h n = on (first_of (fragment_under n) (trees_in ps)) (fragment_in defs ps n) (find n) (fragment_places defs ps n) (h n) refl
    where
      on : (x : Option Fragment) (g : Option FragmentAt) (c : Option CompiledFragment) → Agree (HasPlaces defs) x g → Agree (IsFragmentOf defs ps n) x c → fragment_in defs ps n ≡ g
          → Agree (IsFragment defs ps n) g c
      on None None None p k e = tt
      on None None (Some c) p k e = absurd k
      on None (Some g) c p k e = absurd p
      on (Some x) None c p k e = absurd p
      on (Some x) (Some g) None p k e = absurd k
      on (Some x) (Some g) (Some c) p k e = fragment_kept n x g c e p k

  -- the table of all documents
  pub fragments_filled : (xs : List (Placed Document)) (i : ℕ) (old new : Text → Option CompiledFragment) → xs ≡ ps → length xs ≤ i → ((n : Text) → old n ≡ None)
      → Takes (IsFragmentOf defs ps) (λ n. first_of (in_document (fragment_under n)) (take i xs)) old new → HasFragments defs ps new
  fragments_filled xs i old new e behind empty t =
      let all = takes_all (IsFragmentOf defs ps) (λ n. in_document (fragment_under n)) xs i old new behind t in
      fragments_kept new (λ n.
      subst (λ x. Agree (IsFragmentOf defs ps n) x (new n)) (ap (first_of (in_document (fragment_under n))) e ∙ found_in_documents (fragment_under n) ps)
      (takes_whole (IsFragmentOf defs ps) (λ m. first_of (in_document (fragment_under m)) xs) old new empty all n))
