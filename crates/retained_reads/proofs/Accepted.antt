-- What is known of the fragments and the operations of an accepted project.
use Rattle.std.proofs.Common.{◌≡◌, ◌+◌, ℕ, List, [], length, Some, sym, subst}
use Rattle.std.specs.List.{AllByRecursion}
use Rattle.plan_ir.specs.gql_ast.declared.document.Definition.TheVariants as D
use Rattle.plan_ir.specs.gql_ast.declared.document.Document.{Document}
use Rattle.plan_ir.specs.gql_ast.declared.document.Operation.{Operation}
use Rattle.plan_ir.specs.gql_ast.declared.place.Placed.{Placed}
use Rattle.plan_ir.specs.gql_graph.Rules.{each}
use Rattle.plan_ir.specs.Projects.{definitions_in, project}
use Rattle.plan_ir.specs.Projects.{place_in}
use Rattle.plan_ir.specs.Expansion.{Project, operation_named}
use Rattle.plan_project.proofs.ReadTrees.{ReadAt, ReadDefinition, ReadOperation, all_read}
use Rattle.plan_project.proofs.SoundNodes.{SoundFragment}
use Rattle.plan_project.proofs.SoundProjects.{fragments_meet, fragments_sound, operation_found, operations_there, spreads_hold}
use Rattle.plan_project.proofs.SoundTrees.{SoundSelections}
use Rattle.plan_project.proofs.SpreadChains.{Bounded, Meets, all_bounded, all_found, names_of}
use Rattle.plan_project.specs.Projects.{IsAcceptedProject}
use Rattle.plan_project.proofs.plan_read_laws.ConstantLocals.{locals_are_constant}
use Rattle.retained_reads.proofs.MaskedItems.{AreKnown}
use Rattle.plan_ir.specs.schema_tables.Types.{Defs, Text, root}
use Rattle.plan_ir.specs.schema_trees.Located.{directives_nodes}
use Rattle.plan_ir.specs.schema_types.DocumentRules.{places_of}
use Rattle.plan_ir.specs.schema_types.NameRules.{fragments, not_there, operations, spreads_in}
use Rattle.plan_ir.specs.schema_types.Sites.{DefinitionAt, OperationAt, operation_at, optional_name_nodes, variables_nodes}

-- the names of an operation's selections are Names, and all their spreads may be entered
pub record IsKnownOperation (p : Project) (o : OperationAt) : Type 0 where
  pub sound : SoundSelections o.selections
  pub bounded : Bounded p.fragments (length p.fragments) o.selections

module _ (defs : Defs) (ps : List (Placed Document)) (a : IsAcceptedProject defs ps) where
  abbrev ds : List DefinitionAt
  ds = definitions_in defs ps

  read : AllByRecursion (ReadAt defs) ds
  read = all_read defs 1 a.texts ps a.accepted.trees.documents_are

  meet : AllByRecursion (Meets defs (fragments ds)) (fragments ds)
  meet = let rules = spreads_hold defs ps a.accepted.meet in fragments_meet defs ds read rules.0 rules.1

  pub fragments_known : AreKnown (project defs ps)
  fragments_known n f e =
      let rules = spreads_hold defs ps a.accepted.meet in
      let s = all_found SoundFragment (fragments ds) n f (fragments_sound defs ds read rules.0) e in
      let m = all_found (Meets defs (fragments ds)) (fragments ds) n f meet e in
      record {
        name = s.1;
        sound = s.0.set.1;
        locals = s.0.locals;
        constants = locals_are_constant defs ps (place_in (places_of ps)) a.accepted.meet n f e;
        bounded = all_bounded defs (fragments ds) meet m.0.sites.from m.0.sites.around f.selections
            (subst (λ ss. each (not_there (names_of (fragments ds))) (spreads_in ss) ≡ []) m.0.sites.are m.0.there);
      }

  abbrev There : OperationAt → Type 0
  There o = each (not_there (names_of (fragments ds))) (spreads_in o.sites) ≡ []

  at_place : (from : ℕ) (t : Operation) → ReadDefinition (D.Operation t) → There (operation_at defs from t) → IsKnownOperation (project defs ps) (operation_at defs from t)
  at_place from t read there =
      let from_directives : ℕ = from + 2 + optional_name_nodes t.name + variables_nodes t.variables in
      record { sound = read.0.3.1; bounded = all_bounded defs (fragments ds) meet (from_directives + directives_nodes t.directives) (root defs t.kind) t.selections there }

  pub operation_known : (name : Text) (o : OperationAt) → operation_named (operations ds) name ≡ Some o → IsKnownOperation (project defs ps) o
  operation_known name o e =
      let rules = spreads_hold defs ps a.accepted.meet in
      let found = operation_found (λ o. ReadOperation defs o × There o) (operations ds) name o (operations_there defs ds read rules.0) e in
      let r = found.0.0 in
      subst (IsKnownOperation (project defs ps)) (sym r.is) (at_place r.from r.tree r.read (subst There r.is found.0.1))
