-- The text of each operation of an accepted project is one document: that of the printed operation.
use Rattle.std.proofs.Common.{◌≡◌, ℕ, ◌+◌, Bool, true, false, cond, List, [], ◌∷◌, length, Option, Some, None, option_map, refl, sym, ap, subst, ◌∙◌}
use Rattle.std.specs.List.{AllByRecursion}
use Rattle.std.specs.Option.{IfSome}
use Rattle.plan_ir.specs.gql_ast.Value.{Val, Vals, Members, variable, int, text, truth, null, enum, list, object, no_vals, val, no_members, member}
use Rattle.plan_ir.specs.gql_ast.declared.directive.Directive.{Directive}
use Rattle.plan_ir.specs.gql_ast.declared.document.Definition.TheVariants as D
use Rattle.plan_ir.specs.gql_ast.declared.document.Document.{Document}
use Rattle.plan_ir.specs.gql_ast.declared.document.Operation.{Operation}
use Rattle.plan_ir.specs.gql_ast.declared.place.Placed.{Placed}
use Rattle.plan_ir.specs.gql_ast.declared.variable.VariableDef.{VariableDef}
use Rattle.plan_ir.specs.gql_graph.Rules.{each, first_broken}
use Rattle.text_places.proofs.gql_parse_laws.Whole.{one_document}
use Rattle.text_places.specs.gql_parse.Documents.{FormedVariable}
use Rattle.text_places.specs.gql_parse.Trees.{IsDocument}
use Rattle.plan_ir.specs.gql_syntax.Formed.{FormedArguments, FormedDirectives, FormedMembers, FormedValue, FormedValues}
use Rattle.plan_ir.specs.gql_syntax.Texts.{nesting_limit}
use Rattle.plan_ir.specs.gql_syntax.Words.{IsName}
use Rattle.plan_read.specs.plan_expand.Answers.{whole_in, whole_is}
use Rattle.plan_ir.specs.Projects.{definitions_in, project}
use Rattle.plan_ir.specs.Expansion.{Project, Whole, argument_pairs, directive_trees, is_printed, name_of_located_or, operation_from, operation_named, variable_trees, whole_operation}
use Rattle.plan_ir.specs.Nodes.{Nodes, end, field, inline}
use Rattle.plan_ir.specs.OperationText.{operation_text}
use Rattle.plan_ir.specs.Sizes.{is_too_deep}
use Rattle.plan_ir.specs.Substitution.{operation_scope}
use Rattle.plan_ir.specs.declared.expanded.Expanded.{Expanded}
use Rattle.plan_ir.specs.declared.form.Form.TheVariants as F
use Rattle.plan_project.proofs.ReadTrees.{ReadDefinition, ReadOperation, VariablesWithin, all_read}
use Rattle.plan_project.proofs.SchemaNames.{PossibleNames, possible_names}
use Rattle.plan_project.proofs.ShallowTexts.{shallow_text}
use Rattle.plan_project.proofs.SoundNodes.{SoundFragment, SoundNodes, directives_shown, expanded, operation_sound}
use Rattle.plan_project.proofs.SoundProjects.{Named, fragments_meet, fragments_sound, holds, operation_found, operations_there, spreads_hold}
use Rattle.plan_project.proofs.SoundTrees.{SoundArguments, SoundDirectives, SoundMembers, SoundValue, SoundValues, SoundVariable}
use Rattle.plan_project.proofs.SpreadChains.{Meets, all_bounded, all_map, names_of, none_each}
use Rattle.plan_project.proofs.Utf8Texts.{operation_utf8}
use Rattle.plan_project.specs.Expansions.{name_node, node_of, size_rules, text_named, too_deep, too_many, whole_at, whole_of_operation}
use Rattle.plan_project.specs.Projects.{IsAccepted, IsAcceptedProject}
use Rattle.plan_project.specs.TextLaws.{SaysNamed, TextsAreDocuments}
use Rattle.plan_text.proofs.PrintedForms.{is_one_document}
use Rattle.plan_text.proofs.Saying.{text_says_the_operation}
use Rattle.plan_text.specs.Documents.{FormedExpanded, FormedNodes, SomeNode, document_of}
use Rattle.plan_read.specs.plan_collect.Printed.{printed_operation}
use Rattle.plan_ir.specs.schema_rules.declared.fault.Rule.{Rule}
use Rattle.plan_ir.specs.schema_rules.declared.fault.Rule.TheVariants as R
use Rattle.plan_ir.specs.schema_tables.Types.{Text, Defs, root}
use Rattle.plan_ir.specs.schema_trees.Located.{Located, directives_nodes, value_nodes}
use Rattle.plan_ir.specs.schema_types.NameRules.{fragments, not_there, operations, spreads_in}
use Rattle.plan_ir.specs.schema_types.Sites.{DefinitionAt, OperationAt, arguments_at, arguments_nodes, directives_at, operation, fragment, operation_at, optional_name_at, optional_name_nodes, variable_nodes, variables_at, variables_nodes}

-- ---- what is sound is formed

mutual
  value_formed : (v : Val) → SoundValue v → FormedValue false v
  value_formed (variable n) h = (refl, h)
  value_formed (int z) h = h
  value_formed (text t) h = tt
  value_formed (truth b) h = tt
  value_formed null h = tt
  value_formed (enum n) h = h
  value_formed (list vs) h = values_formed vs h
  value_formed (object ms) h = members_formed ms h

  values_formed : (vs : Vals) → SoundValues vs → FormedValues false vs
  values_formed no_vals h = tt
  values_formed (val v vs) h = (value_formed v h.0, values_formed vs h.1)

  members_formed : (ms : Members) → SoundMembers ms → FormedMembers false ms
  members_formed no_members h = tt
  members_formed (member n v ms) h = (h.0, value_formed v h.1, members_formed ms h.2)

arguments_formed : (xs : List (Text × Val)) → SoundArguments xs → FormedArguments false xs
arguments_formed [] h = tt
arguments_formed (x ∷ xs) h = (h.0.0, value_formed x.1 h.0.1, arguments_formed xs h.1)

directives_formed : (ds : List Directive) → SoundDirectives ds → FormedDirectives false ds
directives_formed [] h = tt
directives_formed (d ∷ ds) h = ((h.0.0, arguments_formed d.arguments h.0.1), directives_formed ds h.1)

nodes_formed : (s : Nodes) → SoundNodes s → FormedNodes s
nodes_formed end h = tt
nodes_formed (field r n xs ds c of s p rest) h = (h.0, h.1, arguments_formed xs h.2, directives_formed ds h.3, nodes_formed s h.4, nodes_formed rest h.5)
nodes_formed (inline o ds s p rest) h = (h.0, directives_formed ds h.1, h.2, nodes_formed s h.3, nodes_formed rest h.4)

-- ---- trees without their places

arguments_back : (from : ℕ) (xs : List (Text × Val)) → argument_pairs (arguments_at from xs) ≡ xs
arguments_back from [] = refl
arguments_back from (x ∷ xs) = ap (λ ys. x ∷ ys) (arguments_back (from + (2 + value_nodes x.1)) xs)

directives_back : (from : ℕ) (ds : List Directive) → directive_trees (directives_at from ds) ≡ ds
directives_back from [] = refl
directives_back from (d ∷ ds) =
    let own = arguments_back (from + 2) d.arguments in
    let more = directives_back (from + (2 + arguments_nodes d.arguments)) ds in
    λ i. record { name = d.name; arguments = own i } ∷ more i

variables_back : (from : ℕ) (vs : List VariableDef) → variable_trees (variables_at from vs) ≡ vs
variables_back from [] = refl
variables_back from (v ∷ vs) = ap (λ ws. v ∷ ws) (variables_back (from + variable_nodes v) vs)

-- ---- one operation

-- an expanded operation all parts of which are sound
record SoundExpanded (e : Expanded) : Type 0 where
  pub name : IsName e.name
  pub variables : AllByRecursion SoundVariable e.variables
  pub within : VariablesWithin nesting_limit e.variables
  pub directives : SoundDirectives e.directives
  pub some : SomeNode e.selections
  pub selections : SoundNodes e.selections

formed : (e : Expanded) → SoundExpanded e → FormedExpanded e
formed e s = record {
  name = s.name;
  variables = all_map SoundVariable FormedVariable (λ v h. h.0) e.variables s.variables;
  directives = directives_formed e.directives s.directives;
  some = s.some;
  selections = nodes_formed e.selections s.selections;
}

name_sound : (at : ℕ) (m : Option Text) (l : Located) → optional_name_at at m ≡ Some l → IfSome m IsName → IsName (name_of_located_or (optional_name_at at m))
name_sound at None l e h = cc
name_sound at (Some n) l e h = h

name_same : (o : Option Located) (l : Located) → o ≡ Some l → name_of_located_or o ≡ l.name
name_same o l e = ap name_of_located_or e

module _ (p : Project) (names : PossibleNames p.defs) (sound : AllByRecursion SoundFragment p.fragments) (meet : AllByRecursion (Meets p.defs p.fragments) p.fragments) where
  abbrev There : OperationAt → Type 0
  There o = each (not_there (names_of p.fragments)) (spreads_in o.sites) ≡ []

  -- an operation, as it stands among the definitions
  at_place : (from : ℕ) (t : Operation) (l : Located) → optional_name_at (from + 2) t.name ≡ Some l → ReadDefinition (D.Operation t)
      → There (operation_at p.defs from t) → SoundExpanded (whole_operation p (operation_at p.defs from t)).expanded
  at_place from t l e read there =
      let s = read.0 in
      let o : OperationAt = operation_at p.defs from t in
      let variables_from : ℕ = from + 2 + optional_name_nodes t.name in
      let directives_from : ℕ = variables_from + variables_nodes t.variables in
      let bounded = all_bounded p.defs p.fragments meet (directives_from + directives_nodes t.directives) (root p.defs t.kind) t.selections there in
      let inside = expanded p names sound (length p.fragments) operation_scope operation_sound (operation_from o) (root p.defs t.kind) t.selections s.3.1 bounded in
      record {
        name = name_sound (from + 2) t.name l e s.0;
        variables = subst (λ vs. AllByRecursion SoundVariable vs) (sym (variables_back variables_from t.variables)) s.1;
        within = subst (λ vs. VariablesWithin nesting_limit vs) (sym (variables_back variables_from t.variables)) read.1;
        directives = directives_shown operation_scope operation_sound is_printed (directive_trees (directives_at directives_from t.directives))
            (subst SoundDirectives (sym (directives_back directives_from t.directives)) s.2);
        some = inside.1 s.3.0;
        selections = inside.0;
      }

  -- and by itself
  operation_expanded : (o : OperationAt) (n : Text) → ReadOperation p.defs o → There o → Named o n → SoundExpanded (whole_operation p o).expanded
  operation_expanded o n r there named =
      let is = ap (λ (x : OperationAt). x.name) (sym r.is) ∙ named.is in
      subst (λ x. SoundExpanded (whole_operation p x).expanded) (sym r.is) (at_place r.from r.tree named.located is r.read (subst There r.is there))

-- the text of a sound operation that is not too deep
text_is : (w : Whole) → SoundExpanded w.expanded → is_too_deep w ≡ false → (file : ℕ) → IsDocument file (operation_text w.expanded) (document_of file w.expanded)
text_is w s shallow file =
    is_one_document file w.expanded (formed w.expanded s)
    (operation_utf8 w.expanded s.name s.variables s.directives s.selections) (shallow_text w s.within shallow)

-- ---- an accepted project

-- the operation that is found
record Found (p : Project) (os : List OperationAt) (n : Text) (w : Whole) : Type 0 where
  pub at : OperationAt
  pub is : operation_named os n ≡ Some at
  pub whole : whole_operation p at ≡ w

found : (p : Project) (os : List OperationAt) (n : Text) (w : Whole) → option_map (whole_operation p) (operation_named os n) ≡ Some w → Found p os n w
found p os n w e = on (operation_named os n) refl e
  where
    on : (r : Option OperationAt) → operation_named os n ≡ r → option_map (whole_operation p) r ≡ Some w → Found p os n w
    on None d e = cc
    on (Some o) d e = record { at = o; is = d; whole = cc e }

-- E2 of all definitions
sizes_hold : (a b : Rule × List ℕ) → first_broken (a ∷ b ∷ []) ≡ None → b.1 ≡ []
sizes_hold a b h = (holds b.0 b.1 [] (holds a.0 a.1 (b ∷ []) h).1).0

not_deep : (b : Bool) (at : ℕ) → cond b (at ∷ []) [] ≡ [] → b ≡ false
not_deep true at e = cc
not_deep false at e = refl

-- an operation whose name is known is none that is too deep
shallow_at : (defs : Defs) (ps : List (Placed Document)) (o : OperationAt) (n : Text) (w : Whole) → Named o n → whole_in defs ps F.Operation n ≡ Some w
    → cond (whole_is is_too_deep (whole_at defs ps (operation o))) (name_node (operation o)) [] ≡ [] → is_too_deep w ≡ false
shallow_at defs ps o n w named is e =
    let at = subst (λ l. cond (whole_is is_too_deep (whole_of_operation defs ps l)) (node_of l) [] ≡ []) named.is e in
    let there = subst (λ m. cond (whole_is is_too_deep (whole_in defs ps F.Operation m)) (named.located.at ∷ []) [] ≡ []) named.same at in
    sym (ap (whole_is is_too_deep) is) ∙ not_deep (whole_is is_too_deep (whole_in defs ps F.Operation n)) named.located.at there

-- E2, as the operations have it
abbrev IsShallow : Defs → List (Placed Document) → OperationAt → Type 0
IsShallow defs ps o = cond (whole_is is_too_deep (whole_at defs ps (operation o))) (name_node (operation o)) [] ≡ []

operations_shallow : (defs : Defs) (ps : List (Placed Document)) (ds : List DefinitionAt)
    → AllByRecursion (λ d. cond (whole_is is_too_deep (whole_at defs ps d)) (name_node d) [] ≡ []) ds → AllByRecursion (IsShallow defs ps) (operations ds)
operations_shallow defs ps [] h = tt
operations_shallow defs ps (operation o ∷ ds) h = (h.0, operations_shallow defs ps ds h.1)
operations_shallow defs ps (fragment f ∷ ds) h = operations_shallow defs ps ds h.1

-- from the rules on sizes
not_too_deep : (defs : Defs) (ps : List (Placed Document)) (o : OperationAt) (n : Text) (w : Whole) → first_broken (size_rules defs ps) ≡ None
    → operation_named (operations (definitions_in defs ps)) n ≡ Some o → whole_in defs ps F.Operation n ≡ Some w → is_too_deep w ≡ false
not_too_deep defs ps o n w sizes named is =
    let none = sizes_hold (R.E1, too_many defs ps (definitions_in defs ps)) (R.E2, too_deep defs ps (definitions_in defs ps)) sizes in
    let all = none_each (λ d. cond (whole_is is_too_deep (whole_at defs ps d)) (name_node d) []) (definitions_in defs ps) none in
    let r = operation_found (IsShallow defs ps) (operations (definitions_in defs ps)) n o (operations_shallow defs ps (definitions_in defs ps) all) named in
    shallow_at defs ps o n w r.1 is r.0

-- what an operation of an accepted project becomes is sound and not too deep
record Fits (p : Project) (o : OperationAt) (n : Text) : Type 0 where
  pub named : Named o n
  pub sound : SoundExpanded (whole_operation p o).expanded
  pub shallow : is_too_deep (whole_operation p o) ≡ false

fits : (schema : Text) (texts : List Text) (defs : Defs) (ps : List (Placed Document)) → IsAccepted schema texts defs ps → (o : OperationAt) (n : Text)
    → operation_named (operations (definitions_in defs ps)) n ≡ Some o → Fits (project defs ps) o n
fits schema texts defs ps a o n is =
    let ds : List DefinitionAt = definitions_in defs ps in
    let p : Project = project defs ps in
    let rules = spreads_hold defs ps a.meet in
    let read = all_read defs 1 texts ps a.trees.documents_are in
    let names : PossibleNames defs = subst PossibleNames (sym a.says) (possible_names 0 schema a.tree a.trees.schema_is) in
    let sound = fragments_sound defs ds read rules.0 in
    let meet = fragments_meet defs ds read rules.0 rules.1 in
    let there = operation_found (λ o. ReadOperation defs o × There p names sound meet o) (operations ds) n o (operations_there defs ds read rules.0) is in
    record {
      named = there.1;
      sound = operation_expanded p names sound meet o n there.0.0 there.0.1 there.1;
      shallow = not_too_deep defs ps o n (whole_operation p o) a.sizes is (ap (option_map (whole_operation p)) is);
    }

pub texts_are_documents : TextsAreDocuments
texts_are_documents schema texts defs ps a n w is file =
    let p : Project = project defs ps in
    let f = found p (operations (definitions_in defs ps)) n w is in
    let fit : Fits p f.at n = fits schema texts defs ps a f.at n f.is in
    let own : SoundExpanded w.expanded = subst (λ (x : Whole). SoundExpanded x.expanded) f.whole fit.sound in
    let document = text_is w own (subst (λ (x : Whole). is_too_deep x ≡ false) f.whole fit.shallow) file in
    record {
      named = ap (λ (x : Whole). x.expanded.name) (sym f.whole) ∙ name_same f.at.name fit.named.located fit.named.is ∙ fit.named.same;
      kind = subst (λ (x : Whole). x.expanded.kind ≡ Some (printed_operation x.expanded).kind) f.whole refl;
      is = document;
      only = λ q d. one_document file (operation_text w.expanded) q (document_of file w.expanded) d document;
    }

-- ---- the text that is given for a name

says : (defs : Defs) (ps : List (Placed Document)) → IsAcceptedProject defs ps → (name : Text) → SaysNamed defs ps name (text_named defs ps name)
says defs ps a name = on (operation_named (operations (definitions_in defs ps)) name) refl
  where
    on : (r : Option OperationAt) → operation_named (operations (definitions_in defs ps)) name ≡ r
        → SaysNamed defs ps name (option_map (λ (w : Whole). operation_text w.expanded) (option_map (whole_operation (project defs ps)) r))
    on None e = e
    on (Some o) e =
        let fit : Fits (project defs ps) o name = fits a.schema a.texts defs ps a.accepted o name e in
        let w : Whole = whole_operation (project defs ps) o in
        let s : SoundExpanded w.expanded = fit.sound in (
          o,
          e,
          text_says_the_operation (project defs ps) o (formed w.expanded s)
              (operation_utf8 w.expanded s.name s.variables s.directives s.selections) (shallow_text w s.within fit.shallow),
        )

pub says_named : (defs : Defs) (ps : List (Placed Document)) → IsAcceptedProject defs ps → (name : Text) (given : Option Text) → given ≡ text_named defs ps name → SaysNamed defs ps name given
says_named defs ps a name given is = subst (λ g. SaysNamed defs ps name g) (sym is) (says defs ps a name)
