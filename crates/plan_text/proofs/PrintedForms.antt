-- The printed operation is formed where the expanded one is.
use Rattle.std.proofs.Common.{Bool, true, false, cond, List, [], ◌∷◌, map, Option, Some, None, bytes_eq, refl, sym, subst}
use Rattle.std.specs.List.{AllByRecursion}
use Rattle.std.specs.Option.{IfSome}
use Rattle.plan_ir.specs.gql_ast.Value.{Val, Vals, Members, variable, int, text, truth, null, enum, list, object, no_vals, val, no_members, member, members_of}
use Rattle.plan_ir.specs.gql_ast.ValueView.{value_of}
use Rattle.plan_ir.specs.gql_ast.declared.directive.Directive.{Directive}
use Rattle.plan_ir.specs.gql_ast.declared.document.Definition.TheVariants as D
use Rattle.plan_ir.specs.gql_ast.declared.value.ValueTree.{ValueTree}
use Rattle.plan_ir.specs.gql_ast.declared.variable.VariableDef.{VariableDef}
use Rattle.gql_parse.specs.Documents.{FormedDefinition, FormedSelections, FormedVariable, SomeSelection}
use Rattle.plan_ir.proofs.gql_syntax_laws.BuiltTrees.{value_of-value_tree}
use Rattle.plan_ir.specs.gql_syntax.Formed.{FormedArguments, FormedDefault, FormedDirectives, FormedMembers, FormedValue, FormedValues}
use Rattle.plan_ir.specs.gql_syntax.Words.{IsName}
use Rattle.plan_ir.specs.Nodes.{Nodes, end, field, inline}
use Rattle.plan_ir.specs.OperationText.{by_name, used_variables}
use Rattle.plan_ir.specs.Substitution.{Arguments}
use Rattle.plan_ir.specs.declared.expanded.Expanded.{Expanded}
use Rattle.plan_text.proofs.OperationRead.{all-filter, spells_printed}
use Rattle.plan_text.proofs.ValuesRead.{all-by_name}
use Rattle.plan_text.specs.Documents as document
use Rattle.plan_text.specs.Documents.{FormedExpanded, FormedNodes, IsOneDocument, SomeNode}
use Rattle.plan_collect.specs.Printed.{printed_operation, printed_arguments, printed_default, printed_directives, printed_members, printed_pair, printed_selections, printed_value, printed_values, printed_variable}
use Rattle.plan_ir.specs.schema_tables.Types.{Text}

-- ---- values

abbrev IsPair : (constant : Bool) → Text × Val → Type 0
IsPair c x = IsName x.0 × FormedValue c x.1

members_formed : (c : Bool) (xs : Arguments) → AllByRecursion (IsPair c) xs → FormedMembers c (members_of xs)
members_formed c [] h = tt
members_formed c (x ∷ xs) h = (h.0.0, h.0.1, members_formed c xs h.1)

mutual
  value_formed : (c : Bool) (v : Val) → FormedValue c v → FormedValue c (printed_value v)
  value_formed c (variable n) h = h
  value_formed c (int z) h = h
  value_formed c (text t) h = h
  value_formed c (truth b) h = h
  value_formed c null h = h
  value_formed c (enum n) h = h
  value_formed c (list vs) h = values_formed c vs h
  value_formed c (object ms) h = members_formed c (by_name (printed_members ms)) (all-by_name (IsPair c) (printed_members ms) (pairs_formed c ms h))

  values_formed : (c : Bool) (vs : Vals) → FormedValues c vs → FormedValues c (printed_values vs)
  values_formed c no_vals h = tt
  values_formed c (val v vs) h = (value_formed c v h.0, values_formed c vs h.1)

  pairs_formed : (c : Bool) (ms : Members) → FormedMembers c ms → AllByRecursion (IsPair c) (printed_members ms)
  pairs_formed c no_members h = tt
  pairs_formed c (member n v ms) h = ((h.0, value_formed c v h.1), pairs_formed c ms h.2)

-- ---- arguments, directives, variables

given_formed : (c : Bool) (xs : Arguments) → FormedArguments c xs → AllByRecursion (IsPair c) (map printed_pair xs)
given_formed c [] h = tt
given_formed c (x ∷ xs) h = ((h.0, value_formed c x.1 h.1), given_formed c xs h.2)

arguments_formed : (c : Bool) (xs : Arguments) → FormedArguments c xs → FormedArguments c (printed_arguments xs)
arguments_formed c xs h = members_formed c (printed_arguments xs) (all-by_name (IsPair c) (map printed_pair xs) (given_formed c xs h))

directives_formed : (c : Bool) (ds : List Directive) → FormedDirectives c ds → FormedDirectives c (printed_directives ds)
directives_formed c [] h = tt
directives_formed c (d ∷ ds) h = ((h.0.0, arguments_formed c d.arguments h.0.1), directives_formed c ds h.1)

default_formed : (d : Option ValueTree) → FormedDefault d → FormedDefault (printed_default d)
default_formed None h = tt
default_formed (Some v) h =
    subst (λ w. FormedValue true w) (sym (value_of-value_tree (printed_value (value_of v)))) (value_formed true (value_of v) h)

variables_formed : (vs : List VariableDef) → AllByRecursion FormedVariable vs → AllByRecursion FormedVariable (map printed_variable vs)
variables_formed [] h = tt
variables_formed (v ∷ vs) h = ((h.0.0, h.0.1, default_formed v.default h.0.2, directives_formed true v.directives h.0.3), variables_formed vs h.1)

-- ---- selections

alias_formed : (b : Bool) (r : Text) → IsName r → IfSome (cond b None (Some r)) IsName
alias_formed true r h = tt
alias_formed false r h = h

some_formed : (s : Nodes) → SomeNode s → SomeSelection (printed_selections s)
some_formed end h = h
some_formed (field r n xs ds c of s p rest) h = tt
some_formed (inline o ds s p rest) h = tt

selections_formed : (s : Nodes) → FormedNodes s → FormedSelections (printed_selections s)
selections_formed end h = tt
selections_formed (field r n xs ds c of s p rest) h =
    (alias_formed (bytes_eq r n) r h.0, h.1, arguments_formed false xs h.2, directives_formed false ds h.3, selections_formed s h.4, selections_formed rest h.5)
selections_formed (inline o ds s p rest) h =
    (h.0, directives_formed false ds h.1, some_formed s h.2, selections_formed s h.3, selections_formed rest h.4)

-- ---- the operation

operation_formed : (e : Expanded) → FormedExpanded e → FormedDefinition (D.Operation (printed_operation e))
operation_formed e h = (
  h.name,
  variables_formed (used_variables e) (all-filter FormedVariable _ e.variables h.variables),
  directives_formed false e.directives h.directives,
  (some_formed e.selections h.some, selections_formed e.selections h.selections),
)

pub is_one_document : IsOneDocument
is_one_document file e h utf8 shallow = record {
  written = document.document_parts e;
  tree = record { utf8 = utf8; tokens = spells_printed e h; formed = (tt, (operation_formed e h, tt)); shallow = shallow; places = refl };
  definitions = refl;
}
