-- The operation that a text is: names, values and selections of the expanded operation as they are written (this
-- project's own; GraphQL, October 2021, section 2).
use Rattle.std.specs.Prelude.{cond, List, [], ◌∷◌, map, Option, Some, None, option_map, unwrap_or, bytes_eq}
use Rattle.plan_ir.specs.gql_ast.Sels as sels
use Rattle.plan_ir.specs.gql_ast.Sels.{Sels}
use Rattle.plan_ir.specs.gql_ast.Value.{Val, Vals, Members, variable, int, text, truth, null, enum, list, object, no_vals, val, no_members, member, members_of}
use Rattle.plan_ir.specs.gql_ast.ValueView.{value_of}
use Rattle.plan_ir.specs.gql_ast.declared.directive.Directive.{Directive}
use Rattle.plan_ir.specs.gql_ast.declared.document.Kind.TheVariants.{Query}
use Rattle.plan_ir.specs.gql_ast.declared.document.Operation.{Operation}
use Rattle.plan_ir.specs.gql_ast.declared.value.ValueTree.{ValueTree}
use Rattle.plan_ir.specs.gql_ast.declared.variable.VariableDef.{VariableDef}
use Rattle.plan_ir.specs.gql_syntax.Built.{value_tree}
use Rattle.plan_ir.specs.Nodes.{Nodes, end, field, inline}
use Rattle.plan_ir.specs.OperationText.{by_name, used_variables}
use Rattle.plan_ir.specs.Substitution.{Arguments}
use Rattle.plan_ir.specs.declared.expanded.Expanded.{Expanded}
use Rattle.plan_ir.specs.schema_tables.Types.{Text}

-- the fields of objects in byte order, those of one name in written order
abbrev mutual
  pub printed_value : Val → Val
  printed_value (variable n) = variable n
  printed_value (int z) = int z
  printed_value (text t) = text t
  printed_value (truth b) = truth b
  printed_value null = null
  printed_value (enum n) = enum n
  printed_value (list vs) = list (printed_values vs)
  printed_value (object ms) = object (members_of (by_name (printed_members ms)))

  pub printed_values : Vals → Vals
  printed_values no_vals = no_vals
  printed_values (val v vs) = val (printed_value v) (printed_values vs)

  -- in written order
  pub printed_members : Members → Arguments
  printed_members no_members = []
  printed_members (member n v ms) = (n, printed_value v) ∷ printed_members ms

abbrev pub printed_pair : Text × Val → Text × Val
printed_pair x = (x.0, printed_value x.1)

abbrev pub printed_arguments : Arguments → Arguments
printed_arguments xs = by_name (map printed_pair xs)

abbrev pub printed_directive : Directive → Directive
printed_directive d = record { name = d.name; arguments = printed_arguments d.arguments }

abbrev pub printed_directives : List Directive → List Directive
printed_directives ds = map printed_directive ds

-- an alias where the response key differs from the name
abbrev pub alias_of : (response name : Text) → Option Text
alias_of r n = cond (bytes_eq r n) None (Some r)

abbrev pub printed_selections : Nodes → Sels
printed_selections end = sels.end
printed_selections (field r n xs ds c of s p rest) =
    sels.field (alias_of r n) n (printed_arguments xs) (printed_directives ds) (printed_selections s) (printed_selections rest)
printed_selections (inline o ds s p rest) = sels.inline o (printed_directives ds) (printed_selections s) (printed_selections rest)

abbrev pub printed_default : Option ValueTree → Option ValueTree
printed_default d = option_map (λ v. value_tree (printed_value (value_of v))) d

abbrev pub printed_variable : VariableDef → VariableDef
printed_variable v =
    record { name = v.name; of = v.of; default = printed_default v.default; directives = printed_directives v.directives }

abbrev pub printed_operation : Expanded → Operation
printed_operation e = record {
  kind = unwrap_or e.kind Query;
  name = Some e.name;
  variables = map printed_variable (used_variables e);
  directives = printed_directives e.directives;
  selections = printed_selections e.selections;
}
