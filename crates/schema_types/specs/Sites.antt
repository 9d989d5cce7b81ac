-- What stands in documents, in text order, each with the type around it and with the places of its names. A place is told by its
-- number among the nodes of all documents, from 0 (GraphQL, October 2021, sections 2.3 to 2.8, 2.10, 2.12; 5.3.1 for types).
use Rattle.std.specs.Prelude.{ℕ, ◌+◌, Bool, true, false, cond, List, [], ◌∷◌, ◌++◌, codes, Option, Some, None, option_map, bytes_eq}
use Rattle.schema_rules.specs.gql_ast.Sels as sels
use Rattle.schema_rules.specs.gql_ast.Sels.{Sels, end}
use Rattle.schema_rules.specs.gql_ast.Ty as ty
use Rattle.schema_rules.specs.gql_ast.Ty.{Ty}
use Rattle.schema_rules.specs.gql_ast.TypeView.{ty_of}
use Rattle.schema_rules.specs.gql_ast.Value.{Val, members_of}
use Rattle.schema_rules.specs.gql_ast.ValueView.{value_of}
use Rattle.schema_rules.specs.gql_ast.declared.directive.Directive.{Directive}
use Rattle.schema_rules.specs.gql_ast.declared.document.Definition.{Definition}
use Rattle.schema_rules.specs.gql_ast.declared.document.Definition.TheVariants as D
use Rattle.schema_rules.specs.gql_ast.declared.document.Document.{Document}
use Rattle.schema_rules.specs.gql_ast.declared.document.Fragment.{Fragment}
use Rattle.schema_rules.specs.gql_ast.declared.document.Kind.{Kind}
use Rattle.schema_rules.specs.gql_ast.declared.document.Operation.{Operation}
use Rattle.schema_rules.specs.gql_ast.declared.member.FieldTree.{FieldTree}
use Rattle.schema_rules.specs.gql_ast.declared.value.ValueTree.{ValueTree}
use Rattle.schema_rules.specs.gql_ast.declared.variable.VariableDef.{VariableDef}
use Rattle.schema_rules.specs.schema_trees.Located.{Located, value_nodes, members_nodes, directives_nodes, type_nodes, default_nodes}
use Rattle.schema_rules.specs.schema_tables.Types.{Text, Defs, base_of, field_on, is_composite, root}

-- ---- how many nodes

abbrev pub optional_name_nodes : Option Text → ℕ
optional_name_nodes None = 0
optional_name_nodes (Some n) = 1

abbrev pub arguments_nodes : List (Text × Val) → ℕ
arguments_nodes xs = members_nodes (members_of xs)

-- a field with its alias and its name
abbrev pub head_nodes : (alias : Option Text) → ℕ
head_nodes a = optional_name_nodes a + 2

abbrev pub selections_nodes : Sels → ℕ
selections_nodes end = 0
selections_nodes (sels.field a n xs ds s rest) =
    head_nodes a + arguments_nodes xs + directives_nodes ds + selections_nodes s + selections_nodes rest
selections_nodes (sels.spread n ds rest) = 2 + directives_nodes ds + selections_nodes rest
selections_nodes (sels.inline o ds s rest) = 1 + optional_name_nodes o + directives_nodes ds + selections_nodes s + selections_nodes rest

abbrev pub variable_nodes : VariableDef → ℕ
variable_nodes v = 2 + type_nodes (ty_of v.of) + default_nodes v.default + directives_nodes v.directives

abbrev pub variables_nodes : List VariableDef → ℕ
variables_nodes [] = 0
variables_nodes (v ∷ vs) = variable_nodes v + variables_nodes vs

abbrev pub definition_nodes : Definition → ℕ
definition_nodes (D.Operation o) =
    2 + optional_name_nodes o.name + variables_nodes o.variables + directives_nodes o.directives + selections_nodes o.selections
definition_nodes (D.Fragment f) = 4 + directives_nodes f.directives + selections_nodes f.selections

abbrev pub definitions_nodes : List Definition → ℕ
definitions_nodes [] = 0
definitions_nodes (d ∷ ds) = definition_nodes d + definitions_nodes ds

abbrev pub document_nodes : Document → ℕ
document_nodes d = 1 + definitions_nodes d.definitions

-- ---- values, arguments, directives and variables with their places

-- a value, and the place of its first token
pub record ValueAt : Type 0 where
  pub of : Val
  pub at : ℕ

pub record ArgumentAt : Type 0 where
  pub name : Located
  pub value : ValueAt

pub record DirectiveAt : Type 0 where
  pub name : Located
  pub arguments : List ArgumentAt

-- the definition of a variable, with the places of its name and its default
pub record VariableAt : Type 0 where
  pub name : Located
  pub defined : VariableDef
  pub default : Option ValueAt
  pub directives : List DirectiveAt

abbrev pub argument_at : (from : ℕ) → Text × Val → ArgumentAt
argument_at from a = record { name = record { name = a.0; at = from + 1 }; value = record { of = a.1; at = from + 2 } }

abbrev pub arguments_at : (from : ℕ) → List (Text × Val) → List ArgumentAt
arguments_at from [] = []
arguments_at from (a ∷ more) = argument_at from a ∷ arguments_at (from + (2 + value_nodes a.1)) more

abbrev pub directive_at : (from : ℕ) → Directive → DirectiveAt
directive_at from d = record { name = record { name = d.name; at = from + 1 }; arguments = arguments_at (from + 2) d.arguments }

abbrev pub directives_at : (from : ℕ) → List Directive → List DirectiveAt
directives_at from [] = []
directives_at from (d ∷ ds) = directive_at from d ∷ directives_at (from + (2 + arguments_nodes d.arguments)) ds

abbrev pub value_at : (from : ℕ) → Option ValueTree → Option ValueAt
value_at from None = None
value_at from (Some v) = Some (record { of = value_of v; at = from })

abbrev pub variable_at : (from : ℕ) → VariableDef → VariableAt
variable_at from v = record {
  name = record { name = v.name; at = from + 1 };
  defined = v;
  default = value_at (from + 2 + type_nodes (ty_of v.of)) v.default;
  directives = directives_at (from + 2 + type_nodes (ty_of v.of) + default_nodes v.default) v.directives;
}

abbrev pub variables_at : (from : ℕ) → List VariableDef → List VariableAt
variables_at from [] = []
variables_at from (v ∷ vs) = variable_at from v ∷ variables_at (from + variable_nodes v) vs

abbrev pub optional_name_at : (at : ℕ) → Option Text → Option Located
optional_name_at at None = None
optional_name_at at (Some n) = Some (record { name = n; at = at })

-- ---- selections, each apart from those inside it, with the type around it where that is known

pub data Site : Type 0 where
  field : (around : Option Text) → (alias : Option Located) → (name : Located) → List ArgumentAt → List DirectiveAt → (has_set : Bool) → Site
  spread : (around : Option Text) → (name : Located) → List DirectiveAt → Site
  inline : (around : Option Text) → (first : ℕ) → (on : Option Located) → List DirectiveAt → Site

abbrev pub typename : Text
typename = codes "__typename"

-- `__typename` is a field of each composite type (4.1)
abbrev pub typename_on : Bool → Option Ty
typename_on is_composite = cond is_composite (Some (ty.non_null (ty.named (codes "String")))) None

-- the type of a field, where the type around it is known and has it
abbrev pub field_type : Defs → (around : Option Text) → Text → Option Ty
field_type defs None n = None
field_type defs (Some of) n = cond (bytes_eq n typename) (typename_on (is_composite defs of)) (option_map (λ (f : FieldTree). ty_of f.of) (field_on defs of n))

-- the type around the selections of a field, and of an inline fragment
abbrev pub below : Defs → (around : Option Text) → Text → Option Text
below defs around n = option_map base_of (field_type defs around n)

abbrev pub condition_or : (around : Option Text) → (on : Option Text) → Option Text
condition_or around None = around
condition_or around (Some n) = Some n

abbrev pub is_set : Sels → Bool
is_set end = false
is_set s = true

abbrev pub sites : Defs → (from : ℕ) → (around : Option Text) → Sels → List Site
sites defs from around end = []
sites defs from around (sels.field a n xs ds s rest) =
    field around (optional_name_at (from + 1) a) (record { name = n; at = from + 1 + optional_name_nodes a })
    (arguments_at (from + head_nodes a) xs) (directives_at (from + head_nodes a + arguments_nodes xs) ds) (is_set s)
    ∷ sites defs (from + head_nodes a + arguments_nodes xs + directives_nodes ds) (below defs around n) s
    ++ sites defs (from + head_nodes a + arguments_nodes xs + directives_nodes ds + selections_nodes s) around rest
sites defs from around (sels.spread n ds rest) =
    spread around (record { name = n; at = from + 1 }) (directives_at (from + 2) ds)
    ∷ sites defs (from + 2 + directives_nodes ds) around rest
sites defs from around (sels.inline o ds s rest) =
    inline around from (optional_name_at (from + 1) o) (directives_at (from + 1 + optional_name_nodes o) ds)
    ∷ sites defs (from + 1 + optional_name_nodes o + directives_nodes ds) (condition_or around o) s
    ++ sites defs (from + 1 + optional_name_nodes o + directives_nodes ds + selections_nodes s) around rest

-- ---- operations and fragments

pub record OperationAt : Type 0 where
  -- the place of its first token
  pub first : ℕ
  pub kind : Kind
  pub name : Option Located
  pub variables : List VariableAt
  pub directives : List DirectiveAt
  pub selections : Sels
  pub sites : List Site

pub record FragmentAt : Type 0 where
  pub name : Located
  pub on : Located
  pub directives : List DirectiveAt
  pub selections : Sels
  pub sites : List Site

pub data DefinitionAt : Type 0 where
  operation : OperationAt → DefinitionAt
  fragment : FragmentAt → DefinitionAt

abbrev pub operation_at : Defs → (from : ℕ) → Operation → OperationAt
operation_at defs from o = record {
  first = from;
  kind = o.kind;
  name = optional_name_at (from + 2) o.name;
  variables = variables_at (from + 2 + optional_name_nodes o.name) o.variables;
  directives = directives_at (from + 2 + optional_name_nodes o.name + variables_nodes o.variables) o.directives;
  selections = o.selections;
  sites = sites defs (from + 2 + optional_name_nodes o.name + variables_nodes o.variables + directives_nodes o.directives) (root defs o.kind) o.selections;
}

abbrev pub fragment_at : Defs → (from : ℕ) → Fragment → FragmentAt
fragment_at defs from f = record {
  name = record { name = f.name; at = from + 2 };
  on = record { name = f.on; at = from + 3 };
  directives = directives_at (from + 4) f.directives;
  selections = f.selections;
  sites = sites defs (from + 4 + directives_nodes f.directives) (Some f.on) f.selections;
}

abbrev pub definition_at : Defs → (from : ℕ) → Definition → DefinitionAt
definition_at defs from (D.Operation o) = operation (operation_at defs from o)
definition_at defs from (D.Fragment f) = fragment (fragment_at defs from f)

abbrev pub definitions_at : Defs → (from : ℕ) → List Definition → List DefinitionAt
definitions_at defs from [] = []
definitions_at defs from (d ∷ ds) = definition_at defs from d ∷ definitions_at defs (from + definition_nodes d) ds

-- a document is a node itself
abbrev pub documents_at : Defs → (from : ℕ) → List Document → List DefinitionAt
documents_at defs from [] = []
documents_at defs from (d ∷ ds) = definitions_at defs (from + 1) d.definitions ++ documents_at defs (from + document_nodes d) ds

-- all operations and fragments
abbrev pub all_definitions : Defs → List Document → List DefinitionAt
all_definitions defs ds = documents_at defs 0 ds
