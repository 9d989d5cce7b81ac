-- What the located parts of documents in the code stand for.
use Rattle.std.specs.Prelude.{List, map, option_map, option_copied}
use denote.Ref.{Bor}
use Rattle.schema_types.specs.gql_ast.ValueView as tree
use Rattle.schema_types.specs.schema_trees.LocatedView.{name_of}
use Rattle.schema_types.specs.Sites.{field, spread, inline, operation, fragment}
use Rattle.schema_types.specs.Sites as spec
use Rattle.doc_sites.specs.declared.site.ValueAt.{ValueAt}
use Rattle.doc_sites.specs.declared.site.ArgumentAt.{ArgumentAt}
use Rattle.doc_sites.specs.declared.site.DirectiveAt.{DirectiveAt}
use Rattle.doc_sites.specs.declared.site.VariableAt.{VariableAt}
use Rattle.doc_sites.specs.declared.site.Site.{Site}
use Rattle.doc_sites.specs.declared.site.Site.TheVariants as S
use Rattle.doc_sites.specs.declared.site.OperationAt.{OperationAt}
use Rattle.doc_sites.specs.declared.site.FragmentAt.{FragmentAt}
use Rattle.doc_sites.specs.declared.site.DefinitionAt.{DefinitionAt}
use Rattle.doc_sites.specs.declared.site.DefinitionAt.TheVariants as D

abbrev pub value_of : ValueAt → spec.ValueAt
value_of v = record { of = tree.value_of v.of.now; at = v.at }

abbrev pub argument_of : ArgumentAt → spec.ArgumentAt
argument_of a = record { name = name_of a.name; value = value_of a.value }

abbrev pub directive_of : DirectiveAt → spec.DirectiveAt
directive_of d = record { name = name_of d.name; arguments = map argument_of d.arguments.items }

abbrev pub variable_of : VariableAt → spec.VariableAt
variable_of v = record {
  name = name_of v.name;
  defined = v.defined.now;
  default = option_map value_of v.default;
  directives = map directive_of v.directives.items;
}

abbrev pub site_of : Site → spec.Site
site_of (S.Field o a n xs ds has_set) =
    field (option_copied o) (option_map name_of a) (name_of n) (map argument_of xs.items) (map directive_of ds.items) has_set
site_of (S.Spread o n ds) = spread (option_copied o) (name_of n) (map directive_of ds.items)
site_of (S.Inline o first on ds) = inline (option_copied o) first (option_map name_of on) (map directive_of ds.items)

abbrev pub operation_of : OperationAt → spec.OperationAt
operation_of o = record {
  first = o.first;
  kind = o.kind;
  name = option_map name_of o.name;
  variables = map variable_of o.variables.items;
  directives = map directive_of o.directives.items;
  selections = o.selections.now;
  sites = map site_of o.sites.items;
}

abbrev pub fragment_of : FragmentAt → spec.FragmentAt
fragment_of f = record {
  name = name_of f.name;
  on = name_of f.on;
  directives = map directive_of f.directives.items;
  selections = f.selections.now;
  sites = map site_of f.sites.items;
}

abbrev pub definition_of : DefinitionAt → spec.DefinitionAt
definition_of (D.Operation o) = operation (operation_of o)
definition_of (D.Fragment f) = fragment (fragment_of f)

abbrev pub operations_of : List (Bor OperationAt) → List spec.OperationAt
operations_of os = map (λ (o : Bor OperationAt). operation_of o.now) os

abbrev pub fragments_of : List (Bor FragmentAt) → List spec.FragmentAt
fragments_of fs = map (λ (f : Bor FragmentAt). fragment_of f.now) fs
