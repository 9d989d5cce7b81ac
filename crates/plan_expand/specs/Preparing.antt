-- What stands ready to expand, and what is made of it.
use Rattle.std.specs.Prelude.{◌≡◌, [], length, Option, Some, None, Result}
use Rattle.plan_ir.specs.Expansion.{name_or}
use Rattle.plan_ir.specs.Nodes.{Nodes}
use Rattle.plan_ir.specs.Substitution.{Scope, mark_local, operation_scope}
use Rattle.plan_ir.specs.declared.expanded.Expanded.{Expanded}
use Rattle.plan_ir.specs.schema_tables.Types.{Text}
use Rattle.plan_ir.specs.schema_types.NameRules.{fragments, operations}
use Rattle.plan_expand.specs.Adding.{IsRight}
use Rattle.plan_ir.specs.Projects.{definitions_in}
use Rattle.plan_expand.specs.Extents.{both, values_extent}
use Rattle.plan_ir.specs.Projects.{place_in, Places}
use Rattle.plan_expand.specs.Making.{Ready, making}
use Rattle.plan_expand.specs.Measuring.{total}
use Rattle.plan_expand.specs.OperationsView.{HasOperations, ReadyOperation, find_operation}
use Rattle.plan_expand.specs.ReadyView.{HasFragments, find_in}
use Rattle.plan_expand.specs.Sizes.{nothing, own_sizes}
use Rattle.plan_expand.specs.Verdicts.{IsOutcome}
use Rattle.plan_expand.specs.declared.expander.Expander.{Expander}
use Rattle.plan_expand.specs.declared.extent.Extent.{Extent}
use Rattle.plan_expand.specs.declared.fault.ExpandFault.{ExpandFault}
use Rattle.plan_expand.specs.declared.size.Size.{Size}
use Rattle.plan_ir.specs.gql_ast.Sels.{Sels}
use Rattle.plan_ir.specs.schema_types.DocumentRules.{places_of}

-- what stands ready is that of the schema and the documents
pub record IsReady (e : Expander) : Type 0 where
  pub right : IsRight e.adding
  pub same_schema : e.adding.schema.now ≡ e.schema.now
  pub fragments_found : HasFragments (place_in (places_of e.documents.now)) (find_in e.fragments) (fragments (definitions_in e.schema.now e.documents.now))
  pub operations_found : HasOperations e.schema.now (place_in (places_of e.documents.now)) (find_operation e.operations) (operations (definitions_in e.schema.now e.documents.now))
  pub all_spreads : e.spreads ≡ length (fragments (definitions_in e.schema.now e.documents.now))

-- the nodes of a set, and how large it is with values of that size
abbrev pub nodes_made : Expander → Scope → Places → (around : Option Text) → Sels → Nodes
nodes_made e scope places around s = making e.spreads e.adding.schema.now (find_in e.fragments) scope places 0 around s

abbrev pub extent_made : Expander → (values : Size) → (around : Option Text) → Sels → Extent
extent_made e values around s = both (values_extent values) (total e.spreads e.adding.schema.now (find_in e.fragments) own_sizes 1 around s)

-- the operation of that name, with these nodes
abbrev pub operation_with : Text → ReadyOperation → Nodes → Expanded
operation_with n r ns = record {
  kind = Some r.kind;
  name = n;
  root = name_or r.around;
  variables = r.variables;
  directives = r.directives;
  selections = ns;
}

-- the fragment of that name on that type, with these nodes
abbrev pub fragment_with : Text → (on : Text) → Nodes → Expanded
fragment_with n on ns = record { kind = None; name = n; root = on; variables = []; directives = []; selections = ns }

abbrev pub IsOperation : Expander → Text → ReadyOperation → Result Expanded ExpandFault → Type 0
IsOperation e n r result =
    IsOutcome (extent_made e r.size r.around r.selections)
    (λ x. x ≡ operation_with n r (nodes_made e operation_scope r.places r.around r.selections)) result

abbrev pub IsFragment : Expander → Text → Ready → Result Expanded ExpandFault → Type 0
IsFragment e n r result =
    IsOutcome (extent_made e nothing (Some r.on) r.selections)
    (λ x. x ≡ fragment_with n r.on (nodes_made e (λ m. mark_local m (r.locals m)) r.places (Some r.on) r.selections)) result
