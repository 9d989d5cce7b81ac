-- What becomes of one definition is noted, and what becomes of all.
use Rattle.std.proofs.Common.{◌≡◌, ℕ, ◌+◌, ◌<◌, List, [], ◌∷◌, length, get_or, drop, map, Option, Some, None, sym, ap, subst, ◌∙◌, add-one, drop-cons}
use Rattle.plan_read.proofs.doc_merge_laws.LeastSteps.{least-append}
use Rattle.plan_read.specs.doc_merge.Places as places
use Rattle.plan_read.specs.doc_merge.declared.fault.PlaceFault.{PlaceFault}
use Rattle.plan_read.specs.doc_sites.SitesView.{definition_of}
use Rattle.plan_read.specs.doc_sites.declared.site.DefinitionAt as code
use Rattle.plan_ir.specs.gql_ast.declared.document.Document.{Document}
use Rattle.plan_ir.specs.gql_ast.declared.place.Placed.{Placed}
use Rattle.plan_ir.proofs.gql_graph_laws.LeastSteps.{noted-append}
use Rattle.plan_ir.specs.gql_graph.Leasts.{least_from}
use Rattle.plan_ir.specs.gql_graph.Rules.{each}
use Rattle.plan_ir.specs.Projects.{definitions_in}
use Rattle.plan_project.specs.Noting.{depth_at, fields_at, size_at, values_at, values_in, fields_in, HasNotedAll, HasNotedAt, HasNotedFault}
use Rattle.plan_project.specs.declared.least_faults.LeastFaults.{LeastFaults}
use Rattle.plan_ir.specs.schema_tables.Types.{Defs}
use Rattle.plan_ir.specs.schema_types.Sites.{DefinitionAt}

-- what the check said is noted
pub fault_said : (old new : LeastFaults) (said : Option PlaceFault) (f : PlaceFault) → said ≡ Some f → HasNotedFault old new (Some f) → HasNotedFault old new said
fault_said old new said f e h = record {
  size = h.size;
  depth = h.depth;
  values = h.values ∙ ap (λ o. places.least_from old.values.at (values_in o)) (sym e);
  fields = h.fields ∙ ap (λ o. places.least_from old.fields.at (fields_in o)) (sym e);
}

-- ---- all definitions

module _ (defs : Defs) (ps : List (Placed Document)) where
  -- what is noted, and the definitions that are left, give what all give
  pub record AreNoted (noted : LeastFaults) (rest all : List DefinitionAt) : Type 0 where
    pub size : least_from noted.size.at (each (size_at defs ps) rest) ≡ least_from None (each (size_at defs ps) all)
    pub depth : least_from noted.depth.at (each (depth_at defs ps) rest) ≡ least_from None (each (depth_at defs ps) all)
    pub values : places.least_from noted.values.at (each (values_at defs ps) rest) ≡ places.least (each (values_at defs ps) all)
    pub fields : places.least_from noted.fields.at (each (fields_at defs ps) rest) ≡ places.least (each (fields_at defs ps) all)

  pub noted_first : (noted : LeastFaults) (all : List DefinitionAt) → noted.size.at ≡ None → noted.depth.at ≡ None → noted.values.at ≡ None → noted.fields.at ≡ None → AreNoted noted all all
  noted_first noted all s d v f = record {
    size = ap (λ o. least_from o (each (size_at defs ps) all)) s;
    depth = ap (λ o. least_from o (each (depth_at defs ps) all)) d;
    values = ap (λ o. places.least_from o (each (values_at defs ps) all)) v;
    fields = ap (λ o. places.least_from o (each (fields_at defs ps) all)) f;
  }

  -- one more definition
  noted_more : (old new : LeastFaults) (d : DefinitionAt) (rest all : List DefinitionAt) → HasNotedAt defs ps old new d → AreNoted old (d ∷ rest) all → AreNoted new rest all
  noted_more old new d rest all h a = record {
    size = ap (λ o. least_from o (each (size_at defs ps) rest)) h.size ∙ sym (noted-append old.size.at (size_at defs ps d) (each (size_at defs ps) rest)) ∙ a.size;
    depth = ap (λ o. least_from o (each (depth_at defs ps) rest)) h.depth ∙ sym (noted-append old.depth.at (depth_at defs ps d) (each (depth_at defs ps) rest)) ∙ a.depth;
    values = ap (λ o. places.least_from o (each (values_at defs ps) rest)) h.values ∙ sym (least-append old.values.at (values_at defs ps d) (each (values_at defs ps) rest)) ∙ a.values;
    fields = ap (λ o. places.least_from o (each (fields_at defs ps) rest)) h.fields ∙ sym (least-append old.fields.at (fields_at defs ps d) (each (fields_at defs ps) rest)) ∙ a.fields;
  }

  pub noted_next : (old new : LeastFaults) (xs : List code.DefinitionAt) (i : ℕ) (x : code.DefinitionAt) (all : List DefinitionAt) → i < length xs → x ≡ get_or xs i x
      → HasNotedAt defs ps old new (definition_of x) → AreNoted old (map definition_of (drop i xs)) all → AreNoted new (map definition_of (drop (i + 1) xs)) all
  noted_next old new xs i x all within is h a =
      let cut : drop i xs ≡ x ∷ drop (i + 1) xs = drop-cons xs i x within ∙ (λ j. sym is j ∷ drop (sym (add-one i) j) xs) in
      noted_more old new (definition_of x) (map definition_of (drop (i + 1) xs)) all h (subst (λ ys. AreNoted old (map definition_of ys) all) cut a)

  -- nothing is left
  pub noted_all : (noted : LeastFaults) (xs : List code.DefinitionAt) (i : ℕ) → drop i xs ≡ [] → map definition_of xs ≡ definitions_in defs ps
      → AreNoted noted (map definition_of (drop i xs)) (map definition_of xs) → HasNotedAll defs ps noted
  noted_all noted xs i e are a =
      let done = subst (λ ys. AreNoted noted (map definition_of ys) (map definition_of xs)) e a in
      let whole = subst (λ ys. AreNoted noted [] ys) are done in
      record { size = whole.size; depth = whole.depth; values = whole.values; fields = whole.fields }
