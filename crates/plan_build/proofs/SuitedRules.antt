-- What the rules on documents say of each field, by the type around it: it is there, the type name has nothing, and a connection's type has edges
-- and page information.
use Rattle.std.proofs.Common.{◌≡◌, ℕ, ◌+◌, Bool, true, false, true≢false, cond, not, ◌&&◌, List, [], ◌∷◌, ◌++◌, codes, Option, Some, None, option_map, is_some, bytes_eq, refl, ap, sym, subst, ◌∙◌}
use Rattle.std.specs.List.{AllByRecursion}
use Rattle.plan_ir.specs.gql_ast.Sels as sels
use Rattle.plan_ir.specs.gql_ast.Sels.{Sels}
use Rattle.plan_ir.specs.gql_ast.Ty.{Ty}
use Rattle.plan_ir.specs.gql_ast.TypeView.{ty_of}
use Rattle.plan_ir.specs.gql_ast.Value.{Val}
use Rattle.plan_ir.specs.gql_ast.declared.directive.Directive.{Directive}
use Rattle.plan_ir.specs.gql_ast.declared.member.FieldTree.{FieldTree}
use Rattle.plan_ir.proofs.gql_graph_laws.TextSteps.{same_text}
use Rattle.plan_ir.specs.gql_graph.Rules.{each, wrong}
use Rattle.plan_ir.specs.gql_plain.declared.ids.Conn.{Conn}
use Rattle.plan_build.proofs.Covariance.{type_of_field}
use Rattle.plan_build.proofs.CovarianceLists.{all_parts, first_true, none_first, not_so, right, then_true}
use Rattle.plan_build.proofs.CovarianceNames.{object_is_composite}
use Rattle.plan_build.proofs.CovarianceRules.{SchemaMeets, no_typename}
use Rattle.plan_build.specs.Meeting.{FieldMeets, IsConnectionType, Meets, base_on}
use Rattle.plan_ir.specs.Additions.{type_or}
use Rattle.plan_ir.specs.relay_marks.Connections as connections
use Rattle.plan_ir.specs.relay_marks.Connections.{are_edges, connection_among, connection_from, field_defined, is_connection, is_connection_name, is_connection_type, is_edge, is_node, is_page, is_page_info, is_page_leaf, is_single, needs_nothing, of_name, type_wrong, type_wrong_at}
use Rattle.plan_ir.specs.schema_rules.Rules.{is_object, repeated_names}
use Rattle.plan_ir.specs.schema_tables.Types.{Text, Defs, base_of, field_def, field_on, is_composite}
use Rattle.plan_ir.specs.schema_tables.Views.{FieldDef}
use Rattle.plan_ir.specs.schema_trees.Located.{directives_nodes}
use Rattle.plan_ir.specs.schema_types.ArgumentRules.{argument_names, arguments_of_call_wrong, calls_at, field_takes, inputs, not_taken}
use Rattle.plan_ir.specs.schema_types.FieldRules.{set_is_wrong, set_wrong_at, undefined_at}
use Rattle.plan_ir.specs.schema_types.Sites as site
use Rattle.plan_ir.specs.schema_types.Sites.{Site, arguments_at, arguments_nodes, below, condition_or, directives_at, field_type, head_nodes, is_set, optional_name_nodes, selections_nodes, sites, typename_on}

-- ---- the rules at a site

-- V7, V8, V12 and V22 at a site
pub record SiteMeets (defs : Defs) (s : Site) : Type 0 where
  pub defined : undefined_at defs s ≡ []
  pub set : set_wrong_at defs s ≡ []
  pub calls : AllByRecursion (λ c. arguments_of_call_wrong c ≡ []) (calls_at defs s)
  pub connection : type_wrong_at defs s ≡ []

-- ---- the type name

-- what takes no argument has none
no_arguments : (from : ℕ) (xs : List (Text × Val)) → each (not_taken (inputs [])) (argument_names (arguments_at from xs)) ≡ [] → xs ≡ []
no_arguments from [] e = refl
no_arguments from (x ∷ xs) e = absurd cc

-- a leaf has no set
no_set : (defs : Defs) (composite has_set : Bool) → is_some (typename_on composite) ≡ true → set_is_wrong defs (typename_on composite) has_set ≡ false → has_set ≡ false
no_set defs true true e f = absurd (true≢false f)
no_set defs true false e f = refl
no_set defs false has_set e f = absurd (true≢false (sym e))

no_selections : (s : Sels) → is_set s ≡ false → s ≡ sels.end
no_selections sels.end e = refl
no_selections (sels.field a n xs ds s rest) e = absurd (true≢false e)
no_selections (sels.spread n ds rest) e = absurd (true≢false e)
no_selections (sels.inline o ds s rest) e = absurd (true≢false e)

-- ---- sets

-- a field of a composite type has selections
has_selections : (defs : Defs) (o : Option Ty) (has_set : Bool) → is_some o ≡ true → is_composite defs (base_of (type_or o)) ≡ true → set_is_wrong defs o has_set ≡ false → has_set ≡ true
has_selections defs None has_set i e f = absurd (true≢false (sym i))
has_selections defs (Some t) true i e f = refl
has_selections defs (Some t) false i e f = absurd (true≢false (sym e ∙ f))

-- ---- connections

-- where the rule holds of the directives, one of which is `@connection`, the field is one of a connection
connection_right : (defs : Defs) (f : Option FieldDef) (from : ℕ) (ds : List Directive) → each (type_wrong defs f) (directives_at from ds) ≡ [] → is_some (connection_among ds) ≡ true
    → is_connection defs f ≡ true
connection_right defs f from [] e h = absurd (true≢false (sym h))
connection_right defs f from (d ∷ ds) e h = on (λ k i. connection_right defs f next ds k i) (is_connection_name d.name) e h
  where
    next : ℕ
    next = from + (2 + arguments_nodes d.arguments)

    on : (each (type_wrong defs f) (directives_at next ds) ≡ [] → is_some (connection_among ds) ≡ true → is_connection defs f ≡ true) → (b : Bool)
        → cond b (wrong (not (is_connection defs f)) (from + 1)) [] ++ each (type_wrong defs f) (directives_at next ds) ≡ []
        → is_some (cond b (Some (connection_from d.arguments)) (connection_among ds)) ≡ true → is_connection defs f ≡ true
    on later true e h =
        right (is_connection defs f) (from + 1) (none_first (wrong (not (is_connection defs f)) (from + 1)) (each (type_wrong defs f) (directives_at next ds)) e)
    on later false e h = later e h

-- the type of a field that the rule is about
edge_type : (defs : Defs) (o : Option FieldTree) → are_edges defs (option_map field_def o) ≡ true → is_object defs (base_of (type_or (option_map (λ (f : FieldTree). ty_of f.of) o))) ≡ true
edge_type defs None e = absurd (true≢false (sym e))
edge_type defs (Some f) e =
    let t : Text = base_of (ty_of f.of) in
    let edge = then_true (needs_nothing (field_def f) && not (is_single (field_def f))) (is_edge defs t) e in
    let node : Bool = is_node defs (connections.on defs t (codes "node")) in
    first_true (is_object defs t) node (first_true (is_object defs t && node) (is_page_leaf defs (connections.on defs t (codes "cursor"))) edge)

page_type : (defs : Defs) (o : Option FieldTree) → is_page_info defs (option_map field_def o) ≡ true → is_object defs (base_of (type_or (option_map (λ (f : FieldTree). ty_of f.of) o))) ≡ true
page_type defs None e = absurd (true≢false (sym e))
page_type defs (Some f) e =
    let t : Text = base_of (ty_of f.of) in
    let page = then_true (needs_nothing (field_def f) && is_single (field_def f)) (is_page defs t) e in
    let one : Bool = is_page_leaf defs (connections.on defs t (codes "hasNextPage")) in
    let two : Bool = is_page_leaf defs (connections.on defs t (codes "hasPreviousPage")) in
    let three : Bool = is_page_leaf defs (connections.on defs t (codes "startCursor")) in
    let four : Bool = is_page_leaf defs (connections.on defs t (codes "endCursor")) in
    first_true (is_object defs t) one (first_true (is_object defs t && one) two (first_true (is_object defs t && one && two) three (first_true (is_object defs t && one && two && three) four page)))

-- the type that the rule asks for
connection_type : (defs : Defs) (t : Text) → is_connection_type defs t ≡ true → IsConnectionType defs t
connection_type defs t e =
    let edges : Bool = are_edges defs (connections.on defs t (codes "edges")) in
    let page : Bool = is_page_info defs (connections.on defs t (codes "pageInfo")) in
    let both = first_true (is_object defs t && edges) page e in record {
      object = first_true (is_object defs t) edges both;
      edge = edge_type defs (field_on defs t (codes "edges")) (then_true (is_object defs t) edges both);
      page = page_type defs (field_on defs t (codes "pageInfo")) (then_true (is_object defs t && edges) page e);
    }

-- the type around the selections of a field that is there
pub below_is : (defs : Defs) (around n : Text) → is_some (field_type defs (Some around) n) ≡ true → below defs (Some around) n ≡ Some (base_on defs around n)
below_is defs around n e = on (field_type defs (Some around) n) e
  where
    on : (o : Option Ty) → is_some o ≡ true → option_map base_of o ≡ Some (base_of (type_or o))
    on None e = absurd (true≢false (sym e))
    on (Some t) e = refl

module _ (defs : Defs) (meets : SchemaMeets defs) where
  -- the type name is no connection
  not_typename : (around n : Text) → is_connection defs (field_defined defs (Some around) n) ≡ true → n ≡ codes "__typename" → ⊥
  not_typename around n e same =
      true≢false
      (sym e
      ∙ ap (λ (m : Text). is_connection defs (option_map field_def (field_on defs around m))) same
      ∙ ap (λ (o : Option FieldTree). is_connection defs (option_map field_def o)) (no_typename defs meets around))

  connection_of_field : (around n : Text) → bytes_eq n (codes "__typename") ≡ false → is_connection defs (field_defined defs (Some around) n) ≡ true
      → IsConnectionType defs (base_on defs around n)
  connection_of_field around n off e =
      subst (λ (t : Ty). IsConnectionType defs (base_of t)) (sym (type_of_field defs around n off)) (on (field_on defs around n) e)
    where
      on : (o : Option FieldTree) → is_connection defs (option_map field_def o) ≡ true → IsConnectionType defs (base_of (type_or (option_map (λ (f : FieldTree). ty_of f.of) o)))
      on None e = absurd (true≢false (sym e))
      on (Some f) e = connection_type defs (base_of (ty_of f.of)) (then_true (is_single (field_def f)) (is_connection_type defs (base_of (ty_of f.of))) e)

  -- a field at its site
  field_meets : (around n : Text) (a : Option Text) (xs : List (Text × Val)) (ds : List Directive) (s : Sels) (from : ℕ)
      → SiteMeets defs
      (site.field (Some around) (site.optional_name_at (from + 1) a) (record { name = n; at = from + 1 + optional_name_nodes a }) (arguments_at (from + head_nodes a) xs)
      (directives_at (from + head_nodes a + arguments_nodes xs) ds) (is_set s))
      → FieldMeets defs around n xs (connection_among ds) s
  field_meets around n a xs ds s from h = record {
    there = there;
    bare = λ same. no_arguments (from + head_nodes a) xs
        (subst (λ (m : Text). each (not_taken (field_takes defs (Some around) m)) (argument_names (arguments_at (from + head_nodes a) xs)) ≡ []) same
        (none_first (each (not_taken (field_takes defs (Some around) n)) (argument_names (arguments_at (from + head_nodes a) xs)))
        (repeated_names (argument_names (arguments_at (from + head_nodes a) xs))) h.calls.0));
    plain = λ same. none_there (connection_among ds) (λ i. not_typename around n (connected i) same);
    alone = λ same. no_selections s
        (no_set defs (is_composite defs around) (is_set s) (subst (λ (m : Text). is_some (field_type defs (Some around) m) ≡ true) same there)
        (subst (λ (m : Text). set_is_wrong defs (field_type defs (Some around) m) (is_set s) ≡ false) same set));
    connection = type;
    filled = λ i. has_selections defs (field_type defs (Some around) n) (is_set s) there (object_is_composite defs (base_on defs around n) (type i).object) set;
  }
    where
      there : is_some (field_type defs (Some around) n) ≡ true
      there = right (is_some (field_type defs (Some around) n)) (from + 1 + optional_name_nodes a) h.defined

      set : set_is_wrong defs (field_type defs (Some around) n) (is_set s) ≡ false
      set = not_so (set_is_wrong defs (field_type defs (Some around) n) (is_set s)) (from + 1 + optional_name_nodes a) h.set

      connected : is_some (connection_among ds) ≡ true → is_connection defs (field_defined defs (Some around) n) ≡ true
      connected i = connection_right defs (field_defined defs (Some around) n) (from + head_nodes a + arguments_nodes xs) ds h.connection i

      none_there : (c : Option Conn) → (is_some c ≡ true → ⊥) → c ≡ None
      none_there None f = refl
      none_there (Some c) f = absurd (f refl)

      differs : (b : Bool) → bytes_eq n (codes "__typename") ≡ b → is_connection defs (field_defined defs (Some around) n) ≡ true → bytes_eq n (codes "__typename") ≡ false
      differs true e i = absurd (not_typename around n i (same_text n (codes "__typename") e))
      differs false e i = e

      type : is_some (connection_among ds) ≡ true → IsConnectionType defs (base_on defs around n)
      type i = connection_of_field around n (differs (bytes_eq n (codes "__typename")) refl (connected i)) (connected i)

  -- all sites of a set with this type around it
  pub all_meet : (from : ℕ) (around : Text) (s : Sels) → AllByRecursion (SiteMeets defs) (sites defs from (Some around) s) → Meets defs around s
  all_meet from around sels.end h = tt
  all_meet from around (sels.field a n xs ds s rest) h =
      let inside : ℕ = from + head_nodes a + arguments_nodes xs + directives_nodes ds in
      let one = field_meets around n a xs ds s from h.0 in
      let r = all_parts (SiteMeets defs) (sites defs inside (below defs (Some around) n) s) (sites defs (inside + selections_nodes s) (Some around) rest) h.1 in
      let within = subst (λ (o : Option Text). AllByRecursion (SiteMeets defs) (sites defs inside o s)) (below_is defs around n one.there) r.0 in
      (one, all_meet inside (base_on defs around n) s within, all_meet (inside + selections_nodes s) around rest r.1)
  all_meet from around (sels.spread n ds rest) h = all_meet (from + 2 + directives_nodes ds) around rest h.1
  all_meet from around (sels.inline None ds s rest) h =
      let inside : ℕ = from + 1 + optional_name_nodes None + directives_nodes ds in
      let r = all_parts (SiteMeets defs) (sites defs inside (Some around) s) (sites defs (inside + selections_nodes s) (Some around) rest) h.1 in
      (all_meet inside around s r.0, all_meet (inside + selections_nodes s) around rest r.1)
  all_meet from around (sels.inline (Some o) ds s rest) h =
      let inside : ℕ = from + 1 + optional_name_nodes (Some o) + directives_nodes ds in
      let r = all_parts (SiteMeets defs) (sites defs inside (Some o) s) (sites defs (inside + selections_nodes s) (Some around) rest) h.1 in
      (all_meet inside o s r.0, all_meet (inside + selections_nodes s) around rest r.1)
