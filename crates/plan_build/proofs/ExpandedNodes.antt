-- What holds of the nodes that a field of documents becomes holds of all nodes that selections become, through all spreads.
use Rattle.std.proofs.Common.{◌≡◌, ℕ, zero, suc, ◌+◌, Bool, true, List, [], Option, Some, None, is_some, refl, ap, sym, subst}
use Rattle.doc_merge.specs.Gathering.{on_or}
use Rattle.plan_ir.specs.gql_ast.Sels as sels
use Rattle.plan_ir.specs.gql_ast.Sels.{Sels}
use Rattle.plan_ir.specs.gql_ast.Value.{Val}
use Rattle.plan_ir.specs.gql_ast.declared.directive.Directive.{Directive}
use Rattle.plan_ir.specs.gql_ast.declared.place.FilePlace.{FilePlace}
use Rattle.plan_ir.specs.gql_plain.declared.ids.Conn.{Conn}
use Rattle.plan_build.proofs.Covariance.{Within}
use Rattle.plan_build.proofs.SuitedAdditions.{inside_on}
use Rattle.plan_build.proofs.SuitedRules.{below_is}
use Rattle.plan_build.specs.Meeting.{FieldMeets, FragmentsMeet, IsConnectionType, Meets, base_on}
use Rattle.plan_build.specs.Suited.{type_inside}
use Rattle.plan_ir.specs.Additions.{additions, type_on}
use Rattle.plan_ir.specs.Expansion.{Project, enter_with, expansion, expansion_with, printed_conditions, printed_directives, response_key, selections_from}
use Rattle.plan_ir.specs.Nodes.{Nodes, end, field, inline, nodes_append}
use Rattle.plan_ir.specs.Substitution.{Scope, scope_at_spread, substitute_in}
use Rattle.plan_ir.specs.relay_marks.Connections.{connection_among}
use Rattle.plan_ir.specs.schema_tables.Types.{Text, Defs}
use Rattle.plan_ir.specs.schema_trees.Located.{directives_nodes}
use Rattle.plan_ir.specs.schema_types.NameRules.{fragment_named}
use Rattle.plan_ir.specs.schema_types.Sites.{FragmentAt, arguments_nodes, below, head_nodes, optional_name_nodes, selections_nodes}

-- the set of a field of documents: what its selections become, and what is added
abbrev pub whole_set : Defs → (around name : Text) → Option Conn → Sels → Nodes → FilePlace → Nodes
whole_set defs around n c s set p = nodes_append set (additions defs (is_some c) (base_on defs around n) s p)

-- what is asked of a relation of nodes to the type around them and to the one that plans count on
pub record EachNode (defs : Defs) (Holds : Text → Text → Nodes → Type 0) : Type 0 where
  pub nothing : (around t : Text) → Holds around t end
  pub appended : (around t : Text) (a b : Nodes) → Holds around t a → Holds around t b → Holds around t (nodes_append a b)
  -- a field that the rules allow, with other arguments; it has no set where it has no selections
  pub asked : (around t r n : Text) (xs ys : List (Text × Val)) (ds : List Directive) (c : Option Conn) (s : Sels) (set : Nodes) (p : FilePlace) (rest : Nodes)
      → Within defs t around → FieldMeets defs around n xs c s → (xs ≡ [] → ys ≡ []) → (s ≡ sels.end → whole_set defs around n c s set p ≡ end)
      → Holds (base_on defs around n) (base_on defs around n) (whole_set defs around n c s set p) → Holds around t rest
      → Holds around t (field r n ys ds c (type_on defs around n) (whole_set defs around n c s set p) p rest)
  pub added : (c : Bool) (of : Text) (s : Sels) (p : FilePlace) → (c ≡ true → IsConnectionType defs of) → Holds of of (additions defs c of s p)
  pub inside : (around t : Text) (o : Option Text) (ds : List Directive) (s : Nodes) (p : FilePlace) (rest : Nodes)
      → Holds (on_or around o) (type_inside defs t o) s → Holds around t rest → Holds around t (inline o ds s p rest)

abbrev Enter : Type 0
Enter = (from : ℕ) → Text → List Directive → Nodes → Nodes

module _ (p : Project) (Holds : Text → Text → Nodes → Type 0) (each : EachNode p.defs Holds) where
  -- it holds of what a spread becomes in front of nodes of which it holds
  abbrev Enters : Enter → Type 0
  Enters enter = (from : ℕ) (n : Text) (ds : List Directive) (rest : Nodes) (around t : Text) → Holds around t rest → Holds around t (enter from n ds rest)

  module _ (enter : Enter) (enters : Enters enter) (scope : Scope) where
    -- a field without selections has no nodes
    no_nodes : (from inside : ℕ) (around n : Text) (c : Option Conn) (s : Sels) → s ≡ sels.end
        → whole_set p.defs around n c s (expansion_with enter p scope inside (below p.defs (Some around) n) s) (p.place from) ≡ end
    no_nodes from inside around n c s same =
        ap (λ (z : Sels). whole_set p.defs around n c z (expansion_with enter p scope inside (below p.defs (Some around) n) z) (p.place from)) same

    -- a set, where it holds of what its spreads become
    walked : (from : ℕ) (around t : Text) (s : Sels) → Within p.defs t around → Meets p.defs around s → Holds around t (expansion_with enter p scope from (Some around) s)
    walked from around t sels.end within h = each.nothing around t
    walked from around t (sels.field a n xs ds s rest) within h =
        let inside : ℕ = from + head_nodes a + arguments_nodes xs + directives_nodes ds in
        let of : Text = base_on p.defs around n in
        let c : Option Conn = connection_among ds in
        let set : Nodes = expansion_with enter p scope inside (below p.defs (Some around) n) s in
        each.asked around t (response_key a n) n xs (substitute_in scope xs) (printed_directives scope ds) c s set (p.place from)
        (expansion_with enter p scope (inside + selections_nodes s) (Some around) rest) within h.0 (λ same. ap (substitute_in scope) same)
        (λ same. no_nodes from inside around n c s same)
        (each.appended of of set (additions p.defs (is_some c) of s (p.place from))
        (subst (λ (o : Option Text). Holds of of (expansion_with enter p scope inside o s)) (sym (below_is p.defs around n h.0.there)) (walked inside of of s (λ T k. k) h.1))
        (each.added (is_some c) of s (p.place from) h.0.connection))
        (walked (inside + selections_nodes s) around t rest within h.2)
    walked from around t (sels.spread n ds rest) within h =
        let next : ℕ = from + 2 + directives_nodes ds in
        enters from n ds (expansion_with enter p scope next (Some around) rest) around t (walked next around t rest within h)
    walked from around t (sels.inline None ds s rest) within h =
        let inside : ℕ = from + 1 + optional_name_nodes None + directives_nodes ds in
        each.inside around t None (printed_directives scope ds) (expansion_with enter p scope inside (Some around) s) (p.place from)
        (expansion_with enter p scope (inside + selections_nodes s) (Some around) rest) (walked inside around t s within h.0)
        (walked (inside + selections_nodes s) around t rest within h.1)
    walked from around t (sels.inline (Some o) ds s rest) within h =
        let inside : ℕ = from + 1 + optional_name_nodes (Some o) + directives_nodes ds in
        each.inside around t (Some o) (printed_directives scope ds) (expansion_with enter p scope inside (Some o) s) (p.place from)
        (expansion_with enter p scope (inside + selections_nodes s) (Some around) rest) (walked inside o (type_inside p.defs t (Some o)) s (inside_on p.defs t o) h.0)
        (walked (inside + selections_nodes s) around t rest within h.1)

  -- a fragment that is spread
  abbrev spread_set : ℕ → Scope → List Directive → FragmentAt → Nodes
  spread_set k scope ds f = expansion k p (scope_at_spread scope ds f) (selections_from f) (Some f.on.name) f.selections

  abbrev entering : ℕ → Scope → Enter
  entering k scope at n ds rest = enter_with (spread_set k scope ds) p scope at (fragment_named p.fragments n) ds rest

  module _ (fragments : FragmentsMeet p) where
    -- a spread whose fragment is expanded so
    entered : (k : ℕ) (scope : Scope)
        → ((inner : Scope) (from : ℕ) (around t : Text) (s : Sels) → Within p.defs t around → Meets p.defs around s → Holds around t (expansion k p inner from (Some around) s))
        → Enters (entering k scope)
    entered k scope deeper from n ds rest around t h = on (fragment_named p.fragments n) refl
      where
        on : (o : Option FragmentAt) → fragment_named p.fragments n ≡ o → Holds around t (enter_with (spread_set k scope ds) p scope from o ds rest)
        on None d = h
        on (Some f) d =
            each.inside around t (Some f.on.name) (printed_conditions scope ds) (spread_set k scope ds f) (p.place from) rest
            (deeper (scope_at_spread scope ds f) (selections_from f) f.on.name (type_inside p.defs t (Some f.on.name)) f.selections (inside_on p.defs t f.on.name) (fragments n f d))
            h

    -- so many spreads may stand in one another
    pub nodes_hold : (k : ℕ) (scope : Scope) (from : ℕ) (around t : Text) (s : Sels) → Within p.defs t around → Meets p.defs around s
        → Holds around t (expansion k p scope from (Some around) s)
    nodes_hold zero scope from around t s within h = walked (λ at n ds rest. rest) (λ at n ds rest o u k. k) scope from around t s within h
    nodes_hold (suc k) scope from around t s within h =
        walked (entering k scope) (entered k scope (λ inner at o u s w h. nodes_hold k inner at o u s w h)) scope from around t s within h
