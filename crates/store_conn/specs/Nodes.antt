-- The nodes of edges, kept in a set, and what a set of nodes leaves of a list of edges.
use Rattle.std.specs.Prelude.{ℕ, List, [], ◌∷◌, Bool, false, ◌||◌, cond, Option, Some, None}
use Rattle.std.specs.BTreeSet.{BTreeSet, contains_by}
use Rattle.std.specs.Cmp.Lexicographic.{slice_cmp}
use Rattle.std.specs.Ordering.{nat_cmp}
use Rattle.store_model.specs.store_record.Keys.{Text}
use Rattle.store_model.specs.store_record.declared.record.Record.{Record}
use Rattle.store_model.specs.Merge.{same_node, node_of, node_at}
use Rattle.store_model.specs.Records.{Records}
use denote.Ref.{Bor}

-- whether the node of an edge is in a set
abbrev pub knows : BTreeSet (Bor (List ℕ)) → Option Text → Bool
knows set None = false
knows set (Some id) = contains_by (λ k. slice_cmp nat_cmp id k.now) set

-- what is known, and one node more
abbrev pub and_node : Option Text → (Option Text → Bool) → Option Text → Bool
and_node n known other = same_node n other || known other

-- what is known, and these nodes
abbrev pub and_nodes : List (Option Text) → (Option Text → Bool) → Option Text → Bool
and_nodes [] known = known
and_nodes (n ∷ ns) known = and_nodes ns (and_node n known)

-- what is known, and one node more, if it is wanted
abbrev pub and_wanted : (Option Text → Bool) → Option Text → (Option Text → Bool) → Option Text → Bool
and_wanted wanted n known = cond (wanted n) (and_node n known) known

-- what is known, and those of these nodes that are wanted
abbrev pub and_all_wanted : (Option Text → Bool) → List (Option Text) → (Option Text → Bool) → Option Text → Bool
and_all_wanted wanted [] known = known
and_all_wanted wanted (n ∷ ns) known = and_all_wanted wanted ns (and_wanted wanted n known)

-- what is known, and the node of an edge
abbrev pub and_edge : Record → (Option Text → Bool) → Option Text → Bool
and_edge e known = cond (known (node_of e)) known (and_node (node_of e) known)

abbrev pub and_edges : List Record → (Option Text → Bool) → Option Text → Bool
and_edges [] known = known
and_edges (e ∷ es) known = and_edges es (and_edge e known)

-- the edges whose node is not known, and none of those before it
abbrev pub unknown_edges : (Option Text → Bool) → List Record → List Record
unknown_edges known [] = []
unknown_edges known (e ∷ es) = cond (known (node_of e)) (unknown_edges known es) (e ∷ unknown_edges (and_node (node_of e) known) es)

-- the edges of a list whose node is not known
abbrev pub edges_but : (Option Text → Bool) → Records → List (Option Text) → List (Option Text)
edges_but known m [] = []
edges_but known m (e ∷ es) = cond (known (node_at m e)) (edges_but known m es) (e ∷ edges_but known m es)
