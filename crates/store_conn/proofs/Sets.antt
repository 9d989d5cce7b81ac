-- What a set of nodes leaves is what the definition of the merge leaves.
use Rattle.std.proofs.Common.{◌≡◌, ℕ, Bool, true, false, ◌||◌, cond, List, [], ◌∷◌, Option, Some, None, refl, sym, ap, ◌∙◌, bytes_eq, nat_cmp, is_eq}
use Rattle.std.proofs.lemmas.Map.Text.{is_eq-slice_cmp}
use Rattle.std.specs.BTreeSet.{BTreeSet}
use Rattle.std.specs.Cmp.Lexicographic.{slice_cmp}
use Rattle.store_model.specs.store_record.Keys.{Text}
use Rattle.store_model.specs.store_record.declared.record.Record.{Record}
use Rattle.store_model.specs.Merge.{same_node, node_of, node_at, nodes_of, is_among, new_edges, others_than}
use Rattle.store_model.specs.Records.{Records}
use Rattle.store_conn.specs.Nodes.{knows, and_node, and_nodes, and_edge, and_edges, unknown_edges, edges_but}
use denote.Ref.{Bor}

-- a node more in front of a list
more_node : (other : Option Text) (before : List (Option Text)) → and_node other (is_among before) ≡ is_among (other ∷ before)
more_node other before = refl

pub unknown_are_new : (before : List (Option Text)) (es : List Record) → unknown_edges (is_among before) es ≡ new_edges before es
unknown_are_new before [] = refl
unknown_are_new before (e ∷ es) =
    let left = unknown_are_new before es in
    let kept = unknown_are_new (node_of e ∷ before) es in
    λ k. cond (is_among before (node_of e)) (left k) (e ∷ kept k)

pub but_are_others : (m : Records) (nodes es : List (Option Text)) → edges_but (is_among nodes) m es ≡ others_than m nodes es
but_are_others m nodes [] = refl
but_are_others m nodes (e ∷ es) = let rest = but_are_others m nodes es in λ k. cond (is_among nodes (node_at m e)) (rest k) (e ∷ rest k)

pub or_moves : (a b c : Bool) → (b || (a || c)) ≡ ((a || b) || c)
or_moves true true c = refl
or_moves true false c = refl
or_moves false b c = refl

pub or_none : (a : Bool) → (a || false) ≡ a
or_none true = refl
or_none false = refl

-- the nodes of a list, beside what was known
nodes_are_known : (known : Option Text → Bool) (ns : List (Option Text)) (other : Option Text) → and_nodes ns known other ≡ (is_among ns other || known other)
nodes_are_known known [] other = refl
nodes_are_known known (n ∷ ns) other = nodes_are_known (and_node n known) ns other ∙ or_moves (same_node n other) (is_among ns other) (known other)

-- of a set that was empty
module _ (known : Option Text → Bool) (none : (other : Option Text) → known other ≡ false) where
  pub nodes_known : (ns : List (Option Text)) → and_nodes ns known ≡ is_among ns
  nodes_known ns = λ k other. (nodes_are_known known ns other ∙ ap (λ b. is_among ns other || b) (none other) ∙ or_none (is_among ns other)) k

  pub none_known : known ≡ is_among []
  none_known = λ k other. none other k

-- the nodes of the edges that are new, beside what was known
edges_are_known : (known : Option Text → Bool) (es : List Record) (other : Option Text) → and_edges es known other ≡ (is_among (nodes_of (unknown_edges known es)) other || known other)
edges_are_known known [] other = refl
edges_are_known known (e ∷ es) other = at (known (node_of e)) (edges_are_known known es other) (edges_are_known (and_node (node_of e) known) es other)
  where
    at : (b : Bool) → and_edges es known other ≡ (is_among (nodes_of (unknown_edges known es)) other || known other)
        → and_edges es (and_node (node_of e) known) other ≡ (is_among (nodes_of (unknown_edges (and_node (node_of e) known) es)) other || and_node (node_of e) known other)
        → and_edges es (cond b known (and_node (node_of e) known)) other
        ≡ (is_among (nodes_of (cond b (unknown_edges known es) (e ∷ unknown_edges (and_node (node_of e) known) es))) other || known other)
    at true left kept = left
    at false left kept = kept ∙ or_moves (same_node (node_of e) other) (is_among (nodes_of (unknown_edges (and_node (node_of e) known) es)) other) (known other)

pub edges_known : (known : Option Text → Bool) → ((other : Option Text) → known other ≡ false) → (es : List Record) → and_edges es known ≡ is_among (nodes_of (new_edges [] es))
edges_known known none es =
    (λ k other. (edges_are_known known es other ∙ ap (λ b. is_among (nodes_of (unknown_edges known es)) other || b) (none other) ∙ or_none (is_among (nodes_of (unknown_edges known es)) other)) k)
    ∙ ap (λ f. is_among (nodes_of (unknown_edges f es))) (none_known known none)
    ∙ ap (λ xs. is_among (nodes_of xs)) (unknown_are_new [] es)

-- ---- a set with one node more

put_known : (id q : Text) (old new : Bool) → new ≡ cond (is_eq (slice_cmp nat_cmp id q)) true old → new ≡ (bytes_eq id q || old)
put_known id q old new e = e ∙ ap (λ (b : Bool). cond b true old) (is_eq-slice_cmp id q) ∙ either (bytes_eq id q) old
  where
    either : (b x : Bool) → cond b true x ≡ (b || x)
    either true x = refl
    either false x = refl

pub node_put : (id : Text) (old new : BTreeSet (Bor (List ℕ))) → ((q : Text) → knows new (Some q) ≡ cond (is_eq (slice_cmp nat_cmp id q)) true (knows old (Some q)))
    → (other : Option Text) → knows new other ≡ and_node (Some id) (knows old) other
node_put id old new h None = refl
node_put id old new h (Some q) = put_known id q (knows old (Some q)) (knows new (Some q)) (h q)
