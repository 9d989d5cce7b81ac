-- What is looked at is within what is asked for, and how many rows are put.
use Rattle.std.proofs.Common.{◌≡◌, ℕ, suc, ◌+◌, ◌*◌, ◌≤◌, Bool, true, false, cond, List, [], ◌∷◌, ◌++◌, length, Option, Some, None, refl, ap, ◌∙◌, length-append, arith, unwrap_or, option_map}
use Rattle.store_model.specs.store_record.Keys.{Text}
use Rattle.store_model.specs.store_record.declared.record.Record.{Record}
use Rattle.store_model.specs.Entries.{Looks, asked_page, number_asked, some_ids}
use Rattle.store_model.specs.Merge.{Kept, edges_of, live_edges, new_edges, nodes_at, node_of, is_among, next_edge}
use Rattle.store_model.specs.Records.{Records, live}
use Rattle.store_conn.specs.Changes.{edge_changes}
use Rattle.store_conn.specs.Connections.{IsMade}
use Rattle.store_conn.specs.Lists.{edges_in, ids_in}
use Rattle.store_conn.specs.Pages.{whole_edges, later_edges}
use Rattle.store_conn.specs.declared.changes.Change.{Change}
use Rattle.store_conn.specs.declared.made.Made.{Made}

pub within_bound : (old new k : ℕ) (a : Looks) → k ≤ 8 → new ≤ old + (k + length a.edges) → new ≤ old + 8 * (1 + number_asked a)
within_bound old new k a few le = omega arith

-- a page asks for its own edges, and for the old ones where they stay
pub page_asks : (server : Record) → length (asked_page server []).edges ≡ edges_in server
page_asks server = omega (arith, length-append (some_ids (edges_of server)) (some_ids []))

pub page_asks_both : (server row : Record) → length (asked_page server (edges_of row)).edges ≡ edges_in server + edges_in row
page_asks_both server row = length-append (some_ids (edges_of server)) (some_ids (edges_of row))

-- ---- how many rows are put

news_few : (before : List (Option Text)) (es : List Record) → length (new_edges before es) ≤ length es
news_few before [] = omega arith
news_few before (e ∷ es) = at (is_among before (node_of e)) (news_few before es) (news_few (node_of e ∷ before) es)
  where
    at : (b : Bool) → length (new_edges before es) ≤ length es → length (new_edges (node_of e ∷ before) es) ≤ length es
        → length (cond b (new_edges before es) (e ∷ new_edges (node_of e ∷ before) es)) ≤ suc (length es)
    at true left kept = omega (arith, left)
    at false left kept = omega (arith, kept)

live_few : (m : Records) (es : List (Option Text)) → length (live_edges m es) ≤ ids_in es
live_few m [] = omega arith
live_few m (None ∷ es) = live_few m es
live_few m (Some id ∷ es) = at (live id m) (live_few m es)
  where
    at : (r : Option Record) → length (live_edges m es) ≤ ids_in es → length (unwrap_or (option_map (λ r. r ∷ live_edges m es) r) (live_edges m es)) ≤ suc (ids_in es)
    at None rest = omega (arith, rest)
    at (Some r) rest = omega (arith, rest)

made_many : (connection : Text) (k : ℕ) (es : List Record) → length (edge_changes connection k es) ≡ length es
made_many connection k [] = refl
made_many connection k (e ∷ es) = omega (arith, made_many connection (next_edge k) es)

module _ (server : Record) (c : Kept) (m : Records) (made : Made) where
  pub whole_few : IsMade c (whole_edges server m) made → length made.edges.items ≤ edges_in server
  whole_few is =
      omega (arith, ap length is.edges, made_many c.id c.next (whole_edges server m), news_few [] (live_edges m (edges_of server)), live_few m (edges_of server))

  pub later_few : IsMade c (later_edges server c m) made → length made.edges.items ≤ edges_in server
  later_few is =
      omega (arith, ap length is.edges, made_many c.id c.next (later_edges server c m), news_few (nodes_at m (edges_of c.row)) (live_edges m (edges_of server)), live_few m (edges_of server))

pub one_more : (before after : List Change) (change : Change) → after ≡ before ++ change ∷ [] → length after ≡ length before + 1
one_more before after change e = omega (arith, ap length e, length-append before (change ∷ []))

pub page_more : (before after edges : List Change) (change : Change) → after ≡ before ++ change ∷ edges → length after ≡ length before + (1 + length edges)
page_more before after edges change e = omega (arith, ap length e, length-append before (change ∷ edges))
