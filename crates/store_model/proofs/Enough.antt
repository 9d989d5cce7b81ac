-- What an entry asks for is all that it depends on.
use Rattle.std.proofs.Common.{◌≡◌, ℕ, Bool, true, false, ◌&&◌, cond, List, [], ◌∷◌, ◌++◌, Option, Some, None, codes, refl, sym, ap, ◌∙◌, subst, option_map, option_and_then, unwrap_or}
use Rattle.std.specs.Cmp.Lexicographic.{slice_cmp, nat_list_cmp_total}
use Rattle.std.specs.FinMap as finmap
use Rattle.std.specs.Ordering.{eq_by_cmp, nat_cmp}
use Rattle.store_record.specs.gql_plain.declared.plain.Plain.{Plain}
use Rattle.store_record.specs.Keys.{Text, client_id, field_key, handle_name}
use Rattle.store_record.specs.declared.field.Field.{Field}
use Rattle.store_record.specs.declared.field.Field.TheVariants.{Leaf, Link, Links}
use Rattle.store_record.specs.declared.record.Record.{Record}
use Rattle.store_record.specs.declared.record.Slot.{Slot}
use Rattle.store_record.specs.declared.record.Slot.TheVariants.{Deleted, Alive}
use Rattle.store_model.proofs.Least.{Each, each_append, each_left, each_right, each_so}
use Rattle.store_model.proofs.Looking.{live_same, below_same, live_edges_same, nodes_same, others_same, without_same, info_same}
use Rattle.store_model.specs.Enough.{SameAt, LooksAreEnough}
use Rattle.store_model.specs.Entries.{merge_all, apply, some_ids, some_id, Looks, no_looks, looks_and, asked_page, asked_by_cursor, asked_onto, asked_with_page, asked_of_parent, asked_by_page, asked_in_connection, connection_link, asked_by_edit, asked_by_command, asked_by_facts, asked_by_pages, asked_by_commands, asked_by_each, ids_of_all, looks, weights}
use Rattle.store_model.specs.Merge.{link_under, links_of, edges_of, below, nodes_at, live_edges, new_edges, is_among, counter_of, edge_id, next_edge, make_edges, info_id, whole_info, taken_both, Kept, with_edges, replace_edges, with_info, page_after, others_than, nodes_of, page_before, has_cursor, is_null, onto_client, kept_connection, onto, with_page, of_parent, merge}
use Rattle.store_model.specs.Records.{Records, slot_at, live, with_slot, with_record, field_at, with_field, with_fact, record_of, put_fact, put}
use Rattle.store_model.specs.Updates.{change_record, create_record, delete_record, connection_of, edge_of, edge_put, edge_inserted, field_without, edge_deleted, insert_edge, delete_edge, act, act_all, add_to_field, link_or_null}
use Rattle.store_model.specs.declared.command.Command.{Command}
use Rattle.store_model.specs.declared.command.Command.TheVariants as C
use Rattle.store_model.specs.declared.command.EdgeEdit.{EdgeEdit}
use Rattle.store_model.specs.declared.entry.Entry.{Entry}
use Rattle.store_model.specs.declared.facts.Fact.{Fact}
use Rattle.store_model.specs.declared.facts.HandleFact.{HandleFact}

-- ---- one write

slot_written : (id : Text) (s : Slot) (m : Records) (q : Text) → slot_at q (with_slot id s m) ≡ cond (eq_by_cmp (slice_cmp nat_cmp) q id) (Some s) (slot_at q m)
slot_written id s m q = finmap.get-insert nat_list_cmp_total m id s q

same_write : (id : Text) (s t : Slot) (m n : Records) (q : Text) → s ≡ t → SameAt m n q → SameAt (with_slot id s m) (with_slot id t n) q
same_write id s t m n q e h =
    slot_written id s m q ∙ (λ i. cond (eq_by_cmp (slice_cmp nat_cmp) q id) (Some (e i)) (h i)) ∙ sym (slot_written id t n q)

same_record : (id : Text) (r s : Record) (m n : Records) (q : Text) → r ≡ s → SameAt m n q → SameAt (with_record id r m) (with_record id s n) q
same_record id r s m n q e h = same_write id (Alive r) (Alive s) m n q (ap Alive e) h

module _ (m n : Records) where
  -- ---- the merge

  edges_made : (connection : Text) (k : ℕ) (es fs : List Record) (a b : Records) (q : Text) → es ≡ fs → SameAt a b q → SameAt (make_edges connection k es a) (make_edges connection k fs b) q
  edges_made connection k es fs a b q e h = subst (λ gs. SameAt (make_edges connection k es a) (make_edges connection k gs b) q) e (each_made k es a b h)
    where
      each_made : (k : ℕ) (es : List Record) (a b : Records) → SameAt a b q → SameAt (make_edges connection k es a) (make_edges connection k es b) q
      each_made k [] a b h = h
      each_made k (e ∷ es) a b h = each_made (next_edge k) es (with_record (edge_id connection k) e a) (with_record (edge_id connection k) e b) (same_record (edge_id connection k) e e a b q refl h)

  replaced_same : (h : HandleFact) (server : Record) (c : Kept) (a b : Records) (q : Text) → Each (SameAt m n) (some_id (link_under (codes "pageInfo") server)) → Each (SameAt m n) (some_ids (edges_of server))
      → SameAt a b q → SameAt (replace_edges h server c m a) (replace_edges h server c n b) q
  replaced_same h server c a b q info edges s =
      let live_ones = live_edges_same m n (edges_of server) edges in
      let new = ap (new_edges []) live_ones in
      same_record (info_id c.id) _ _ _ _ q (ap (whole_info h.info_type) (info_same m n server info))
      (edges_made c.id c.next _ _ _ _ q new
      (same_record c.id _ _ a b q (ap (λ es. with_field (codes "pageInfo") (Link (info_id c.id)) (with_edges server c [] es [])) new) s))

  with_info_same : (id key other : Text) (server server_n o p : Option Record) (a b : Records) (q : Text) → server ≡ server_n → o ≡ p → SameAt a b q
      → SameAt (with_info id key other server o a) (with_info id key other server_n p b) q
  with_info_same id key other server server_n o p a b q e f s =
      subst (λ x. SameAt (with_info id key other server o a) (with_info id key other server_n x b) q) f (at o)
    where
      at : (o : Option Record) → SameAt (with_info id key other server o a) (with_info id key other server_n o b) q
      at None = s
      at (Some r) = same_record id _ _ a b q (ap (λ x. taken_both key other x r) e) s

  after_same : (server : Record) (c : Kept) (q : Text) → Each (SameAt m n) (some_id (link_under (codes "pageInfo") server)) → Each (SameAt m n) (some_ids (edges_of server)) → Each (SameAt m n) (some_ids (edges_of c.row))
      → SameAt m n (info_id c.id) → SameAt m n q → SameAt (page_after server c m) (page_after server c n) q
  after_same server c q info edges old own s =
      let lives = live_edges_same m n (edges_of server) edges in
      let nodes = nodes_same m n (edges_of c.row) old in
      let new : new_edges (nodes_at m (edges_of c.row)) (live_edges m (edges_of server)) ≡ new_edges (nodes_at n (edges_of c.row)) (live_edges n (edges_of server)) = λ i. new_edges (nodes i) (lives i) in
      with_info_same (info_id c.id) (codes "endCursor") (codes "hasNextPage") _ _ _ _ _ _ q (info_same m n server info) (live_same m n (info_id c.id) own)
      (edges_made c.id c.next _ _ _ _ q new (same_record c.id _ _ m n q (ap (λ es. with_edges server c (edges_of c.row) es []) new) s))

  before_same : (server : Record) (c : Kept) (q : Text) → Each (SameAt m n) (some_id (link_under (codes "pageInfo") server)) → Each (SameAt m n) (some_ids (edges_of server)) → Each (SameAt m n) (some_ids (edges_of c.row))
      → SameAt m n (info_id c.id) → SameAt m n q → SameAt (page_before server c m) (page_before server c n) q
  before_same server c q info edges old own s =
      let lives = live_edges_same m n (edges_of server) edges in
      let new = ap (new_edges []) lives in
      let left : others_than m (nodes_of (new_edges [] (live_edges m (edges_of server)))) (edges_of c.row) ≡ others_than n (nodes_of (new_edges [] (live_edges n (edges_of server)))) (edges_of c.row)
      = others_same m n (nodes_of (new_edges [] (live_edges m (edges_of server)))) (edges_of c.row) old ∙ ap (λ es. others_than n (nodes_of es) (edges_of c.row)) new in
      let row : with_edges server c [] (new_edges [] (live_edges m (edges_of server))) (others_than m (nodes_of (new_edges [] (live_edges m (edges_of server)))) (edges_of c.row))
      ≡ with_edges server c [] (new_edges [] (live_edges n (edges_of server))) (others_than n (nodes_of (new_edges [] (live_edges n (edges_of server)))) (edges_of c.row))
      = λ i. with_edges server c [] (new i) (left i) in
      with_info_same (info_id c.id) (codes "startCursor") (codes "hasPreviousPage") _ _ _ _ _ _ q (info_same m n server info) (live_same m n (info_id c.id) own)
      (edges_made c.id c.next _ _ _ _ q new (same_record c.id _ _ m n q row s))

  -- all that is asked for has the same slot in both
  abbrev pub SameLooks : Looks → Type 0
  SameLooks a = Each (SameAt m n) a.ids × Each (SameAt m n) a.edges

  looks_left : (ids : List Text) (a : Looks) → SameLooks (looks_and ids a) → Each (SameAt m n) ids
  looks_left ids a h = each_left (SameAt m n) ids a.ids h.0

  looks_right : (ids : List Text) (a : Looks) → SameLooks (looks_and ids a) → SameLooks a
  looks_right ids a h = (each_right (SameAt m n) ids a.ids h.0, h.1)

  -- a page that is taken by a cursor or not
  abbrev ByCursor : (b : Bool) → HandleFact → Record → Kept → (Records → Records) → Type 0
  ByCursor b h server c page = (q : Text) → SameLooks (asked_by_cursor b (info_id c.id) server c.row) → SameAt m n q → SameAt (cond b (page m) m) (cond b (page n) n) q

  by_after : (b : Bool) (h : HandleFact) (server : Record) (c : Kept) → ByCursor b h server c (page_after server c)
  by_after false h server c q looked s = s
  by_after true h server c q looked s =
      let page = looks_right (info_id c.id ∷ []) (asked_page server (edges_of c.row)) looked in
      after_same server c q page.0 (each_left (SameAt m n) (some_ids (edges_of server)) (some_ids (edges_of c.row)) page.1) (each_right (SameAt m n) (some_ids (edges_of server)) (some_ids (edges_of c.row)) page.1) looked.0.0 s

  by_before : (b : Bool) (h : HandleFact) (server : Record) (c : Kept) → ByCursor b h server c (page_before server c)
  by_before false h server c q looked s = s
  by_before true h server c q looked s =
      let page = looks_right (info_id c.id ∷ []) (asked_page server (edges_of c.row)) looked in
      before_same server c q page.0 (each_left (SameAt m n) (some_ids (edges_of server)) (some_ids (edges_of c.row)) page.1) (each_right (SameAt m n) (some_ids (edges_of server)) (some_ids (edges_of c.row)) page.1) looked.0.0 s

  -- in either case the id of the page information is asked for
  own_info : (b : Bool) (info : Text) (server row : Record) → SameLooks (asked_by_cursor b info server row) → SameAt m n info
  own_info false info server row h = h.0.0
  own_info true info server row h = h.0.0

  has_same : (key : Text) (value : Plain) (info : Text) → SameAt m n info → has_cursor key value (live info m) ≡ has_cursor key value (live info n)
  has_same key value info h = ap (has_cursor key value) (live_same m n info h)

  -- a step that asks for the same and leaves the same slots
  abbrev pub Steps : Looks → Looks → Records → Records → Type 0
  Steps a b x y = (a ≡ b) × ((q : Text) → SameAt m n q → SameAt x y q)

  client_same : (h : HandleFact) (server : Record) (c : Text × Record) → SameLooks (asked_onto h server (Some c) m)
      → Steps (asked_onto h server (Some c) m) (asked_onto h server (Some c) n) (onto_client h server (kept_connection c) m) (onto_client h server (kept_connection c) n)
  client_same h server c looked = at (is_null h.before) (is_null h.after) looked
    where
      info : Text
      info = info_id c.0

      last : Records → Bool
      last x = has_cursor (codes "endCursor") h.after (live (info_id c.0) x)

      start : Records → Bool
      start x = has_cursor (codes "startCursor") h.before (live (info_id c.0) x)

      at : (bb ba : Bool)
          → SameLooks (cond bb (cond ba (asked_page server []) (asked_by_cursor (has_cursor (codes "endCursor") h.after (live (info_id c.0) m)) (info_id c.0) server c.1))
          (cond ba (asked_by_cursor (has_cursor (codes "startCursor") h.before (live (info_id c.0) m)) (info_id c.0) server c.1) no_looks))
          → Steps
          (cond bb (cond ba (asked_page server []) (asked_by_cursor (has_cursor (codes "endCursor") h.after (live (info_id c.0) m)) (info_id c.0) server c.1))
          (cond ba (asked_by_cursor (has_cursor (codes "startCursor") h.before (live (info_id c.0) m)) (info_id c.0) server c.1) no_looks))
          (cond bb (cond ba (asked_page server []) (asked_by_cursor (has_cursor (codes "endCursor") h.after (live (info_id c.0) n)) (info_id c.0) server c.1))
          (cond ba (asked_by_cursor (has_cursor (codes "startCursor") h.before (live (info_id c.0) n)) (info_id c.0) server c.1) no_looks))
          (cond bb (cond ba (replace_edges h server (kept_connection c) m m) (cond (has_cursor (codes "endCursor") h.after (live (info_id c.0) m)) (page_after server (kept_connection c) m) m))
          (cond (ba && has_cursor (codes "startCursor") h.before (live (info_id c.0) m)) (page_before server (kept_connection c) m) m))
          (cond bb (cond ba (replace_edges h server (kept_connection c) n n) (cond (has_cursor (codes "endCursor") h.after (live (info_id c.0) n)) (page_after server (kept_connection c) n) n))
          (cond (ba && has_cursor (codes "startCursor") h.before (live (info_id c.0) n)) (page_before server (kept_connection c) n) n))
      at true true looked = (refl, λ q s. replaced_same h server (kept_connection c) m n q looked.0 (each_left (SameAt m n) (some_ids (edges_of server)) [] looked.1) s)
      at true false looked =
          let e = has_same (codes "endCursor") h.after (info_id c.0) (own_info (has_cursor (codes "endCursor") h.after (live (info_id c.0) m)) (info_id c.0) server c.1 looked) in (
            ap (λ b. asked_by_cursor b (info_id c.0) server c.1) e,
            λ q s. subst (λ b. SameAt (cond (has_cursor (codes "endCursor") h.after (live (info_id c.0) m)) (page_after server (kept_connection c) m) m) (cond b (page_after server (kept_connection c) n) n) q) e
                (by_after (has_cursor (codes "endCursor") h.after (live (info_id c.0) m)) h server (kept_connection c) q looked s),
          )
      at false true looked =
          let e = has_same (codes "startCursor") h.before (info_id c.0) (own_info (has_cursor (codes "startCursor") h.before (live (info_id c.0) m)) (info_id c.0) server c.1 looked) in (
            ap (λ b. asked_by_cursor b (info_id c.0) server c.1) e,
            λ q s. subst (λ b. SameAt (cond (has_cursor (codes "startCursor") h.before (live (info_id c.0) m)) (page_before server (kept_connection c) m) m) (cond b (page_before server (kept_connection c) n) n) q) e
                (by_before (has_cursor (codes "startCursor") h.before (live (info_id c.0) m)) h server (kept_connection c) q looked s),
          )
      at false false looked = (refl, λ q s. s)

  onto_same : (h : HandleFact) (server parent : Record) (o : Option (Text × Record)) → SameLooks (asked_onto h server o m)
      → Steps (asked_onto h server o m) (asked_onto h server o n) (onto h server parent o m) (onto h server parent o n)
  onto_same h server parent None looked = (
    refl,
    λ q s. replaced_same h server (record { id = client_id h.parent h.handle_key None; row = record_of h.page_type; next = 0 }) _ _ q looked.0 (each_left (SameAt m n) (some_ids (edges_of server)) [] looked.1)
        (same_record h.parent (with_field h.handle_key (Link (client_id h.parent h.handle_key None)) parent) (with_field h.handle_key (Link (client_id h.parent h.handle_key None)) parent) m n q refl s),
  )
  onto_same h server parent (Some c) looked = client_same h server c looked

  page_same : (h : HandleFact) (parent : Record) (o : Option (Text × Record)) → SameLooks (asked_with_page h parent o m)
      → Steps (asked_with_page h parent o m) (asked_with_page h parent o n) (with_page h parent o m) (with_page h parent o n)
  page_same h parent None looked = (refl, λ q s. same_record h.parent _ _ m n q refl s)
  page_same h parent (Some server) looked =
      let link = some_id (link_under h.handle_key parent) in
      let e = below_same m n h.handle_key parent (looks_left link (asked_onto h server.1 (below h.handle_key parent m) m) looked) in
      let inner = onto_same h server.1 parent (below h.handle_key parent m) (looks_right link (asked_onto h server.1 (below h.handle_key parent m) m) looked) in (
        ap (looks_and link) (inner.0 ∙ ap (λ o. asked_onto h server.1 o n) e),
        λ q s. subst (λ o. SameAt (onto h server.1 parent (below h.handle_key parent m) m) (onto h server.1 parent o n) q) e (inner.1 q s),
      )

  parent_same : (h : HandleFact) (o : Option Record) → SameLooks (asked_of_parent h o m) → Steps (asked_of_parent h o m) (asked_of_parent h o n) (of_parent h o m) (of_parent h o n)
  parent_same h None looked = (refl, λ q s. s)
  parent_same h (Some parent) looked =
      let link = some_id (link_under h.field_key parent) in
      let e = below_same m n h.field_key parent (looks_left link (asked_with_page h parent (below h.field_key parent m) m) looked) in
      let inner = page_same h parent (below h.field_key parent m) (looks_right link (asked_with_page h parent (below h.field_key parent m) m) looked) in (
        ap (looks_and link) (inner.0 ∙ ap (λ o. asked_with_page h parent o n) e),
        λ q s. subst (λ o. SameAt (with_page h parent (below h.field_key parent m) m) (with_page h parent o n) q) e (inner.1 q s),
      )

  merge_same : (h : HandleFact) → SameLooks (asked_by_page h m) → Steps (asked_by_page h m) (asked_by_page h n) (merge h m) (merge h n)
  merge_same h looked =
      let e = live_same m n h.parent looked.0.0 in
      let inner = parent_same h (live h.parent m) (looks_right (h.parent ∷ []) (asked_of_parent h (live h.parent m) m) looked) in (
        ap (looks_and (h.parent ∷ [])) (inner.0 ∙ ap (λ o. asked_of_parent h o n) e),
        λ q s. subst (λ o. SameAt (of_parent h (live h.parent m) m) (of_parent h o n) q) e (inner.1 q s),
      )

  -- ---- commands

  changed_same : (id : Text) (change : Record → Record) → SameAt m n id → (q : Text) → SameAt m n q → SameAt (change_record id change m) (change_record id change n) q
  changed_same id change own q s = subst (λ o. SameAt (change_record id change m) (unwrap_or (option_map (λ r. with_record id (change r) n) o) n) q) (live_same m n id own) (at (live id m))
    where
      at : (o : Option Record) → SameAt (unwrap_or (option_map (λ r. with_record id (change r) m) o) m) (unwrap_or (option_map (λ r. with_record id (change r) n) o) n) q
      at None = s
      at (Some r) = same_record id (change r) (change r) m n q refl s

  created_same : (id of : Text) → SameAt m n id → (q : Text) → SameAt m n q → SameAt (create_record (live id m) id of m) (create_record (live id n) id of n) q
  created_same id of own q s = subst (λ o. SameAt (create_record (live id m) id of m) (create_record o id of n) q) (live_same m n id own) (at (live id m))
    where
      at : (o : Option Record) → SameAt (create_record o id of m) (create_record o id of n) q
      at None = same_record id (record_of of) (record_of of) m n q refl s
      at (Some r) = s

  deleted_same : (id : Text) → SameAt m n id → (q : Text) → SameAt m n q → SameAt (delete_record (live id m) id m) (delete_record (live id n) id n) q
  deleted_same id own q s = subst (λ o. SameAt (delete_record (live id m) id m) (delete_record o id n) q) (live_same m n id own) (at (live id m))
    where
      at : (o : Option Record) → SameAt (delete_record o id m) (delete_record o id n) q
      at None = s
      at (Some r) = same_write id Deleted Deleted m n q refl s

  connection_same : (e : EdgeEdit) → SameLooks (asked_by_edit e m) → connection_of e m ≡ connection_of e n
  connection_same e looked =
      at (live e.id m) looked.0.1 ∙ ap (option_and_then (λ parent. below (field_key (handle_name e.key) e.filters) parent n)) (live_same m n e.id looked.0.0)
    where
      at : (o : Option Record) → Each (SameAt m n) (connection_link e o)
          → option_and_then (λ parent. below (field_key (handle_name e.key) e.filters) parent m) o ≡ option_and_then (λ parent. below (field_key (handle_name e.key) e.filters) parent n) o
      at None h = refl
      at (Some parent) h = below_same m n (field_key (handle_name e.key) e.filters) parent h

  edit_same : (e : EdgeEdit) → SameLooks (asked_by_edit e m) → asked_by_edit e m ≡ asked_by_edit e n
  edit_same e looked =
      let own = live_same m n e.id looked.0.0 in
      let connection = connection_same e looked in
      λ i. record { ids = e.id ∷ connection_link e (own i); edges = asked_in_connection (connection i) }

  insert_same : (front : Bool) (e : EdgeEdit) → SameLooks (asked_by_edit e m) → (q : Text) → SameAt m n q → SameAt (insert_edge front e m) (insert_edge front e n) q
  insert_same front e looked q s =
      subst (λ o. SameAt (insert_edge front e m) (edge_inserted front e o n) q) (connection_same e looked) (at (connection_of e m) looked.1)
    where
      either : (c : Text × Record) (b : Bool) → SameAt (cond {A = Records} b m (edge_put front e c m)) (cond {A = Records} b n (edge_put front e c n)) q
      either c true = s
      either c false = same_record (edge_id c.0 (counter_of c.1)) (edge_of e) (edge_of e) _ _ q refl (same_record c.0 _ _ m n q refl s)

      at : (o : Option (Text × Record)) → Each (SameAt m n) (asked_in_connection o) → SameAt (edge_inserted front e o m) (edge_inserted front e o n) q
      at None h = s
      at (Some c) h =
          subst (λ nodes. SameAt (edge_inserted front e (Some c) m) (cond {A = Records} (is_among nodes (Some e.node)) n (edge_put front e c n)) q) (nodes_same m n (edges_of c.1) h)
          (either c (is_among (nodes_at m (edges_of c.1)) (Some e.node)))

  delete_same : (e : EdgeEdit) → SameLooks (asked_by_edit e m) → (q : Text) → SameAt m n q → SameAt (delete_edge e m) (delete_edge e n) q
  delete_same e looked q s =
      subst (λ o. SameAt (delete_edge e m) (edge_deleted e o n) q) (connection_same e looked) (at (connection_of e m) looked.1)
    where
      by_field : (c : Text × Record) (o : Option Field) → Each (SameAt m n) (some_ids (unwrap_or (option_map links_of o) []))
          → SameAt (unwrap_or (option_map (λ f. with_record c.0 (with_field (codes "edges") (field_without m e.node f) c.1) m) o) m)
          (unwrap_or (option_map (λ f. with_record c.0 (with_field (codes "edges") (field_without n e.node f) c.1) n) o) n) q
      by_field c None h = s
      by_field c (Some (Leaf value)) h = same_record c.0 _ _ m n q refl s
      by_field c (Some (Link id)) h = same_record c.0 _ _ m n q refl s
      by_field c (Some (Links ids)) h = same_record c.0 _ _ m n q (ap (λ es. with_field (codes "edges") (Links es) c.1) (without_same m n e.node ids h)) s

      at : (o : Option (Text × Record)) → Each (SameAt m n) (asked_in_connection o) → SameAt (edge_deleted e o m) (edge_deleted e o n) q
      at None h = s
      at (Some c) h = by_field c (field_at (codes "edges") c.1) h

  command_same : (c : Command) → SameLooks (asked_by_command c m) → Steps (asked_by_command c m) (asked_by_command c n) (act c m) (act c n)
  command_same (C.Set id field args value) h = (refl, changed_same id (with_field (field_key field args) (Leaf value)) h.0.0)
  command_same (C.Add id field args by) h = (refl, changed_same id (add_to_field (field_key field args) by) h.0.0)
  command_same (C.Link id field args to) h = (refl, changed_same id (with_field (field_key field args) (link_or_null to)) h.0.0)
  command_same (C.Links id field args to) h = (refl, changed_same id (with_field (field_key field args) (Links to)) h.0.0)
  command_same (C.Create id of) h = (refl, created_same id of h.0.0)
  command_same (C.Delete id) h = (refl, deleted_same id h.0.0)
  command_same (C.AppendNode e) h = (edit_same e h, insert_same false e h)
  command_same (C.PrependNode e) h = (edit_same e h, insert_same true e h)
  command_same (C.DeleteEdge e) h = (edit_same e h, delete_same e h)

-- ---- facts, pages and commands, one after another

facts_same : (fs : List Fact) (m n : Records) → Each (SameAt m n) (ids_of_all (asked_by_facts fs)) → (q : Text) → SameAt m n q → SameAt (put fs m) (put fs n) q
facts_same [] m n h q s = s
facts_same (f ∷ fs) m n h q s =
    let row : with_fact f (unwrap_or (live f.id m) (record_of [])) ≡ with_fact f (unwrap_or (live f.id n) (record_of [])) = ap (λ o. with_fact f (unwrap_or o (record_of []))) (live_same m n f.id h.0) in
    let one = λ (q : Text) (s : SameAt m n q). same_record f.id _ _ m n q row s in
    facts_same fs (put_fact f m) (put_fact f n) (each_so (SameAt m n) (SameAt (put_fact f m) (put_fact f n)) (ids_of_all (asked_by_facts fs)) one h.1) q (one q s)

looks_of_first : (m n : Records) (a : Looks) (rest : List Looks) → Each (SameAt m n) (ids_of_all (a ∷ rest)) → SameLooks m n a × Each (SameAt m n) (ids_of_all rest)
looks_of_first m n a rest h =
    let both = each_left (SameAt m n) (a.ids ++ a.edges) (ids_of_all rest) h in
    ((each_left (SameAt m n) a.ids a.edges both, each_right (SameAt m n) a.ids a.edges both), each_right (SameAt m n) (a.ids ++ a.edges) (ids_of_all rest) h)

pages_same : (hs : List HandleFact) (m n : Records) → Each (SameAt m n) (ids_of_all (asked_by_pages hs m))
    → (asked_by_pages hs m ≡ asked_by_pages hs n) × ((q : Text) → SameAt m n q → SameAt (merge_all hs m) (merge_all hs n) q)
pages_same [] m n h = (refl, λ q s. s)
pages_same (x ∷ hs) m n h =
    let split = looks_of_first m n (asked_by_page x m) (asked_by_pages hs (merge x m)) h in
    let one = merge_same m n x split.0 in
    let rest = pages_same hs (merge x m) (merge x n) (each_so (SameAt m n) (SameAt (merge x m) (merge x n)) (ids_of_all (asked_by_pages hs (merge x m))) one.1 split.1) in
    ((λ i. one.0 i ∷ rest.0 i), λ q s. rest.1 q (one.1 q s))

commands_same : (cs : List Command) (m n : Records) → Each (SameAt m n) (ids_of_all (asked_by_commands cs m))
    → (asked_by_commands cs m ≡ asked_by_commands cs n) × ((q : Text) → SameAt m n q → SameAt (act_all cs m) (act_all cs n) q)
commands_same [] m n h = (refl, λ q s. s)
commands_same (c ∷ cs) m n h =
    let split = looks_of_first m n (asked_by_command c m) (asked_by_commands cs (act c m)) h in
    let one = command_same m n c split.0 in
    let rest = commands_same cs (act c m) (act c n) (each_so (SameAt m n) (SameAt (act c m) (act c n)) (ids_of_all (asked_by_commands cs (act c m))) one.1 split.1) in
    ((λ i. one.0 i ∷ rest.0 i), λ q s. rest.1 q (one.1 q s))

split_all : (P : Text → Type 0) (xs ys : List Looks) → Each P (ids_of_all (xs ++ ys)) → Each P (ids_of_all xs) × Each P (ids_of_all ys)
split_all P [] ys h = (tt, h)
split_all P (x ∷ xs) ys h =
    let rest = split_all P xs ys (each_right P (x.ids ++ x.edges) (ids_of_all (xs ++ ys)) h) in
    (each_append P (x.ids ++ x.edges) (ids_of_all xs) (each_left P (x.ids ++ x.edges) (ids_of_all (xs ++ ys)) h) rest.0, rest.1)

each_step_same : (e : Entry) (m n : Records) → Each (SameAt m n) (looks e m)
    → (asked_by_each e m ≡ asked_by_each e n) × ((q : Text) → SameAt m n q → SameAt (apply e m) (apply e n) q)
each_step_same e m n h =
    let fs = e.facts.facts in
    let hs = e.facts.handles in
    let three = split_all (SameAt m n) (asked_by_facts fs ++ asked_by_pages hs (put fs m)) (asked_by_commands e.commands (merge_all hs (put fs m))) h in
    let two = split_all (SameAt m n) (asked_by_facts fs) (asked_by_pages hs (put fs m)) three.0 in
    let facts = facts_same fs m n two.0 in
    let pages = pages_same hs (put fs m) (put fs n) (each_so (SameAt m n) (SameAt (put fs m) (put fs n)) (ids_of_all (asked_by_pages hs (put fs m))) facts two.1) in
    let merged = λ (q : Text) (s : SameAt m n q). pages.1 q (facts q s) in
    let commands = commands_same e.commands (merge_all hs (put fs m)) (merge_all hs (put fs n))
    (each_so (SameAt m n) (SameAt (merge_all hs (put fs m)) (merge_all hs (put fs n))) (ids_of_all (asked_by_commands e.commands (merge_all hs (put fs m)))) merged three.1) in
    ((λ i. asked_by_facts fs ++ pages.0 i ++ commands.0 i), λ q s. commands.1 q (merged q s))

pub looks_enough : LooksAreEnough
looks_enough e m n h =
    let same = each_step_same e m n h in
    (ap ids_of_all same.0, ap weights same.0, same.1)
