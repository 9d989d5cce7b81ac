-- Merging a page stays within the set that holds its parent.
use Rattle.std.proofs.Common.{◌≡◌, ℕ, Bool, true, false, true≢false, cond, ◌&&◌, List, [], ◌∷◌, ◌++◌, Option, Some, None, codes, refl, sym, ap, subst, ◌∙◌, option_map, unwrap_or, pos}
use Rattle.store_model.specs.gql_plain.declared.plain.Plain.TheVariants.{Null, Int}
use Rattle.store_model.specs.store_record.Keys.{Text, client_id}
use Rattle.store_model.specs.store_record.declared.field.Field.{Field}
use Rattle.store_model.specs.store_record.declared.field.Field.TheVariants.{Leaf, Link, Links}
use Rattle.store_model.specs.store_record.declared.record.Record.{Record}
use Rattle.store_model.specs.store_record.declared.record.Slot.{Slot}
use Rattle.store_model.specs.store_record.declared.record.Slot.TheVariants.{Alive}
use Rattle.store_model.proofs.Least.{Each, each_append, each_so, each_from}
use Rattle.store_model.specs.Entries.{some_ids, merge_all}
use Rattle.store_model.specs.Merge.{below, edges_of, node_of, node_at, nodes_at, live_edges, new_edges, is_among, edge_id, edge_ids, next_edge, make_edges, counter_after, with_counter, is_own_key, copied_over, info_id, info_below, whole_info, take_field, taken_both, Kept, with_edges, replace_edges, with_info, page_after, others_than, nodes_of, page_before, has_cursor, is_null, onto_client, onto_none, kept_connection, onto, with_page, of_parent, merge}
use Rattle.store_model.specs.Records.{Records, live, with_slot, with_record, field_at, with_field, record_of}
use Rattle.store_model.specs.declared.facts.HandleFact.{HandleFact}
use Rattle.store_sweeps.specs.Swept.{is_handle, Held, FieldStays, FieldsStay, SlotStays, AreWithin, write_all, ids_written, grown, Goes}
use Rattle.store_sweeps.proofs.Writes.{grown_wide, grown_new, fields_wider, goes_written, goes_nowhere, goes_on}
use Rattle.store_model.proofs.Looking.{live_same, live_edges_same, nodes_same, others_same}
use Rattle.store_sweeps.proofs.Fields.{Of, with_field_stays, field_at_stays, edges_held, Lives, live_stays, below_stays, below_info}
use Rattle.store_sweeps.proofs.Commands.{leaf_stays, links_stay, left_held, goes_record, same_below, same_ids}

-- ---- a page as writes

abbrev edge_writes : Text → ℕ → List Record → List (Text × Slot)
edge_writes id k [] = []
edge_writes id k (e ∷ es) = (edge_id id k, Alive e) ∷ edge_writes id (next_edge k) es

abbrev page_writes : List (Text × Slot) → Text → ℕ → Record → List Record → List (Text × Slot) → List (Text × Slot)
page_writes front id k row new info = front ++ (id, Alive row) ∷ (edge_writes id k new ++ info)

made_written : (id : Text) (k : ℕ) (new : List Record) (m : Records) → make_edges id k new m ≡ write_all (edge_writes id k new) m
made_written id k [] m = refl
made_written id k (e ∷ es) m = made_written id (next_edge k) es (with_record (edge_id id k) e m)

write_append : (xs ys : List (Text × Slot)) (m : Records) → write_all (xs ++ ys) m ≡ write_all ys (write_all xs m)
write_append [] ys m = refl
write_append (x ∷ xs) ys m = write_append xs ys (with_slot x.0 x.1 m)

page_written : (front : List (Text × Slot)) (id : Text) (k : ℕ) (row : Record) (new : List Record) (info : List (Text × Slot)) (m : Records)
    → write_all (page_writes front id k row new info) m ≡ write_all info (make_edges id k new (with_record id row (write_all front m)))
page_written front id k row new info m =
    write_append front ((id, Alive row) ∷ (edge_writes id k new ++ info)) m
    ∙ write_append (edge_writes id k new) info (with_record id row (write_all front m))
    ∙ ap (write_all info) (sym (made_written id k new (with_record id row (write_all front m))))

edges_written : (P : Text → Type 0) (id : Text) (k : ℕ) (new : List Record) → Each P (ids_written (edge_writes id k new)) → Each P (some_ids (edge_ids id k new))
edges_written P id k [] h = tt
edges_written P id k (e ∷ es) h = (h.0, edges_written P id (next_edge k) es h.1)

written_left : (P : Text → Type 0) (xs ys : List (Text × Slot)) → Each P (ids_written (xs ++ ys)) → Each P (ids_written xs)
written_left P [] ys h = tt
written_left P (x ∷ xs) ys h = (h.0, written_left P xs ys h.1)

written_right : (P : Text → Type 0) (xs ys : List (Text × Slot)) → Each P (ids_written (xs ++ ys)) → Each P (ids_written ys)
written_right P [] ys h = h
written_right P (x ∷ xs) ys h = written_right P xs ys h.1

-- ---- what is written stays

abbrev RowStays : (Text → Bool) → Record → Type 0
RowStays Q r = FieldsStay Q r.fields

module _ (Q : Text → Bool) where
  edge_slots : (id : Text) (k : ℕ) (new : List Record) → Each (RowStays Q) new → Each (λ w. SlotStays Q w.1) (edge_writes id k new)
  edge_slots id k [] h = tt
  edge_slots id k (e ∷ es) h = (h.0, edge_slots id (next_edge k) es h.1)

  copied_stays : (fs : List (Text × Field)) (r : Record) → FieldsStay Q fs → RowStays Q r → RowStays Q (copied_over fs r)
  copied_stays [] r h all = all
  copied_stays (f ∷ fs) r h all = copied_stays fs (cond {A = Record} (is_own_key f.0) r (with_field f.0 f.1 r)) h.1 (at (is_own_key f.0))
    where
      at : (b : Bool) → RowStays Q (cond {A = Record} b r (with_field f.0 f.1 r))
      at true = all
      at false = with_field_stays Q f.0 f.1 r h.0 all

  counter_stays : (k : ℕ) (new : List Record) (r : Record) → RowStays Q r → RowStays Q (with_counter k new r)
  counter_stays k [] r all = all
  counter_stays k (e ∷ es) r all =
      with_field_stays Q (codes "__next") (Leaf (Int (pos (counter_after k (e ∷ es))))) r (leaf_stays Q (codes "__next") (Int (pos (counter_after k (e ∷ es))))) all

  some_append : (xs ys : List (Option Text)) → Each (Held Q) (some_ids xs) → Each (Held Q) (some_ids ys) → Each (Held Q) (some_ids (xs ++ ys))
  some_append [] ys h k = k
  some_append (None ∷ xs) ys h k = some_append xs ys h k
  some_append (Some x ∷ xs) ys h k = (h.0, some_append xs ys h.1 k)

  with_edges_stays : (server : Record) (c : Kept) (first : List (Option Text)) (new : List Record) (last : List (Option Text)) → RowStays Q server → RowStays Q c.row
      → Each (Held Q) (some_ids first) → Each (Held Q) (some_ids (edge_ids c.id c.next new)) → Each (Held Q) (some_ids last) → RowStays Q (with_edges server c first new last)
  with_edges_stays server c first new last s r f e l =
      let edges : List (Option Text) = first ++ edge_ids c.id c.next new ++ last in
      counter_stays c.next new (with_field (codes "edges") (Links (first ++ edge_ids c.id c.next new ++ last)) (copied_over server.fields c.row))
      (with_field_stays Q (codes "edges") (Links (first ++ edge_ids c.id c.next new ++ last)) (copied_over server.fields c.row)
      (links_stay Q (codes "edges") (first ++ edge_ids c.id c.next new ++ last) (some_append (first ++ edge_ids c.id c.next new) last (some_append first (edge_ids c.id c.next new) f e) l))
      (copied_stays server.fields c.row s r))

  whole_stays : (info_type : Text) (o : Option Record) → Of (RowStays Q) o → RowStays Q (whole_info info_type o)
  whole_stays info_type None h = tt
  whole_stays info_type (Some r) h = h

  take_stays : (key : Text) (server r : Record) → RowStays Q server → RowStays Q r → RowStays Q (take_field key server r)
  take_stays key server r s all = at (field_at key server) (field_at_stays Q key server s)
    where
      at : (o : Option Field) → Of (λ f. FieldStays Q (key, f)) o → RowStays Q (unwrap_or (option_map (λ f. with_field key f r) o) r)
      at None h = all
      at (Some f) h = with_field_stays Q key f r h all

  taken_stays : (key other : Text) (o : Option Record) (r : Record) → Of (RowStays Q) o → RowStays Q r → RowStays Q (taken_both key other o r)
  taken_stays key other None r h all = all
  taken_stays key other (Some server) r h all = take_stays other server (take_field key server r) h (take_stays key server r h all)

of_wider : (P Q : Text → Bool) → ((id : Text) → P id ≡ true → Q id ≡ true) → (o : Option Record) → Of (RowStays P) o → Of (RowStays Q) o
of_wider P Q wide None h = tt
of_wider P Q wide (Some r) h = fields_wider P Q wide r.fields h

module _ (holds : Text → Bool) (m n : Records) (within : AreWithin holds m n) where
  -- ---- what is looked at

  edges_stay : (es : List (Option Text)) → Each (Held holds) (some_ids es) → Each (RowStays holds) (live_edges m es)
  edges_stay [] h = tt
  edges_stay (None ∷ es) h = edges_stay es h
  edges_stay (Some id ∷ es) h = at (live id m) (live_stays holds m n within id h.0) (edges_stay es h.1)
    where
      at : (o : Option Record) → Of (RowStays holds) o → Each (RowStays holds) (live_edges m es) → Each (RowStays holds) (unwrap_or (option_map (λ r. r ∷ live_edges m es) o) (live_edges m es))
      at None k rest = rest
      at (Some r) k rest = (k, rest)

  new_stay : (before : List (Option Text)) (es : List Record) → Each (RowStays holds) es → Each (RowStays holds) (new_edges before es)
  new_stay before [] h = tt
  new_stay before (e ∷ es) h = at (is_among before (node_of e)) (new_stay before es h.1) (new_stay (node_of e ∷ before) es h.1)
    where
      at : (b : Bool) → Each (RowStays holds) (new_edges before es) → Each (RowStays holds) (new_edges (node_of e ∷ before) es)
          → Each (RowStays holds) (cond b (new_edges before es) (e ∷ new_edges (node_of e ∷ before) es))
      at true x y = x
      at false x y = (h.0, y)

  info_stays : (server : Record) → RowStays holds server → Of (RowStays holds) (info_below server m)
  info_stays server s = at (below (codes "pageInfo") server m) (below_stays holds m n within (codes "pageInfo") server s)
    where
      at : (o : Option (Text × Record)) → Of (Lives holds) o → Of (RowStays holds) (option_map (λ p. p.1) o)
      at None h = tt
      at (Some p) h = h.1

  same_info : (server : Record) → RowStays holds server → info_below server m ≡ info_below server n
  same_info server s = ap (option_map (λ p. p.1)) (same_below holds m n within (codes "pageInfo") server s)

  same_new : (before : List (Option Text)) (server : Record) → RowStays holds server → new_edges before (live_edges m (edges_of server)) ≡ new_edges before (live_edges n (edges_of server))
  same_new before server s = ap (new_edges before) (live_edges_same m n (edges_of server) (same_ids holds m n within (edges_of server) (edges_held holds server s)))

  -- ---- one page

  page_goes : (front : List (Text × Slot)) (id : Text) (k : ℕ) (row : Record) (new : List Record) (info : List (Text × Slot))
      → ((Q : Text → Bool) → ((j : Text) → holds j ≡ true → Q j ≡ true) → Each (Held Q) (ids_written front) → Q id ≡ true → Each (Held Q) (some_ids (edge_ids id k new)) → Each (Held Q) (ids_written info)
      → Each (λ w. SlotStays Q w.1) front × RowStays Q row × Each (λ w. SlotStays Q w.1) info)
      → Each (RowStays holds) new
      → Goes holds m n (write_all info (make_edges id k new (with_record id row (write_all front m)))) (write_all info (make_edges id k new (with_record id row (write_all front n))))
  page_goes front id k row new info good edges =
      subst (λ a. Goes holds m n a (write_all info (make_edges id k new (with_record id row (write_all front n))))) (page_written front id k row new info m)
      (subst (Goes holds m n (write_all ws m)) (page_written front id k row new info n) (goes_written holds ws m n within slots))
    where
      ws : List (Text × Slot)
      ws = page_writes front id k row new info

      Q : Text → Bool
      Q = grown holds ws

      wide : (j : Text) → holds j ≡ true → Q j ≡ true
      wide = grown_wide holds ws

      each : Each (Held Q) (ids_written ws)
      each = each_from (Held Q) (ids_written ws) (grown_new holds ws)

      behind : Each (Held Q) (ids_written ((id, Alive row) ∷ (edge_writes id k new ++ info)))
      behind = written_right (Held Q) front ((id, Alive row) ∷ (edge_writes id k new ++ info)) each

      parts : Each (λ w. SlotStays Q w.1) front × RowStays Q row × Each (λ w. SlotStays Q w.1) info
      parts =
          good Q wide (written_left (Held Q) front ((id, Alive row) ∷ (edge_writes id k new ++ info)) each) behind.0
          (edges_written (Held Q) id k new (written_left (Held Q) (edge_writes id k new) info behind.1)) (written_right (Held Q) (edge_writes id k new) info behind.1)

      slots : Each (λ w. SlotStays Q w.1) ws
      slots =
          each_append (λ w. SlotStays Q w.1) front ((id, Alive row) ∷ (edge_writes id k new ++ info)) parts.0 (
            parts.1,
            each_append (λ w. SlotStays Q w.1) (edge_writes id k new) info
                (edge_slots Q id k new (each_so (RowStays holds) (RowStays Q) new (λ r. fields_wider holds Q wide r.fields) edges)) parts.2,
          )

  -- ---- the page replaces the edges

  -- with the edges and the page information that were found
  abbrev Replaced : HandleFact → Record → Kept → List Record → Option Record → Records → Records
  Replaced h server c new info onto =
      with_record (info_id c.id) (whole_info h.info_type info)
      (make_edges c.id c.next new
      (with_record c.id (with_field (codes "pageInfo") (Link (info_id c.id)) (with_edges server c [] new [])) onto))

  replaced : (h : HandleFact) (server : Record) (c : Kept) (front : List (Text × Slot)) → RowStays holds server → RowStays holds c.row
      → ((Q : Text → Bool) → ((j : Text) → holds j ≡ true → Q j ≡ true) → Q c.id ≡ true → Q (info_id c.id) ≡ true → Each (λ w. SlotStays Q w.1) front)
      → Goes holds m n (replace_edges h server c m (write_all front m)) (replace_edges h server c n (write_all front n))
  replaced h server c front s r good =
      subst (λ new. Goes holds m n (replace_edges h server c m (write_all front m)) (Replaced h server c new (info_below server n) (write_all front n))) (same_new [] server s)
      (subst (λ info. Goes holds m n (replace_edges h server c m (write_all front m)) (Replaced h server c (new_edges [] (live_edges m (edges_of server))) info (write_all front n))) (same_info server s)
      (page_goes front c.id c.next row new ((info_id c.id, Alive whole) ∷ [])
      (λ Q wide own id edges info. (
        good Q wide id info.0,
        with_field_stays Q (codes "pageInfo") (Link (info_id c.id)) (with_edges server c [] new []) ((info.0, tt), λ no. absurd (true≢false (sym no)))
            (with_edges_stays Q server c [] new [] (fields_wider holds Q wide server.fields s) (fields_wider holds Q wide c.row.fields r) tt edges tt),
        (whole_stays Q h.info_type (info_below server m) (of_wider holds Q wide (info_below server m) (info_stays server s)), tt),
      ))
      (new_stay [] (live_edges m (edges_of server)) (edges_stay (edges_of server) (edges_held holds server s)))))
    where
      new : List Record
      new = new_edges [] (live_edges m (edges_of server))

      row : Record
      row = with_field (codes "pageInfo") (Link (info_id c.id)) (with_edges server c [] (new_edges [] (live_edges m (edges_of server))) [])

      whole : Record
      whole = whole_info h.info_type (info_below server m)

  -- ---- the page goes after the edges, or before them

  -- edges on either side of the new ones; the page information takes two fields where it is live
  abbrev Joined : Text → Text → Record → Kept → List (Option Text) → List (Option Text) → List Record → Option Record → Option Record → Records → Records
  Joined key other server c first last new info own onto =
      with_info (info_id c.id) key other info own (make_edges c.id c.next new (with_record c.id (with_edges server c first new last) onto))

  joined : (key other : Text) (server : Record) (c : Kept) (first last : List (Option Text)) (new : List Record) (info own : Option Record) → RowStays holds server → RowStays holds c.row
      → Each (Held holds) (some_ids first) → Each (Held holds) (some_ids last) → Each (RowStays holds) new → Of (RowStays holds) info → Of (RowStays holds) own
      → Goes holds m n (Joined key other server c first last new info own m) (Joined key other server c first last new info own n)
  joined key other server c first last new info None s r f l edges i o =
      page_goes [] c.id c.next (with_edges server c first new last) new []
      (λ Q wide before id made after. (
        tt,
        with_edges_stays Q server c first new last (fields_wider holds Q wide server.fields s) (fields_wider holds Q wide c.row.fields r)
            (each_so (Held holds) (Held Q) (some_ids first) wide f) made (each_so (Held holds) (Held Q) (some_ids last) wide l),
        tt,
      ))
      edges
  joined key other server c first last new info (Some own) s r f l edges i o =
      page_goes [] c.id c.next (with_edges server c first new last) new ((info_id c.id, Alive (taken_both key other info own)) ∷ [])
      (λ Q wide before id made after. (
        tt,
        with_edges_stays Q server c first new last (fields_wider holds Q wide server.fields s) (fields_wider holds Q wide c.row.fields r)
            (each_so (Held holds) (Held Q) (some_ids first) wide f) made (each_so (Held holds) (Held Q) (some_ids last) wide l),
        (taken_stays Q key other info own (of_wider holds Q wide info i) (fields_wider holds Q wide own.fields o), tt),
      ))
      edges

  after_goes : (server : Record) (c : Kept) → RowStays holds server → RowStays holds c.row → holds (info_id c.id) ≡ true → Goes holds m n (page_after server c m) (page_after server c n)
  after_goes server c s r own =
      subst (λ live_info. Goes holds m n (page_after server c m) (Joined (codes "endCursor") (codes "hasNextPage") server c old [] new_n (info_below server n) live_info n)) (live_same m n (info_id c.id) (within.same (info_id c.id) own))
      (subst (λ info. Goes holds m n (page_after server c m) (Joined (codes "endCursor") (codes "hasNextPage") server c old [] new_n info (live (info_id c.id) m) n)) (same_info server s)
      (subst (λ new. Goes holds m n (page_after server c m) (Joined (codes "endCursor") (codes "hasNextPage") server c old [] new (info_below server m) (live (info_id c.id) m) n)) same
      (joined (codes "endCursor") (codes "hasNextPage") server c old [] new_m (info_below server m) (live (info_id c.id) m) s r held tt
      (new_stay (nodes_at m old) (live_edges m (edges_of server)) (edges_stay (edges_of server) (edges_held holds server s))) (info_stays server s) (live_stays holds m n within (info_id c.id) own))))
    where
      old : List (Option Text)
      old = edges_of c.row

      new_m : List Record
      new_m = new_edges (nodes_at m (edges_of c.row)) (live_edges m (edges_of server))

      new_n : List Record
      new_n = new_edges (nodes_at n (edges_of c.row)) (live_edges n (edges_of server))

      held : Each (Held holds) (some_ids (edges_of c.row))
      held = edges_held holds c.row r

      same : new_edges (nodes_at m (edges_of c.row)) (live_edges m (edges_of server)) ≡ new_edges (nodes_at n (edges_of c.row)) (live_edges n (edges_of server))
      same = same_new (nodes_at m (edges_of c.row)) server s ∙ ap (λ nodes. new_edges nodes (live_edges n (edges_of server))) (nodes_same m n (edges_of c.row) (same_ids holds m n within (edges_of c.row) held))

  before_goes : (server : Record) (c : Kept) → RowStays holds server → RowStays holds c.row → holds (info_id c.id) ≡ true → Goes holds m n (page_before server c m) (page_before server c n)
  before_goes server c s r own =
      subst (λ live_info. Goes holds m n (page_before server c m) (Joined (codes "startCursor") (codes "hasPreviousPage") server c [] old_n new_n (info_below server n) live_info n)) (live_same m n (info_id c.id) (within.same (info_id c.id) own))
      (subst (λ info. Goes holds m n (page_before server c m) (Joined (codes "startCursor") (codes "hasPreviousPage") server c [] old_n new_n info (live (info_id c.id) m) n)) (same_info server s)
      (subst (λ new. Goes holds m n (page_before server c m) (Joined (codes "startCursor") (codes "hasPreviousPage") server c [] old_n new (info_below server m) (live (info_id c.id) m) n)) (same_new [] server s)
      (subst (λ old. Goes holds m n (page_before server c m) (Joined (codes "startCursor") (codes "hasPreviousPage") server c [] old new_m (info_below server m) (live (info_id c.id) m) n)) same
      (joined (codes "startCursor") (codes "hasPreviousPage") server c [] old_m new_m (info_below server m) (live (info_id c.id) m) s r tt left
      (new_stay [] (live_edges m (edges_of server)) (edges_stay (edges_of server) (edges_held holds server s))) (info_stays server s) (live_stays holds m n within (info_id c.id) own)))))
    where
      new_m : List Record
      new_m = new_edges [] (live_edges m (edges_of server))

      new_n : List Record
      new_n = new_edges [] (live_edges n (edges_of server))

      old_m : List (Option Text)
      old_m = others_than m (nodes_of (new_edges [] (live_edges m (edges_of server)))) (edges_of c.row)

      old_n : List (Option Text)
      old_n = others_than n (nodes_of (new_edges [] (live_edges n (edges_of server)))) (edges_of c.row)

      held : Each (Held holds) (some_ids (edges_of c.row))
      held = edges_held holds c.row r

      left : Each (Held holds) (some_ids (others_than m (nodes_of (new_edges [] (live_edges m (edges_of server)))) (edges_of c.row)))
      left = left_held holds (λ e. is_among (nodes_of (new_edges [] (live_edges m (edges_of server)))) (node_at m e)) (others_than m (nodes_of (new_edges [] (live_edges m (edges_of server))))) refl (λ e es. refl) (edges_of c.row) held

      same : others_than m (nodes_of (new_edges [] (live_edges m (edges_of server)))) (edges_of c.row) ≡ others_than n (nodes_of (new_edges [] (live_edges n (edges_of server)))) (edges_of c.row)
      same =
          others_same m n (nodes_of (new_edges [] (live_edges m (edges_of server)))) (edges_of c.row) (same_ids holds m n within (edges_of c.row) held)
          ∙ ap (λ es. others_than n (nodes_of es) (edges_of c.row)) (same_new [] server s)

  -- ---- all cases

  onto_client_goes : (h : HandleFact) (server : Record) (c : Kept) → RowStays holds server → RowStays holds c.row → holds (info_id c.id) ≡ true → Goes holds m n (onto_client h server c m) (onto_client h server c n)
  onto_client_goes h server c s r own = at (is_null h.before) (is_null h.after)
    where
      same_live_info : live (info_id c.id) m ≡ live (info_id c.id) n
      same_live_info = live_same m n (info_id c.id) (within.same (info_id c.id) own)

      either : (step : Records → Records) → Goes holds m n (step m) (step n) → (b : Bool) → Goes holds m n (cond b (step m) m) (cond b (step n) n)
      either step goes true = goes
      either step goes false = goes_nowhere holds m n within

      at : (bb ba : Bool)
          → Goes holds m n
          (cond bb (cond ba (replace_edges h server c m m) (cond (has_cursor (codes "endCursor") h.after (live (info_id c.id) m)) (page_after server c m) m)) (cond (ba && has_cursor (codes "startCursor") h.before (live (info_id c.id) m)) (page_before server c m) m))
          (cond bb (cond ba (replace_edges h server c n n) (cond (has_cursor (codes "endCursor") h.after (live (info_id c.id) n)) (page_after server c n) n)) (cond (ba && has_cursor (codes "startCursor") h.before (live (info_id c.id) n)) (page_before server c n) n))
      at true true = replaced h server c [] s r (λ Q wide id info. tt)
      at true false =
          subst (λ o. Goes holds m n (cond (has_cursor (codes "endCursor") h.after (live (info_id c.id) m)) (page_after server c m) m) (cond (has_cursor (codes "endCursor") h.after o) (page_after server c n) n)) same_live_info
          (either (page_after server c) (after_goes server c s r own) (has_cursor (codes "endCursor") h.after (live (info_id c.id) m)))
      at false true =
          subst (λ o. Goes holds m n (cond (has_cursor (codes "startCursor") h.before (live (info_id c.id) m)) (page_before server c m) m) (cond (has_cursor (codes "startCursor") h.before o) (page_before server c n) n)) same_live_info
          (either (page_before server c) (before_goes server c s r own) (has_cursor (codes "startCursor") h.before (live (info_id c.id) m)))
      at false false = goes_nowhere holds m n within

  onto_none_goes : (h : HandleFact) (server parent : Record) → RowStays holds server → RowStays holds parent → Goes holds m n (onto_none h server parent m) (onto_none h server parent n)
  onto_none_goes h server parent s p =
      replaced h server (record { id = id; row = record_of h.page_type; next = 0 }) ((h.parent, Alive (with_field h.handle_key (Link id) parent)) ∷ []) s tt
      (λ Q wide own info. (with_field_stays Q h.handle_key (Link id) parent ((own, tt), λ _. (info, tt)) (fields_wider holds Q wide parent.fields p), tt))
    where
      id : Text
      id = client_id h.parent h.handle_key None

  onto_goes : (h : HandleFact) (server parent : Record) (o : Option (Text × Record)) → RowStays holds server → RowStays holds parent → Of (Lives holds) o → Of (λ (p : Text × Record). holds (info_id p.0) ≡ true) o
      → Goes holds m n (onto h server parent o m) (onto h server parent o n)
  onto_goes h server parent None s p lives info = onto_none_goes h server parent s p
  onto_goes h server parent (Some c) s p lives info = onto_client_goes h server (kept_connection c) s lives.1 info

  with_page_goes : (h : HandleFact) (parent : Record) (o : Option (Text × Record)) → is_handle h.handle_key ≡ true → RowStays holds parent → Of (Lives holds) o
      → Goes holds m n (with_page h parent o m) (with_page h parent o n)
  with_page_goes h parent None key p lives =
      goes_record holds m n within h.parent _ _ refl (with_field_stays holds h.handle_key (Leaf Null) parent (leaf_stays holds h.handle_key Null) p)
  with_page_goes h parent (Some server) key p lives =
      subst (λ o. Goes holds m n (onto h server.1 parent (below h.handle_key parent m) m) (onto h server.1 parent o n)) (same_below holds m n within h.handle_key parent p)
      (onto_goes h server.1 parent (below h.handle_key parent m) lives.1 p (below_stays holds m n within h.handle_key parent p) (below_info holds m n within h.handle_key parent key p))

  of_parent_goes : (h : HandleFact) (o : Option Record) → is_handle h.handle_key ≡ true → Of (RowStays holds) o → Goes holds m n (of_parent h o m) (of_parent h o n)
  of_parent_goes h None key p = goes_nowhere holds m n within
  of_parent_goes h (Some parent) key p =
      subst (λ o. Goes holds m n (with_page h parent (below h.field_key parent m) m) (with_page h parent o n)) (same_below holds m n within h.field_key parent p)
      (with_page_goes h parent (below h.field_key parent m) key p (below_stays holds m n within h.field_key parent p))

  pub merge_goes : (h : HandleFact) → is_handle h.handle_key ≡ true → holds h.parent ≡ true → Goes holds m n (merge h m) (merge h n)
  merge_goes h key own =
      subst (λ o. Goes holds m n (of_parent h (live h.parent m) m) (of_parent h o n)) (live_same m n h.parent (within.same h.parent own))
      (of_parent_goes h (live h.parent m) key (live_stays holds m n within h.parent own))

pub pages_go : (hs : List HandleFact) (holds : Text → Bool) (m n : Records) → AreWithin holds m n → Each (λ h. is_handle h.handle_key ≡ true) hs → Each (λ h. holds h.parent ≡ true) hs → Goes holds m n (merge_all hs m) (merge_all hs n)
pages_go [] holds m n within keys h = goes_nowhere holds m n within
pages_go (x ∷ hs) holds m n within keys h =
    let one = merge_goes holds m n within x keys.0 h.0 in
    goes_on holds m n (merge x m) (merge x n) (merge_all hs (merge x m)) (merge_all hs (merge x n)) one
    (pages_go hs one.larger (merge x m) (merge x n) one.within keys.1 (each_so (λ (p : HandleFact). holds p.parent ≡ true) (λ p. one.larger p.parent ≡ true) hs (λ p k. one.wider p.parent k) h.1))
