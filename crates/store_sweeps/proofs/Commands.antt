-- Facts and commands stay within the set that holds what they name.
use Rattle.std.proofs.Common.{◌≡◌, ℤ, pos, Bool, true, false, cond, List, [], ◌∷◌, ◌++◌, Option, Some, None, codes, refl, sym, ap, subst, ◌∙◌, option_map, option_and_then, unwrap_or, bytes_eq}
use Rattle.store_model.specs.gql_plain.declared.plain.Plain.{Plain}
use Rattle.store_model.specs.gql_plain.declared.plain.Plain.TheVariants.{Int}
use Rattle.store_model.specs.store_record.Keys.{Text, field_key, handle_name}
use Rattle.store_model.specs.store_record.declared.field.Field.{Field}
use Rattle.store_model.specs.store_record.declared.field.Field.TheVariants.{Leaf, Link, Links}
use Rattle.store_model.specs.store_record.declared.record.Record.{Record}
use Rattle.store_model.specs.store_record.declared.record.Slot.{Slot}
use Rattle.store_model.specs.store_record.declared.record.Slot.TheVariants.{Deleted, Alive}
use Rattle.store_model.proofs.Least.{Each, in_first, in_rest, each_left, each_right, each_so}
use Rattle.store_model.specs.Enough.{SameAt}
use Rattle.store_model.specs.Entries.{ids_in, some_id, some_ids, named_by_facts, named_by_command, named_by_commands}
use Rattle.store_model.specs.Merge.{link_under, below, edges_of, node_at, nodes_at, is_among, counter_of, edge_id, next_edge, info_id}
use Rattle.store_model.specs.Records.{Records, live, with_record, field_at, with_field, with_fact, record_of, put_fact, put, typename, name_given}
use Rattle.store_model.specs.Updates.{change_record, create_record, delete_record, add_to_field, field_plus, link_or_null, connection_of, edge_of, with_edge, edge_put, edge_inserted, edges_without, field_without, edge_deleted, insert_edge, delete_edge, act, act_all}
use Rattle.store_model.specs.declared.command.Command.{Command}
use Rattle.store_model.specs.declared.command.Command.TheVariants as C
use Rattle.store_model.specs.declared.command.EdgeEdit.{EdgeEdit}
use Rattle.store_model.specs.declared.facts.Fact.{Fact}
use Rattle.store_sweeps.specs.Swept.{Held, HeldWithInfo, FieldStays, FieldsStay, AreWithin, grown, Goes}
use Rattle.store_sweeps.proofs.Writes.{grown_wide, grown_new, fields_wider, goes_written, goes_nowhere, goes_on}
use Rattle.store_model.proofs.Looking.{live_same, below_same, nodes_same, without_same}
use Rattle.store_sweeps.proofs.Fields.{Of, of_and_then, with_field_stays, field_at_stays, under_held, edges_held, Lives, live_stays, below_stays}

-- ---- fields

module _ (Q : Text → Bool) where
  pub leaf_stays : (key : Text) (value : Plain) → FieldStays Q (key, Leaf value)
  leaf_stays key value = (tt, λ _. tt)

  pub links_stay : (key : Text) (ids : List (Option Text)) → Each (Held Q) (some_ids ids) → FieldStays Q (key, Links ids)
  links_stay key ids h = (h, λ _. tt)

  pub named_stays : (key : Text) (f : Field) → Each (HeldWithInfo Q) (ids_in f) → FieldStays Q (key, f)
  named_stays key (Leaf value) h = (tt, λ _. tt)
  named_stays key (Link id) h = ((h.0.0, tt), λ _. (h.0.1, tt))
  named_stays key (Links ids) h = (each_so (HeldWithInfo Q) (Held Q) (some_ids ids) (λ id k. k.0) h, λ _. tt)

  fact_stays : (f : Fact) (r : Record) → Each (HeldWithInfo Q) (ids_in f.value) → FieldsStay Q r.fields → FieldsStay Q (with_fact f r).fields
  fact_stays f r h all = at (bytes_eq f.key typename)
    where
      at : (b : Bool) → FieldsStay Q (cond {A = Record} b (record { type_name = name_given f.value; fields = r.fields }) (with_field f.key f.value r)).fields
      at true = all
      at false = with_field_stays Q f.key f.value r (named_stays f.key f.value h) all

  plus_stays : (key : Text) (by : ℤ) (f : Field) → FieldStays Q (key, f) → FieldStays Q (key, field_plus by f)
  plus_stays key by (Leaf value) h = (tt, λ _. tt)
  plus_stays key by (Link id) h = h
  plus_stays key by (Links ids) h = h

  added_stays : (key : Text) (by : ℤ) (r : Record) → FieldsStay Q r.fields → FieldsStay Q (add_to_field key by r).fields
  added_stays key by r all = at (field_at key r) (field_at_stays Q key r all)
    where
      at : (o : Option Field) → Of (λ f. FieldStays Q (key, f)) o → FieldsStay Q (unwrap_or (option_map (λ f. with_field key (field_plus by f) r) o) r).fields
      at None h = all
      at (Some f) h = with_field_stays Q key (field_plus by f) r (plus_stays key by f h) all

  link_stays : (key : Text) (to : Option Text) → Each (HeldWithInfo Q) (some_id to) → FieldStays Q (key, link_or_null to)
  link_stays key None h = (tt, λ _. tt)
  link_stays key (Some id) h = named_stays key (Link id) h

  -- ---- lists of edges

  each_edge : (es : List (Option Text)) (id : Text) → Each (Held Q) (some_ids es) → Q id ≡ true → Each (Held Q) (some_ids (es ++ Some id ∷ []))
  each_edge [] id h k = (k, tt)
  each_edge (None ∷ es) id h k = each_edge es id h k
  each_edge (Some e ∷ es) id h k = (h.0, each_edge es id h.1 k)

  edge_held : (front : Bool) (es : List (Option Text)) (id : Text) → Each (Held Q) (some_ids es) → Q id ≡ true → Each (Held Q) (some_ids (with_edge front es id))
  edge_held true es id h k = (k, h)
  edge_held false es id h k = each_edge es id h k

  pub left_held : (test : Option Text → Bool) (left : List (Option Text) → List (Option Text))
      → (left [] ≡ []) → ((e : Option Text) (es : List (Option Text)) → left (e ∷ es) ≡ cond (test e) (left es) (e ∷ left es))
      → (es : List (Option Text)) → Each (Held Q) (some_ids es) → Each (Held Q) (some_ids (left es))
  left_held test left none more [] h = subst (λ xs. Each (Held Q) (some_ids xs)) (sym none) tt
  left_held test left none more (e ∷ es) h =
      subst (λ xs. Each (Held Q) (some_ids xs)) (sym (more e es)) (at (test e) e h (left_held test left none more es (rest e h)))
    where
      rest : (e : Option Text) → Each (Held Q) (some_ids (e ∷ es)) → Each (Held Q) (some_ids es)
      rest None k = k
      rest (Some id) k = k.1

      at : (b : Bool) (e : Option Text) → Each (Held Q) (some_ids (e ∷ es)) → Each (Held Q) (some_ids (left es)) → Each (Held Q) (some_ids (cond b (left es) (e ∷ left es)))
      at true e k later = later
      at false None k later = later
      at false (Some id) k later = (k.0, later)

-- ---- one record

pub goes_record : (holds : Text → Bool) (m n : Records) → AreWithin holds m n → (id : Text) (r s : Record) → r ≡ s → FieldsStay holds r.fields → Goes holds m n (with_record id r m) (with_record id s n)
goes_record holds m n within id r s e all =
    let ws = (id, Alive r) ∷ [] in
    subst (λ x. Goes holds m n (with_record id r m) (with_record id x n)) e
    (goes_written holds ws m n within (fields_wider holds (grown holds ws) (grown_wide holds ws) r.fields all, tt))

module _ (holds : Text → Bool) (m n : Records) (within : AreWithin holds m n) where
  abbrev Changes : (Records → Records) → Type 0
  Changes step = Goes holds m n (step m) (step n)

  same_live : (id : Text) → holds id ≡ true → live id m ≡ live id n
  same_live id h = live_same m n id (within.same id h)

  changed : (id : Text) (change : Record → Record) → ((r : Record) → FieldsStay holds r.fields → FieldsStay holds (change r).fields) → holds id ≡ true → Changes (change_record id change)
  changed id change keeps h =
      subst (λ o. Goes holds m n (change_record id change m) (unwrap_or (option_map (λ r. with_record id (change r) n) o) n)) (same_live id h) (at (live id m) (live_stays holds m n within id h))
    where
      at : (o : Option Record) → Of (λ r. FieldsStay holds r.fields) o
          → Goes holds m n (unwrap_or (option_map (λ r. with_record id (change r) m) o) m) (unwrap_or (option_map (λ r. with_record id (change r) n) o) n)
      at None k = goes_nowhere holds m n within
      at (Some r) k = goes_record holds m n within id (change r) (change r) refl (keeps r k)

  created : (id of : Text) → holds id ≡ true → Goes holds m n (create_record (live id m) id of m) (create_record (live id n) id of n)
  created id of h = subst (λ o. Goes holds m n (create_record (live id m) id of m) (create_record o id of n)) (same_live id h) (at (live id m))
    where
      at : (o : Option Record) → Goes holds m n (create_record o id of m) (create_record o id of n)
      at None = goes_record holds m n within id (record_of of) (record_of of) refl tt
      at (Some r) = goes_nowhere holds m n within

  deleted : (id : Text) → holds id ≡ true → Goes holds m n (delete_record (live id m) id m) (delete_record (live id n) id n)
  deleted id h = subst (λ o. Goes holds m n (delete_record (live id m) id m) (delete_record o id n)) (same_live id h) (at (live id m))
    where
      at : (o : Option Record) → Goes holds m n (delete_record o id m) (delete_record o id n)
      at None = goes_nowhere holds m n within
      at (Some r) = goes_written holds ((id, Deleted) ∷ []) m n within (tt, tt)

  pub fact_goes : (f : Fact) → holds f.id ≡ true → Each (HeldWithInfo holds) (ids_in f.value) → Changes (put_fact f)
  fact_goes f h named =
      goes_record holds m n within f.id (with_fact f (unwrap_or (live f.id m) (record_of []))) (with_fact f (unwrap_or (live f.id n) (record_of [])))
      (ap (λ o. with_fact f (unwrap_or o (record_of []))) (same_live f.id h))
      (fact_stays holds f (unwrap_or (live f.id m) (record_of [])) named (at (live f.id m) (live_stays holds m n within f.id h)))
    where
      at : (o : Option Record) → Of (λ r. FieldsStay holds r.fields) o → FieldsStay holds (unwrap_or o (record_of [])).fields
      at None k = tt
      at (Some r) k = k

  -- ---- edits of edges

  -- two maps look the same below a link of a record of the set
  pub same_below : (key : Text) (r : Record) → FieldsStay holds r.fields → below key r m ≡ below key r n
  same_below key r all = below_same m n key r (each_of (link_under key r) (under_held holds key r all))
    where
      each_of : (o : Option Text) → Of (Held holds) o → Each (SameAt m n) (some_id o)
      each_of None k = tt
      each_of (Some id) k = (within.same id k, tt)

  abbrev key_of_edit : EdgeEdit → Text
  key_of_edit e = field_key (handle_name e.key) e.filters

  connection_lives : (e : EdgeEdit) → holds e.id ≡ true → Of (Lives holds) (connection_of e m)
  connection_lives e h =
      of_and_then (λ r. FieldsStay holds r.fields) (Lives holds) (λ parent. below (key_of_edit e) parent m) (live e.id m) (live_stays holds m n within e.id h)
      (λ r all. below_stays holds m n within (key_of_edit e) r all)

  same_connection : (e : EdgeEdit) → holds e.id ≡ true → connection_of e m ≡ connection_of e n
  same_connection e h = at (live e.id m) (live_stays holds m n within e.id h) ∙ ap (option_and_then (λ parent. below (key_of_edit e) parent n)) (same_live e.id h)
    where
      at : (o : Option Record) → Of (λ r. FieldsStay holds r.fields) o → option_and_then (λ parent. below (key_of_edit e) parent m) o ≡ option_and_then (λ parent. below (key_of_edit e) parent n) o
      at None k = refl
      at (Some r) k = same_below (key_of_edit e) r k

  pub same_ids : (es : List (Option Text)) → Each (Held holds) (some_ids es) → Each (SameAt m n) (some_ids es)
  same_ids es h = each_so (Held holds) (SameAt m n) (some_ids es) within.same h

  put_edge : (front : Bool) (e : EdgeEdit) → HeldWithInfo holds e.node → (c : Text × Record) → Lives holds c → Goes holds m n (edge_put front e c m) (edge_put front e c n)
  put_edge front e node c h = goes_written holds ws m n within (row, (edge, tt))
    where
      id : Text
      id = edge_id c.0 (counter_of c.1)

      connection : Record
      connection = with_field (codes "__next") (Leaf (Int (pos (next_edge (counter_of c.1))))) (with_field (codes "edges") (Links (with_edge front (edges_of c.1) id)) c.1)

      ws : List (Text × Slot)
      ws = (c.0, Alive connection) ∷ (id, Alive (edge_of e)) ∷ []

      Q : Text → Bool
      Q = grown holds ws

      wide : (j : Text) → holds j ≡ true → Q j ≡ true
      wide = grown_wide holds ws

      own : Q id ≡ true
      own = grown_new holds ws id (in_rest c.0 id (id ∷ []) (in_first id []))

      before : FieldsStay Q c.1.fields
      before = fields_wider holds Q wide c.1.fields h.1

      edges : FieldStays Q (codes "edges", Links (with_edge front (edges_of c.1) id))
      edges = links_stay Q (codes "edges") (with_edge front (edges_of c.1) id) (edge_held Q front (edges_of c.1) id (edges_held Q c.1 before) own)

      row : FieldsStay Q connection.fields
      row =
          with_field_stays Q (codes "__next") (Leaf (Int (pos (next_edge (counter_of c.1))))) (with_field (codes "edges") (Links (with_edge front (edges_of c.1) id)) c.1)
          (leaf_stays Q (codes "__next") (Int (pos (next_edge (counter_of c.1)))))
          (with_field_stays Q (codes "edges") (Links (with_edge front (edges_of c.1) id)) c.1 edges before)

      edge : FieldsStay Q (edge_of e).fields
      edge =
          with_field_stays Q (codes "node") (Link e.node) (with_field (codes "cursor") (Leaf e.cursor) (record_of e.edge_type))
          (named_stays Q (codes "node") (Link e.node) ((wide e.node node.0, wide (info_id e.node) node.1), tt))
          (with_field_stays Q (codes "cursor") (Leaf e.cursor) (record_of e.edge_type) (leaf_stays Q (codes "cursor") e.cursor) tt)

  inserted : (front : Bool) (e : EdgeEdit) → holds e.id ≡ true → HeldWithInfo holds e.node → Changes (insert_edge front e)
  inserted front e own node =
      subst (λ o. Goes holds m n (insert_edge front e m) (edge_inserted front e o n)) (same_connection e own) (at (connection_of e m) (connection_lives e own))
    where
      either : (c : Text × Record) → Lives holds c → (b : Bool) → Goes holds m n (cond {A = Records} b m (edge_put front e c m)) (cond {A = Records} b n (edge_put front e c n))
      either c k true = goes_nowhere holds m n within
      either c k false = put_edge front e node c k

      at : (o : Option (Text × Record)) → Of (Lives holds) o → Goes holds m n (edge_inserted front e o m) (edge_inserted front e o n)
      at None k = goes_nowhere holds m n within
      at (Some c) k =
          subst (λ nodes. Goes holds m n (edge_inserted front e (Some c) m) (cond {A = Records} (is_among nodes (Some e.node)) n (edge_put front e c n)))
          (nodes_same m n (edges_of c.1) (same_ids (edges_of c.1) (edges_held holds c.1 k.1)))
          (either c k (is_among (nodes_at m (edges_of c.1)) (Some e.node)))

  edge_gone : (e : EdgeEdit) → holds e.id ≡ true → Changes (delete_edge e)
  edge_gone e own =
      subst (λ o. Goes holds m n (delete_edge e m) (edge_deleted e o n)) (same_connection e own) (at (connection_of e m) (connection_lives e own))
    where
      left : (c : Text × Record) → Lives holds c → (f : Field) → FieldStays holds (codes "edges", f)
          → Goes holds m n (with_record c.0 (with_field (codes "edges") (field_without m e.node f) c.1) m) (with_record c.0 (with_field (codes "edges") (field_without n e.node f) c.1) n)
      left c k (Leaf value) h = goes_record holds m n within c.0 _ _ refl (with_field_stays holds (codes "edges") (Leaf value) c.1 h k.1)
      left c k (Link id) h = goes_record holds m n within c.0 _ _ refl (with_field_stays holds (codes "edges") (Link id) c.1 h k.1)
      left c k (Links ids) h =
          goes_record holds m n within c.0 _ _ (ap (λ es. with_field (codes "edges") (Links es) c.1) (without_same m n e.node ids (same_ids ids h.0)))
          (with_field_stays holds (codes "edges") (Links (edges_without m e.node ids)) c.1
          (links_stay holds (codes "edges") (edges_without m e.node ids)
          (left_held holds (λ x. is_among (node_at m x ∷ []) (Some e.node)) (edges_without m e.node) refl (λ x es. refl) ids h.0))
          k.1)

      by_field : (c : Text × Record) → Lives holds c → (o : Option Field) → Of (λ f. FieldStays holds (codes "edges", f)) o
          → Goes holds m n (unwrap_or (option_map (λ f. with_record c.0 (with_field (codes "edges") (field_without m e.node f) c.1) m) o) m)
          (unwrap_or (option_map (λ f. with_record c.0 (with_field (codes "edges") (field_without n e.node f) c.1) n) o) n)
      by_field c k None h = goes_nowhere holds m n within
      by_field c k (Some f) h = left c k f h

      at : (o : Option (Text × Record)) → Of (Lives holds) o → Goes holds m n (edge_deleted e o m) (edge_deleted e o n)
      at None k = goes_nowhere holds m n within
      at (Some c) k = by_field c k (field_at (codes "edges") c.1) (field_at_stays holds (codes "edges") c.1 k.1)

  -- ---- commands

  pub command_goes : (c : Command) → Each (HeldWithInfo holds) (named_by_command c) → Changes (act c)
  command_goes (C.Set id field args value) h = changed id (with_field (field_key field args) (Leaf value)) (λ r. with_field_stays holds (field_key field args) (Leaf value) r (leaf_stays holds (field_key field args) value)) h.0.0
  command_goes (C.Add id field args by) h = changed id (add_to_field (field_key field args) by) (added_stays holds (field_key field args) by) h.0.0
  command_goes (C.Link id field args to) h =
      changed id (with_field (field_key field args) (link_or_null to)) (λ r. with_field_stays holds (field_key field args) (link_or_null to) r (link_stays holds (field_key field args) to h.1)) h.0.0
  command_goes (C.Links id field args to) h =
      changed id (with_field (field_key field args) (Links to))
      (λ r. with_field_stays holds (field_key field args) (Links to) r (links_stay holds (field_key field args) to (each_so (HeldWithInfo holds) (Held holds) (some_ids to) (λ j k. k.0) h.1))) h.0.0
  command_goes (C.Create id of) h = created id of h.0.0
  command_goes (C.Delete id) h = deleted id h.0.0
  command_goes (C.AppendNode e) h = inserted false e h.0.0 h.1.0
  command_goes (C.PrependNode e) h = inserted true e h.0.0 h.1.0
  command_goes (C.DeleteEdge e) h = edge_gone e h.0.0

-- ---- one after another

pub named_wider : (P Q : Text → Bool) → ((id : Text) → P id ≡ true → Q id ≡ true) → (ids : List Text) → Each (HeldWithInfo P) ids → Each (HeldWithInfo Q) ids
named_wider P Q wide ids h = each_so (HeldWithInfo P) (HeldWithInfo Q) ids (λ id k. (wide id k.0, wide (info_id id) k.1)) h

pub facts_go : (fs : List Fact) (holds : Text → Bool) (m n : Records) → AreWithin holds m n → Each (HeldWithInfo holds) (named_by_facts fs) → Goes holds m n (put fs m) (put fs n)
facts_go [] holds m n within h = goes_nowhere holds m n within
facts_go (f ∷ fs) holds m n within h =
    let one = fact_goes holds m n within f h.0.0 (each_left (HeldWithInfo holds) (ids_in f.value) (named_by_facts fs) h.1) in
    goes_on holds m n (put_fact f m) (put_fact f n) (put fs (put_fact f m)) (put fs (put_fact f n)) one
    (facts_go fs one.larger (put_fact f m) (put_fact f n) one.within
    (named_wider holds one.larger one.wider (named_by_facts fs) (each_right (HeldWithInfo holds) (ids_in f.value) (named_by_facts fs) h.1)))

pub commands_go : (cs : List Command) (holds : Text → Bool) (m n : Records) → AreWithin holds m n → Each (HeldWithInfo holds) (named_by_commands cs) → Goes holds m n (act_all cs m) (act_all cs n)
commands_go [] holds m n within h = goes_nowhere holds m n within
commands_go (c ∷ cs) holds m n within h =
    let one = command_goes holds m n within c (each_left (HeldWithInfo holds) (named_by_command c) (named_by_commands cs) h) in
    goes_on holds m n (act c m) (act c n) (act_all cs (act c m)) (act_all cs (act c n)) one
    (commands_go cs one.larger (act c m) (act c n) one.within
    (named_wider holds one.larger one.wider (named_by_commands cs) (each_right (HeldWithInfo holds) (named_by_command c) (named_by_commands cs) h)))
