-- Commands keep sound records so.
use Rattle.std.proofs.Common.{◌≡◌, ℕ, ℤ, pos, Bool, true, false, true≢false, cond, ◌||◌, List, [], ◌∷◌, ◌++◌, Option, Some, None, codes, refl, sym, ap, subst, ◌∙◌, option_map, option_and_then, unwrap_or, bytes_eq, nat_eq}
use Rattle.std.proofs.lemmas.Slice.Eq.{bytes_eq-Decides}
use Rattle.std.specs.List.{list_any}
use Rattle.store_model.specs.gql_plain.declared.plain.Plain.TheVariants.{Int}
use Rattle.store_model.specs.store_record.Keys.{Text, Arguments, client_id, prefix_of, index_text, field_key, handle_name, key_with, more_pairs, pair_text, root, without_nulls}
use Rattle.store_model.specs.store_record.declared.field.Field.{Field}
use Rattle.store_model.specs.store_record.declared.field.Field.TheVariants.{Leaf, Link, Links}
use Rattle.store_model.specs.store_record.declared.record.Record.{Record}
use Rattle.store_model.specs.store_record.declared.record.Slot.TheVariants.{Deleted}
use Rattle.store_model.proofs.Least.{Each}
use Rattle.store_model.specs.Entries.{some_id, some_ids}
use Rattle.store_model.specs.Events.{is_field_name}
use Rattle.store_model.specs.Merge.{below, edges_of, node_at, nodes_at, is_among, counter_of, edge_id, next_edge}
use Rattle.store_model.specs.Records.{Records, live, with_record, field_at, with_field, record_of, typename}
use Rattle.store_model.specs.Updates.{change_record, create_record, delete_record, add_to_field, field_plus, link_or_null, connection_of, edge_of, with_edge, edge_put, edge_inserted, edges_without, field_without, edge_deleted, insert_edge, delete_edge, act, act_all}
use Rattle.store_model.specs.declared.command.Command.{Command}
use Rattle.store_model.specs.declared.command.Command.TheVariants as C
use Rattle.store_model.specs.declared.command.EdgeEdit.{EdgeEdit}
use Rattle.sound_records.specs.Sound.{IsId, is_record_type, IsSoundField, IsSoundRecord, AreSound, IsSoundCommand}
use Rattle.sound_records.proofs.Slots.{Of, with_slot_sound, with_record_sound, live_sound}
use Rattle.sound_records.proofs.Fields.{with_field_sound, record_of_sound, field_at_sound, edges_are, Lives, below_sound}

-- ---- ids and keys

-- a generated id is not empty
pub made_is : (parent key : Text) (index : Option ℕ) → IsId (client_id parent key index)
made_is parent key index = at (prefix_of parent ++ parent)
  where
    at : (front : Text) → IsId (front ++ codes ":" ++ key ++ index_text index)
    at [] = tt
    at (x ∷ front) = tt

abbrev is_paren : ℕ → Bool
is_paren b = nat_eq b 40

any_left : (xs ys : Text) → list_any is_paren xs ≡ true → list_any is_paren (xs ++ ys) ≡ true
any_left [] ys h = absurd (true≢false (sym h))
any_left (x ∷ xs) ys h = elim (is_paren x) as (λ b. (b || list_any is_paren xs) ≡ true → (b || list_any is_paren (xs ++ ys)) ≡ true) [ true ↦ λ _. refl | false ↦ any_left xs ys ] h

any_behind : (xs : Text) → list_any is_paren (xs ++ codes "(") ≡ true
any_behind [] = refl
any_behind (x ∷ xs) = elim (is_paren x) as (λ b. (b || list_any is_paren (xs ++ codes "(")) ≡ true) [ true ↦ refl | false ↦ any_behind xs ]

-- a field key is another one than that of the type name, where its name alone is
pub key_apart : (name : Text) (arguments : Arguments) → (name ≡ typename → ⊥) → bytes_eq (key_with name arguments) typename ≡ false
key_apart name arguments apart = at (bytes_eq (key_with name arguments) typename) refl
  where
    never : (xs : Arguments) → key_with name xs ≡ typename → ⊥
    never [] e = apart e
    never (a ∷ more) e =
        true≢false
        (sym (any_left (name ++ codes "(" ++ pair_text a) (more_pairs more) (any_left (name ++ codes "(") (pair_text a) (any_behind name)))
        ∙ ap (list_any is_paren) e)

    at : (b : Bool) → bytes_eq (key_with name arguments) typename ≡ b → b ≡ false
    at false e = refl
    at true e = absurd (never arguments ((bytes_eq-Decides (key_with name arguments) typename).0 e))

field_name_apart : (name : Text) → is_field_name name ≡ true → name ≡ typename → ⊥
field_name_apart name is e = true≢false (sym is ∙ ap is_field_name e)

pub field_apart : (name : Text) (arguments : Arguments) → is_field_name name ≡ true → bytes_eq (field_key name arguments) typename ≡ false
field_apart name arguments is = key_apart name (without_nulls arguments) (field_name_apart name is)

-- ---- fields

module _ (object : Text → Bool) where
  abbrev Sound : Record → Type 0
  Sound r = IsSoundRecord object r

  plus_sound : (key : Text) (by : ℤ) (f : Field) → IsSoundField (key, f) → IsSoundField (key, field_plus by f)
  plus_sound key by (Leaf value) h = (h.0, tt)
  plus_sound key by (Link id) h = h
  plus_sound key by (Links ids) h = h

  added_sound : (key : Text) (by : ℤ) (r : Record) → Sound r → Sound (add_to_field key by r)
  added_sound key by r all = at (field_at key r) (field_at_sound object key r all)
    where
      at : (o : Option Field) → Of (λ f. IsSoundField (key, f)) o → Sound (unwrap_or (option_map (λ f. with_field key (field_plus by f) r) o) r)
      at None h = all
      at (Some f) h = with_field_sound object key (field_plus by f) r (plus_sound key by f h) all

  link_sound : (key : Text) (to : Option Text) → bytes_eq key typename ≡ false → Each IsId (some_id to) → IsSoundField (key, link_or_null to)
  link_sound key None e h = (e, tt)
  link_sound key (Some id) e h = (e, h)

  -- ---- lists of edges

  pub some_append : (xs ys : List (Option Text)) → Each IsId (some_ids xs) → Each IsId (some_ids ys) → Each IsId (some_ids (xs ++ ys))
  some_append [] ys h k = k
  some_append (None ∷ xs) ys h k = some_append xs ys h k
  some_append (Some x ∷ xs) ys h k = (h.0, some_append xs ys h.1 k)

  edge_is : (front : Bool) (es : List (Option Text)) (id : Text) → Each IsId (some_ids es) → IsId id → Each IsId (some_ids (with_edge front es id))
  edge_is true es id h k = (k, h)
  edge_is false es id h k = some_append es (Some id ∷ []) h (k, tt)

  pub left_are : (test : Option Text → Bool) (left : List (Option Text) → List (Option Text))
      → (left [] ≡ []) → ((e : Option Text) (es : List (Option Text)) → left (e ∷ es) ≡ cond (test e) (left es) (e ∷ left es))
      → (es : List (Option Text)) → Each IsId (some_ids es) → Each IsId (some_ids (left es))
  left_are test left none more [] h = subst (λ xs. Each IsId (some_ids xs)) (sym none) tt
  left_are test left none more (e ∷ es) h =
      subst (λ xs. Each IsId (some_ids xs)) (sym (more e es)) (at (test e) e h (left_are test left none more es (rest e h)))
    where
      rest : (e : Option Text) → Each IsId (some_ids (e ∷ es)) → Each IsId (some_ids es)
      rest None k = k
      rest (Some id) k = k.1

      at : (b : Bool) (e : Option Text) → Each IsId (some_ids (e ∷ es)) → Each IsId (some_ids (left es)) → Each IsId (some_ids (cond b (left es) (e ∷ left es)))
      at true e k later = later
      at false None k later = later
      at false (Some id) k later = (k.0, later)

  -- ---- one record

  module _ (m : Records) (all : AreSound object m) where
    changed : (id : Text) (change : Record → Record) → ((r : Record) → Sound r → Sound (change r)) → AreSound object (change_record id change m)
    changed id change keeps = at (live id m) (live_sound object id m all)
      where
        at : (o : Option Record) → Of (λ r. IsId id × Sound r) o → AreSound object (unwrap_or (option_map (λ r. with_record id (change r) m) o) m)
        at None h = all
        at (Some r) h = with_record_sound object id (change r) m h.0 (keeps r h.1) all

    created : (id of : Text) → IsId id → is_record_type object of ≡ true → AreSound object (create_record (live id m) id of m)
    created id of is named = at (live id m)
      where
        at : (o : Option Record) → AreSound object (create_record o id of m)
        at None = with_record_sound object id (record_of of) m is (record_of_sound object of named) all
        at (Some r) = all

    deleted : (id : Text) → IsId id → bytes_eq id root ≡ false → AreSound object (delete_record (live id m) id m)
    deleted id is other = at (live id m)
      where
        at : (o : Option Record) → AreSound object (delete_record o id m)
        at None = all
        at (Some r) = with_slot_sound object id Deleted m is other all

    -- ---- edits of edges

    connection_sound : (e : EdgeEdit) → Of (Lives object) (connection_of e m)
    connection_sound e = at (live e.id m)
      where
        at : (o : Option Record) → Of (Lives object) (option_and_then (λ parent. below (field_key (handle_name e.key) e.filters) parent m) o)
        at None = tt
        at (Some parent) = below_sound object m all (field_key (handle_name e.key) e.filters) parent

    put_edge : (front : Bool) (e : EdgeEdit) → IsId e.node → is_record_type object e.edge_type ≡ true → (c : Text × Record) → Lives object c → AreSound object (edge_put front e c m)
    put_edge front e node named c h =
        with_record_sound object id (edge_of e) (with_record c.0 connection m) (made_is c.0 (codes "edges") (Some (counter_of c.1))) edge
        (with_record_sound object c.0 connection m h.0 row all)
      where
        id : Text
        id = edge_id c.0 (counter_of c.1)

        connection : Record
        connection = with_field (codes "__next") (Leaf (Int (pos (next_edge (counter_of c.1))))) (with_field (codes "edges") (Links (with_edge front (edges_of c.1) id)) c.1)

        row : Sound connection
        row =
            with_field_sound object (codes "__next") (Leaf (Int (pos (next_edge (counter_of c.1))))) (with_field (codes "edges") (Links (with_edge front (edges_of c.1) id)) c.1) (refl, tt)
            (with_field_sound object (codes "edges") (Links (with_edge front (edges_of c.1) id)) c.1
            (refl, edge_is front (edges_of c.1) id (edges_are object c.1 h.1) (made_is c.0 (codes "edges") (Some (counter_of c.1)))) h.1)

        edge : Sound (edge_of e)
        edge =
            with_field_sound object (codes "node") (Link e.node) (with_field (codes "cursor") (Leaf e.cursor) (record_of e.edge_type)) (refl, (node, tt))
            (with_field_sound object (codes "cursor") (Leaf e.cursor) (record_of e.edge_type) (refl, tt) (record_of_sound object e.edge_type named))

    inserted : (front : Bool) (e : EdgeEdit) → IsId e.node → is_record_type object e.edge_type ≡ true → AreSound object (insert_edge front e m)
    inserted front e node named = at (connection_of e m) (connection_sound e)
      where
        either : (c : Text × Record) → Lives object c → (b : Bool) → AreSound object (cond {A = Records} b m (edge_put front e c m))
        either c k true = all
        either c k false = put_edge front e node named c k

        at : (o : Option (Text × Record)) → Of (Lives object) o → AreSound object (edge_inserted front e o m)
        at None k = all
        at (Some c) k = either c k (is_among (nodes_at m (edges_of c.1)) (Some e.node))

    edge_gone : (e : EdgeEdit) → AreSound object (delete_edge e m)
    edge_gone e = at (connection_of e m) (connection_sound e)
      where
        left : (c : Text × Record) → (f : Field) → IsSoundField (codes "edges", f) → IsSoundField (codes "edges", field_without m e.node f)
        left c (Leaf value) h = h
        left c (Link id) h = h
        left c (Links ids) h = (h.0, left_are (λ x. is_among (node_at m x ∷ []) (Some e.node)) (edges_without m e.node) refl (λ x es. refl) ids h.1)

        by_field : (c : Text × Record) → Lives object c → (o : Option Field) → Of (λ f. IsSoundField (codes "edges", f)) o
            → AreSound object (unwrap_or (option_map (λ f. with_record c.0 (with_field (codes "edges") (field_without m e.node f) c.1) m) o) m)
        by_field c k None h = all
        by_field c k (Some f) h =
            with_record_sound object c.0 (with_field (codes "edges") (field_without m e.node f) c.1) m k.0 (with_field_sound object (codes "edges") (field_without m e.node f) c.1 (left c f h) k.1) all

        at : (o : Option (Text × Record)) → Of (Lives object) o → AreSound object (edge_deleted e o m)
        at None k = all
        at (Some c) k = by_field c k (field_at (codes "edges") c.1) (field_at_sound object (codes "edges") c.1 k.1)

    -- ---- commands

    record_type : (name : Text) → object name ≡ true → is_record_type object name ≡ true
    record_type name h = ap (λ b. b || bytes_eq name (codes "__Root")) h

    pub command_sound : (c : Command) → IsSoundCommand object c → AreSound object (act c m)
    command_sound (C.Set id field args value) h =
        changed id (with_field (field_key field args) (Leaf value)) (λ r. with_field_sound object (field_key field args) (Leaf value) r (field_apart field args h.0.1, tt))
    command_sound (C.Add id field args by) h = changed id (add_to_field (field_key field args) by) (added_sound (field_key field args) by)
    command_sound (C.Link id field args to) h =
        changed id (with_field (field_key field args) (link_or_null to))
        (λ r. with_field_sound object (field_key field args) (link_or_null to) r (link_sound (field_key field args) to (field_apart field args h.0.1) h.0.2))
    command_sound (C.Links id field args to) h =
        changed id (with_field (field_key field args) (Links to)) (λ r. with_field_sound object (field_key field args) (Links to) r (field_apart field args h.0.1, h.0.2))
    command_sound (C.Create id of) h = created id of h.0.0 (record_type of h.1)
    command_sound (C.Delete id) h = deleted id h.0.0 h.0.1
    command_sound (C.AppendNode e) h = inserted false e h.0.node (record_type e.edge_type h.1)
    command_sound (C.PrependNode e) h = inserted true e h.0.node (record_type e.edge_type h.1)
    command_sound (C.DeleteEdge e) h = edge_gone e

  pub commands_sound : (cs : List Command) (m : Records) → Each (IsSoundCommand object) cs → AreSound object m → AreSound object (act_all cs m)
  commands_sound [] m h all = all
  commands_sound (c ∷ cs) m h all = commands_sound cs (act c m) h.1 (command_sound m all c h.0)
