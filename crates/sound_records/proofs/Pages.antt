-- Merging a page keeps sound records so.
use Rattle.std.proofs.Common.{◌≡◌, ℕ, Bool, true, false, cond, ◌&&◌, ◌||◌, List, [], ◌∷◌, ◌++◌, Option, Some, None, codes, refl, ap, option_map, unwrap_or, pos, bytes_eq}
use Rattle.store_model.specs.gql_plain.declared.plain.Plain.TheVariants.{Null, Int}
use Rattle.store_model.specs.store_record.Keys.{Text, client_id}
use Rattle.store_model.specs.store_record.declared.field.Field.{Field}
use Rattle.store_model.specs.store_record.declared.field.Field.TheVariants.{Leaf, Link, Links}
use Rattle.store_model.specs.store_record.declared.record.Record.{Record}
use Rattle.store_model.proofs.Least.{Each}
use Rattle.store_model.specs.Entries.{some_ids, merge_all}
use Rattle.store_model.specs.Merge.{below, edges_of, node_of, node_at, nodes_at, live_edges, new_edges, is_among, edge_id, edge_ids, next_edge, make_edges, counter_after, with_counter, is_own_key, copied_over, info_id, info_below, whole_info, take_field, taken_both, Kept, with_edges, replace_edges, with_info, page_after, others_than, nodes_of, page_before, has_cursor, is_null, onto_client, onto_none, kept_connection, onto, with_page, of_parent, merge}
use Rattle.store_model.specs.Records.{Records, live, with_record, field_at, with_field, record_of}
use Rattle.store_model.specs.declared.facts.Fact.{Fact}
use Rattle.store_model.specs.declared.facts.HandleFact.{HandleFact}
use Rattle.sound_records.specs.Sound.{IsId, is_record_type, IsSoundField, IsSoundRecord, IsSoundPage, AreSound}
use Rattle.sound_records.proofs.Slots.{Of, with_record_sound, live_sound}
use Rattle.sound_records.proofs.Fields.{with_field_sound, record_of_sound, field_at_sound, edges_are, Lives, below_sound}
use Rattle.sound_records.proofs.Commands.{left_are, made_is, some_append}

module _ (object : Text → Bool) where
  abbrev Sound : Record → Type 0
  Sound r = IsSoundRecord object r

  record_type : (name : Text) → object name ≡ true → is_record_type object name ≡ true
  record_type name h = ap (λ b. b || bytes_eq name (codes "__Root")) h

  -- ---- rows

  edges_made : (id : Text) (k : ℕ) (new : List Record) → Each IsId (some_ids (edge_ids id k new))
  edges_made id k [] = tt
  edges_made id k (e ∷ es) = (made_is id (codes "edges") (Some k), edges_made id (next_edge k) es)

  copied_sound : (fs : List (Text × Field)) (r : Record) → Each IsSoundField fs → Sound r → Sound (copied_over fs r)
  copied_sound [] r h all = all
  copied_sound (f ∷ fs) r h all = copied_sound fs (cond {A = Record} (is_own_key f.0) r (with_field f.0 f.1 r)) h.1 (at (is_own_key f.0))
    where
      at : (b : Bool) → Sound (cond {A = Record} b r (with_field f.0 f.1 r))
      at true = all
      at false = with_field_sound object f.0 f.1 r h.0 all

  counter_sound : (k : ℕ) (new : List Record) (r : Record) → Sound r → Sound (with_counter k new r)
  counter_sound k [] r all = all
  counter_sound k (e ∷ es) r all = with_field_sound object (codes "__next") (Leaf (Int (pos (counter_after k (e ∷ es))))) r (refl, tt) all

  with_edges_sound : (server : Record) (c : Kept) (first : List (Option Text)) (new : List Record) (last : List (Option Text)) → Sound server → Sound c.row
      → Each IsId (some_ids first) → Each IsId (some_ids last) → Sound (with_edges server c first new last)
  with_edges_sound server c first new last s r f l =
      counter_sound c.next new (with_field (codes "edges") (Links (first ++ edge_ids c.id c.next new ++ last)) (copied_over server.fields c.row))
      (with_field_sound object (codes "edges") (Links (first ++ edge_ids c.id c.next new ++ last)) (copied_over server.fields c.row)
      (refl, some_append object (first ++ edge_ids c.id c.next new) last (some_append object first (edge_ids c.id c.next new) f (edges_made c.id c.next new)) l)
      (copied_sound server.fields c.row s.fields r))

  whole_sound : (info_type : Text) (o : Option Record) → is_record_type object info_type ≡ true → Of Sound o → Sound (whole_info info_type o)
  whole_sound info_type None named h = record_of_sound object info_type named
  whole_sound info_type (Some r) named h = record { named = named; fields = h.fields; order = h.order }

  take_sound : (key : Text) (server r : Record) → Sound server → Sound r → Sound (take_field key server r)
  take_sound key server r s all = at (field_at key server) (field_at_sound object key server s)
    where
      at : (o : Option Field) → Of (λ f. IsSoundField (key, f)) o → Sound (unwrap_or (option_map (λ f. with_field key f r) o) r)
      at None h = all
      at (Some f) h = with_field_sound object key f r h all

  taken_sound : (key other : Text) (o : Option Record) (r : Record) → Of Sound o → Sound r → Sound (taken_both key other o r)
  taken_sound key other None r h all = all
  taken_sound key other (Some server) r h all = take_sound other server (take_field key server r) h (take_sound key server r h all)

  made_sound : (id : Text) (k : ℕ) (new : List Record) (onto : Records) → Each Sound new → AreSound object onto → AreSound object (make_edges id k new onto)
  made_sound id k [] onto h all = all
  made_sound id k (e ∷ es) onto h all =
      made_sound id (next_edge k) es (with_record (edge_id id k) e onto) h.1 (with_record_sound object (edge_id id k) e onto (made_is id (codes "edges") (Some k)) h.0 all)

  info_is : (id : Text) → IsId (info_id id)
  info_is id = made_is id (codes "pageInfo") None

  module _ (m : Records) (all : AreSound object m) where
    -- ---- what is looked at

    live_edges_sound : (es : List (Option Text)) → Each Sound (live_edges m es)
    live_edges_sound [] = tt
    live_edges_sound (None ∷ es) = live_edges_sound es
    live_edges_sound (Some id ∷ es) = at (live id m) (live_sound object id m all) (live_edges_sound es)
      where
        at : (o : Option Record) → Of (λ r. IsId id × Sound r) o → Each Sound (live_edges m es) → Each Sound (unwrap_or (option_map (λ r. r ∷ live_edges m es) o) (live_edges m es))
        at None k rest = rest
        at (Some r) k rest = (k.1, rest)

    new_sound : (before : List (Option Text)) (es : List Record) → Each Sound es → Each Sound (new_edges before es)
    new_sound before [] h = tt
    new_sound before (e ∷ es) h = at (is_among before (node_of e)) (new_sound before es h.1) (new_sound (node_of e ∷ before) es h.1)
      where
        at : (b : Bool) → Each Sound (new_edges before es) → Each Sound (new_edges (node_of e ∷ before) es) → Each Sound (cond b (new_edges before es) (e ∷ new_edges (node_of e ∷ before) es))
        at true x y = x
        at false x y = (h.0, y)

    info_sound : (server : Record) → Of Sound (info_below server m)
    info_sound server = at (below (codes "pageInfo") server m) (below_sound object m all (codes "pageInfo") server)
      where
        at : (o : Option (Text × Record)) → Of (Lives object) o → Of Sound (option_map (λ p. p.1) o)
        at None h = tt
        at (Some p) h = h.1

    -- ---- the page

    replaced : (h : HandleFact) (server : Record) (c : Kept) (onto : Records) → is_record_type object h.info_type ≡ true → IsId c.id → Sound server → Sound c.row → AreSound object onto
        → AreSound object (replace_edges h server c m onto)
    replaced h server c onto named id s r rest =
        with_record_sound object (info_id c.id) (whole_info h.info_type (info_below server m)) (make_edges c.id c.next new (with_record c.id row onto)) (info_is c.id)
        (whole_sound h.info_type (info_below server m) named (info_sound server))
        (made_sound c.id c.next new (with_record c.id row onto) (new_sound [] (live_edges m (edges_of server)) (live_edges_sound (edges_of server)))
        (with_record_sound object c.id row onto id
        (with_field_sound object (codes "pageInfo") (Link (info_id c.id)) (with_edges server c [] new []) (refl, (info_is c.id, tt)) (with_edges_sound server c [] new [] s r tt tt)) rest))
      where
        new : List Record
        new = new_edges [] (live_edges m (edges_of server))

        row : Record
        row = with_field (codes "pageInfo") (Link (info_id c.id)) (with_edges server c [] (new_edges [] (live_edges m (edges_of server))) [])

    joined : (key other : Text) (server : Record) (c : Kept) (first last : List (Option Text)) (new : List Record) → IsId c.id → Sound server → Sound c.row
        → Each IsId (some_ids first) → Each IsId (some_ids last) → Each Sound new
        → AreSound object (with_info (info_id c.id) key other (info_below server m) (live (info_id c.id) m) (make_edges c.id c.next new (with_record c.id (with_edges server c first new last) m)))
    joined key other server c first last new id s r f l edges = at (live (info_id c.id) m) (live_sound object (info_id c.id) m all)
      where
        made : Records
        made = make_edges c.id c.next new (with_record c.id (with_edges server c first new last) m)

        onto : AreSound object made
        onto =
            made_sound c.id c.next new (with_record c.id (with_edges server c first new last) m) edges
            (with_record_sound object c.id (with_edges server c first new last) m id (with_edges_sound server c first new last s r f l) all)

        at : (o : Option Record) → Of (λ r. IsId (info_id c.id) × Sound r) o → AreSound object (with_info (info_id c.id) key other (info_below server m) o made)
        at None h = onto
        at (Some own) h = with_record_sound object (info_id c.id) (taken_both key other (info_below server m) own) made (info_is c.id) (taken_sound key other (info_below server m) own (info_sound server) h.1) onto

    after_sound : (server : Record) (c : Kept) → IsId c.id → Sound server → Sound c.row → AreSound object (page_after server c m)
    after_sound server c id s r =
        joined (codes "endCursor") (codes "hasNextPage") server c (edges_of c.row) [] (new_edges (nodes_at m (edges_of c.row)) (live_edges m (edges_of server))) id s r (edges_are object c.row r) tt
        (new_sound (nodes_at m (edges_of c.row)) (live_edges m (edges_of server)) (live_edges_sound (edges_of server)))

    before_sound : (server : Record) (c : Kept) → IsId c.id → Sound server → Sound c.row → AreSound object (page_before server c m)
    before_sound server c id s r =
        joined (codes "startCursor") (codes "hasPreviousPage") server c [] (others_than m (nodes_of new) (edges_of c.row)) new id s r tt
        (left_are object (λ e. is_among (nodes_of new) (node_at m e)) (others_than m (nodes_of new)) refl (λ e es. refl) (edges_of c.row) (edges_are object c.row r))
        (new_sound [] (live_edges m (edges_of server)) (live_edges_sound (edges_of server)))
      where
        new : List Record
        new = new_edges [] (live_edges m (edges_of server))

    onto_client_sound : (h : HandleFact) (server : Record) (c : Kept) → is_record_type object h.info_type ≡ true → IsId c.id → Sound server → Sound c.row → AreSound object (onto_client h server c m)
    onto_client_sound h server c named id s r =
        at (is_null h.before) (is_null h.after) (has_cursor (codes "endCursor") h.after (live (info_id c.id) m)) (has_cursor (codes "startCursor") h.before (live (info_id c.id) m))
      where
        at : (bb ba at_end at_start : Bool)
            → AreSound object (cond bb (cond ba (replace_edges h server c m m) (cond at_end (page_after server c m) m)) (cond (ba && at_start) (page_before server c m) m))
        at true true e t = replaced h server c m named id s r all
        at true false true t = after_sound server c id s r
        at true false false t = all
        at false true e true = before_sound server c id s r
        at false true e false = all
        at false false e t = all

    module _ (facts : List Fact) (h : HandleFact) (page : IsSoundPage object facts h) where
      onto_none_sound : (server parent : Record) → IsId h.parent → Sound server → Sound parent → AreSound object (onto_none h server parent m)
      onto_none_sound server parent id s p =
          replaced h server (record { id = made; row = record_of h.page_type; next = 0 }) (with_record h.parent (with_field h.handle_key (Link made) parent) m)
          (record_type h.info_type page.info) (made_is h.parent h.handle_key None) s (record_of_sound object h.page_type (record_type h.page_type page.page))
          (with_record_sound object h.parent (with_field h.handle_key (Link made) parent) m id
          (with_field_sound object h.handle_key (Link made) parent (page.apart, (made_is h.parent h.handle_key None, tt)) p) all)
        where
          made : Text
          made = client_id h.parent h.handle_key None

      onto_sound : (server parent : Record) (o : Option (Text × Record)) → IsId h.parent → Sound server → Sound parent → Of (Lives object) o → AreSound object (onto h server parent o m)
      onto_sound server parent None id s p lives = onto_none_sound server parent id s p
      onto_sound server parent (Some c) id s p lives = onto_client_sound h server (kept_connection c) (record_type h.info_type page.info) lives.0 s lives.1

      with_page_sound : (parent : Record) (o : Option (Text × Record)) → IsId h.parent → Sound parent → Of (Lives object) o → AreSound object (with_page h parent o m)
      with_page_sound parent None id p lives =
          with_record_sound object h.parent (with_field h.handle_key (Leaf Null) parent) m id (with_field_sound object h.handle_key (Leaf Null) parent (page.apart, tt) p) all
      with_page_sound parent (Some server) id p lives =
          onto_sound server.1 parent (below h.handle_key parent m) id lives.1 p (below_sound object m all h.handle_key parent)

      of_parent_sound : (o : Option Record) → Of (λ r. IsId h.parent × Sound r) o → AreSound object (of_parent h o m)
      of_parent_sound None p = all
      of_parent_sound (Some parent) p = with_page_sound parent (below h.field_key parent m) p.0 p.1 (below_sound object m all h.field_key parent)

      pub merge_sound : AreSound object (merge h m)
      merge_sound = of_parent_sound (live h.parent m) (live_sound object h.parent m all)

  pub pages_sound : (facts : List Fact) (hs : List HandleFact) (m : Records) → Each (IsSoundPage object facts) hs → AreSound object m → AreSound object (merge_all hs m)
  pages_sound facts [] m h all = all
  pages_sound facts (x ∷ hs) m h all = pages_sound facts hs (merge x m) h.1 (merge_sound m all facts x h.0)
