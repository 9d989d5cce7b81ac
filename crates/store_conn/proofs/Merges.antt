-- The parts of a merge, put together as its definition has them.
use Rattle.std.proofs.Common.{◌≡◌, Bool, true, false, cond, codes, List, [], ◌∷◌, ◌++◌, Option, Some, None, refl, sym, ap, ◌∙◌, append-nil}
use Rattle.store_model.specs.store_record.Keys.{Text, client_id}
use Rattle.store_model.specs.store_record.declared.field.Field.TheVariants.{Link}
use Rattle.store_model.specs.store_record.declared.record.Record.{Record}
use Rattle.store_model.specs.Merge.{Kept, edges_of, nodes_at, nodes_of, is_among, live_edges, edge_ids, info_id, info_below, whole_info, taken_both, with_info, replace_edges, onto_none, page_after, page_before}
use Rattle.store_model.specs.Records.{Records, live, with_field, with_record}
use Rattle.store_model.specs.declared.facts.HandleFact.{HandleFact}
use Rattle.store_conn.proofs.Puts.{ids_made, put_append, connection_put}
use Rattle.store_conn.proofs.Sets.{unknown_are_new, but_are_others, nodes_known, none_known, edges_known}
use Rattle.store_conn.proofs.Wanted.{wanted_unknown}
use Rattle.store_conn.specs.Changes.{put_all, edge_ids_of}
use Rattle.store_conn.specs.Connections.{IsMade, put_connection, with_list}
use Rattle.store_conn.specs.Nodes.{and_nodes, and_all_wanted, and_edges, unknown_edges, edges_but}
use Rattle.store_conn.specs.Pages.{whole_edges, later_edges, other_edges, whole_ids, later_ids}
use Rattle.store_conn.specs.declared.changes.Change.{Change}
use Rattle.store_conn.specs.declared.made.Made.{Made}

-- ---- the edges of a page

module _ (server : Record) (c : Kept) (m : Records) (known : Option Text → Bool) (none : (other : Option Text) → known other ≡ false) (news : List Record)
    (read : news ≡ live_edges m (edges_of server)) where
  pub whole_is : (new : List Record) → new ≡ unknown_edges known news → new ≡ whole_edges server m
  whole_is new is = is ∙ ap (λ es. unknown_edges known es) read ∙ ap (λ f. unknown_edges f (live_edges m (edges_of server))) (none_known known none) ∙ unknown_are_new [] (live_edges m (edges_of server))

  pub later_is : (old : List (Option Text)) (wanted empty noted : Option Text → Bool) (new : List Record) → old ≡ edges_of c.row → wanted ≡ and_nodes (nodes_of news) known
      → ((other : Option Text) → empty other ≡ false) → noted None ≡ false → noted ≡ and_all_wanted wanted (nodes_at m old) empty → new ≡ unknown_edges noted news
      → new ≡ later_edges server c m
  later_is old wanted empty noted new same want nothing lack noting is =
      is ∙ wanted_unknown empty wanted noted (nodes_at m old) news nothing (want ∙ nodes_known known none (nodes_of news)) lack noting
      ∙ (λ k. unknown_edges (is_among (nodes_at m (same k))) (read k))
      ∙ unknown_are_new (nodes_at m (edges_of c.row)) (live_edges m (edges_of server))

  pub others_are : (after : Option Text → Bool) (old : List (Option Text)) → old ≡ edges_of c.row → after ≡ and_edges news known → edges_but after m old ≡ other_edges server c m
  others_are after old same is =
      let set = is ∙ ap (λ es. and_edges es known) read ∙ edges_known known none (live_edges m (edges_of server)) in
      let nodes = nodes_of (whole_edges server m) in
      ap (λ f. edges_but f m old) set ∙ ap (λ es. edges_but (is_among nodes) m es) same ∙ but_are_others m nodes (edges_of c.row)

module _ (c : Kept) (new : List Record) (made : Made) (is : IsMade c new made) where
  ids_are : edge_ids_of made.edges.items ≡ edge_ids c.id c.next new
  ids_are = ap edge_ids_of is.edges ∙ ids_made c.id c.next new

  pub list_with : (first last list : List (Option Text)) → list ≡ (first ++ edge_ids_of made.edges.items) ++ last → list ≡ (first ++ edge_ids c.id c.next new) ++ last
  list_with first last list e = e ∙ ap (λ ids. (first ++ ids) ++ last) ids_are

  pub list_until : (first list : List (Option Text)) → list ≡ first ++ edge_ids_of made.edges.items → list ≡ (first ++ edge_ids c.id c.next new) ++ []
  list_until first list e = list_with first [] list (e ∙ sym (append-nil (first ++ edge_ids_of made.edges.items)))

  pub page_put : (row right : Record) (before after : List Change) (m : Records) → row ≡ right → after ≡ before ++ record { id = c.id; row = row } ∷ made.edges.items
      → put_all after m ≡ put_connection c right new (put_all before m)
  page_put row right before after m same grown =
      connection_put c row new made before after m is grown ∙ ap (λ r. put_connection c r new (put_all before m)) same

pub put_last : (before after : List Change) (change : Change) (m : Records) → after ≡ before ++ change ∷ [] → put_all after m ≡ with_record change.id change.row (put_all before m)
put_last before after change m e = ap (λ cs. put_all cs m) e ∙ put_append before (change ∷ []) m

-- page information with two fields taken, put last
pub info_put : (id made_id key other : Text) (server info : Option Record) (old row : Record) (change : Change) (before after : List Change) (m : Records) → made_id ≡ id → row ≡ taken_both key other server old
    → change ≡ record { id = made_id; row = row } → after ≡ before ++ change ∷ [] → info ≡ Some old → put_all after m ≡ with_info id key other server info (put_all before m)
info_put id made_id key other server info old row change before after m named rowed is grown found =
    put_last before after change m grown
    ∙ ap (λ (ch : Change). with_record ch.id ch.row (put_all before m)) is
    ∙ (λ k. with_record (named k) (rowed k) (put_all before m))
    ∙ sym (ap (λ i. with_info id key other server i (put_all before m)) found)

-- ---- the three ways of taking a page

module _ (server : Record) (c : Kept) (m : Records) (list : List (Option Text)) (info : Option Record) (server_info : info ≡ info_below server m) where
  pub replaced_is : (h : HandleFact) (onto before after : Records) → list ≡ [] ++ whole_ids server c m ++ []
      → before ≡ put_connection c (with_field (codes "pageInfo") (Link (info_id c.id)) (with_list server c (whole_edges server m) list)) (whole_edges server m) onto
      → after ≡ with_record (info_id c.id) (whole_info h.info_type info) before
      → after ≡ replace_edges h server c m onto
  replaced_is h onto before after listed first last =
      last ∙ ap (λ i. with_record (info_id c.id) (whole_info h.info_type i) before) server_info
      ∙ ap (with_record (info_id c.id) (whole_info h.info_type (info_below server m)))
      (first ∙ ap (λ ids. put_connection c (with_field (codes "pageInfo") (Link (info_id c.id)) (with_list server c (whole_edges server m) ids)) (whole_edges server m) onto) listed)

  module _ (old : Option Record) (own_info : old ≡ live (info_id c.id) m) where
    pub after_is : (before after : Records) → list ≡ edges_of c.row ++ later_ids server c m ++ []
        → before ≡ put_connection c (with_list server c (later_edges server c m) list) (later_edges server c m) m
        → after ≡ with_info (info_id c.id) (codes "endCursor") (codes "hasNextPage") info old before
        → after ≡ page_after server c m
    after_is before after listed first last =
        last ∙ ap (λ i. with_info (info_id c.id) (codes "endCursor") (codes "hasNextPage") i old before) server_info
        ∙ ap (λ i. with_info (info_id c.id) (codes "endCursor") (codes "hasNextPage") (info_below server m) i before) own_info
        ∙ ap (with_info (info_id c.id) (codes "endCursor") (codes "hasNextPage") (info_below server m) (live (info_id c.id) m))
        (first ∙ ap (λ ids. put_connection c (with_list server c (later_edges server c m) ids) (later_edges server c m) m) listed)

    pub before_is : (before after : Records) → list ≡ [] ++ whole_ids server c m ++ other_edges server c m
        → before ≡ put_connection c (with_list server c (whole_edges server m) list) (whole_edges server m) m
        → after ≡ with_info (info_id c.id) (codes "startCursor") (codes "hasPreviousPage") info old before
        → after ≡ page_before server c m
    before_is before after listed first last =
        last ∙ ap (λ i. with_info (info_id c.id) (codes "startCursor") (codes "hasPreviousPage") i old before) server_info
        ∙ ap (λ i. with_info (info_id c.id) (codes "startCursor") (codes "hasPreviousPage") (info_below server m) i before) own_info
        ∙ ap (with_info (info_id c.id) (codes "startCursor") (codes "hasPreviousPage") (info_below server m) (live (info_id c.id) m))
        (first ∙ ap (λ ids. put_connection c (with_list server c (whole_edges server m) ids) (whole_edges server m) m) listed)

-- a connection that is made
pub none_is : (h : HandleFact) (server parent : Record) (m : Records) (id copy : Text) (c : Kept) (changes : List Change) (after : Records) → id ≡ client_id h.parent h.handle_key None → copy ≡ id
    → c ≡ record { id = id; row = record { type_name = h.page_type; fields = [] }; next = 0 }
    → changes ≡ record { id = h.parent; row = with_field h.handle_key (Link copy) parent } ∷ []
    → after ≡ replace_edges h server c m (put_all changes m)
    → after ≡ onto_none h server parent m
none_is h server parent m id copy c changes after named copied kept first last =
    last ∙ ap (λ cs. replace_edges h server c m (put_all cs m)) first
    ∙ ap (λ k. replace_edges h server k m (with_record h.parent (with_field h.handle_key (Link copy) parent) m)) kept
    ∙ (λ i. replace_edges h server (record { id = named i; row = record { type_name = h.page_type; fields = [] }; next = 0 }) m (with_record h.parent (with_field h.handle_key (Link ((copied ∙ named) i)) parent) m))
