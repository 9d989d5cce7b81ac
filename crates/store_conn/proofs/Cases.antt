-- Cases of the merge of a page and of an edit, as the code tells them apart.
use Rattle.std.proofs.Common.{◌≡◌, ℕ, ◌+◌, Bool, true, false, ◌&&◌, cond, List, [], codes, length, Option, Some, None, option_map, refl, sym, ap, ◌∙◌}
use Rattle.store_model.specs.store_record.Keys.{Text}
use Rattle.store_model.specs.store_record.declared.record.Record.{Record}
use Rattle.store_model.specs.Entries.{Looks, no_looks, asked_with_page, asked_onto, asked_by_cursor, asked_page, asked_in_connection}
use Rattle.store_model.specs.Merge.{Kept, onto, with_page, kept_connection, onto_client, replace_edges, page_after, page_before, has_cursor, info_id, is_among, is_null, nodes_at, edges_of}
use Rattle.store_model.specs.Records.{Records, live}
use Rattle.store_model.specs.Updates.{edge_inserted, edge_deleted}
use Rattle.store_model.specs.declared.command.EdgeEdit.{EdgeEdit}
use Rattle.store_model.specs.declared.facts.HandleFact.{HandleFact}
use Rattle.store_conn.proofs.Looks.{page_asks, page_asks_both}
use Rattle.store_conn.specs.Connections.{of_server, onto_kept, onto_end, onto_start, onto_old, asked_of_server, asked_onto_old, asked_onto_end, asked_onto_start, edges_asked}
use Rattle.store_conn.specs.Edits.{kept_put, kept_inserted, kept_deleted, kept_asked}
use Rattle.store_conn.specs.Lists.{edges_in}

-- ---- the server's connection

module _ (h : HandleFact) (parent : Record) (m : Records) where
  pub server_found : (o : Option (Text × Record)) (server : Option Record) → server ≡ option_map (λ p. p.1) o → of_server h parent server m ≡ with_page h parent o m
  server_found o server e = ap (λ s. of_server h parent s m) e ∙ at o
    where
      at : (o : Option (Text × Record)) → of_server h parent (option_map (λ p. p.1) o) m ≡ with_page h parent o m
      at None = refl
      at (Some p) = refl

  pub server_asked : (o : Option (Text × Record)) (server : Option Record) → server ≡ option_map (λ p. p.1) o → asked_of_server h parent server m ≡ length (asked_with_page h parent o m).edges
  server_asked o server e = ap (λ s. asked_of_server h parent s m) e ∙ at o
    where
      at : (o : Option (Text × Record)) → asked_of_server h parent (option_map (λ p. p.1) o) m ≡ length (asked_with_page h parent o m).edges
      at None = refl
      at (Some p) = refl

  -- ---- the client's connection

  pub onto_found : (server : Record) (o : Option (Text × Record)) (k : Option Kept) → k ≡ option_map kept_connection o → onto_kept h server parent k m ≡ onto h server parent o m
  onto_found server o k e = ap (λ x. onto_kept h server parent x m) e ∙ at o
    where
      at : (o : Option (Text × Record)) → onto_kept h server parent (option_map kept_connection o) m ≡ onto h server parent o m
      at None = refl
      at (Some c) = refl

  pub edges_found : (server : Record) (o : Option (Text × Record)) (k : Option Kept) → k ≡ option_map kept_connection o → edges_asked h server k m ≡ length (asked_onto h server o m).edges
  edges_found server o k e = ap (λ x. edges_asked h server x m) e ∙ at o
    where
      at : (o : Option (Text × Record)) → edges_asked h server (option_map kept_connection o) m ≡ length (asked_onto h server o m).edges
      at None = refl
      at (Some c) = refl

module _ (e : EdgeEdit) (m : Records) (o : Option (Text × Record)) (k : Option Kept) (found : k ≡ option_map kept_connection o) where
  pub inserted_found : (front : Bool) → kept_inserted front e k m ≡ edge_inserted front e o m
  inserted_found front = ap (λ x. kept_inserted front e x m) found ∙ at o
    where
      at : (o : Option (Text × Record)) → kept_inserted front e (option_map kept_connection o) m ≡ edge_inserted front e o m
      at None = refl
      at (Some c) = refl

  pub deleted_found : kept_deleted e k m ≡ edge_deleted e o m
  deleted_found = ap (λ x. kept_deleted e x m) found ∙ at o
    where
      at : (o : Option (Text × Record)) → kept_deleted e (option_map kept_connection o) m ≡ edge_deleted e o m
      at None = refl
      at (Some c) = refl

  pub asked_found : kept_asked k ≡ length (asked_in_connection o)
  asked_found = ap kept_asked found ∙ at o
    where
      at : (o : Option (Text × Record)) → kept_asked (option_map kept_connection o) ≡ length (asked_in_connection o)
      at None = refl
      at (Some c) = refl

-- ---- the cursors

chosen : {A : Type 0} (b : Bool) (x y : A) → b ≡ true → x ≡ cond b x y
chosen {A} b x y e = sym (ap (λ (t : Bool). cond {A = A} t x y) e)

left : {A : Type 0} (b : Bool) (x y : A) → b ≡ false → y ≡ cond b x y
left {A} b x y e = sym (ap (λ (t : Bool). cond {A = A} t x y) e)

module _ (h : HandleFact) (server : Record) (c : Kept) (m : Records) where
  abbrev ends : Bool
  ends = has_cursor (codes "endCursor") h.after (live (info_id c.id) m)

  abbrev starts : Bool
  starts = has_cursor (codes "startCursor") h.before (live (info_id c.id) m)

  pub client_old : is_null h.before ≡ true → onto_old h server c m ≡ onto_client h server c m
  client_old before = chosen (is_null h.before) (onto_old h server c m) (cond {A = Records} (is_null h.after && starts) (page_before server c m) m) before

  pub client_start : is_null h.before ≡ false → is_null h.after ≡ true → onto_start h server c m ≡ onto_client h server c m
  client_start before after =
      sym (ap (λ (t : Bool). cond {A = Records} (t && starts) (page_before server c m) m) after)
      ∙ left (is_null h.before) (onto_old h server c m) (cond {A = Records} (is_null h.after && starts) (page_before server c m) m) before

  pub client_stays : is_null h.before ≡ false → is_null h.after ≡ false → m ≡ onto_client h server c m
  client_stays before after =
      sym (ap (λ (t : Bool). cond {A = Records} (t && starts) (page_before server c m) m) after)
      ∙ left (is_null h.before) (onto_old h server c m) (cond {A = Records} (is_null h.after && starts) (page_before server c m) m) before

  pub old_replaced : is_null h.after ≡ true → replace_edges h server c m m ≡ onto_old h server c m
  old_replaced after = chosen (is_null h.after) (replace_edges h server c m m) (onto_end h server c m) after

  pub old_ended : is_null h.after ≡ false → onto_end h server c m ≡ onto_old h server c m
  old_ended after = left (is_null h.after) (replace_edges h server c m m) (onto_end h server c m) after

  pub end_taken : ends ≡ true → page_after server c m ≡ onto_end h server c m
  end_taken e = chosen ends (page_after server c m) m e

  pub end_left : ends ≡ false → m ≡ onto_end h server c m
  end_left e = left ends (page_after server c m) m e

  pub start_taken : starts ≡ true → page_before server c m ≡ onto_start h server c m
  start_taken e = chosen starts (page_before server c m) m e

  pub start_left : starts ≡ false → m ≡ onto_start h server c m
  start_left e = left starts (page_before server c m) m e

  -- how much each asks for

  abbrev taken_page : Bool → Looks
  taken_page taken = asked_by_cursor taken (info_id c.id) server c.row

  split : (a : Bool) (x y : Looks) → length (cond {A = Looks} a x y).edges ≡ cond {A = ℕ} a (length x.edges) (length y.edges)
  split true x y = refl
  split false x y = refl

  pub asked_old : is_null h.before ≡ true → edges_asked h server (Some c) m ≡ asked_onto_old h server c m
  asked_old before =
      ap (λ (b : Bool). length (cond {A = Looks} b (cond {A = Looks} (is_null h.after) (asked_page server []) (taken_page ends)) (cond {A = Looks} (is_null h.after) (taken_page starts) no_looks)).edges) before
      ∙ split (is_null h.after) (asked_page server []) (taken_page ends)

  pub asked_start : is_null h.before ≡ false → is_null h.after ≡ true → edges_asked h server (Some c) m ≡ asked_onto_start h server c m
  asked_start before after =
      ap (λ (b : Bool). length (cond {A = Looks} b (cond {A = Looks} (is_null h.after) (asked_page server []) (taken_page ends)) (cond {A = Looks} (is_null h.after) (taken_page starts) no_looks)).edges) before
      ∙ ap (λ (a : Bool). length (cond {A = Looks} a (taken_page starts) no_looks).edges) after

  pub asked_replaced : is_null h.after ≡ true → asked_onto_old h server c m ≡ edges_in server
  asked_replaced after = ap (λ (a : Bool). cond {A = ℕ} a (length (asked_page server []).edges) (asked_onto_end h server c m)) after ∙ page_asks server

  pub asked_ended : is_null h.after ≡ false → asked_onto_old h server c m ≡ asked_onto_end h server c m
  asked_ended after = ap (λ (a : Bool). cond {A = ℕ} a (length (asked_page server []).edges) (asked_onto_end h server c m)) after

  pub asked_after : ends ≡ true → asked_onto_end h server c m ≡ edges_in server + edges_in c.row
  asked_after e = ap (λ b. length (taken_page b).edges) e ∙ page_asks_both server c.row

  pub asked_before : starts ≡ true → asked_onto_start h server c m ≡ edges_in server + edges_in c.row
  asked_before e = ap (λ b. length (taken_page b).edges) e ∙ page_asks_both server c.row

-- ---- edits of a connection

module _ (e : EdgeEdit) (c : Kept) (m : Records) (front : Bool) where
  abbrev is_there : Bool
  is_there = is_among (nodes_at m (edges_of c.row)) (Some e.node)

  pub inserted_stays : is_there ≡ true → m ≡ kept_inserted front e (Some c) m
  inserted_stays there = chosen is_there m (kept_put front e c m) there

  pub inserted_put : is_there ≡ false → kept_put front e c m ≡ kept_inserted front e (Some c) m
  inserted_put there = left is_there m (kept_put front e c m) there
