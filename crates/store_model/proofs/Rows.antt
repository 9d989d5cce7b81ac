-- Worked rows of the connection merge, the commands and entries, computed from the definitions.
use Rattle.std.proofs.Common.{◌≡◌, refl, List, [], ◌∷◌, ◌++◌, Option, Some, None, codes, true, false}
use Rattle.std.specs.Prelude.{pos, negsuc, option_and_then}
use Rattle.std.specs.Fmt.{digits}
use Rattle.std.specs.FinMap.{gets}
use Rattle.serde_json.proofs.OnLiterals.{serde_json_on_literals}
use Rattle.store_record.specs.gql_plain.declared.plain.Plain.{Plain}
use Rattle.store_record.specs.gql_plain.declared.plain.Plain.TheVariants.{Null, Bool as Truth, Int, Text as Words}
use Rattle.store_record.specs.gql_plain.Tree.{Tree, null, whole}
use Rattle.store_record.specs.Keys.{Text, handle_key, field_key, client_id}
use Rattle.store_record.specs.declared.field.Field.{Field}
use Rattle.store_record.specs.declared.field.Field.TheVariants.{Leaf, Link, Links}
use Rattle.store_record.specs.declared.record.Record.{Record}
use Rattle.store_record.specs.declared.record.Slot.TheVariants.{Deleted, Alive}
use Rattle.store_model.specs.Entries.{apply, fold_entries, looks, weight}
use Rattle.store_model.specs.Leads.{leads_along, lives_of}
use Rattle.store_model.specs.Merge.{merge}
use Rattle.store_model.specs.Records.{Records, no_records, with_record, slot_at, live, field_at}
use Rattle.store_model.specs.Updates.{act, act_all}
use Rattle.store_model.specs.declared.command.Command.{Command}
use Rattle.store_model.specs.declared.command.Command.TheVariants as C
use Rattle.store_model.specs.declared.command.EdgeEdit.{EdgeEdit}
use Rattle.store_model.specs.declared.entry.Entry.{Entry}
use Rattle.store_model.specs.declared.facts.Fact.{Fact}
use Rattle.store_model.specs.declared.facts.HandleFact.{HandleFact}

abbrev null_tree : Tree
null_tree = null

abbrev two : Tree
two = whole (pos 2)

-- ---- records

abbrev user : Text → Record
user name = record { type_name = codes "User"; fields = (codes "name", Leaf (Words name)) ∷ [] }

abbrev edge : Text → Text → Record
edge cursor node = record { type_name = codes "UserEdge"; fields = (codes "cursor", Leaf (Words cursor)) ∷ (codes "node", Link node) ∷ [] }

abbrev info : Text → Record
info last = record { type_name = codes "PageInfo"; fields = (codes "endCursor", Leaf (Words last)) ∷ (codes "hasNextPage", Leaf (Truth true)) ∷ [] }

abbrev page : Text → List (Option Text) → Record
page info_id edges = record { type_name = codes "UserConnection"; fields = (codes "edges", Links edges) ∷ (codes "pageInfo", Link info_id) ∷ [] }

-- the server's first page: friends 5 and 6 of 4
abbrev first_page : Records
first_page =
    with_record (codes "4") (record { type_name = codes "User"; fields = (codes "friends", Link (codes "c")) ∷ [] })
    (with_record (codes "c") (page (codes "i") (Some (codes "a") ∷ Some (codes "b") ∷ []))
    (with_record (codes "a") (edge (codes "c1") (codes "5"))
    (with_record (codes "b") (edge (codes "c2") (codes "6"))
    (with_record (codes "i") (info (codes "c2")) no_records))))

abbrev handle : Plain → Plain → Text → HandleFact
handle after before key = record { parent = codes "4"; handle_key = codes "__K_friends_connection"; field_key = key; after = after; before = before; page_type = codes "UserConnection"; info_type = codes "PageInfo" }

abbrev connection : Text
connection = codes "client:4:__K_friends_connection"

abbrev edge_named : Text → Text
edge_named k = connection ++ codes ":edges:" ++ k

abbrev edges_after : Records → Option Field
edges_after m = option_and_then (field_at (codes "edges")) (live connection m)

abbrev once : Records
once = merge (handle Null Null (codes "friends")) first_page

pub the_first_page_is_taken_whole : live connection once
    ≡ Some (record {
      type_name = codes "UserConnection";
      fields =
          (codes "__next", Leaf (Int (pos 2)))
          ∷ (codes "edges", Links (Some (edge_named (codes "0")) ∷ Some (edge_named (codes "1")) ∷ []))
          ∷ (codes "pageInfo", Link (connection ++ codes ":pageInfo")) ∷ [];
    })
unfolding serde_json_on_literals digits
the_first_page_is_taken_whole = simp (gets) refl

pub an_edge_is_a_record_of_its_own : live (edge_named (codes "1")) once ≡ Some (edge (codes "c2") (codes "6"))
unfolding serde_json_on_literals digits
an_edge_is_a_record_of_its_own = simp (gets) refl

pub the_page_information_is_a_record_of_its_own : live (connection ++ codes ":pageInfo") once ≡ Some (info (codes "c2"))
unfolding serde_json_on_literals digits
the_page_information_is_a_record_of_its_own = simp (gets) refl

-- the next page, after c2: friends 6 and 7
abbrev second_page : Records
second_page =
    with_record (codes "4") (record {
      type_name = codes "User";
      fields =
          (codes "__K_friends_connection", Link connection) ∷ (codes "friends", Link (codes "c")) ∷ (codes "more", Link (codes "d")) ∷ [];
    })
    (with_record (codes "d") (page (codes "j") (Some (codes "e") ∷ Some (codes "f") ∷ None ∷ Some (codes "gone") ∷ []))
    (with_record (codes "e") (edge (codes "c3") (codes "6"))
    (with_record (codes "f") (edge (codes "c4") (codes "7"))
    (with_record (codes "j") (info (codes "c4")) once))))

abbrev twice : Records
twice = merge (handle (Words (codes "c2")) Null (codes "more")) second_page

pub the_next_page_follows_without_a_double_node : edges_after twice
    ≡ Some (Links (Some (edge_named (codes "0")) ∷ Some (edge_named (codes "1")) ∷ Some (edge_named (codes "2")) ∷ []))
unfolding serde_json_on_literals digits
the_next_page_follows_without_a_double_node = simp (gets) refl

pub the_new_edge_is_of_the_new_node : live (edge_named (codes "2")) twice ≡ Some (edge (codes "c4") (codes "7"))
unfolding serde_json_on_literals digits
the_new_edge_is_of_the_new_node = simp (gets) refl

pub a_page_that_does_not_fit_changes_nothing : merge (handle (Words (codes "c9")) Null (codes "more")) second_page ≡ second_page
unfolding serde_json_on_literals digits
a_page_that_does_not_fit_changes_nothing = simp (gets) refl

pub a_page_under_no_live_parent_changes_nothing : merge (handle Null Null (codes "friends")) no_records ≡ no_records
unfolding serde_json_on_literals digits
a_page_under_no_live_parent_changes_nothing = simp (gets) refl

pub without_a_connection_of_the_server_the_handle_is_null :
    option_and_then (field_at (codes "__K_friends_connection")) (live (codes "4") (merge (handle Null Null (codes "other")) first_page)) ≡ Some (Leaf Null)
unfolding serde_json_on_literals digits
without_a_connection_of_the_server_the_handle_is_null = simp (gets) refl

-- ---- a page before

-- the client's connection with a first cursor, and an older page of the server: friends 7 and 5
abbrev first_cursor : Record
first_cursor = record {
  type_name = codes "PageInfo";
  fields =
      (codes "endCursor", Leaf (Words (codes "c2"))) ∷ (codes "hasPreviousPage", Leaf (Truth true)) ∷ (codes "startCursor", Leaf (Words (codes "c1"))) ∷ [];
}

abbrev older_info : Record
older_info = record {
  type_name = codes "PageInfo";
  fields =
      (codes "endCursor", Leaf (Words (codes "c8"))) ∷ (codes "hasPreviousPage", Leaf (Truth false)) ∷ (codes "startCursor", Leaf (Words (codes "c0"))) ∷ [];
}

abbrev older_page : Records
older_page =
    with_record (codes "4") (record {
      type_name = codes "User";
      fields =
          (codes "__K_friends_connection", Link connection) ∷ (codes "friends", Link (codes "c")) ∷ (codes "older", Link (codes "d")) ∷ [];
    })
    (with_record (connection ++ codes ":pageInfo") first_cursor
    (with_record (codes "d") (page (codes "j") (None ∷ Some (codes "e") ∷ Some (codes "gone") ∷ Some (codes "f") ∷ []))
    (with_record (codes "e") (edge (codes "c0") (codes "7"))
    (with_record (codes "f") (edge (codes "c8") (codes "5"))
    (with_record (codes "j") older_info once)))))

abbrev before_once : Records
before_once = merge (handle Null (Words (codes "c1")) (codes "older")) older_page

-- the old edge of friend 5 is left out; null and dead edges of the page are dropped
pub a_page_before_goes_first : edges_after before_once
    ≡ Some (Links (Some (edge_named (codes "2")) ∷ Some (edge_named (codes "3")) ∷ Some (edge_named (codes "1")) ∷ []))
unfolding serde_json_on_literals digits
a_page_before_goes_first = simp (gets) refl

pub an_old_edge_that_is_left_out_stays_a_record : live (edge_named (codes "0")) before_once ≡ Some (edge (codes "c1") (codes "5"))
unfolding serde_json_on_literals digits
an_old_edge_that_is_left_out_stays_a_record = simp (gets) refl

pub a_page_before_gives_the_first_cursor_alone : live (connection ++ codes ":pageInfo") before_once
    ≡ Some (record {
      type_name = codes "PageInfo";
      fields =
          (codes "endCursor", Leaf (Words (codes "c2"))) ∷ (codes "hasPreviousPage", Leaf (Truth false)) ∷ (codes "startCursor", Leaf (Words (codes "c0"))) ∷ [];
    })
unfolding serde_json_on_literals digits
a_page_before_gives_the_first_cursor_alone = simp (gets) refl

pub a_page_between_changes_nothing : merge (handle (Words (codes "c2")) (Words (codes "c1")) (codes "older")) older_page ≡ older_page
unfolding serde_json_on_literals digits
a_page_between_changes_nothing = simp (gets) refl

-- without cursors the page takes the place of the list, and the counter goes on
pub a_page_without_cursors_replaces : edges_after (merge (handle Null Null (codes "older")) older_page)
    ≡ Some (Links (Some (edge_named (codes "2")) ∷ Some (edge_named (codes "3")) ∷ []))
unfolding serde_json_on_literals digits
a_page_without_cursors_replaces = simp (gets) refl

-- ---- edges by command

abbrev edit : Text → EdgeEdit
edit node = record { id = codes "4"; key = codes "K_friends"; filters = []; node = node; edge_type = codes "UserEdge"; cursor = Null }

pub a_node_goes_first : edges_after (act (C.PrependNode (edit (codes "7"))) once)
    ≡ Some (Links (Some (edge_named (codes "2")) ∷ Some (edge_named (codes "0")) ∷ Some (edge_named (codes "1")) ∷ []))
unfolding serde_json_on_literals digits
a_node_goes_first = simp (gets) refl

pub a_node_that_is_there_is_not_put_again : act (C.AppendNode (edit (codes "5"))) once ≡ once
unfolding serde_json_on_literals digits
a_node_that_is_there_is_not_put_again = simp (gets) refl

pub the_edges_of_a_node_are_taken_out : edges_after (act (C.DeleteEdge (edit (codes "5"))) once) ≡ Some (Links (Some (edge_named (codes "1")) ∷ []))
unfolding serde_json_on_literals digits
the_edges_of_a_node_are_taken_out = simp (gets) refl

pub an_edge_that_is_taken_out_stays_a_record : live (edge_named (codes "0")) (act (C.DeleteEdge (edit (codes "5"))) once) ≡ Some (edge (codes "c1") (codes "5"))
unfolding serde_json_on_literals digits
an_edge_that_is_taken_out_stays_a_record = simp (gets) refl

-- a connection whose edges are no list
abbrev without_list : Records
without_list =
    with_record (codes "4") (record { type_name = codes "User"; fields = (codes "__K_friends_connection", Link connection) ∷ [] })
    (with_record connection (record { type_name = codes "UserConnection"; fields = (codes "edges", Leaf Null) ∷ [] }) no_records)

pub no_edge_is_taken_out_of_no_list : edges_after (act (C.DeleteEdge (edit (codes "5"))) without_list) ≡ Some (Leaf Null)
unfolding serde_json_on_literals digits
no_edge_is_taken_out_of_no_list = simp (gets) refl

pub a_list_that_is_not_there_is_not_made : edges_after (act (C.DeleteEdge (edit (codes "5"))) (with_record connection (record { type_name = codes "UserConnection"; fields = [] }) without_list)) ≡ None
unfolding serde_json_on_literals digits
a_list_that_is_not_there_is_not_made = simp (gets) refl

pub an_edge_makes_a_list : edges_after (act (C.AppendNode (edit (codes "5"))) without_list) ≡ Some (Links (Some (edge_named (codes "0")) ∷ []))
unfolding serde_json_on_literals digits
an_edge_makes_a_list = simp (gets) refl

-- ---- other commands

abbrev with_age : Plain → Records
with_age age = with_record (codes "4") (record { type_name = codes "User"; fields = (codes "age", Leaf age) ∷ [] }) no_records

abbrev age_of : Records → Option Field
age_of m = option_and_then (field_at (codes "age")) (live (codes "4") m)

pub a_sum_beyond_the_range_changes_nothing : age_of (act (C.Add (codes "4") (codes "age") [] (pos 1)) (with_age (Int (pos 9223372036854775807)))) ≡ Some (Leaf (Int (pos 9223372036854775807)))
a_sum_beyond_the_range_changes_nothing = simp (gets) refl

pub a_sum_within_the_range_is_taken : age_of (act (C.Add (codes "4") (codes "age") [] (negsuc 0)) (with_age (Int (pos 9223372036854775807)))) ≡ Some (Leaf (Int (pos 9223372036854775806)))
a_sum_within_the_range_is_taken = simp (gets) refl

pub a_number_is_added_to_numbers_alone : age_of (act (C.Add (codes "4") (codes "age") [] (pos 1)) (with_age Null)) ≡ Some (Leaf Null)
a_number_is_added_to_numbers_alone = simp (gets) refl

-- the layers of a friend who is made, linked and named
abbrev created_friend : Records
created_friend = act_all (C.Create (codes "t1") (codes "User") ∷ C.Link (codes "4") (codes "friend") [] (Some (codes "t1")) ∷ C.Set (codes "t1") (codes "name") [] (Words (codes "Bo")) ∷ []) (with_age Null)

pub a_created_record_is_linked_and_named : live (codes "t1") created_friend ≡ Some (user (codes "Bo"))
a_created_record_is_linked_and_named = simp (gets) refl

abbrev linked_friend : Records
linked_friend = act_all (C.Link (codes "4") (codes "friend") [] (Some (codes "t1")) ∷ C.Set (codes "t1") (codes "name") [] (Words (codes "Bo")) ∷ []) (with_age Null)

pub a_record_that_is_not_made_is_not_named : slot_at (codes "t1") linked_friend ≡ None
a_record_that_is_not_made_is_not_named = simp (gets) refl

pub a_link_to_no_record_is_kept : option_and_then (field_at (codes "friend")) (live (codes "4") linked_friend) ≡ Some (Link (codes "t1"))
a_link_to_no_record_is_kept = simp (gets) refl

pub a_deleted_record_stays_as_deleted : slot_at (codes "4") (act (C.Delete (codes "4")) (with_age Null)) ≡ Some Deleted
a_deleted_record_stays_as_deleted = simp (gets) refl

pub links_keep_their_nulls : option_and_then (field_at (codes "friends")) (live (codes "4") (act (C.Links (codes "4") (codes "friends") [] (Some (codes "5") ∷ None ∷ Some (codes "5") ∷ [])) (with_age Null)))
    ≡ Some (Links (Some (codes "5") ∷ None ∷ Some (codes "5") ∷ []))
links_keep_their_nulls = simp (gets) refl

-- ---- layers: each is an entry, applied in order of start; a revert leaves its entry out

abbrev layer : Command → Entry
layer c = record { facts = record { facts = []; handles = [] }; commands = c ∷ [] }

abbrev make_entry : Entry
make_entry = layer (C.Create (codes "t1") (codes "User"))

abbrev befriend_entry : Entry
befriend_entry = layer (C.Link (codes "4") (codes "friend") [] (Some (codes "t1")))

abbrev name_entry : Entry
name_entry = layer (C.Set (codes "t1") (codes "name") [] (Words (codes "Bo")))

abbrev friendless : Records
friendless = with_record (codes "4") (record { type_name = codes "User"; fields = (codes "friend", Leaf Null) ∷ [] }) no_records

abbrev friend_of : Records → Option Field
friend_of m = option_and_then (field_at (codes "friend")) (live (codes "4") m)

pub a_layer_sees_those_before_it : live (codes "t1") (fold_entries (make_entry ∷ befriend_entry ∷ name_entry ∷ []) friendless) ≡ Some (user (codes "Bo"))
a_layer_sees_those_before_it = simp (gets) refl

pub live_layers_are_linked : friend_of (fold_entries (make_entry ∷ befriend_entry ∷ name_entry ∷ []) friendless) ≡ Some (Link (codes "t1"))
live_layers_are_linked = simp (gets) refl

pub a_reverted_link_leaves_what_was_confirmed : friend_of (fold_entries (make_entry ∷ name_entry ∷ []) friendless) ≡ Some (Leaf Null)
a_reverted_link_leaves_what_was_confirmed = simp (gets) refl

pub a_reverted_record_is_not_there_for_later_layers : slot_at (codes "t1") (fold_entries (name_entry ∷ []) friendless) ≡ None
a_reverted_record_is_not_there_for_later_layers = simp (gets) refl

-- ---- entries: a record that was taken away comes back with the new fields alone

abbrev fact : Text → Text → Field → Fact
fact id key value = record { id = id; key = key; value = value }

abbrev pay_entry : Entry
pay_entry = record { facts = record { facts = fact (codes "9") (codes "__typename") (Leaf (Words (codes "User"))) ∷ []; handles = [] }; commands = [] }

pub a_record_that_comes_back_has_its_new_fields_alone : live (codes "9") (apply pay_entry (with_age Null)) ≡ Some (record { type_name = codes "User"; fields = [] })
a_record_that_comes_back_has_its_new_fields_alone = simp (gets) refl

pub a_live_record_keeps_its_fields : live (codes "4") (apply (record { facts = record { facts = fact (codes "4") (codes "__typename") (Leaf (Words (codes "Person"))) ∷ []; handles = [] }; commands = [] }) (with_age Null))
    ≡ Some (record { type_name = codes "Person"; fields = (codes "age", Leaf Null) ∷ [] })
a_live_record_keeps_its_fields = simp (gets) refl

pub an_entry_weighs_its_facts_and_what_they_ask_for : weight pay_entry no_records ≡ 2
an_entry_weighs_its_facts_and_what_they_ask_for = refl

-- ---- what a page asks for: no edge that is null, each other edge whether it is live or not

abbrev page_entry : HandleFact → Entry
page_entry h = record { facts = record { facts = []; handles = h ∷ [] }; commands = [] }

pub a_first_page_asks_for_the_servers_records : looks (page_entry (handle Null Null (codes "friends"))) first_page
    ≡ codes "4" ∷ codes "c" ∷ codes "i" ∷ codes "a" ∷ codes "b" ∷ []
unfolding serde_json_on_literals digits
a_first_page_asks_for_the_servers_records = simp (gets) refl

pub a_first_page_weighs_as_much : weight (page_entry (handle Null Null (codes "friends"))) first_page ≡ 6
unfolding serde_json_on_literals digits
a_first_page_weighs_as_much = simp (gets) refl

pub a_page_before_asks_for_the_old_edges_too : looks (page_entry (handle Null (Words (codes "c1")) (codes "older"))) older_page
    ≡ codes "4" ∷ codes "d" ∷ connection ∷ (connection ++ codes ":pageInfo") ∷ codes "j" ∷ codes "e" ∷ codes "gone" ∷ codes "f"
    ∷ edge_named (codes "0") ∷ edge_named (codes "1") ∷ []
unfolding serde_json_on_literals digits
a_page_before_asks_for_the_old_edges_too = simp (gets) refl

pub a_page_that_does_not_fit_asks_for_the_stored_cursor : looks (page_entry (handle Null (Words (codes "c9")) (codes "older"))) older_page
    ≡ codes "4" ∷ codes "d" ∷ connection ∷ (connection ++ codes ":pageInfo") ∷ []
unfolding serde_json_on_literals digits
a_page_that_does_not_fit_asks_for_the_stored_cursor = simp (gets) refl

-- a record that is the server's connection and the client's at once counts once, an edge as often as it stands in the list
abbrev self_linked : Records
self_linked =
    with_record (codes "4") (record { type_name = codes "User"; fields = (codes "__K_friends_connection", Link (codes "4")) ∷ (codes "edges", Links (Some (codes "a") ∷ None ∷ Some (codes "a") ∷ [])) ∷ (codes "friends", Link (codes "4")) ∷ [] })
    no_records

pub an_id_that_is_asked_for_twice_counts_once : weight (page_entry (handle Null Null (codes "friends"))) self_linked ≡ 4
unfolding serde_json_on_literals digits
an_id_that_is_asked_for_twice_counts_once = simp (gets) refl

pub each_command_counts_its_ids : weight (record { facts = record { facts = []; handles = [] }; commands = C.Delete (codes "4") ∷ C.Delete (codes "4") ∷ [] }) no_records ≡ 4
each_command_counts_its_ids = refl

pub ids_lead_along_links : leads_along (lives_of ((codes "4", Alive (record { type_name = codes "User"; fields = (codes "friend", Link (codes "9")) ∷ [] })) ∷ (codes "8", Alive (user (codes "Al"))) ∷ [])) (codes "4" ∷ [])
    ≡ codes "4" ∷ codes "client:4:pageInfo" ∷ codes "client:4:pageInfo" ∷ codes "9" ∷ codes "client:9:pageInfo" ∷ []
unfolding serde_json_on_literals digits
ids_lead_along_links = refl

-- ---- keys

pub a_key_leaves_out_null_arguments : field_key (codes "team") ((codes "size", null_tree) ∷ []) ≡ codes "team"
a_key_leaves_out_null_arguments = refl

pub a_key_has_its_arguments : field_key (codes "team") ((codes "size", two) ∷ []) ≡ codes "team(size:2)"
unfolding serde_json_on_literals digits
a_key_has_its_arguments = refl

pub a_handle_key_leaves_out_the_paging : handle_key (codes "K_friends") None ((codes "after", two) ∷ (codes "first", two) ∷ []) ≡ codes "__K_friends_connection"
a_handle_key_leaves_out_the_paging = refl

pub a_generated_id_has_the_place_in_a_list : client_id (codes "4") (codes "tags") (Some 0) ≡ codes "client:4:tags:0"
unfolding serde_json_on_literals digits
a_generated_id_has_the_place_in_a_list = refl
