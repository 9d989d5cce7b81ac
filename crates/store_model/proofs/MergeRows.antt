-- Worked rows at the edges of the merge and of the commands, computed from the definitions.
use Rattle.std.proofs.Common.{◌≡◌, refl, [], ◌∷◌, ◌++◌, Option, Some, None, codes}
use Rattle.std.specs.Prelude.{pos, negsuc, option_and_then}
use Rattle.std.specs.Fmt.{digits}
use Rattle.std.specs.FinMap.{gets}
use Rattle.serde_json.proofs.OnLiterals.{serde_json_on_literals}
use Rattle.store_record.specs.gql_plain.Tree.{text}
use Rattle.store_record.specs.gql_plain.declared.plain.Plain.{Plain}
use Rattle.store_record.specs.gql_plain.declared.plain.Plain.TheVariants.{Null, Int, Text as Words, List as Listed}
use Rattle.store_record.specs.Keys.{Text}
use Rattle.store_record.specs.declared.field.Field.{Field}
use Rattle.store_record.specs.declared.field.Field.TheVariants.{Leaf, Link, Links}
use Rattle.store_record.specs.declared.record.Record.{Record}
use Rattle.store_record.specs.declared.record.Slot.TheVariants.{Deleted}
use Rattle.store_model.specs.Merge.{merge}
use Rattle.store_model.specs.Records.{Records, no_records, with_slot, with_record, live, field_at}
use Rattle.store_model.specs.Updates.{act, act_all}
use Rattle.store_model.specs.declared.command.Command.TheVariants as C
use Rattle.store_model.specs.declared.command.EdgeEdit.{EdgeEdit}
use Rattle.store_model.specs.declared.facts.HandleFact.{HandleFact}

-- ---- the server's page of friends of 4, with the edges a, none, gone and b, of which a and b have no node

abbrev connection : Text
connection = codes "client:4:__K_friends_connection"

abbrev info_id : Text
info_id = connection ++ codes ":pageInfo"

abbrev edge_named : Text → Text
edge_named k = connection ++ codes ":edges:" ++ k

abbrev handle : Plain → Plain → HandleFact
handle after before = record { parent = codes "4"; handle_key = codes "__K_friends_connection"; field_key = codes "friends"; after = after; before = before; page_type = codes "UserConnection"; info_type = codes "PageInfo" }

abbrev edge : Text → Record
edge cursor = record { type_name = codes "UserEdge"; fields = (codes "cursor", Leaf (Words cursor)) ∷ [] }

abbrev with_page : Records → Records
with_page m =
    with_record (codes "c") (record { type_name = codes "UserConnection"; fields = (codes "edges", Links (Some (codes "a") ∷ None ∷ Some (codes "gone") ∷ Some (codes "b") ∷ [])) ∷ [] })
    (with_record (codes "a") (edge (codes "c1"))
    (with_record (codes "b") (edge (codes "c2"))
    (with_slot (codes "gone") Deleted m)))

abbrev server : Records
server = with_page (with_record (codes "4") (record { type_name = codes "User"; fields = (codes "friends", Link (codes "c")) ∷ [] }) no_records)

abbrev edges_after : Records → Option Field
edges_after m = option_and_then (field_at (codes "edges")) (live connection m)

abbrev counter_after : Records → Option Field
counter_after m = option_and_then (field_at (codes "__next")) (live connection m)

abbrev first : Records
first = merge (handle Null Null) server

pub null_and_dead_edges_are_dropped_and_edges_without_a_node_stay : edges_after first ≡ Some (Links (Some (edge_named (codes "0")) ∷ Some (edge_named (codes "1")) ∷ []))
unfolding serde_json_on_literals digits
null_and_dead_edges_are_dropped_and_edges_without_a_node_stay = simp (gets) refl

pub the_counter_rises_by_the_edges_that_are_made : counter_after first ≡ Some (Leaf (Int (pos 2)))
unfolding serde_json_on_literals digits
the_counter_rises_by_the_edges_that_are_made = simp (gets) refl

pub page_information_that_the_server_has_not_is_made_without_fields : live info_id first ≡ Some (record { type_name = codes "PageInfo"; fields = [] })
unfolding serde_json_on_literals digits
page_information_that_the_server_has_not_is_made_without_fields = simp (gets) refl

-- ---- a connection that the client keeps: its counter, its edges, its last cursor

abbrev with_fields : Field → Field → Records
with_fields next last =
    with_page
    (with_record (codes "4") (record { type_name = codes "User"; fields = (codes "__K_friends_connection", Link connection) ∷ (codes "friends", Link (codes "c")) ∷ [] })
    (with_record connection (record { type_name = codes "UserConnection"; fields = (codes "__next", next) ∷ (codes "edges", Links (Some (codes "old") ∷ [])) ∷ (codes "pageInfo", Link (codes "other")) ∷ [] })
    (with_record info_id (record { type_name = codes "PageInfo"; fields = (codes "endCursor", last) ∷ [] })
    (with_record (codes "other") (record { type_name = codes "PageInfo"; fields = (codes "endCursor", Leaf (Words (codes "c9"))) ∷ [] }) no_records))))

pub a_page_that_is_fetched_again_replaces_the_edges : edges_after (merge (handle Null Null) (with_fields (Leaf (Int (pos 7))) (Leaf (Words (codes "c2")))))
    ≡ Some (Links (Some (edge_named (codes "7")) ∷ Some (edge_named (codes "8")) ∷ []))
unfolding serde_json_on_literals digits
a_page_that_is_fetched_again_replaces_the_edges = simp (gets) refl

pub a_page_after_the_last_cursor_goes_last : edges_after (merge (handle (Words (codes "c2")) Null) (with_fields (Leaf (Int (pos 7))) (Leaf (Words (codes "c2")))))
    ≡ Some (Links (Some (codes "old") ∷ Some (edge_named (codes "7")) ∷ Some (edge_named (codes "8")) ∷ []))
unfolding serde_json_on_literals digits
a_page_after_the_last_cursor_goes_last = simp (gets) refl

-- the stored cursor is that of the page information which the client makes, whatever `pageInfo` links to
pub a_foreign_cursor_changes_nothing : merge (handle (Words (codes "c9")) Null) (with_fields (Leaf (Int (pos 7))) (Leaf (Words (codes "c2")))) ≡ with_fields (Leaf (Int (pos 7))) (Leaf (Words (codes "c2")))
unfolding serde_json_on_literals digits
a_foreign_cursor_changes_nothing = simp (gets) refl

pub a_number_is_a_cursor : edges_after (merge (handle (Int (pos 2)) Null) (with_fields (Leaf (Int (pos 7))) (Leaf (Int (pos 2)))))
    ≡ Some (Links (Some (codes "old") ∷ Some (edge_named (codes "7")) ∷ Some (edge_named (codes "8")) ∷ []))
unfolding serde_json_on_literals digits
a_number_is_a_cursor = simp (gets) refl

pub a_number_is_no_text : merge (handle (Int (pos 2)) Null) (with_fields (Leaf (Int (pos 7))) (Leaf (Words (codes "2")))) ≡ with_fields (Leaf (Int (pos 7))) (Leaf (Words (codes "2")))
unfolding serde_json_on_literals digits
a_number_is_no_text = simp (gets) refl

pub a_list_is_a_cursor : edges_after (merge (handle (Listed (text (codes "x") ∷ [])) Null) (with_fields (Leaf (Int (pos 7))) (Leaf (Listed (text (codes "x") ∷ [])))))
    ≡ Some (Links (Some (codes "old") ∷ Some (edge_named (codes "7")) ∷ Some (edge_named (codes "8")) ∷ []))
unfolding serde_json_on_literals digits
a_list_is_a_cursor = simp (gets) refl

-- a link is no cursor, not even where null is asked for beside another
pub a_link_is_no_cursor : merge (handle (Words (codes "c2")) Null) (with_fields (Leaf (Int (pos 7))) (Link (codes "c2"))) ≡ with_fields (Leaf (Int (pos 7))) (Link (codes "c2"))
unfolding serde_json_on_literals digits
a_link_is_no_cursor = simp (gets) refl

pub a_counter_at_its_end_stands_still : counter_after (merge (handle Null Null) (with_fields (Leaf (Int (pos 9223372036854775807))) (Leaf Null))) ≡ Some (Leaf (Int (pos 9223372036854775807)))
unfolding serde_json_on_literals digits
a_counter_at_its_end_stands_still = simp (gets) refl

pub the_last_edge_made_at_the_end_counts : live (edge_named (codes "9223372036854775807")) (merge (handle Null Null) (with_fields (Leaf (Int (pos 9223372036854775807))) (Leaf Null))) ≡ Some (edge (codes "c2"))
unfolding serde_json_on_literals digits
the_last_edge_made_at_the_end_counts = simp (gets) refl

pub a_negative_counter_starts_anew : edges_after (merge (handle Null Null) (with_fields (Leaf (Int (negsuc 0))) (Leaf Null))) ≡ Some (Links (Some (edge_named (codes "0")) ∷ Some (edge_named (codes "1")) ∷ []))
unfolding serde_json_on_literals digits
a_negative_counter_starts_anew = simp (gets) refl

pub a_counter_that_is_a_text_starts_anew : edges_after (merge (handle Null Null) (with_fields (Leaf (Words (codes "7"))) (Leaf Null))) ≡ Some (Links (Some (edge_named (codes "0")) ∷ Some (edge_named (codes "1")) ∷ []))
unfolding serde_json_on_literals digits
a_counter_that_is_a_text_starts_anew = simp (gets) refl

-- ---- commands

abbrev user : Records
user = with_record (codes "4") (record { type_name = codes "User"; fields = (codes "age", Leaf (Int (negsuc 9223372036854775807))) ∷ [] }) (with_slot (codes "8") Deleted no_records)

abbrev edit : EdgeEdit
edit = record { id = codes "4"; key = codes "K_friends"; filters = []; node = codes "5"; edge_type = codes "UserEdge"; cursor = Null }

pub a_deleted_record_is_made_anew : live (codes "8") (act (C.Create (codes "8") (codes "Dog")) user) ≡ Some (record { type_name = codes "Dog"; fields = [] })
a_deleted_record_is_made_anew = simp (gets) refl

pub a_record_that_is_deleted_and_made_again_has_no_fields : live (codes "4") (act_all (C.Delete (codes "4") ∷ C.Create (codes "4") (codes "Dog") ∷ []) user) ≡ Some (record { type_name = codes "Dog"; fields = [] })
a_record_that_is_deleted_and_made_again_has_no_fields = simp (gets) refl

pub a_live_record_is_not_made_again : act (C.Create (codes "4") (codes "Dog")) user ≡ user
a_live_record_is_not_made_again = simp (gets) refl

pub an_absent_record_is_not_deleted : act (C.Delete (codes "9")) user ≡ user
an_absent_record_is_not_deleted = simp (gets) refl

pub nothing_is_set_on_a_deleted_record : act (C.Set (codes "8") (codes "name") [] Null) user ≡ user
nothing_is_set_on_a_deleted_record = simp (gets) refl

pub nothing_is_added_to_a_field_that_is_not_there : live (codes "4") (act (C.Add (codes "4") (codes "size") [] (pos 1)) user) ≡ live (codes "4") user
nothing_is_added_to_a_field_that_is_not_there = simp (gets) refl

pub a_sum_below_the_range_changes_nothing : option_and_then (field_at (codes "age")) (live (codes "4") (act (C.Add (codes "4") (codes "age") [] (negsuc 0)) user)) ≡ Some (Leaf (Int (negsuc 9223372036854775807)))
a_sum_below_the_range_changes_nothing = simp (gets) refl

pub a_link_to_none_is_null : option_and_then (field_at (codes "best")) (live (codes "4") (act (C.Link (codes "4") (codes "best") [] None) user)) ≡ Some (Leaf Null)
a_link_to_none_is_null = simp (gets) refl

pub an_edge_is_not_put_without_a_connection : act (C.AppendNode edit) user ≡ user
an_edge_is_not_put_without_a_connection = simp (gets) refl

pub no_edge_is_taken_out_without_a_connection : act (C.DeleteEdge edit) user ≡ user
no_edge_is_taken_out_without_a_connection = simp (gets) refl
