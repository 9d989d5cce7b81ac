-- Rows that are put: a connection, and the edges that are made for it.
use Rattle.std.proofs.Common.{◌≡◌, ◌≢◌, ℕ, ◌+◌, ◌-◌, ◌^◌, ◌≤◌, min, pos, codes, Bool, Option, List, [], ◌∷◌, ◌++◌, length, Some, refl, sym, ap, ◌∙◌, append_assoc, arith}
use Rattle.store_model.specs.gql_plain.declared.plain.Plain.TheVariants.{Int}
use Rattle.store_model.specs.store_record.Keys.{Text}
use Rattle.store_model.specs.store_record.declared.field.Field.TheVariants.{Leaf}
use Rattle.store_model.specs.store_record.declared.record.Record.{Record}
use Rattle.store_model.specs.Merge.{Kept, edges_of, edge_id, edge_ids, next_edge, make_edges, counter_after, with_counter}
use Rattle.store_model.specs.Records.{Records, with_field, with_record}
use Rattle.store_conn.specs.Changes.{put_all, edge_changes, edge_ids_of}
use Rattle.store_conn.specs.Connections.{IsMade, put_connection}
use Rattle.store_model.specs.Updates.{edge_of, with_edge}
use Rattle.store_model.specs.declared.command.EdgeEdit.{EdgeEdit}
use Rattle.store_conn.specs.Edits.{row_with_list, row_with_edge}
use Rattle.store_conn.specs.declared.changes.Change.{Change}
use Rattle.store_conn.specs.declared.made.Made.{Made}

pub put_append : (xs ys : List Change) (m : Records) → put_all (xs ++ ys) m ≡ put_all ys (put_all xs m)
put_append [] ys m = refl
put_append (x ∷ xs) ys m = put_append xs ys (with_record x.id x.row m)

edges_put : (connection : Text) (k : ℕ) (es : List Record) (m : Records) → put_all (edge_changes connection k es) m ≡ make_edges connection k es m
edges_put connection k [] m = refl
edges_put connection k (e ∷ es) m = edges_put connection (next_edge k) es (with_record (edge_id connection k) e m)

pub ids_made : (connection : Text) (k : ℕ) (es : List Record) → edge_ids_of (edge_changes connection k es) ≡ edge_ids connection k es
ids_made connection k [] = refl
ids_made connection k (e ∷ es) = ap (λ ids. Some (edge_id connection k) ∷ ids) (ids_made connection (next_edge k) es)

-- a connection is put with its new edges
pub connection_put : (c : Kept) (row : Record) (new : List Record) (made : Made) (before after : List Change) (m : Records) → IsMade c new made
    → after ≡ before ++ record { id = c.id; row = row } ∷ made.edges.items → put_all after m ≡ put_connection c row new (put_all before m)
connection_put c row new made before after m is grown =
    let change : Change = record { id = c.id; row = row } in
    ap (λ cs. put_all cs m) (grown ∙ ap (λ cs. before ++ change ∷ cs) is.edges)
    ∙ put_append before (change ∷ edge_changes c.id c.next new) m
    ∙ edges_put c.id c.next new (with_record c.id row (put_all before m))

-- a change, and then others, at the end
pub connection_pushed : (before middle after edges : List Change) (change : Change) (id made_id : Text) (row : Record) → made_id ≡ id → change ≡ record { id = made_id; row = row }
    → middle ≡ before ++ change ∷ [] → after ≡ middle ++ edges → after ≡ before ++ record { id = id; row = row } ∷ edges
connection_pushed before middle after edges change id made_id row named is first second =
    second ∙ ap (λ cs. cs ++ edges) first ∙ append_assoc before (change ∷ []) edges
    ∙ ap (λ ch. before ++ ch ∷ edges) is ∙ ap (λ (i : Text). before ++ record { id = i; row = row } ∷ edges) named

-- a connection with an edge more, and the edge
pub edge_pushed : (c : Kept) (e : EdgeEdit) (front : Bool) (first second : Change) (none one two : List Change) (id own_id : Text) (edges list : List (Option Text)) (row edge : Record)
    → id ≡ edge_id c.id c.next → edges ≡ edges_of c.row → list ≡ with_edge front edges id → row ≡ row_with_list c list → edge ≡ edge_of e → own_id ≡ c.id
    → first ≡ record { id = own_id; row = row } → second ≡ record { id = id; row = edge } → none ≡ [] → one ≡ none ++ first ∷ [] → two ≡ one ++ second ∷ []
    → two ≡ record { id = c.id; row = row_with_edge front c } ∷ record { id = edge_id c.id c.next; row = edge_of e } ∷ []
edge_pushed c e front first second none one two id own_id edges list row edge named same listed rowed edged owned is_first is_second begun put_one put_two =
    let whole = rowed ∙ ap (row_with_list c) (listed ∙ (λ i. with_edge front (same i) (named i))) in
    let right = is_first ∙ (λ i. record { id = owned i; row = whole i }) in
    let last = is_second ∙ (λ i. record { id = named i; row = edged i }) in
    put_two ∙ ap (λ cs. cs ++ second ∷ []) (put_one ∙ ap (λ cs. cs ++ first ∷ []) begun) ∙ (λ i. right i ∷ last i ∷ [])

-- ---- the counter

after_is_small : (k : ℕ) (es : List Record) → k ≤ 2 ^ 63 - 1 → counter_after k es ≤ 2 ^ 63 - 1
after_is_small k [] small = small
after_is_small k (e ∷ es) small = after_is_small (next_edge k) es (omega arith)

counter_is_small : (k : ℕ) (e : Record) (es : List Record) → counter_after k (e ∷ es) ≤ 2 ^ 63 - 1
counter_is_small k e es = after_is_small (next_edge k) es (omega arith)

-- where no edge was made no counter is written
pub counter_stays : (c : Kept) (new : List Record) (made : Made) (row : Record) → IsMade c new made → length made.edges.items ≡ 0 → row ≡ with_counter c.next new row
counter_stays c [] made row is none = refl
counter_stays c (e ∷ es) made row is none = absurd (omega (arith, ap length is.edges, none))

pub counter_written : (c : Kept) (new : List Record) (made : Made) (row after : Record) → IsMade c new made → length made.edges.items ≢ 0
    → (made.next ≤ 2 ^ 63 - 1 → after ≡ with_field (codes "__next") (Leaf (Int (pos made.next))) row) → after ≡ with_counter c.next new row
counter_written c [] made row after is some written = absurd (some (ap length is.edges))
counter_written c (e ∷ es) made row after is some written =
    let small : counter_after c.next (e ∷ es) ≤ 2 ^ 63 - 1 = counter_is_small c.next e es in
    let within : made.next ≤ 2 ^ 63 - 1 = omega (arith, small, is.next) in
    written within ∙ ap (λ n. with_field (codes "__next") (Leaf (Int (pos n))) row) is.next
