-- What a row and a command make of the slot of their id.
use Rattle.std.specs.Prelude.{Bool, true, false, List, [], ◌∷◌, Option, Some, None, option_and_then, unwrap_or}
use Rattle.store_conn.specs.store_record.Equal.{record_eq}
use Rattle.store_conn.specs.store_record.Keys.{Text, field_key}
use Rattle.store_conn.specs.store_record.declared.field.Field.TheVariants.{Leaf, Links}
use Rattle.store_conn.specs.store_record.declared.record.Record.{Record}
use Rattle.store_conn.specs.store_record.declared.record.Slot.{Slot}
use Rattle.store_conn.specs.store_record.declared.record.Slot.TheVariants.{Deleted, Alive}
use Rattle.store_conn.specs.store_model.FactRows.{row_onto}
use Rattle.store_conn.specs.store_model.Records.{Records, alive, with_slot, with_field, record_of}
use Rattle.store_conn.specs.store_model.Updates.{add_to_field, link_or_null}
use Rattle.store_conn.specs.store_model.declared.command.Command.{Command}
use Rattle.store_conn.specs.store_model.declared.command.Command.TheVariants as C
use Rattle.store_conn.specs.store_model.declared.facts.FactRow.{FactRow}
use Rattle.store_update.specs.declared.command.Effect.{Effect}
use Rattle.store_update.specs.declared.command.Effect.TheVariants.{Stays, Deletes, Puts}

-- ---- a slot, None where an id is absent

-- whether two slots are equal
abbrev pub slot_eq : Option Slot → Option Slot → Bool
slot_eq None None = true
slot_eq None (Some s) = false
slot_eq (Some s) None = false
slot_eq (Some Deleted) (Some Deleted) = true
slot_eq (Some Deleted) (Some (Alive s)) = false
slot_eq (Some (Alive r)) (Some Deleted) = false
slot_eq (Some (Alive r)) (Some (Alive s)) = record_eq r s

-- the slot after a change: a new one, or the one before
abbrev pub slot_after : Option Slot → Option Slot → Option Slot
slot_after None before = before
slot_after (Some s) before = Some s

-- the records after a change of the slot of an id
abbrev pub with_change : Text → Option Slot → Records → Records
with_change id None m = m
with_change id (Some s) m = with_slot id s m

-- ---- rows

-- a live record with the row put onto it; an absent or a deleted one starts without fields
abbrev pub slot_by_row : FactRow → Option Slot → Option Slot
slot_by_row row s = Some (Alive (row_onto row (unwrap_or (option_and_then alive s) (record_of []))))

-- ---- commands

-- a live record changed; all else stays
abbrev pub slot_changed : (Record → Record) → Option Slot → Option Slot
slot_changed change None = None
slot_changed change (Some Deleted) = Some Deleted
slot_changed change (Some (Alive r)) = Some (Alive (change r))

-- a live record stays, all else becomes a live record without fields
abbrev pub slot_created : Text → Option Slot → Option Slot
slot_created of None = Some (Alive (record_of of))
slot_created of (Some Deleted) = Some (Alive (record_of of))
slot_created of (Some (Alive r)) = Some (Alive r)

-- a live record becomes deleted; all else stays
abbrev pub slot_deleted : Option Slot → Option Slot
slot_deleted None = None
slot_deleted (Some Deleted) = Some Deleted
slot_deleted (Some (Alive r)) = Some Deleted

-- the commands of edges change no slot of their own id
abbrev pub slot_by_command : Command → Option Slot → Option Slot
slot_by_command (C.Set id field args value) s = slot_changed (with_field (field_key field args) (Leaf value)) s
slot_by_command (C.Add id field args by) s = slot_changed (add_to_field (field_key field args) by) s
slot_by_command (C.Link id field args to) s = slot_changed (with_field (field_key field args) (link_or_null to)) s
slot_by_command (C.Links id field args to) s = slot_changed (with_field (field_key field args) (Links to)) s
slot_by_command (C.Create id of) s = slot_created of s
slot_by_command (C.Delete id) s = slot_deleted s
slot_by_command (C.AppendNode e) s = s
slot_by_command (C.PrependNode e) s = s
slot_by_command (C.DeleteEdge e) s = s

-- commands one after another
abbrev pub slot_by_commands : List Command → Option Slot → Option Slot
slot_by_commands [] s = s
slot_by_commands (c ∷ cs) s = slot_by_commands cs (slot_by_command c s)

-- a live record with what a command asks of it
abbrev pub slot_with : Effect → Record → Slot
slot_with Stays r = Alive r
slot_with Deletes r = Deleted
slot_with (Puts key field) r = Alive (with_field key field r)

-- the id whose slot a command looks at
abbrev pub id_of : Command → Text
id_of (C.Set id field args value) = id
id_of (C.Add id field args by) = id
id_of (C.Link id field args to) = id
id_of (C.Links id field args to) = id
id_of (C.Create id of) = id
id_of (C.Delete id) = id
id_of (C.AppendNode e) = e.id
id_of (C.PrependNode e) = e.id
id_of (C.DeleteEdge e) = e.id
