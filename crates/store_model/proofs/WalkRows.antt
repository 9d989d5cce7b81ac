-- Worked rows of the walks, computed from the definitions.
use Rattle.std.proofs.Common.{◌≡◌, refl, ℕ, zero, suc, List, [], ◌∷◌, Some, None, codes, cond, bytes_eq, true, false}
use Rattle.std.specs.Prelude.{pos}
use Rattle.store_record.specs.gql_plain.declared.plain.Plain.TheVariants.{Null, Int, Text as Words}
use Rattle.store_record.specs.gql_plain.Tree.{null, text, whole, list, object, no_trees, tree, no_members, member}
use Rattle.store_record.specs.Keys.{Text, root}
use Rattle.store_record.specs.declared.field.Field.{Field}
use Rattle.store_record.specs.declared.field.Field.TheVariants.{Leaf, Link, Links}
use Rattle.store_record.specs.declared.record.Slot.{Slot}
use Rattle.store_record.specs.declared.record.Slot.TheVariants.{Deleted, Alive}
use Rattle.store_model.specs.Items.{Below, Form, typename, leaf, one, many, Item, asked, pointed, Collect}
use Rattle.store_model.specs.Reaches.{reach_at}
use Rattle.store_model.specs.Walks.{Slots, read_at}

-- ---- records: me with name and age, two friends of which one is deleted, and a connection of friends

abbrev with_slot : Text → Slot → Slots → Slots
with_slot id s m = λ i. cond (bytes_eq i id) (Some s) (m i)

abbrev row : Text → List (Text × Field) → Slot
row name fields = Alive (record { type_name = name; fields = fields })

abbrev slots : Slots
slots =
    with_slot root (row (codes "__Root") ((codes "me", Link (codes "4")) ∷ []))
    (with_slot (codes "4") (row (codes "User") (
    (codes "__K_friends_connection", Link (codes "h")) ∷ (codes "age", Leaf (Int (pos 5))) ∷ (codes "friends", Links (Some (codes "5") ∷ None ∷ Some (codes "6") ∷ Some (codes "7") ∷ [])) ∷ (codes "name", Leaf (Words (codes "Ann"))) ∷ []))
    (with_slot (codes "5") (row (codes "User") ((codes "name", Leaf Null) ∷ []))
    (with_slot (codes "6") Deleted
    (with_slot (codes "h") (row (codes "UserConnection") [])
    (λ i. None)))))

abbrev type_at : Text → Text
type_at name = cond (bytes_eq name (codes "__Root")) (codes "Query") name

-- ---- parts, by number

abbrev field : Text → Text → Form → ℕ → Item ℕ
field response key form part = asked (record { ask = record { response = response; name = key; arguments = []; connection = None; form = form }; part = part })

abbrev of_type : Text → Below
of_type name = record { types = name ∷ []; identified = name ∷ []; open_type = false }

-- me, with its name, a pointer P and an inline fragment J of the age
abbrev me : Collect ℕ
me object_type zero = field (codes "me") (codes "me") (one (of_type (codes "User"))) 1 ∷ []
me object_type (suc zero) =
    field (codes "name") (codes "name") leaf 0
    ∷ pointed (record { fragment = codes "P"; scope = (codes "size", whole (pos 3)) ∷ []; inline = false; body = 2 })
    ∷ pointed (record { fragment = codes "J"; scope = []; inline = true; body = 2 })
    ∷ []
me object_type (suc (suc k)) = field (codes "age") (codes "age") leaf 0 ∷ []

abbrev query : List Text
query = codes "Query" ∷ []

pub a_read_marks_its_pointers : (read_at me type_at (codes "o") slots 3 query (0 ∷ []) root).0
    ≡ Some (object (member (codes "me") (object (
    member (codes "__fragments") (object (member (codes "J") (object (member (codes "age") (whole (pos 5)) no_members)) (member (codes "P") (object (member (codes "size") (whole (pos 3)) no_members)) no_members)))
    (member (codes "__id") (text (codes "4")) (member (codes "__owner") (text (codes "o")) (member (codes "name") (text (codes "Ann")) no_members))))) no_members))
a_read_marks_its_pointers = refl

pub a_read_stands_at_its_records : (read_at me type_at (codes "o") slots 3 query (0 ∷ []) root).1
    ≡ record {
      missing = false;
      seen = root ∷ codes "4" ∷ codes "4" ∷ [];
      looked = (root, codes "me") ∷ (codes "4", codes "name") ∷ (codes "4", codes "age") ∷ [];
      issued =
          record { fragment = codes "P"; id = codes "4"; scope = (codes "size", whole (pos 3)) ∷ [] }
          ∷ record { fragment = codes "J"; id = codes "4"; scope = [] } ∷ [];
    }
a_read_stands_at_its_records = refl

-- the friends of a user: their type name and their name; the handle key of a connection
abbrev friends : Collect ℕ
friends object_type zero = field (codes "friends") (codes "friends") (many (of_type (codes "User"))) 1 ∷ []
friends object_type (suc k) = field (codes "name") (codes "name") leaf 0 ∷ field (codes "kind") (codes "__typename") typename 0 ∷ []

pub a_missing_element_is_null : (read_at friends type_at (codes "o") slots 2 (codes "User" ∷ []) (0 ∷ []) (codes "4")).0
    ≡ Some (object (member (codes "friends") (list (
    tree (object (member (codes "kind") (text (codes "User")) (member (codes "name") null no_members)))
    (tree null (tree null (tree null no_trees))))) no_members))
a_missing_element_is_null = refl

pub an_absent_record_is_missing : (read_at friends type_at (codes "o") slots 2 (codes "User" ∷ []) (0 ∷ []) (codes "4")).1
    ≡ record {
      missing = true;
      seen = codes "4" ∷ codes "5" ∷ codes "6" ∷ codes "7" ∷ [];
      looked = (codes "4", codes "friends") ∷ (codes "5", codes "name") ∷ [];
      issued = [];
    }
an_absent_record_is_missing = refl

pub a_record_of_another_type_is_missing : read_at friends type_at (codes "o") slots 2 query (0 ∷ []) (codes "4")
    ≡ (None, record { missing = true; seen = codes "4" ∷ []; looked = []; issued = [] })
a_record_of_another_type_is_missing = refl

-- a connection follows its own key and its handle key
abbrev connection_item : Collect ℕ
connection_item object_type k =
    asked (record { ask = record { response = codes "friends"; name = codes "friends"; arguments = []; connection = Some (record { key = codes "K_friends"; filters = None }); form = one (of_type (codes "UserConnection")) }; part = 0 }) ∷ []

pub a_connection_follows_both_its_keys : reach_at connection_item type_at slots 2 (codes "User" ∷ []) (0 ∷ []) (codes "4")
    ≡ codes "4" ∷ codes "5" ∷ codes "6" ∷ codes "7" ∷ codes "h" ∷ []
a_connection_follows_both_its_keys = refl
