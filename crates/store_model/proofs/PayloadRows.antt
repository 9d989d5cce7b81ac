-- Worked payloads, computed from the definitions.
use Rattle.std.proofs.Common.{◌≡◌, refl, ℕ, zero, suc, List, [], ◌∷◌, Some, None, codes, true, false}
use Rattle.std.specs.Fmt.{digits}
use Rattle.std.specs.Prelude.{pos}
use Rattle.store_record.specs.gql_plain.Tree.{text, whole}
use Rattle.store_record.specs.gql_plain.declared.plain.Plain.TheVariants.{Null, Int, Text as Words}
use Rattle.serde_json.proofs.OnLiterals.{serde_json_on_literals}
use Rattle.serde_json.specs.Data.{unsigned, Data, null as nothing, number, string, array, object, no_items, item, Members, no_members, member}
use Rattle.store_record.specs.Keys.{Text, root}
use Rattle.store_record.specs.declared.field.Field.{Field}
use Rattle.store_record.specs.declared.field.Field.TheVariants.{Leaf, Link, Links}
use Rattle.store_model.specs.Items.{Below, Form, typename, leaf, one, many, Item, asked, Collect}
use Rattle.store_model.specs.Verdicts.{Verdict, refusal, content, says}
use Rattle.store_model.specs.declared.facts.Fact.{Fact}
use Rattle.store_model.specs.declared.payload_fault.Cause.{Cause}
use Rattle.store_model.specs.declared.payload_fault.Cause.TheVariants.{NoData, Shape, NotWhole, IdShape, ReservedId, Typename, Conflict}
use Rattle.store_model.specs.declared.payload_fault.PathStep.{PathStep}
use Rattle.store_model.specs.declared.payload_fault.PathStep.TheVariants.{Key, Index}

-- ---- what is asked, by number: me with id, name and age, and three lists of friends

abbrev ask : Text → Text → Form → ℕ → Item ℕ
ask response name form part = asked (record { ask = record { response = response; name = name; arguments = []; connection = None; form = form }; part = part })

abbrev of_users : Below
of_users = record { types = codes "User" ∷ []; identified = codes "User" ∷ []; open_type = false }

abbrev of_pages : Below
of_pages = record { types = codes "UserConnection" ∷ []; identified = []; open_type = false }

abbrev of_nodes : Below
of_nodes = record { types = codes "Dog" ∷ codes "Horse" ∷ codes "User" ∷ []; identified = codes "Horse" ∷ codes "User" ∷ []; open_type = true }

abbrev page_item : Item ℕ
page_item = asked (record { ask = record { response = codes "page"; name = codes "friends"; arguments = (codes "after", text (codes "c1")) ∷ (codes "first", whole (pos 2)) ∷ []; connection = Some (record { key = codes "K_friends"; filters = None }); form = one of_pages }; part = 2 })

-- 0: the operation, 1: a user, 2: a page, 3: page information, 4: a user whose type is asked for, 5: any node
abbrev project : Collect ℕ
project T zero = ask (codes "me") (codes "me") (one of_users) 1 ∷ ask (codes "you") (codes "you") (one of_users) 4 ∷ ask (codes "node") (codes "node") (one of_nodes) 5 ∷ []
project T (suc zero) =
    ask (codes "id") (codes "id") leaf 9 ∷ ask (codes "name") (codes "name") leaf 9 ∷ ask (codes "age") (codes "age") leaf 9
    ∷ ask (codes "friends") (codes "friends") (many of_users) 1 ∷ ask (codes "best") (codes "best") (one of_users) 1 ∷ page_item ∷ []
project T (suc (suc zero)) = ask (codes "pageInfo") (codes "pageInfo") (one (record { types = codes "PageInfo" ∷ []; identified = []; open_type = false })) 3 ∷ []
project T (suc (suc (suc zero))) = ask (codes "endCursor") (codes "endCursor") leaf 9 ∷ []
project T (suc (suc (suc (suc zero)))) = ask (codes "__typename") (codes "__typename") typename 9 ∷ ask (codes "id") (codes "id") leaf 9 ∷ ask (codes "name") (codes "name") leaf 9 ∷ []
project T (suc (suc (suc (suc (suc zero))))) = ask (codes "__typename") (codes "__typename") typename 9 ∷ ask (codes "id") (codes "id") leaf 9 ∷ []
project T (suc (suc (suc (suc (suc (suc k)))))) = []

abbrev verdict_of : Data → Verdict
verdict_of d = says project (codes "Query") (0 ∷ []) d

abbrev data_of : Data → Data
data_of d = object (member (codes "data") d no_members)

abbrev with_me : Members → Data
with_me ms = data_of (object (member (codes "me") (object ms) no_members))

abbrev fact : Text → Text → Field → Fact
fact id key value = record { id = id; key = key; value = value }

abbrev fault : List PathStep → Cause → Verdict
fault path cause = refusal (record { path = path; cause = cause })

abbrev num : ℕ → Data
num n = number (unsigned n)

-- ---- no data

pub a_response_that_is_no_object_has_no_data : verdict_of (string (codes "x")) ≡ fault [] NoData
a_response_that_is_no_object_has_no_data = refl

pub a_response_without_data : verdict_of (object (member (codes "errors") nothing no_members)) ≡ fault [] NoData
a_response_without_data = refl

pub data_that_is_null : verdict_of (data_of nothing) ≡ fault [] NoData
data_that_is_null = refl

pub data_that_is_no_object : verdict_of (data_of (num 5)) ≡ fault [] Shape
data_that_is_no_object = refl

-- ---- facts

pub the_root_alone : verdict_of (data_of (object no_members)) ≡ content (record { facts = fact root (codes "__typename") (Leaf (Words (codes "__Root"))) ∷ []; handles = [] })
the_root_alone = refl

pub a_null_field_is_a_null_leaf : verdict_of (data_of (object (member (codes "me") nothing no_members)))
    ≡ content (record { facts = fact root (codes "__typename") (Leaf (Words (codes "__Root"))) ∷ fact root (codes "me") (Leaf Null) ∷ []; handles = [] })
a_null_field_is_a_null_leaf = refl

pub facts_stand_in_order : verdict_of (with_me (member (codes "id") (string (codes "4")) (member (codes "name") (string (codes "Ann")) no_members)))
    ≡ content (record {
      facts =
          fact (codes "4") (codes "__typename") (Leaf (Words (codes "User"))) ∷ fact (codes "4") (codes "id") (Leaf (Words (codes "4"))) ∷ fact (codes "4") (codes "name") (Leaf (Words (codes "Ann")))
          ∷ fact root (codes "__typename") (Leaf (Words (codes "__Root"))) ∷ fact root (codes "me") (Link (codes "4")) ∷ [];
      handles = [];
    })
facts_stand_in_order = refl

-- without an id the record is named by its parent, the field's key and the place in the list
pub an_object_without_an_id : verdict_of (with_me (member (codes "friends") (array (item nothing (item (object no_members) no_items))) no_members))
    ≡ content (record {
      facts =
          fact root (codes "__typename") (Leaf (Words (codes "__Root"))) ∷ fact root (codes "me") (Link (codes "client:root:me"))
          ∷ fact (codes "client:root:me") (codes "__typename") (Leaf (Words (codes "User")))
          ∷ fact (codes "client:root:me") (codes "friends") (Links (None ∷ Some (codes "client:root:me:friends:1") ∷ []))
          ∷ fact (codes "client:root:me:friends:1") (codes "__typename") (Leaf (Words (codes "User"))) ∷ [];
      handles = [];
    })
unfolding serde_json_on_literals digits
an_object_without_an_id = refl

-- ---- pages

pub a_page_has_its_cursors_and_types : verdict_of (with_me (member (codes "id") (string (codes "4")) (member (codes "page") nothing no_members)))
    ≡ content (record {
      facts =
          fact (codes "4") (codes "__typename") (Leaf (Words (codes "User"))) ∷ fact (codes "4") (codes "friends(after:\"c1\",first:2)") (Leaf Null) ∷ fact (codes "4") (codes "id") (Leaf (Words (codes "4")))
          ∷ fact root (codes "__typename") (Leaf (Words (codes "__Root"))) ∷ fact root (codes "me") (Link (codes "4")) ∷ [];
      handles = record { parent = codes "4"; handle_key = codes "__K_friends_connection"; field_key = codes "friends(after:\"c1\",first:2)"; after = Words (codes "c1"); before = Null; page_type = codes "UserConnection"; info_type = codes "PageInfo" } ∷ [];
    })
unfolding serde_json_on_literals digits
a_page_has_its_cursors_and_types = refl

-- ---- faults of shape and number

pub no_object_where_one_has_to_stand : verdict_of (data_of (object (member (codes "me") (num 5) no_members))) ≡ fault (Key (codes "me") ∷ []) Shape
no_object_where_one_has_to_stand = refl

pub a_list_where_an_object_has_to_stand : verdict_of (data_of (object (member (codes "me") (array no_items) no_members))) ≡ fault (Key (codes "me") ∷ []) Shape
a_list_where_an_object_has_to_stand = refl

pub an_object_where_a_list_has_to_stand : verdict_of (with_me (member (codes "friends") (object no_members) no_members)) ≡ fault (Key (codes "me") ∷ Key (codes "friends") ∷ []) Shape
an_object_where_a_list_has_to_stand = refl

pub an_element_that_is_no_object : verdict_of (with_me (member (codes "friends") (array (item nothing (item (num 5) no_items))) no_members)) ≡ fault (Key (codes "me") ∷ Key (codes "friends") ∷ Index 1 ∷ []) Shape
an_element_that_is_no_object = refl

pub a_number_that_is_too_great : verdict_of (with_me (member (codes "age") (num 9223372036854775808) no_members)) ≡ fault (Key (codes "me") ∷ Key (codes "age") ∷ []) NotWhole
a_number_that_is_too_great = refl

pub a_number_in_a_leaf_that_is_too_great : verdict_of (with_me (member (codes "age") (array (item (num 9223372036854775808) no_items)) no_members)) ≡ fault (Key (codes "me") ∷ Key (codes "age") ∷ []) NotWhole
a_number_in_a_leaf_that_is_too_great = refl

-- ---- faults of ids

pub an_empty_id : verdict_of (with_me (member (codes "id") (string []) no_members)) ≡ fault (Key (codes "me") ∷ Key (codes "id") ∷ []) IdShape
an_empty_id = refl

pub an_id_that_is_no_text : verdict_of (with_me (member (codes "id") (num 4) no_members)) ≡ fault (Key (codes "me") ∷ Key (codes "id") ∷ []) IdShape
an_id_that_is_no_text = refl

pub an_id_of_the_client : verdict_of (with_me (member (codes "id") (string (codes "client:4")) no_members)) ≡ fault (Key (codes "me") ∷ Key (codes "id") ∷ []) ReservedId
an_id_of_the_client = refl

-- the object is walked all the same: a fault at a lesser path comes first
pub the_least_path_comes_first : verdict_of (with_me (member (codes "age") (num 9223372036854775808) (member (codes "id") (string (codes "client:4")) no_members)))
    ≡ fault (Key (codes "me") ∷ Key (codes "age") ∷ []) NotWhole
the_least_path_comes_first = refl

-- at one path the least cause comes first
pub the_least_cause_comes_first : verdict_of (with_me (member (codes "id") (num 9223372036854775808) no_members)) ≡ fault (Key (codes "me") ∷ Key (codes "id") ∷ []) NotWhole
the_least_cause_comes_first = refl

-- ---- faults of types

pub another_type_under_an_object_type : verdict_of (data_of (object (member (codes "you") (object (member (codes "__typename") (string (codes "Dog")) no_members)) no_members)))
    ≡ fault (Key (codes "you") ∷ Key (codes "__typename") ∷ []) Typename
another_type_under_an_object_type = refl

-- an object with this fault is not walked further, so that its empty id is no fault
pub a_misnamed_object_is_not_walked : verdict_of (data_of (object (member (codes "you") (object (member (codes "__typename") (string (codes "Dog")) (member (codes "id") (string []) no_members))) no_members)))
    ≡ fault (Key (codes "you") ∷ Key (codes "__typename") ∷ []) Typename
a_misnamed_object_is_not_walked = refl

pub no_type_under_an_abstract_type : verdict_of (data_of (object (member (codes "node") (object no_members) no_members))) ≡ fault (Key (codes "node") ∷ Key (codes "__typename") ∷ []) Typename
no_type_under_an_abstract_type = refl

pub a_type_that_is_not_possible : verdict_of (data_of (object (member (codes "node") (object (member (codes "__typename") (string (codes "Cat")) no_members)) no_members))) ≡ fault (Key (codes "node") ∷ Key (codes "__typename") ∷ []) Typename
a_type_that_is_not_possible = refl

-- the type Dog has no id: what stands under `id` is a leaf alone
pub a_type_without_an_id : verdict_of (data_of (object (member (codes "node") (object (member (codes "__typename") (string (codes "Dog")) (member (codes "id") (string (codes "7")) no_members))) no_members)))
    ≡ content (record {
      facts =
          fact root (codes "__typename") (Leaf (Words (codes "__Root"))) ∷ fact root (codes "node") (Link (codes "client:root:node"))
          ∷ fact (codes "client:root:node") (codes "__typename") (Leaf (Words (codes "Dog"))) ∷ fact (codes "client:root:node") (codes "id") (Leaf (Words (codes "7"))) ∷ [];
      handles = [];
    })
a_type_without_an_id = refl

-- ---- conflicts

-- of one user at two places the lesser path gives the first value, the other the path of the fault
pub two_values_of_one_field : verdict_of (data_of (object (member (codes "me") (object (member (codes "id") (string (codes "4")) (member (codes "name") (string (codes "Ann")) no_members)))
    (member (codes "you") (object (member (codes "id") (string (codes "4")) (member (codes "name") (string (codes "Bob")) no_members))) no_members))))
    ≡ fault (Key (codes "you") ∷ Key (codes "name") ∷ []) (Conflict (codes "4") (codes "name") (Leaf (Words (codes "Ann"))) (Leaf (Words (codes "Bob"))))
two_values_of_one_field = refl

-- the conflict is that of the least id and key, here the age, though the names differ too
pub the_least_key_of_a_conflict : verdict_of (with_me (member (codes "id") (string (codes "4")) (member (codes "name") (string (codes "Ann")) (member (codes "age") (num 5)
    (member (codes "best") (object (member (codes "id") (string (codes "4")) (member (codes "name") (string (codes "Bob")) (member (codes "age") nothing no_members)))) no_members)))))
    ≡ fault (Key (codes "me") ∷ Key (codes "best") ∷ Key (codes "age") ∷ []) (Conflict (codes "4") (codes "age") (Leaf (Int (pos 5))) (Leaf Null))
the_least_key_of_a_conflict = refl

-- three values: the second is at the least path of those that differ from the first, friends 10 being after friends 2
pub the_second_value_of_three : verdict_of (with_me (member (codes "friends") (array (
    item (object (member (codes "id") (string (codes "5")) (member (codes "age") (num 1) no_members))) (
    item (object (member (codes "id") (string (codes "5")) (member (codes "age") (num 1) no_members))) (
    item (object (member (codes "id") (string (codes "5")) (member (codes "age") (num 2) no_members))) (
    item (object (member (codes "id") (string (codes "5")) (member (codes "age") (num 3) no_members))) no_items))))) no_members))
    ≡ fault (Key (codes "me") ∷ Key (codes "friends") ∷ Index 2 ∷ Key (codes "age") ∷ []) (Conflict (codes "5") (codes "age") (Leaf (Int (pos 1))) (Leaf (Int (pos 2))))
the_second_value_of_three = refl

-- a conflict comes only without another fault
pub another_fault_comes_before_a_conflict : verdict_of (data_of (object (member (codes "me") (object (member (codes "id") (string (codes "4")) (member (codes "name") (string (codes "Ann")) no_members)))
    (member (codes "you") (object (member (codes "id") (string (codes "4")) (member (codes "name") (number (unsigned 9223372036854775808)) no_members))) no_members))))
    ≡ fault (Key (codes "you") ∷ Key (codes "name") ∷ []) NotWhole
another_fault_comes_before_a_conflict = refl

-- the path of a type name is that of its object
pub two_type_names_of_one_id : verdict_of (data_of (object (member (codes "me") (object (member (codes "id") (string (codes "4")) no_members))
    (member (codes "node") (object (member (codes "__typename") (string (codes "Horse")) (member (codes "id") (string (codes "4")) no_members))) no_members))))
    ≡ fault (Key (codes "node") ∷ []) (Conflict (codes "4") (codes "__typename") (Leaf (Words (codes "User"))) (Leaf (Words (codes "Horse"))))
two_type_names_of_one_id = refl

-- one user at two places, with equal values
pub one_type_name_of_one_id : verdict_of (data_of (object (member (codes "me") (object (member (codes "id") (string (codes "4")) no_members))
    (member (codes "node") (object (member (codes "__typename") (string (codes "User")) (member (codes "id") (string (codes "4")) no_members))) no_members))))
    ≡ content (record {
      facts =
          fact (codes "4") (codes "__typename") (Leaf (Words (codes "User"))) ∷ fact (codes "4") (codes "id") (Leaf (Words (codes "4")))
          ∷ fact root (codes "__typename") (Leaf (Words (codes "__Root"))) ∷ fact root (codes "me") (Link (codes "4")) ∷ fact root (codes "node") (Link (codes "4")) ∷ [];
      handles = [];
    })
one_type_name_of_one_id = refl
