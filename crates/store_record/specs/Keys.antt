-- Storage keys and generated ids (this project's own).
use Rattle.std.specs.Prelude.{◌≡◌, ℕ, ◌^◌, ℤ, pos, negsuc, List, [], ◌∷◌, ◌++◌, Bool, true, false, not, ◌&&◌, nat_lt, nat_eq, cond, codes, IsTrue, Option, Some, None}
use Rattle.std.specs.Fmt.{decimal}
use Rattle.std.specs.List.{starts_with, list_all}
use Rattle.gql_plain.specs.Names.{is_name}
use Rattle.gql_plain.specs.Order.{has_text}
use Rattle.gql_plain.specs.Tree.{Tree, null, truth, whole, text, list, object, Trees, no_trees, tree, Members, no_members, member}
use Rattle.gql_plain.specs.ToJson.{compact}

-- a text, as its UTF-8 bytes
abbrev pub Text : Type 0
Text = List ℕ

-- the arguments of a field, in byte order of their names
abbrev pub Arguments : Type 0
Arguments = List (Text × Tree)

-- ---- storage keys

abbrev pub is_null : Tree → Bool
is_null null = true
is_null (truth b) = false
is_null (whole z) = false
is_null (text s) = false
is_null (list ts) = false
is_null (object ms) = false

-- the arguments that are not null
abbrev pub without_nulls : Arguments → Arguments
without_nulls [] = []
without_nulls (a ∷ more) = cond (is_null a.1) (without_nulls more) (a ∷ without_nulls more)

abbrev pub pair_text : Text × Tree → Text
pair_text a = a.0 ++ codes ":" ++ compact a.1

abbrev pub more_pairs : Arguments → Text
more_pairs [] = codes ")"
more_pairs (a ∷ more) = codes "," ++ pair_text a ++ more_pairs more

-- a name alone, or with the pairs `name:json` between `(` and `)`
abbrev pub key_with : Text → Arguments → Text
key_with name [] = name
key_with name (a ∷ more) = name ++ codes "(" ++ pair_text a ++ more_pairs more

-- the key under which a field is stored
abbrev pub field_key : Text → Arguments → Text
field_key name arguments = key_with name (without_nulls arguments)

-- the arguments that ask for a page of a connection (Cursor Connections, section 4)
abbrev pub paging : List Text
paging = codes "after" ∷ codes "before" ∷ codes "first" ∷ codes "last" ∷ []

abbrev pub kept_by : (Text → Bool) → Arguments → Arguments
kept_by keeps [] = []
kept_by keeps (a ∷ more) = cond (keeps a.0) (a ∷ kept_by keeps more) (kept_by keeps more)

-- an argument tells one connection from another where the filters name it; without filters, where it is none of paging
abbrev pub is_kept : Option (List Text) → Text → Bool
is_kept None name = not (has_text paging name)
is_kept (Some names) name = has_text names name

-- the arguments that tell one connection from another
abbrev pub connection_arguments : Option (List Text) → Arguments → Arguments
connection_arguments filters arguments = kept_by (is_kept filters) arguments

abbrev pub handle_name : Text → Text
handle_name key = codes "__" ++ key ++ codes "_connection"

-- the key under which the client keeps a connection
abbrev pub handle_key : Text → Option (List Text) → Arguments → Text
handle_key key filters arguments = field_key (handle_name key) (connection_arguments filters arguments)

-- ---- generated ids

-- the id of the root, under which all operations are read
abbrev pub root : Text
root = codes "client:root"

-- what every generated id begins with, and no id of a server
abbrev pub is_generated : Text → Bool
is_generated id = starts_with nat_eq id (codes "client:")

abbrev pub prefix_of : Text → Text
prefix_of parent = cond (is_generated parent) [] (codes "client:")

abbrev pub index_text : Option ℕ → Text
index_text None = []
index_text (Some index) = codes ":" ++ decimal index

-- the id of an object that has none of its own: its parent's, the key under which it stands there, and its
-- place where it is an element of a list
abbrev pub client_id : Text → Text → Option ℕ → Text
client_id parent key index = prefix_of parent ++ parent ++ codes ":" ++ key ++ index_text index

-- ---- laws

-- whether a number is within 64 bits
abbrev pub is_in_range : ℤ → Bool
is_in_range (pos n) = nat_lt n (2 ^ 63)
is_in_range (negsuc n) = nat_lt n (2 ^ 63)

-- whether each number in a tree is within 64 bits, as those of a plain value are
abbrev mutual
  pub is_in_64_bits : Tree → Bool
  is_in_64_bits null = true
  is_in_64_bits (truth b) = true
  is_in_64_bits (whole z) = is_in_range z
  is_in_64_bits (text s) = true
  is_in_64_bits (list ts) = trees_are_in_64_bits ts
  is_in_64_bits (object ms) = members_are_in_64_bits ms

  pub trees_are_in_64_bits : Trees → Bool
  trees_are_in_64_bits no_trees = true
  trees_are_in_64_bits (tree t ts) = is_in_64_bits t && trees_are_in_64_bits ts

  pub members_are_in_64_bits : Members → Bool
  members_are_in_64_bits no_members = true
  members_are_in_64_bits (member k t ms) = is_in_64_bits t && members_are_in_64_bits ms

-- arguments as the fields of a document have them: names, and plain values
abbrev pub are_arguments : Arguments → Bool
are_arguments arguments = list_all (λ a. is_name a.0 && is_in_64_bits a.1) arguments

-- two equal field keys are of one field with the same arguments that are not null
abbrev pub FieldKeysDiffer : Type 0
FieldKeysDiffer = (name other : Text) (arguments others : Arguments)
    → IsTrue (is_name name) → IsTrue (is_name other) → IsTrue (are_arguments arguments) → IsTrue (are_arguments others)
    → field_key name arguments ≡ field_key other others → (name ≡ other) × (without_nulls arguments ≡ without_nulls others)

-- a handle key is the field key of no field of a schema, whose names do not begin with `__`
abbrev pub HandleKeysDiffer : Type 0
HandleKeysDiffer = (key : Text) (filters : Option (List Text)) (arguments : Arguments) (name : Text) (others : Arguments)
    → starts_with nat_eq name (codes "__") ≡ false → handle_key key filters arguments ≡ field_key name others → ⊥
