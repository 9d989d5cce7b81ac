-- A plain value as a list of marks, so that a line of an image nests no deeper where the value does.
use Rattle.std.specs.Prelude.{◌≡◌, ◌↔◌, List, [], ◌∷◌, ◌++◌, Bool, true, ◌==◌, cond, codes, bytes_eq, Option, Some, None, option_and_then, ⊤}
use Rattle.std.specs.Cmp.Lexicographic.{slice_cmp}
use Rattle.std.specs.Ordering.{nat_cmp, is_lt}
use Rattle.store_record.specs.gql_plain.Order.{AreInOrder}
use Rattle.store_record.specs.gql_plain.Tree.{Tree, null, truth, whole, text, list, object, Trees, no_trees, tree, trees_of, Members, no_members, member, members_of}
use Rattle.store_record.specs.Keys.{Text, Arguments}

-- the mark of a text, or of a key
abbrev pub quote : Text → Tree
quote s = text (codes "'" ++ s)

-- Scalars stand as they are, a text as `'` and the text; a list between `[` and `]`, an object between `{` and `}`, each
-- key before its value.
abbrev mutual
  pub flat : Tree → List Tree
  flat null = null ∷ []
  flat (truth b) = truth b ∷ []
  flat (whole z) = whole z ∷ []
  flat (text s) = quote s ∷ []
  flat (list ts) = text (codes "[") ∷ flat_items ts
  flat (object ms) = text (codes "{") ∷ flat_members ms

  -- what follows the `[`
  pub flat_items : Trees → List Tree
  flat_items no_trees = text (codes "]") ∷ []
  flat_items (tree t ts) = flat t ++ flat_items ts

  -- what follows the `{`
  pub flat_members : Members → List Tree
  flat_members no_members = text (codes "}") ∷ []
  flat_members (member k t ms) = quote k ∷ (flat t ++ flat_members ms)

-- the keys of each object are distinct and in byte order
abbrev pub keys_of : Members → List Text
keys_of no_members = []
keys_of (member k t ms) = k ∷ keys_of ms

abbrev mutual
  pub IsOrdered : Tree → Type 0
  IsOrdered null = ⊤
  IsOrdered (truth b) = ⊤
  IsOrdered (whole z) = ⊤
  IsOrdered (text s) = ⊤
  IsOrdered (list ts) = AreOrdered ts
  IsOrdered (object ms) = AreInOrder (keys_of ms) × HasOrdered ms

  pub AreOrdered : Trees → Type 0
  AreOrdered no_trees = ⊤
  AreOrdered (tree t ts) = IsOrdered t × AreOrdered ts

  pub HasOrdered : Members → Type 0
  HasOrdered no_members = ⊤
  HasOrdered (member k t ms) = IsOrdered t × HasOrdered ms

-- ---- reading the marks, one after another

-- what is open around the next mark: a list with its items so far, an object with its members so far that awaits a key, or
-- one that awaits the value of a key
pub data Open : Type 0 where
  in_list : List Tree → Open
  at_key : Arguments → Open
  at_value : Arguments → Text → Open

-- whether the key stands after the last one of the members
abbrev pub is_next : Arguments → Text → Bool
is_next [] k = true
is_next (m ∷ []) k = is_lt (slice_cmp nat_cmp m.0 k)
is_next (m ∷ n ∷ ms) k = is_next (n ∷ ms) k

-- a value is whole; the innermost of what is open comes first
abbrev pub place : Tree → List Open → Option (List Open)
place t [] = None
place t (in_list ts ∷ os) = Some (in_list (ts ++ t ∷ []) ∷ os)
place t (at_key ms ∷ os) = None
place t (at_value ms k ∷ os) = cond (is_next ms k) (Some (at_key (ms ++ (k, t) ∷ []) ∷ os)) None

abbrev pub take_quoted : Text → List Open → Option (List Open)
take_quoted s [] = None
take_quoted s (in_list ts ∷ os) = place (text s) (in_list ts ∷ os)
take_quoted s (at_key ms ∷ os) = Some (at_value ms s ∷ os)
take_quoted s (at_value ms k ∷ os) = place (text s) (at_value ms k ∷ os)

-- a list or an object begins, where a value may stand
abbrev pub begin : Open → List Open → Option (List Open)
begin o [] = None
begin o (in_list ts ∷ os) = Some (o ∷ in_list ts ∷ os)
begin o (at_key ms ∷ os) = None
begin o (at_value ms k ∷ os) = Some (o ∷ at_value ms k ∷ os)

abbrev pub end_list : List Open → Option (List Open)
end_list [] = None
end_list (in_list ts ∷ os) = place (list (trees_of ts)) os
end_list (at_key ms ∷ os) = None
end_list (at_value ms k ∷ os) = None

abbrev pub end_object : List Open → Option (List Open)
end_object [] = None
end_object (in_list ts ∷ os) = None
end_object (at_key ms ∷ os) = place (object (members_of ms)) os
end_object (at_value ms k ∷ os) = None

abbrev pub take_text : Text → List Open → Option (List Open)
take_text [] os = None
take_text (c ∷ cs) os =
    cond (c == 39) (take_quoted cs os)
    (cond (bytes_eq (c ∷ cs) (codes "[")) (begin (in_list []) os)
    (cond (bytes_eq (c ∷ cs) (codes "]")) (end_list os)
    (cond (bytes_eq (c ∷ cs) (codes "{")) (begin (at_key []) os)
    (cond (bytes_eq (c ∷ cs) (codes "}")) (end_object os) None))))

abbrev pub take_mark : Tree → List Open → Option (List Open)
take_mark null os = place null os
take_mark (truth b) os = place (truth b) os
take_mark (whole z) os = place (whole z) os
take_mark (text s) os = take_text s os
take_mark (list ts) os = None
take_mark (object ms) os = None

abbrev pub take_marks : List Tree → List Open → Option (List Open)
take_marks [] os = Some os
take_marks (m ∷ ms) os = option_and_then (take_marks ms) (take_mark m os)

abbrev pub only : List Tree → Option Tree
only [] = None
only (t ∷ []) = Some t
only (t ∷ u ∷ ts) = None

-- the one item of the one list that is open
abbrev pub single : List Open → Option Tree
single [] = None
single (in_list ts ∷ []) = only ts
single (in_list ts ∷ o ∷ os) = None
single (at_key ms ∷ os) = None
single (at_value ms k ∷ os) = None

-- the value of which these are the marks: the marks are read as the items of a list
abbrev pub unflat : List Tree → Option Tree
unflat marks = option_and_then single (take_marks marks (in_list [] ∷ []))

-- a list of marks is read as a value exactly where it is the value's
abbrev pub FlatIsReadBack : Type 0
FlatIsReadBack = (marks : List Tree) (t : Tree) → unflat marks ≡ Some t ↔ ((marks ≡ flat t) × IsOrdered t)
