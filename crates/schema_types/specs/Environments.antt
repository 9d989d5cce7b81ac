-- The values of variables (GraphQL, October 2021, sections 6.1.2 and 3.4 to 3.12): which values that are given fit a type, the environment of an
-- operation, and what a value of the language is in one.
use Rattle.std.specs.Prelude.{Bool, true, false, not, ◌&&◌, ◌||◌, cond, List, [], ◌∷◌, codes, Option, Some, None, is_some, bytes_eq}
use Rattle.std.specs.Cmp.Lexicographic.{slice_cmp}
use Rattle.std.specs.Ordering.{nat_cmp, match_ordering}
use Rattle.schema_rules.specs.gql_plain.Order.{has_text, member_at}
use Rattle.schema_rules.specs.gql_plain.Tree.{Tree, Trees, Members, no_trees, tree, no_members, member, trees_of, members_of}
use Rattle.schema_rules.specs.gql_plain.Tree as t
use Rattle.schema_rules.specs.gql_ast.Ty.{Ty}
use Rattle.schema_rules.specs.gql_ast.TypeView.{ty_of}
use Rattle.schema_rules.specs.gql_ast.Value as v
use Rattle.schema_rules.specs.gql_ast.Value.{Val, Vals}
use Rattle.schema_rules.specs.gql_ast.ValueView.{value_of}
use Rattle.schema_rules.specs.gql_ast.declared.member.InputTree.{InputTree}
use Rattle.schema_rules.specs.gql_ast.declared.value.ValueTree.{ValueTree}
use Rattle.schema_rules.specs.gql_ast.declared.variable.VariableDef.{VariableDef}
use Rattle.schema_rules.specs.schema_tables.Fits.{is_non_null, item_of, is_list_type, is_in_i32, is_required, Meaning, built_in, one_of, fields, anything, meaning_of, takes_list, input_type}
use Rattle.schema_rules.specs.schema_tables.Types.{Text, Defs, base_of, input_named}

-- ---- values that are given fit (as literals do; an enum name is a text)

abbrev pub is_whole : Tree → Bool
is_whole (t.whole n) = true
is_whole x = false

abbrev pub is_small_whole : Tree → Bool
is_small_whole (t.whole n) = is_in_i32 n
is_small_whole x = false

abbrev pub is_text : Tree → Bool
is_text (t.text s) = true
is_text x = false

abbrev pub is_truth : Tree → Bool
is_truth (t.truth b) = true
is_truth x = false

abbrev pub suits_built_in : Tree → Text → Bool
suits_built_in x n =
    cond (bytes_eq n (codes "Int")) (is_small_whole x) (cond (bytes_eq n (codes "Float")) (is_whole x) (cond (bytes_eq n (codes "String")) (is_text x)
    (cond (bytes_eq n (codes "Boolean")) (is_truth x) (is_text x || is_whole x))))

abbrev pub suits_enum : Tree → List Text → Bool
suits_enum (t.text s) ns = has_text ns s
suits_enum x ns = false

abbrev pub suits_meaning : Tree → Meaning → Bool
suits_meaning x (built_in n) = suits_built_in x n
suits_meaning x (one_of ns) = suits_enum x ns
suits_meaning x (fields is) = false
suits_meaning x anything = true

abbrev pub has_key : Text → Members → Bool
has_key n no_members = false
has_key n (member k x ms) = bytes_eq k n || has_key n ms

abbrev pub gives_each_required : List InputTree → Members → Bool
gives_each_required [] ms = true
gives_each_required (i ∷ is) ms = (not (is_required i) || has_key i.name ms) && gives_each_required is ms

abbrev pub suits_as_object : Members → Meaning → Bool
suits_as_object ms (fields is) = gives_each_required is ms
suits_as_object ms anything = true
suits_as_object ms m = false

-- an item of a list whose items are lists is a list or null
abbrev pub may_be_item : Tree → (item : Ty) → Bool
may_be_item t.null item = true
may_be_item (t.list xs) item = true
may_be_item x item = not (is_list_type item)

abbrev mutual
  pub fits : Defs → Tree → Ty → Bool
  fits defs t.null of = not (is_non_null of)
  fits defs (t.list xs) of = takes_list (item_of of) (meaning_of defs (base_of of)) && items_fit defs xs (item_of of)
  fits defs (t.object ms) of = suits_as_object ms (meaning_of defs (base_of of)) && members_fit defs ms (meaning_of defs (base_of of))
  fits defs x of = suits_meaning x (meaning_of defs (base_of of))

  pub items_fit : Defs → Trees → (item : Option Ty) → Bool
  items_fit defs no_trees item = true
  items_fit defs (tree x xs) None = true
  items_fit defs (tree x xs) (Some of) = may_be_item x of && fits defs x of && items_fit defs xs (Some of)

  pub members_fit : Defs → Members → Meaning → Bool
  members_fit defs no_members m = true
  members_fit defs (member n x ms) (fields is) =
      is_some (input_named is n) && fits defs x (input_type (input_named is n)) && members_fit defs ms (fields is)
  members_fit defs (member n x ms) m = true

-- ---- environments

abbrev pub Values : Type 0
Values = List (Text × Tree)

-- the value of a name; null where it has none
abbrev pub or_null : Option Tree → Tree
or_null None = t.null
or_null (Some x) = x

abbrev pub value_in : Values → Text → Tree
value_in env n = or_null (member_at env n)

-- a pair put at its place in byte order; it takes the place of one of its key
abbrev pub with_pair : Text → Tree → Values → Values
with_pair n x [] = (n, x) ∷ []
with_pair n x (p ∷ ps) = match_ordering (slice_cmp nat_cmp n p.0) ((n, x) ∷ p ∷ ps) ((n, x) ∷ ps) (p ∷ with_pair n x ps)

-- unless the key is there
abbrev pub with_new_pair : Text → Tree → Values → Values
with_new_pair n x [] = (n, x) ∷ []
with_new_pair n x (p ∷ ps) = match_ordering (slice_cmp nat_cmp n p.0) ((n, x) ∷ p ∷ ps) (p ∷ ps) (p ∷ with_new_pair n x ps)

-- what a value of the language is: a variable without a value is null, an enum name its text; of several fields of one name the last counts
abbrev mutual
  pub evaluation : Values → Val → Tree
  evaluation env (v.variable n) = value_in env n
  evaluation env (v.int n) = t.whole n
  evaluation env (v.text s) = t.text s
  evaluation env (v.truth b) = t.truth b
  evaluation env v.null = t.null
  evaluation env (v.enum n) = t.text n
  evaluation env (v.list vs) = t.list (items_evaluated env vs)
  evaluation env (v.object ms) = t.object (members_of (pairs_evaluated env ms))

  pub items_evaluated : Values → Vals → Trees
  items_evaluated env v.no_vals = no_trees
  items_evaluated env (v.val x xs) = tree (evaluation env x) (items_evaluated env xs)

  pub pairs_evaluated : Values → v.Members → Values
  pairs_evaluated env v.no_members = []
  pairs_evaluated env (v.member n x ms) = with_new_pair n (evaluation env x) (pairs_evaluated env ms)

-- the values of arguments, in byte order of their names
abbrev pub arguments_in_environment : Values → List (Text × Val) → Values
arguments_in_environment env xs = pairs_evaluated env (v.members_of xs)

abbrev pub is_true : Tree → Bool
is_true (t.truth b) = b
is_true x = false

abbrev pub default_value : Option ValueTree → Tree
default_value None = t.null
default_value (Some x) = evaluation [] (value_of x)

-- the given value, else the default, else null
abbrev pub value_or_default : Option Tree → Option ValueTree → Tree
value_or_default (Some x) default = x
value_or_default None default = default_value default

abbrev pub environment : List VariableDef → (given : Values) → Values
environment [] given = []
environment (d ∷ ds) given = with_pair d.name (value_or_default (member_at given d.name) d.default) (environment ds given)

-- why an environment is refused: a variable has no given value, no default and a non-null type, or its given value does not fit
pub data Failure : Type 0 where
  missing : Text → Failure
  unfit : Text → Failure

abbrev pub failure_of : Defs → VariableDef → Option Tree → Option Failure
failure_of defs d None = cond (is_non_null (ty_of d.of) && not (is_some d.default)) (Some (missing d.name)) None
failure_of defs d (Some x) = cond (fits defs x (ty_of d.of)) None (Some (unfit d.name))

abbrev pub first_of : Option Failure → Option Failure → Option Failure
first_of (Some f) later = Some f
first_of None later = later

abbrev pub first_failure : Defs → List VariableDef → (given : Values) → Option Failure
first_failure defs [] given = None
first_failure defs (d ∷ ds) given = first_of (failure_of defs d (member_at given d.name)) (first_failure defs ds given)
