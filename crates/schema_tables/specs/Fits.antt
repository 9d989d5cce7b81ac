-- Which literals fit a type, and which uses of a variable are allowed (GraphQL, October 2021, sections 3.4 to 3.12, 5.6, 5.8.5).
use Rattle.std.specs.Prelude.{◌^◌, ◌-◌, Bool, true, false, cond, not, ◌&&◌, ◌||◌, List, [], ◌∷◌, codes, Option, Some, None, is_some, bytes_eq, ℤ, int_le, neg_ℤ, pos}
use Rattle.gql_graph.specs.gql_plain.Order.{has_text}
use Rattle.gql_ast.specs.Ty.{Ty}
use Rattle.gql_ast.specs.Ty as ty
use Rattle.gql_ast.specs.TypeView.{ty_of}
use Rattle.gql_ast.specs.Value.{Val, Vals, Members, variable, int, text, truth, null, enum, list, object, no_vals, val, no_members, member}
use Rattle.gql_ast.specs.ValueView.{value_of}
use Rattle.gql_ast.specs.declared.member.InputTree.{InputTree}
use Rattle.gql_ast.specs.declared.value.ValueTree.{ValueTree}
use Rattle.schema_tables.specs.Types.{Text, Defs, base_of, is_built_in_scalar, enum_names, inputs_of, input_named}
pub use Rattle.schema_tables.specs.TypeForms.{is_non_null}

-- ---- forms of types

-- without `!` in front
abbrev pub nullable : Ty → Ty
nullable (ty.non_null t) = t
nullable t = t

-- the type of the items, where it is a list type, or the non-null form of one
abbrev pub item_of : Ty → Option Ty
item_of (ty.named n) = None
item_of (ty.list t) = Some t
item_of (ty.non_null t) = item_of t

abbrev pub is_list_type : Ty → Bool
is_list_type t = is_some (item_of t)

-- ---- values that are no list, null or variable, by the name of the type

-- from -2^31 to 2^31 - 1
abbrev pub is_in_i32 : ℤ → Bool
is_in_i32 n = int_le (neg_ℤ (pos (2 ^ 31))) n && int_le n (pos (2 ^ 31 - 1))

abbrev pub is_int : Val → Bool
is_int (int n) = true
is_int v = false

abbrev pub is_small_int : Val → Bool
is_small_int (int n) = is_in_i32 n
is_small_int v = false

abbrev pub is_text : Val → Bool
is_text (text t) = true
is_text v = false

abbrev pub is_truth : Val → Bool
is_truth (truth b) = true
is_truth v = false

-- Int takes 32 bits, Float any whole number, String a text, Boolean a truth value, ID a text or a whole number (3.5)
abbrev pub fits_built_in : Val → Text → Bool
fits_built_in v n =
    cond (bytes_eq n (codes "Int")) (is_small_int v) (cond (bytes_eq n (codes "Float")) (is_int v) (cond (bytes_eq n (codes "String")) (is_text v)
    (cond (bytes_eq n (codes "Boolean")) (is_truth v) (is_text v || is_int v))))

-- an enum takes one of its names (3.9)
abbrev pub fits_enum : Val → List Text → Bool
fits_enum (enum n) ns = has_text ns n
fits_enum v ns = false

-- an item of a list whose items are lists is a list, null or a variable
abbrev pub may_be_item : Val → (item : Ty) → Bool
may_be_item (variable n) item = true
may_be_item null item = true
may_be_item (list vs) item = true
may_be_item v item = not (is_list_type item)

-- ---- input objects (3.10)

abbrev pub has_member : Text → Members → Bool
has_member n no_members = false
has_member n (member m v ms) = bytes_eq m n || has_member n ms

abbrev pub is_required : InputTree → Bool
is_required i = is_non_null (ty_of i.of) && not (is_some i.default)

-- each required input field is there
abbrev pub gives_required : List InputTree → Members → Bool
gives_required [] ms = true
gives_required (i ∷ is) ms = (not (is_required i) || has_member i.name ms) && gives_required is ms

-- ---- literals

-- what a named type is, where a value is no list, null or variable: a built-in scalar, an enum, an input object, or another scalar
pub data Meaning : Type 0 where
  built_in : Text → Meaning
  one_of : List Text → Meaning
  fields : List InputTree → Meaning
  anything : Meaning

abbrev pub meaning_else : Option (List Text) → Option (List InputTree) → Meaning
meaning_else (Some ns) inputs = one_of ns
meaning_else None (Some is) = fields is
meaning_else None None = anything

abbrev pub meaning_of : Defs → Text → Meaning
meaning_of defs n = cond (is_built_in_scalar n) (built_in n) (meaning_else (enum_names defs n) (inputs_of defs n))

-- a value that is no list, null or variable, and no object
abbrev pub fits_meaning : Val → Meaning → Bool
fits_meaning v (built_in n) = fits_built_in v n
fits_meaning v (one_of ns) = fits_enum v ns
fits_meaning v (fields is) = false
fits_meaning v anything = true

-- whether the type takes lists, by the type of its items, and whether it takes this object, by what the type is
abbrev pub takes_list : Option Ty → Meaning → Bool
takes_list (Some item) m = true
takes_list None anything = true
takes_list None m = false

abbrev pub takes_object : Members → Meaning → Bool
takes_object ms (fields is) = gives_required is ms
takes_object ms anything = true
takes_object ms m = false

-- the type of an input field that is there
abbrev pub input_type : Option InputTree → Ty
input_type None = ty.named []
input_type (Some i) = ty_of i.of

abbrev mutual
  -- a variable fits everywhere; null each type but a non-null one; a list type takes a list of fitting items, or one
  -- value that is no list
  pub literal_fits : Defs → Val → Ty → Bool
  literal_fits defs (variable n) t = true
  literal_fits defs null t = not (is_non_null t)
  literal_fits defs (list vs) t = takes_list (item_of t) (meaning_of defs (base_of t)) && items_fit defs vs (item_of t)
  literal_fits defs (object ms) t = takes_object ms (meaning_of defs (base_of t)) && members_fit defs ms (meaning_of defs (base_of t))
  literal_fits defs v t = fits_meaning v (meaning_of defs (base_of t))

  -- items of such a type
  pub items_fit : Defs → Vals → (item : Option Ty) → Bool
  items_fit defs no_vals item = true
  items_fit defs (val v vs) None = true
  items_fit defs (val v vs) (Some t) = may_be_item v t && literal_fits defs v t && items_fit defs vs (Some t)

  -- of an input object each name is defined, stands once, and has a fitting value
  pub members_fit : Defs → Members → Meaning → Bool
  members_fit defs no_members m = true
  members_fit defs (member n v ms) (fields is) =
      not (has_member n ms) && is_some (input_named is n) && literal_fits defs v (input_type (input_named is n)) && members_fit defs ms (fields is)
  members_fit defs (member n v ms) m = true

-- ---- uses of variables

-- the types agree: a non-null form goes into a nullable one at every level
abbrev pub types_agree : (variable place : Ty) → Bool
types_agree (ty.non_null v) (ty.non_null p) = types_agree v p
types_agree (ty.non_null v) p = types_agree v p
types_agree (ty.named a) (ty.named b) = bytes_eq a b
types_agree (ty.list v) (ty.list p) = types_agree v p
types_agree v p = false

abbrev pub is_given_default : Option ValueTree → Bool
is_given_default None = false
is_given_default (Some v) = is_some_value (value_of v) where
  is_some_value : Val → Bool
  is_some_value null = false
  is_some_value w = true

-- a nullable variable at a non-null place has a default that is not null, or the place has a default
abbrev pub use_allowed : (variable : Ty) → (default : Option ValueTree) → (place : Ty) → (has_default : Bool) → Bool
use_allowed v default p has_default =
    cond (is_non_null p && not (is_non_null v)) ((is_given_default default || has_default) && types_agree v (nullable p)) (types_agree v p)
