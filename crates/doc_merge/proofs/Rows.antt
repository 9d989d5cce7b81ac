-- Worked rows: the places of the fields that differ from an earlier one.
use Rattle.std.proofs.Common.{◌≡◌, refl, ℕ, ◌++◌, List, [], ◌∷◌, map, Option, Some, None, codes, true}
use Rattle.std.specs.Prelude.{pos}
use Rattle.plan_ir.specs.gql_ast.Value as v
use Rattle.plan_ir.specs.gql_ast.declared.place.FilePlace.{FilePlace}
use Rattle.plan_ir.specs.schema_tables.Types.{Text}
use Rattle.doc_merge.specs.Merging.{Fields, no_fields, field, differences}
use Rattle.doc_merge.specs.Paths.{conflict, faulty, paths, place_of}
use Rattle.doc_merge.specs.Places.{least}
use Rattle.doc_merge.specs.Shapes.{Shape, base, list, non_null}
use Rattle.doc_merge.specs.Signatures.{Argument}
use Rattle.doc_merge.specs.Standard.{each_set_can_merge, fields_in_set_can_merge}

abbrev at : ℕ → FilePlace
at n = record { file = 0; line = 1; column = n }

-- the object types A and B, or an interface
abbrev A : Option Text
A = Some (codes "A")

abbrev B : Option Text
B = Some (codes "B")

abbrev int : Shape
int = base (Some (codes "Int"))

abbrev string : Shape
string = base (Some (codes "String"))

abbrev composite : Shape
composite = base None

abbrev name_field : Text → Option Text → Shape → Text → List Argument → ℕ → Fields → Fields → Fields
name_field key parent shape name xs column below next =
    field (record { key = key; parent = parent; shape = shape; signature = record { name = name; arguments = xs }; place = at column }) below next

-- `x:n`, an Int, and `x:n{..}`
abbrev x : Option Text → Text → ℕ → Fields → Fields
x parent name column next = name_field (codes "x") parent int name [] column no_fields next

abbrev set : Option Text → Text → ℕ → Fields → Fields → Fields
set parent name column below next = name_field (codes "x") parent composite name [] column below next

abbrev a : Text
a = codes "a"

abbrev b : Text
b = codes "b"

-- `x:a x:b`: the second
pub two_names : differences (x A a 1 (x A b 2 no_fields)) ≡ at 2 ∷ []
two_names = refl

-- `x:a x:b x:a`: the second and the third, though the third is like the first; the least is in front
pub third_like_first : differences (x A a 30 (x A b 20 (x A a 10 no_fields))) ≡ at 20 ∷ at 10 ∷ []
third_like_first = refl

pub least_in_front : least (differences (x A a 30 (x A b 20 (x A a 10 no_fields)))) ≡ Some (at 10)
least_in_front = refl

-- `...on A{x:a} ...on B{x:b}` of one shape: none; of two shapes: the second
pub two_objects : differences (x A a 1 (x B b 2 no_fields)) ≡ []
two_objects = refl

pub two_objects_two_shapes : differences (x A a 1 (name_field (codes "x") B string b [] 2 no_fields no_fields)) ≡ at 2 ∷ []
two_objects_two_shapes = refl

-- `...on A{x:a} ...on B{x:b} x:a`: the third, on the interface, differs from the second
pub third_on_interface : differences (x A a 1 (x B b 2 (x None a 3 no_fields))) ≡ at 3 ∷ []
third_on_interface = refl

-- the same and `...on A{x:a}`: the third, not the fourth
pub fourth_is_good : differences (x A a 1 (x B b 2 (x None a 3 (x A a 4 no_fields)))) ≡ at 3 ∷ []
fourth_is_good = refl

-- `x:a{x:a{x:a}} x:a{x:a{x:b}}`: the innermost field alone, in the standard's own form too
abbrev deep : Fields
deep = set A a 1 (set A a 2 (x A a 3 no_fields) no_fields) (set A a 4 (set A a 5 (x A b 6 no_fields) no_fields) no_fields)

pub innermost : differences deep ≡ at 6 ∷ []
innermost = refl

pub innermost_by_standard : fields_in_set_can_merge 4 deep ++ each_set_can_merge 4 deep ≡ at 6 ∷ []
innermost_by_standard = refl

pub innermost_flat : map place_of (faulty (conflict true) (paths deep)) ≡ at 6 ∷ []
innermost_flat = refl

-- `x:a{x:a} x:b{x:b}`: the second field and the one below it
pub outer_and_inner : differences (set A a 7 (x A a 8 no_fields) (set A b 9 (x A b 4 no_fields) no_fields)) ≡ at 9 ∷ at 4 ∷ []
outer_and_inner = refl

-- `...on A{x:a{x:a}} ...on B{x:a{x:b}}`: below parents that do not meet a shape alone is asked
pub below_two_objects : differences (set A a 1 (x A a 2 no_fields) (set B a 3 (x A b 4 no_fields) no_fields)) ≡ []
below_two_objects = refl

pub below_two_objects_two_shapes : differences (set A a 1 (x A a 2 no_fields) (set B a 3 (name_field (codes "x") A (non_null int) b [] 4 no_fields no_fields) no_fields)) ≡ at 4 ∷ []
below_two_objects_two_shapes = refl

-- `x:a{x:a} ...on A{x:a{x:a}} ...on B{x:a{x:b}}` on an interface: only the first and the third meet
abbrev beside : Fields
beside = set None a 1 (x A a 2 no_fields) (set A a 3 (x A a 4 no_fields) (set B a 5 (x A b 6 no_fields) no_fields))

pub below_interface : differences beside ≡ at 6 ∷ []
below_interface = refl

pub below_interface_by_standard : fields_in_set_can_merge 4 beside ++ each_set_can_merge 4 beside ≡ at 6 ∷ []
below_interface_by_standard = refl

-- two levels of parents: the third field meets the first
pub two_levels : differences (set A a 1 (x A a 2 no_fields) (set B a 3 (x A b 4 no_fields) (set None a 5 (x A b 6 no_fields) no_fields))) ≡ at 6 ∷ []
two_levels = refl

-- a leaf and a composite field, a list and none
pub leaf_and_composite : differences (x A a 1 (set B b 2 (x A a 3 no_fields) no_fields)) ≡ at 2 ∷ []
leaf_and_composite = refl

pub list_and_none : differences (x A a 1 (name_field (codes "x") A (list int) a [] 2 no_fields no_fields)) ≡ at 2 ∷ []
list_and_none = refl

-- an added field has the place of the field around it
pub added_field : differences (set A a 7 (name_field (codes "edges") A composite (codes "edges") [] 8 (x A b 9 no_fields)
    (name_field (codes "edges") A composite (codes "edges") [] 7 (x A a 7 no_fields) no_fields)) no_fields) ≡ at 7 ∷ []
added_field = refl

-- three like sets: a place comes as often as there are pairs
pub once_a_pair : differences (set A a 1 (x A a 2 no_fields) (set A a 3 (x A a 4 no_fields) (set A a 5 (x A b 6 no_fields) no_fields))) ≡ at 6 ∷ at 6 ∷ []
once_a_pair = refl

-- ---- arguments

abbrev with : List Argument → ℕ → Fields → Fields
with xs column next = name_field (codes "x") A int a xs column no_fields next

abbrev one : v.Val
one = v.int (pos 1)

abbrev two : v.Val
two = v.int (pos 2)

-- `(p:1,q:$n)` and `(q:$n,p:1)`: a set
pub any_order : differences (with ((codes "p", one) ∷ (codes "q", v.variable (codes "n")) ∷ []) 1 (with ((codes "q", v.variable (codes "n")) ∷ (codes "p", one) ∷ []) 2 no_fields)) ≡ []
any_order = refl

-- `(p:1)` and `(p:2)`, `(p:1)` and none, `(p:null)` and none
pub other_value : differences (with ((codes "p", one) ∷ []) 1 (with ((codes "p", two) ∷ []) 2 no_fields)) ≡ at 2 ∷ []
other_value = refl

pub left_out : differences (with ((codes "p", one) ∷ []) 1 (with [] 2 no_fields)) ≡ at 2 ∷ []
left_out = refl

pub null_is_given : differences (with ((codes "p", v.null) ∷ []) 1 (with [] 2 no_fields)) ≡ at 2 ∷ []
null_is_given = refl

-- `(p:{s:1,t:2})` and `(p:{t:2,s:1})`: an object's fields in written order
pub object_order : differences (with ((codes "p", v.object (v.member (codes "s") one (v.member (codes "t") two v.no_members))) ∷ []) 1
    (with ((codes "p", v.object (v.member (codes "t") two (v.member (codes "s") one v.no_members))) ∷ []) 2 no_fields)) ≡ at 2 ∷ []
object_order = refl
