-- What holds of the states that are reached: what was read is formed.
use Rattle.std.proofs.Common.{Bool, true, List, [], ◌∷◌, ◌++◌}
use Rattle.std.specs.List.{AllByRecursion}
use Rattle.gql_syntax.specs.gql_ast.TypeView.{ty_of}
use Rattle.gql_syntax.proofs.Shapes.{ShapedDirectives, ShapedDefault, ShapedType}
use Rattle.gql_syntax.specs.Words.{IsEnumName}
use Rattle.gql_sdl.specs.Machine.{Front, Heading, Fields, OpenField, Inputs, of_field, of_directive, of_object, OpenInput, TypedInput, ArguedField, Values, OpenValue, Typed, input_type, field_type, Owner, on_schema, on_scalar, on_fielded, on_union, on_enum, on_object, on_input, on_field, on_value, Listing, implementing, uniting, locating}
use Rattle.gql_sdl.specs.Schemas.{Written, object, interface, union, Described}
use Rattle.gql_sdl.proofs.Shapes.{ShapedInput, ShapedField, ShapedEnumValue, ShapedWritten}

-- a separator stands in front only where something follows
abbrev pub Led : {A : Type 0} → (leading : Bool) → List A → Type 0
Led true [] = ⊥
Led leading all = Unit {0}

abbrev pub Neat : Written → Type 0
Neat (object n leading is ds fs) = Led leading is
Neat (interface n leading is ds fs) = Led leading is
Neat (union n ds leading ms) = Led leading ms
Neat w = Unit {0}

abbrev pub ShapedDescribed : Described → Type 0
ShapedDescribed d = ShapedWritten d.written × Neat d.written

abbrev pub FrontSeat : Front → Type 0
FrontSeat f = AllByRecursion ShapedDescribed f.before

abbrev pub HeadingSeat : Heading → Type 0
HeadingSeat h = FrontSeat h.front × Led h.leading h.implements

abbrev pub FieldsSeat : Fields → Type 0
FieldsSeat f = HeadingSeat f.heading × ShapedDirectives true f.directives

abbrev pub FieldSeat : OpenField → Type 0
FieldSeat f = FieldsSeat f.fields × AllByRecursion ShapedField f.before

abbrev pub ArguedSeat : ArguedField → Type 0
ArguedSeat a = FieldSeat a.field × AllByRecursion ShapedInput a.arguments

abbrev pub InputsSeat : Inputs → Type 0
InputsSeat (of_field f) = FieldSeat f
InputsSeat (of_directive f n) = FrontSeat f
InputsSeat (of_object f n ds) = FrontSeat f × ShapedDirectives true ds

abbrev pub InputSeat : OpenInput → Type 0
InputSeat i = InputsSeat i.inputs × AllByRecursion ShapedInput i.before

abbrev pub TypedInputSeat : TypedInput → Type 0
TypedInputSeat i = InputSeat i.input × ShapedType (ty_of i.of)

abbrev pub ValuesSeat : Values → Type 0
ValuesSeat v = FrontSeat v.front × ShapedDirectives true v.directives

abbrev pub ValueSeat : OpenValue → Type 0
ValueSeat v = ValuesSeat v.values × AllByRecursion ShapedEnumValue v.before × IsEnumName v.title

abbrev pub TypedSeat : Typed → Type 0
TypedSeat (input_type i) = InputSeat i
TypedSeat (field_type a) = ArguedSeat a

abbrev pub OwnerSeat : Owner → Type 0
OwnerSeat (on_schema f) = FrontSeat f
OwnerSeat (on_scalar f n) = FrontSeat f
OwnerSeat (on_fielded h) = HeadingSeat h
OwnerSeat (on_union f n) = FrontSeat f
OwnerSeat (on_enum f n) = FrontSeat f
OwnerSeat (on_object f n) = FrontSeat f
OwnerSeat (on_input i v) = TypedInputSeat i × ShapedDefault v
OwnerSeat (on_field a u) = ArguedSeat a × ShapedType (ty_of u)
OwnerSeat (on_value v) = ValueSeat v

abbrev pub ListingSeat : Listing → Type 0
ListingSeat (implementing f k n ns) = FrontSeat f
ListingSeat (uniting f n ds ns) = FrontSeat f × ShapedDirectives true ds
ListingSeat (locating f n ws repeatable ls) = FrontSeat f × AllByRecursion ShapedInput ws

-- no name was listed yet
abbrev pub IsEmpty : {A : Type 0} → List A → Type 0
IsEmpty [] = Unit {0}
IsEmpty (a ∷ more) = ⊥

pub all-push : {A : Type 0} (P : A → Type 0) (xs : List A) (x : A) → AllByRecursion P xs → P x → AllByRecursion P (xs ++ x ∷ [])
all-push P [] x h k = (k, tt)
all-push P (y ∷ xs) x h k = (h.0, all-push P xs x h.1 k)
