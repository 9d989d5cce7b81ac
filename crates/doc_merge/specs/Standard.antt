-- The standard's own form of the same rule, with joined sets: of each pair of a set, then of the joined set of the pair
-- (GraphQL, October 2021, section 5.3.2). The number bounds how many sets stand in one another.
use Rattle.std.specs.Prelude.{ℕ, zero, suc, cond, not, List, [], ◌++◌, bytes_eq, max}
use Rattle.plan_ir.specs.gql_ast.declared.place.FilePlace.{FilePlace}
use Rattle.doc_merge.specs.Merging.{Field, Fields, no_fields, field, meet}
use Rattle.doc_merge.specs.Places.{wrong}
use Rattle.doc_merge.specs.Shapes.{same_shape}
use Rattle.doc_merge.specs.Signatures.{same_signature}

-- the fields of both sets
abbrev pub join : Fields → Fields → Fields
join no_fields ys = ys
join (field a below next) ys = field a below (join next ys)

abbrev pub later : (Field → Fields → Field → Fields → List FilePlace) → Field → Fields → Fields → List FilePlace
later f a below no_fields = []
later f a below (field b inner next) = cond (bytes_eq a.key b.key) (f a below b inner) [] ++ later f a below next

-- of each pair of fields of one response key
abbrev pub pairs : (Field → Fields → Field → Fields → List FilePlace) → Fields → List FilePlace
pairs f no_fields = []
pairs f (field a below next) = later f a below next ++ pairs f next

-- SameResponseShape of each pair of a set
abbrev pub same_response_shape : ℕ → Fields → List FilePlace
same_response_shape zero fs = []
same_response_shape (suc n) fs = pairs (λ a below b inner. wrong (not (same_shape a.shape b.shape)) b.place ++ same_response_shape n (join below inner)) fs

-- FieldsInSetCanMerge
abbrev pub fields_in_set_can_merge : ℕ → Fields → List FilePlace
fields_in_set_can_merge zero fs = []
fields_in_set_can_merge (suc n) fs = pairs (λ a below b inner. (wrong (not (same_shape a.shape b.shape)) b.place ++ same_response_shape n (join below inner))
    ++ cond (meet a.parent b.parent) (wrong (not (same_signature a.signature b.signature)) b.place ++ fields_in_set_can_merge n (join below inner)) []) fs

-- FieldsInSetCanMerge of each selection set inside
abbrev pub each_set_can_merge : ℕ → Fields → List FilePlace
each_set_can_merge n no_fields = []
each_set_can_merge n (field a below next) = (fields_in_set_can_merge n below ++ each_set_can_merge n below) ++ each_set_can_merge n next

-- how many sets stand in one another
abbrev pub depth : Fields → ℕ
depth no_fields = 0
depth (field a below next) = max (suc (depth below)) (depth next)
