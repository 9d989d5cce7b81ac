-- Field selections can merge (GraphQL, October 2021, section 5.3.2).
use Rattle.std.specs.Prelude.{Bool, true, cond, not, ◌&&◌, ◌||◌, List, [], ◌++◌, Option, Some, None, bytes_eq}
use Rattle.plan_ir.specs.gql_ast.declared.place.FilePlace.{FilePlace}
use Rattle.plan_ir.specs.schema_tables.Types.{Text}
use Rattle.doc_merge.specs.Places.{wrong}
use Rattle.doc_merge.specs.Shapes.{Shape, same_shape}
use Rattle.doc_merge.specs.Signatures.{Signature, same_signature}

-- a field of a set: its response key, the object type that holds it (or none), its shape, its name and arguments, its place
pub record Field : Type 0 where
  pub key : Text
  pub parent : Option Text
  pub shape : Shape
  pub signature : Signature
  pub place : FilePlace

-- the fields of a set, gathered through its inline fragments, each with the fields below it
pub data Fields : Type 0 where
  no_fields : Fields
  field : Field → Fields → Fields → Fields

-- the parent types are the same, or one is no object type
abbrev pub meet : Option Text → Option Text → Bool
meet (Some a) (Some b) = bytes_eq a b
meet (Some a) None = true
meet None b = true

-- by shape, and where they are merged by name and arguments
abbrev pub differ : (merging : Bool) → Field → Field → Bool
differ merging a b = not (same_shape a.shape b.shape) || (merging && not (same_signature a.signature b.signature))

-- a field against the fields of a set that stand later: where the response keys are the same, the two themselves, and what `inner` says of
-- the fields below the later one
abbrev pub against : (merging : Bool) → Field → (inner : Bool → Fields → List FilePlace) → Fields → List FilePlace
against merging a inner no_fields = []
against merging a inner (field b below next) =
    cond (bytes_eq a.key b.key) (wrong (differ (merging && meet a.parent b.parent) a b) b.place ++ inner (merging && meet a.parent b.parent) below) []
    ++ against merging a inner next

-- each field of a set against each field of another
abbrev pub crossing : (merging : Bool) → Fields → Fields → List FilePlace
crossing merging no_fields bs = []
crossing merging (field a below next) bs = against merging a (λ (m : Bool) (cs : Fields). crossing m below cs) bs ++ crossing merging next bs

-- the places of the later fields of the pairs that differ, in a set and in the sets below it
abbrev pub differences : Fields → List FilePlace
differences no_fields = []
differences (field a below next) = differences below ++ against true a (λ (m : Bool) (cs : Fields). crossing m below cs) next ++ differences next
