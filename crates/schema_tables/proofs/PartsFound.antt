-- What is kept of a definition, by the kinds of definitions.
use Rattle.std.proofs.Common.{◌≡◌, ℕ, zero, suc, ◌<◌, Bool, List, [], ◌∷◌, ◌++◌, length, map, get_or, Option, Some, None, refl, sym, ap, subst, ◌∙◌, arith}
use Rattle.gql_ast.specs.declared.directive.Directive.{Directive}
use Rattle.gql_ast.specs.declared.location.Location.{Location}
use Rattle.gql_ast.specs.declared.member.EnumValue.{EnumValue}
use Rattle.gql_ast.specs.declared.member.FieldTree.{FieldTree}
use Rattle.gql_ast.specs.declared.member.InputTree.{InputTree}
use Rattle.gql_ast.specs.declared.schema.SchemaDef.{SchemaDef}
use Rattle.gql_ast.specs.declared.schema.SchemaDef.TheVariants as S
use Rattle.gql_graph.specs.gql_plain.Order.{sorted_texts}
use Rattle.std.specs.Option.{option_map}
use Rattle.schema_tables.specs.declared.index.Index.{Index}
use Rattle.schema_tables.specs.declared.members.FieldTable.{FieldTable}
use Rattle.schema_tables.specs.declared.part.Part.{Part}
use Rattle.schema_tables.specs.declared.part.Part.TheVariants as P
use Rattle.schema_tables.specs.declared.places.InputPlaces as kept
use Rattle.schema_tables.specs.BuiltIn.{defined_directive}
use Rattle.schema_tables.specs.Indexes.{IsIndexOf}
use Rattle.schema_tables.specs.InputPlaces.{ArePlaced}
use Rattle.schema_tables.specs.TableParts.{AreFields, AreInputs, AreMembers, AreParts, IsFieldTable, IsPartOf, is_text, own_name}
use Rattle.schema_tables.specs.Types.{Defs, Text, fields_of, input_fields_of, interfaces_of, names_in_enum, union_members_of}

-- ---- a type with fields

pub with_fields : (d : SchemaDef) (p : Part) (is : Index) (t : FieldTable) → IsPartOf d p → p ≡ P.Fields is t → IsFieldTable (fields_of d) t × IsIndexOf own_name is_text (interfaces_of d) is.places.items
with_fields (S.Schema ds rs) p is t of e = cc
with_fields (S.Scalar n ds) p is t of e = cc
with_fields (S.Object n js ds fs) p is t of e = let both : AreFields js fs (P.Fields is t) = subst (AreFields js fs) e of in (both.1, both.0)
with_fields (S.Interface n js ds fs) p is t of e = let both : AreFields js fs (P.Fields is t) = subst (AreFields js fs) e of in (both.1, both.0)
with_fields (S.Union n ds ms) p is t of e = absurd (subst (AreMembers ms) e of)
with_fields (S.Enum n ds vs) p is t of e = cc
with_fields (S.Input n ds xs) p is t of e = absurd (subst (AreInputs xs) e of)
with_fields (S.Directive n xs r ls) p is t of e = absurd (subst (AreInputs xs) e of)

no_fields : (is : List Text) (fs : List FieldTree) (p : Part) → AreFields is fs p → ((js : Index) (t : FieldTable) → p ≡ P.Fields js t → ⊥) → ⊥
no_fields is fs P.Bare of none = of
no_fields is fs (P.Fields js t) of none = none js t refl
no_fields is fs (P.Members ms) of none = of
no_fields is fs (P.Values vs) of none = of
no_fields is fs (P.Inputs xs) of none = of

pub without_fields : (d : SchemaDef) (p : Part) → IsPartOf d p → ((js : Index) (t : FieldTable) → p ≡ P.Fields js t → ⊥) → (fields_of d ≡ []) × (interfaces_of d ≡ [])
without_fields (S.Schema ds rs) p of none = (refl, refl)
without_fields (S.Scalar n ds) p of none = (refl, refl)
without_fields (S.Object n js ds fs) p of none = absurd (no_fields js fs p of none)
without_fields (S.Interface n js ds fs) p of none = absurd (no_fields js fs p of none)
without_fields (S.Union n ds ms) p of none = (refl, refl)
without_fields (S.Enum n ds vs) p of none = (refl, refl)
without_fields (S.Input n ds xs) p of none = (refl, refl)
without_fields (S.Directive n xs r ls) p of none = (refl, refl)

-- ---- a union

pub with_members : (d : SchemaDef) (p : Part) (is : Index) → IsPartOf d p → p ≡ P.Members is → IsIndexOf own_name is_text (union_members_of d) is.places.items
with_members (S.Schema ds rs) p is of e = cc
with_members (S.Scalar n ds) p is of e = cc
with_members (S.Object n js ds fs) p is of e = absurd (subst (AreFields js fs) e of)
with_members (S.Interface n js ds fs) p is of e = absurd (subst (AreFields js fs) e of)
with_members (S.Union n ds ms) p is of e = subst (AreMembers ms) e of
with_members (S.Enum n ds vs) p is of e = cc
with_members (S.Input n ds xs) p is of e = absurd (subst (AreInputs xs) e of)
with_members (S.Directive n xs r ls) p is of e = absurd (subst (AreInputs xs) e of)

no_members : (ms : List Text) (p : Part) → AreMembers ms p → ((is : Index) → p ≡ P.Members is → ⊥) → ⊥
no_members ms P.Bare of none = of
no_members ms (P.Fields js t) of none = of
no_members ms (P.Members is) of none = none is refl
no_members ms (P.Values vs) of none = of
no_members ms (P.Inputs xs) of none = of

pub without_members : (d : SchemaDef) (p : Part) → IsPartOf d p → ((is : Index) → p ≡ P.Members is → ⊥) → union_members_of d ≡ []
without_members (S.Schema ds rs) p of none = refl
without_members (S.Scalar n ds) p of none = refl
without_members (S.Object n js ds fs) p of none = refl
without_members (S.Interface n js ds fs) p of none = refl
without_members (S.Union n ds ms) p of none = absurd (no_members ms p of none)
without_members (S.Enum n ds vs) p of none = refl
without_members (S.Input n ds xs) p of none = refl
without_members (S.Directive n xs r ls) p of none = refl

-- ---- an enum

pub with_values : (d : SchemaDef) (p : Part) (ns : List Text) → IsPartOf d p → p ≡ P.Values ns → Some ns ≡ option_map sorted_texts (names_in_enum d)
with_values (S.Schema ds rs) p ns of e = cc
with_values (S.Scalar n ds) p ns of e = cc
with_values (S.Object n js ds fs) p ns of e = absurd (subst (AreFields js fs) e of)
with_values (S.Interface n js ds fs) p ns of e = absurd (subst (AreFields js fs) e of)
with_values (S.Union n ds ms) p ns of e = absurd (subst (AreMembers ms) e of)
with_values (S.Enum n ds vs) p ns of e = cc
with_values (S.Input n ds xs) p ns of e = absurd (subst (AreInputs xs) e of)
with_values (S.Directive n xs r ls) p ns of e = absurd (subst (AreInputs xs) e of)

pub without_values : (d : SchemaDef) (p : Part) → IsPartOf d p → ((ns : List Text) → p ≡ P.Values ns → ⊥) → names_in_enum d ≡ None
without_values (S.Schema ds rs) p of none = refl
without_values (S.Scalar n ds) p of none = refl
without_values (S.Object n js ds fs) p of none = refl
without_values (S.Interface n js ds fs) p of none = refl
without_values (S.Union n ds ms) p of none = refl
without_values (S.Enum n ds vs) p of none = absurd (none _ of)
without_values (S.Input n ds xs) p of none = refl
without_values (S.Directive n xs r ls) p of none = refl

-- ---- inputs and arguments

pub with_inputs : (is : List InputTree) (p : Part) (q : kept.InputPlaces) → AreInputs is p → p ≡ P.Inputs q → ArePlaced is q.names.places.items q.required.places.items
with_inputs is p q of e = subst (AreInputs is) e of

pub without_inputs : (is : List InputTree) (p : Part) → AreInputs is p → ((q : kept.InputPlaces) → p ≡ P.Inputs q → ⊥) → ⊥
without_inputs is P.Bare of none = of
without_inputs is (P.Fields js t) of none = of
without_inputs is (P.Members ms) of none = of
without_inputs is (P.Values vs) of none = of
without_inputs is (P.Inputs q) of none = none q refl

pub no_input_fields : (d : SchemaDef) → ((n : Text) (ds : List Directive) (fs : List InputTree) → d ≡ S.Input n ds fs → ⊥) → input_fields_of d ≡ None
no_input_fields (S.Schema ds rs) none = refl
no_input_fields (S.Scalar n ds) none = refl
no_input_fields (S.Object n js ds fs) none = refl
no_input_fields (S.Interface n js ds fs) none = refl
no_input_fields (S.Union n ds ms) none = refl
no_input_fields (S.Enum n ds vs) none = refl
no_input_fields (S.Input n ds xs) none = absurd (none n ds xs refl)
no_input_fields (S.Directive n xs r ls) none = refl

pub no_directive : (d : SchemaDef) → ((n : Text) (xs : List InputTree) (r : Bool) (ls : List Location) → d ≡ S.Directive n xs r ls → ⊥) → defined_directive d ≡ None
no_directive (S.Schema ds rs) none = refl
no_directive (S.Scalar n ds) none = refl
no_directive (S.Object n js ds fs) none = refl
no_directive (S.Interface n js ds fs) none = refl
no_directive (S.Union n ds ms) none = refl
no_directive (S.Enum n ds vs) none = refl
no_directive (S.Input n ds xs) none = refl
no_directive (S.Directive n xs r ls) none = absurd (none n xs r ls refl)

-- ---- the part at a place

pub as_many : (ds : Defs) (ps : List Part) → AreParts ds ps → length ds ≡ length ps
as_many [] [] are = refl
as_many [] (p ∷ ps) are = absurd are
as_many (d ∷ ds) [] are = absurd are
as_many (d ∷ ds) (p ∷ ps) are = ap suc (as_many ds ps are.1)

pub part_at : (ds : Defs) (ps : List Part) (at : ℕ) (d : SchemaDef) (p : Part) → AreParts ds ps → at < length ds → d ≡ get_or ds at d → p ≡ get_or ps at p → IsPartOf d p
part_at [] ps at d p are low here there = absurd (omega arith)
part_at (e ∷ ds) [] at d p are low here there = absurd are
part_at (e ∷ ds) (q ∷ ps) zero d p are low here there = subst (λ x. IsPartOf x p) (sym here) (subst (IsPartOf e) (sym there) are.0)
part_at (e ∷ ds) (q ∷ ps) (suc at) d p are low here there = part_at ds ps at d p are.1 (omega arith) here there

pub one_part : (ds : Defs) (ps : List Part) (d : SchemaDef) (p : Part) → AreParts ds ps → IsPartOf d p → AreParts (ds ++ d ∷ []) (ps ++ p ∷ [])
one_part [] [] d p are of = (of, tt)
one_part [] (q ∷ ps) d p are of = absurd are
one_part (e ∷ ds) [] d p are of = absurd are
one_part (e ∷ ds) (q ∷ ps) d p are of = (are.0, one_part ds ps d p are.1 of)
