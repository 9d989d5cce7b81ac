-- A field by the name inside its type.
use Rattle.std.proofs.Common.{◌≡◌, Bool, true, false, not, is_some, option_map, Option, Some, None, refl}
use Rattle.doc_sites.specs.gql_ast.Ty.{Ty}
use Rattle.doc_sites.specs.schema_types.FieldRules.{set_is_wrong, is_float}
use Rattle.doc_sites.specs.schema_tables.Types.{Text, Defs, base_of}
use Rattle.doc_fields.specs.Bases.{set_wrong_of, float_of}

pub set_by_base : (defs : Defs) (t : Option Ty) (has_set : Bool) → set_wrong_of defs (option_map base_of t) has_set ≡ set_is_wrong defs t has_set
set_by_base defs None b = refl
set_by_base defs (Some t) true = refl
set_by_base defs (Some t) false = refl

pub float_by_base : (t : Option Ty) → float_of (option_map base_of t) ≡ is_float t
float_by_base None = refl
float_by_base (Some t) = refl

pub no_type : (t : Option Ty) → None ≡ option_map base_of t → true ≡ not (is_some t)
no_type None e = refl
no_type (Some t) e = cc

pub a_type : (t : Option Ty) (n : Text) → Some n ≡ option_map base_of t → false ≡ not (is_some t)
a_type None n e = cc
a_type (Some t) n e = refl
