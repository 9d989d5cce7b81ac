-- A key that is kept with a field is the one that the field is stored under, in each environment.
use Rattle.std.proofs.Common.{◌≡◌, Bool, true, false, cond, List, [], Option, Some, None, refl, sym, ap, ◌∙◌}
use Rattle.relay_marks.specs.gql_ast.Value.{Val, members_of}
use Rattle.plan_ir.specs.FieldKeys.{constant_key}
use Rattle.relay_marks.specs.schema_tables.Types.{Text}
use Rattle.relay_marks.specs.schema_types.Environments.{Values, arguments_in_environment}
use Rattle.relay_marks.proofs.constant_values_laws.ConstantValues.{constant_members}
use Rattle.relay_marks.specs.constant_values.Fittings.{have_constants}
use Rattle.store_model.specs.store_record.Keys.{field_key}

abbrev text_or : Text → Option Text → Text
text_or other None = other
text_or other (Some t) = t

pub kept_key : (env : Values) (name : Text) (xs : List (Text × Val)) (key : Text) → Some key ≡ constant_key name xs → key ≡ field_key name (arguments_in_environment env xs)
kept_key env name xs key = at (have_constants (members_of xs)) refl
  where
    at : (b : Bool) → have_constants (members_of xs) ≡ b → Some key ≡ cond b (Some (field_key name (arguments_in_environment [] xs))) None → key ≡ field_key name (arguments_in_environment env xs)
    at true constant e = ap (text_or key) e ∙ ap (field_key name) (constant_members [] env (members_of xs) constant)
    at false constant e = cc
