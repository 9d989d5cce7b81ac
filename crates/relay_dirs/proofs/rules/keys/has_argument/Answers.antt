-- The first argument of the name, where there is one.
use Rattle.std.proofs.Common.{◌≡◌, Bool, true, false, cond, ◌||◌, List, [], ◌∷◌, map, Option, Some, is_some, bytes_eq, refl, ap, ◌∙◌}
use Rattle.gql_syntax.specs.gql_plain.Order.{has_text}
use Rattle.constant_values.specs.gql_graph.Texts.{Text}
use Rattle.constant_values.specs.schema_tables.Inputs.{input_among}
use Rattle.constant_values.specs.schema_tables.Views.{InputDef}
use Rattle.relay_dirs.proofs.rules.keys.has_argument.Goals as goal

some_or : (b : Bool) (i : InputDef) (o : Option InputDef) → is_some (cond b (Some i) o) ≡ (b || is_some o)
some_or true i o = refl
some_or false i o = refl

is_there : (is : List InputDef) (n : Text) → is_some (input_among is n) ≡ has_text (map (λ (i : InputDef). i.name) is) n
is_there [] n = refl
is_there (i ∷ is) n = some_or (bytes_eq i.name n) i (input_among is n) ∙ ap (λ (b : Bool). bytes_eq i.name n || b) (is_there is n)

pub returns : goal.returns
returns c = c.is_some.ensures ∙ ap is_some c.find.ensures ∙ is_there c.args.inputs.now c.args.name.now
