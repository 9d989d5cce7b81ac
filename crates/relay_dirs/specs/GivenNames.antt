-- The names of the arguments that are given, and not as `null`.
use Rattle.std.specs.Prelude.{List, [], ◌∷◌, cond}
use Rattle.constant_values.specs.schema_types.ArgumentRules.{is_null}
use Rattle.constant_values.specs.gql_graph.Rules.{each}
use Rattle.constant_values.specs.schema_types.Sites.{ArgumentAt}
use Rattle.constant_values.specs.gql_graph.Texts.{Text}

abbrev pub given_name : ArgumentAt → List Text
given_name x = cond (is_null x.value.of) [] (x.name.name ∷ [])

abbrev pub given_names : List ArgumentAt → List Text
given_names xs = each given_name xs
