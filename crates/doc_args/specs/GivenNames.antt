-- The names of the arguments that are given, and not as `null`.
use Rattle.std.specs.Prelude.{ℕ, ◌+◌, not, ◌&&◌, List, [], ◌∷◌, cond}
use Rattle.gql_graph.specs.gql_plain.Order.{has_text}
use Rattle.gql_graph.specs.Texts.{Text}
use Rattle.doc_uses.specs.schema_tables.Required.{one_if}
use Rattle.doc_uses.specs.schema_types.ArgumentRules.{is_null}
use Rattle.doc_uses.specs.schema_trees.Located.{Located}
use Rattle.gql_graph.specs.Rules.{each}
use Rattle.doc_uses.specs.schema_types.Sites.{ArgumentAt}

abbrev pub given_name : ArgumentAt → List Located
given_name a = cond (is_null a.value.of) [] (a.name ∷ [])

abbrev pub given_names : List ArgumentAt → List Located
given_names xs = each given_name xs

-- how many of the names that are not seen yet are among those, each counted once
abbrev pub count_new : (those seen : List Text) → List Text → ℕ
count_new those seen [] = 0
count_new those seen (n ∷ ns) = one_if (not (has_text seen n) && has_text those n) + count_new those (n ∷ seen) ns
