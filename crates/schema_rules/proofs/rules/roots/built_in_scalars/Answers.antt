-- The five names, put from the last to the first.
use Rattle.std.proofs.Common.{List, [], ◌∷◌, codes}
use Rattle.gql_graph.specs.Texts.{Text}
use Rattle.schema_rules.proofs.rules.roots.built_in_scalars.Goals as goal

abbrev fifth : List Text
fifth = codes "ID" ∷ []

abbrev fourth : List Text
fourth = codes "Boolean" ∷ fifth

abbrev third : List Text
third = codes "String" ∷ fourth

abbrev second : List Text
second = codes "Float" ∷ third

pub returns : goal.returns
returns c = c.in_ok-insert-5.ensures.known second (c.in_ok-insert-4.ensures.known third (c.in_ok-insert-3.ensures.known fourth (c.in_ok-insert-2.ensures.known fifth (c.in_ok-insert.ensures.known [] c.new-seen.ensures))))
