-- What is found, or none.
use Rattle.std.proofs.Common.{List, [], Option, unwrap_or, ap, ◌∙◌}
use Rattle.gql_graph.specs.Texts.{Text}
use Rattle.gql_graph.proofs.Graphs.{found_or_none}
use Rattle.gql_graph.proofs.graph.Graph.next.Goals as goal

pub returns : goal.returns
returns c = λ next t. found_or_none _ _ c.unwrap_or_default.ensures ∙ ap (λ (o : Option (List Text)). unwrap_or o []) c.find.ensures ∙ t c.args.name.now
