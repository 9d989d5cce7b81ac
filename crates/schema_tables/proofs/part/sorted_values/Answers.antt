use Rattle.std.proofs.Common.{◌≡◌, map, ap, ◌∙◌}
use Rattle.std.proofs.lemmas.List.{take_all}
use Rattle.std.proofs.lemmas.Result.{IfOk-weaker}
use Rattle.gql_ast.specs.declared.member.EnumValue.{EnumValue}
use Rattle.gql_ast.proofs.gql_plain_laws.SortedTexts.{AreSortedOf-is}
use Rattle.gql_graph.specs.gql_plain.Order.{AreSortedOf, sorted_texts}
use Rattle.schema_tables.proofs.part.sorted_values.Goals as goal

pub returns : goal.returns
returns c =
    IfOk-weaker c.sort.result (AreSortedOf c.values.words.items) (λ ids. ids ≡ sorted_texts (map (λ (v : EnumValue). v.name) c.args.values.now))
    (λ ids sorted. AreSortedOf-is c.values.words.items ids sorted
    ∙ ap sorted_texts (c.values.invariant ∙ ap (map (λ (v : EnumValue). v.name)) (take_all c.values.value-index c.args.values.now c.values-test.false))) c.sort.ensures
