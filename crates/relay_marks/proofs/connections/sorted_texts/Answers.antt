-- The texts in their order.
use Rattle.std.proofs.Common.{◌≡◌, ◌++◌, List, map, ap, sym, ◌∙◌, arith}
use Rattle.std.proofs.lemmas.List.{append-nil, drop_all}
use Rattle.std.proofs.lemmas.Result.{IfOk-weaker}
use Rattle.gql_syntax.proofs.gql_plain_laws.SortedTexts.{AreSortedOf-is}
use Rattle.gql_syntax.specs.gql_plain.Order.{AreSortedOf, sorted_texts}
use Rattle.gql_syntax.specs.gql_ast.Value.{vals_of}
use Rattle.gql_syntax.specs.gql_ast.ValueView.{value_of}
use Rattle.gql_syntax.specs.gql_ast.declared.value.ValueTree.{ValueTree}
use Rattle.relay_marks.specs.Connections.{sorted_texts_in, texts_in}
use Rattle.relay_marks.proofs.connections.sorted_texts.Goals as goal

pub returns : goal.returns
returns c =
    let all : c.values.texts.items ≡ texts_in (vals_of c.args.values.now) =
    sym (append-nil c.values.texts.items)
    ∙ sym (ap (λ (vs : List ValueTree). c.values.texts.items ++ texts_in (vals_of (map value_of vs))) (drop_all c.values.value-index c.as_slice-value-items.result.now (omega arith)))
    ∙ c.values.invariant in
    IfOk-weaker c.sort.result (AreSortedOf c.values.texts.items) (λ ids. ids ≡ sorted_texts_in (vals_of c.args.values.now))
    (λ ids sorted. AreSortedOf-is c.values.texts.items ids sorted ∙ ap sorted_texts all) c.sort.ensures
