use Rattle.std.proofs.Common.{◌≡◌, ℕ, Bool, List, [], ◌∷◌, ◌++◌, is_some, take, append_assoc, ap, sym, ◌∙◌}
use Rattle.std.proofs.lemmas.List.{take_all, take_more}
use Rattle.std.proofs.lemmas.List.Elements.{filter-append}
use Rattle.std.proofs.lemmas.Result.{IfOk-weaker}
use Rattle.std.specs.List.{filter}
use Rattle.gql_ast.proofs.gql_plain_laws.SortedTexts.{AreSortedOf-is}
use Rattle.gql_graph.specs.gql_plain.Order.{AreSortedOf, sorted_texts}
use Rattle.schema_tables.proofs.possible.with_objects.Goals as goal
use Rattle.schema_tables.specs.Objects.{names_object}
use Rattle.schema_tables.specs.Places.{first_at}

pub members-preserved : goal.members-preserved
members-preserved c =
    let is_object : List ℕ → Bool = λ n. is_some (first_at (names_object n) c.args.definitions.now) in
    let ms = c.args.members.now in
    let i = c.members.member-index in
    c.in_ok-push_object.ensures ∙ ap (λ ns. ns ++ filter is_object (c.member-item.result ∷ [])) c.members.invariant
    ∙ append_assoc c.in_ok-names.names (filter is_object (take i ms)) (filter is_object (c.member-item.result ∷ []))
    ∙ ap (λ ns. c.in_ok-names.names ++ ns)
    (sym (filter-append is_object (take i ms) (c.member-item.result ∷ []))
    ∙ ap (filter is_object) (ap (λ m. take i ms ++ m ∷ []) c.member-item.is ∙ sym (take_more ms i c.member-item.result c.members-test.true)))

pub returns-then-is_empty : goal.returns-then-is_empty
returns-then-is_empty c =
    let group : c.in_ok-names.names ≡ c.args.group.now = c.in_ok-names.ensures in
    let whole : c.members.names ≡ c.args.group.now ++ filter (λ n. is_some (first_at (names_object n) c.args.definitions.now)) c.args.members.now =
    c.members.invariant ∙ ap (λ g. g ++ filter (λ n. is_some (first_at (names_object n) c.args.definitions.now)) (take c.members.member-index c.args.members.now)) group
    ∙ ap (λ ms. c.args.group.now ++ filter (λ n. is_some (first_at (names_object n) c.args.definitions.now)) ms) (take_all c.members.member-index c.args.members.now c.members-test.false) in
    c.new.ensures ∙ ap sorted_texts (sym (c.is_empty.ensures.0 c.if-is_empty.true) ∙ whole)

pub returns : goal.returns
returns c =
    let group : c.in_ok-names.names ≡ c.args.group.now = c.in_ok-names.ensures in
    let whole : c.names-2.inside.items.items ≡ c.args.group.now ++ filter (λ n. is_some (first_at (names_object n) c.args.definitions.now)) c.args.members.now =
    c.names-2.view_is ∙ c.members.invariant ∙ ap (λ g. g ++ filter (λ n. is_some (first_at (names_object n) c.args.definitions.now)) (take c.members.member-index c.args.members.now)) group
    ∙ ap (λ ms. c.args.group.now ++ filter (λ n. is_some (first_at (names_object n) c.args.definitions.now)) ms) (take_all c.members.member-index c.args.members.now c.members-test.false) in
    IfOk-weaker c.sort.result (AreSortedOf c.names-2.inside.items.items)
    (λ ids. ids ≡ sorted_texts (c.args.group.now ++ filter (λ n. is_some (first_at (names_object n) c.args.definitions.now)) c.args.members.now))
    (λ ids sorted. AreSortedOf-is c.names-2.inside.items.items ids sorted ∙ ap sorted_texts whole) c.sort.ensures
