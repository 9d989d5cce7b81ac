-- At the end of the loop all nodes are written; a field without a set has none in its text.
use Rattle.std.proofs.Common.{◌≡◌, [], ◌∷◌, ◌++◌, drop, map, OnOk, string_bytes, sym, ap, subst, ◌∙◌, arith}
use Rattle.std.proofs.lemmas.Bool.{true≢false}
use Rattle.std.proofs.lemmas.List.{drop_all}
use Rattle.plan_ir.specs.Nodes.{end}
use Rattle.plan_ir.specs.NodesView.{nodes_of}
use Rattle.plan_ir.specs.OperationText.{arguments_text, directives_text, enclose, join_texts, name_text, node_texts}
use Rattle.plan_ir.specs.declared.node.Node.{Node}
use Rattle.plan_text.proofs.Joining.{all_written, enclosed_written}
use Rattle.plan_text.proofs.Listing.{field_written, node_texts-nodes_of, set_told}
use Rattle.plan_text.proofs.selections.+selections.Goals as goal
use Rattle.plan_text.specs.NodeTexts.{node_text}
use Rattle.plan_ir.specs.schema_tables.Types.{Text}

pub write_set-returns : goal.write_set-returns
write_set-returns t c =
    let items = c.deref-node-items.result.now in
    let texts = map node_text items in
    let inside : string_bytes c.items.out ≡ string_bytes c.push.new.self ++ join_texts 32 texts =
    all_written c.items.begun 32 (string_bytes c.push.new.self) (string_bytes c.items.out) (map node_text (drop c.items.node-index items)) texts
    (ap (map node_text) (drop_all c.items.node-index items c.items-test.false)) c.items.invariant in
    let first : string_bytes c.push.new.self ≡ string_bytes c.args.out.now ++ 123 ∷ [] =
    c.in_ok-push.ensures.bytes ∙ ap (λ t. string_bytes c.args.out.now ++ t) (c.in_ok-push.ensures.ascii (omega arith)) in
    let last : string_bytes c.push-2.new.self ≡ string_bytes c.items.out ++ 125 ∷ [] =
    c.in_ok-push-2.ensures.bytes ∙ ap (λ t. string_bytes c.items.out ++ t) (c.in_ok-push-2.ensures.ascii (omega arith)) in
    enclosed_written 123 32 125 (string_bytes c.args.out.now) (string_bytes c.push.new.self) (string_bytes c.items.out) (string_bytes c.push-2.new.self) texts first inside last
    ∙ ap (λ ts. string_bytes c.args.out.now ++ enclose 123 32 125 ts) (sym (node_texts-nodes_of items) ∙ ap (λ xs. node_texts (nodes_of xs)) c.deref-node-items.ensures.value ∙ ap node_texts c.nodes.view_is)

pub write_node-returns-else-is_empty : goal.write_node-returns-else-is_empty
write_node-returns-else-is_empty t c =
    let old : Text = string_bytes c.args.out.now in
    let name : Text = name_text c.in-Field.response c.in-Field.name in
    let given : Text = arguments_text c.in-Field.arguments in
    let marks : Text = directives_text c.in-Field.directives in
    let set : Text = enclose 123 32 125 (node_texts c.in-Field.selections) in
    let parts : string_bytes c.write_directives.new.out ++ set ≡ old ++ (name ++ given ++ marks ++ set) =
    field_written old name given marks set (string_bytes c.write_name.new.out) (string_bytes c.write_arguments.new.out) (string_bytes c.write_directives.new.out)
    c.in_ok-write_name-in-Field.ensures c.in_ok-write_arguments-in-Field.ensures c.in_ok-write_directives-in-Field.ensures in
    let some : c.in-Field.selections ≡ end → ⊥ = λ e. true≢false (sym (c.is_empty.ensures.1 e) ∙ c.if-is_empty.false) in
    let whole : old ++ (name ++ given ++ marks ++ set) ≡ old ++ node_text c.args.node.now =
    ap (λ z. old ++ (name ++ given ++ marks ++ z)) (sym (set_told c.in-Field.selections some)) ∙ ap (λ (n : Node). old ++ node_text n) (sym c.in-Field.is) in
    subst (λ z. OnOk c.write_set.result (string_bytes c.write_set.new.out ≡ z)) (parts ∙ whole) c.write_set.ensures
