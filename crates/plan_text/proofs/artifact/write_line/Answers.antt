-- What the writer wrote is the tree of the line.
use Rattle.std.proofs.Common.{◌≡◌, ◌++◌, [], ◌∷◌, codes, ap, ◌∙◌}
use Rattle.plan_ir.proofs.gql_plain_laws.Tokens.{print-tree_tokens}
use Rattle.plan_ir.specs.gql_plain.ToJson.{tree_tokens}
use Rattle.plan_ir.specs.gql_plain.Tree as tree
use Rattle.plan_ir.specs.gql_plain.Tree.{Tree}
use Rattle.json.specs.Print.{print}
use Rattle.json.specs.Token as token
use Rattle.plan_ir.specs.OperationText.{text_member}
use Rattle.plan_text.proofs.artifact.write_line.Goals as goal

pub returns : goal.returns
returns c =
    let line : Tree =
    tree.object (text_member (codes "kind") c.args.kind.now (text_member (codes "name") c.args.name.now (text_member c.args.member.key.now c.args.member.value.now tree.no_members))) in
    let t1 = c.in_ok-begin_object.ensures.ok ∙ ap (λ ts. ts ++ token.begin_object ∷ []) c.new-out.ensures.tokens in
    let t2 = c.in_ok-key.ensures.ok ∙ ap (λ ts. ts ++ token.key (codes "kind") ∷ []) t1 in
    let t3 = c.in_ok-string.ensures.ok ∙ ap (λ ts. ts ++ token.string c.args.kind.now ∷ []) t2 in
    let t4 = c.in_ok-key-2.ensures.ok ∙ ap (λ ts. ts ++ token.key (codes "name") ∷ []) t3 in
    let t5 = c.in_ok-string-2.ensures.ok ∙ ap (λ ts. ts ++ token.string c.args.name.now ∷ []) t4 in
    let t6 = c.in_ok-key-3.ensures.ok ∙ ap (λ ts. ts ++ token.key c.args.member.key.now ∷ []) t5 in
    let t7 = c.in_ok-string-3.ensures.ok ∙ ap (λ ts. ts ++ token.string c.args.member.value.now ∷ []) t6 in
    let t8 = c.in_ok-end_object.ensures.ok ∙ ap (λ ts. ts ++ token.end_object ∷ []) t7 in
    let tokens : c.end_object.new.self.tokens ≡ tree_tokens line = t8 in
    let before : c.end_object.new.self.before ≡ [] =
    c.in_ok-end_object.ensures.room.0 ∙ c.in_ok-string-3.ensures.room.0 ∙ c.in_ok-key-3.ensures.room.0 ∙ c.in_ok-string-2.ensures.room.0 ∙ c.in_ok-key-2.ensures.room.0 ∙ c.in_ok-string.ensures.room.0 ∙ c.in_ok-key.ensures.room.0 ∙ c.in_ok-begin_object.ensures.room.0
    ∙ c.new-out.ensures.before ∙ c.new.ensures.items in
    c.from_string.ensures ∙ ap (λ bytes. bytes.items) c.from_utf8_unchecked-text.ensures.value ∙ c.into_inner.ensures.items ∙ (λ i. before i ++ print (tokens i))
    ∙ print-tree_tokens line
