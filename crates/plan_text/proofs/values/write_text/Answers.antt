-- What stood in the buffer is UTF-8, and so is what a writer puts behind it.
use Rattle.std.proofs.Common.{◌≡◌, ◌++◌, [], ◌∷◌, string_bytes, sym, ap, subst, ◌∙◌, IsUtf8}
use Rattle.std.proofs.lemmas.Str.{IsUtf8-append, IsUtf8-string_bytes}
use Rattle.plan_ir.proofs.gql_plain_laws.Tokens.{print-tree_tokens}
use Rattle.plan_ir.specs.gql_plain.Tree as tree
use Rattle.json.specs.Print.{print}
use Rattle.json.specs.Token as token
use Rattle.plan_text.proofs.values.write_text.Goals as goal

pub from_utf8_unchecked-requires : goal.from_utf8_unchecked-requires
from_utf8_unchecked-requires c =
    let bytes : c.into_bytes.result.items ≡ string_bytes c.args.out.now =
    ap (λ v. v.items) c.into_bytes.ensures.value ∙ ap string_bytes c.replace-before.ensures.value in
    let before : c.string.new.self.before ≡ string_bytes c.args.out.now = c.in_ok-string.ensures.room.0 ∙ c.new-writer.ensures.before ∙ bytes in
    let items : c.into_inner.result.items ≡ string_bytes c.args.out.now ++ print c.string.new.self.tokens =
    c.into_inner.ensures.items ∙ ap (λ b. b ++ print c.string.new.self.tokens) before in
    subst IsUtf8 (sym items) (IsUtf8-append (string_bytes c.args.out.now) (print c.string.new.self.tokens) (IsUtf8-string_bytes c.args.out.now) c.into_inner.ensures.utf8)

pub returns : goal.returns
returns c =
    let bytes : c.into_bytes.result.items ≡ string_bytes c.args.out.now =
    ap (λ v. v.items) c.into_bytes.ensures.value ∙ ap string_bytes c.replace-before.ensures.value in
    let before : c.string.new.self.before ≡ string_bytes c.args.out.now = c.in_ok-string.ensures.room.0 ∙ c.new-writer.ensures.before ∙ bytes in
    let tokens : c.string.new.self.tokens ≡ token.string c.args.text.now ∷ [] =
    c.in_ok-string.ensures.ok ∙ ap (λ ts. ts ++ token.string c.args.text.now ∷ []) c.new-writer.ensures.tokens in
    ap (λ v. v.items) c.from_utf8_unchecked.ensures.value ∙ c.into_inner.ensures.items ∙ (λ i. before i ++ print (tokens i))
    ∙ ap (λ t. string_bytes c.args.out.now ++ t) (print-tree_tokens (tree.text c.args.text.now))
