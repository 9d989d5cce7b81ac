use Rattle.std.proofs.Common.{◌≡◌, [], ◌++◌, ap, ◌∙◌}
use Rattle.json.specs.Print.{print}
use Rattle.gql_plain.proofs.Tokens.{print-tree_tokens}
use Rattle.gql_plain.proofs.to_text.text_of.Goals as goal
use Rattle.gql_plain.specs.Shown.{tree_of}
use Rattle.gql_plain.specs.ToJson.{tree_tokens}

pub returns : goal.returns
returns c =
    let ts = tree_tokens (tree_of c.args.plain.now) in
    let tokens : c.write_plain.new.out.tokens ≡ ts = c.in_ok-write_plain.ensures.tokens ∙ ap (λ old. old ++ ts) c.new-out.ensures.tokens in
    let before : c.write_plain.new.out.before ≡ [] = c.write_plain.ensures.before ∙ c.new-out.ensures.before ∙ c.new.ensures.items in
    c.from_string.ensures ∙ ap (λ bytes. bytes.items) c.from_utf8_unchecked-text.ensures.value ∙ c.into_inner.ensures.items ∙ (λ i. before i ++ print (tokens i))
    ∙ print-tree_tokens (tree_of c.args.plain.now)
