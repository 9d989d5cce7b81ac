-- Arguments that are there stand between brackets.
use Rattle.std.proofs.Common.{◌≡◌, ◌++◌, [], ◌∷◌, List, string_bytes, sym, ap, ◌∙◌, arith}
use Rattle.std.proofs.lemmas.Bool.{true≢false}
use Rattle.plan_ir.specs.OperationText.{join_texts, pairs_text}
use Rattle.plan_text.proofs.Joining.{enclosed_written}
use Rattle.plan_text.proofs.Naming.{arguments_told, member_texts-members_of}
use Rattle.plan_text.proofs.directives.write_arguments.Goals as goal
use Rattle.plan_text.specs.Pairs.{named_texts}
use Rattle.plan_ir.specs.schema_tables.Types.{Text}

pub returns : goal.returns
returns c =
    let old : Text = string_bytes c.args.out.now in
    let texts : List Text = pairs_text (named_texts c.args.arguments.now) in
    let first : string_bytes c.push.new.self ≡ old ++ 40 ∷ [] = c.in_ok-push.ensures.bytes ∙ ap (λ t. old ++ t) (c.in_ok-push.ensures.ascii (omega arith)) in
    let inside : string_bytes c.write_pairs.new.out ≡ string_bytes c.push.new.self ++ join_texts 44 texts =
    c.in_ok-write_pairs.ensures ∙ ap (λ ms. string_bytes c.push.new.self ++ join_texts 44 (pairs_text ms)) (member_texts-members_of c.args.arguments.now) in
    let last : string_bytes c.push-2.new.self ≡ string_bytes c.write_pairs.new.out ++ 41 ∷ [] =
    c.in_ok-push-2.ensures.bytes ∙ ap (λ t. string_bytes c.write_pairs.new.out ++ t) (c.in_ok-push-2.ensures.ascii (omega arith)) in
    enclosed_written 40 44 41 old (string_bytes c.push.new.self) (string_bytes c.write_pairs.new.out) (string_bytes c.push-2.new.self) texts first inside last
    ∙ ap (λ t. old ++ t) (sym (arguments_told c.args.arguments.now (λ e. true≢false (sym (c.is_empty.ensures.1 e) ∙ c.if-is_empty.false))))
