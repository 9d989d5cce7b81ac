-- Variables that are there stand between brackets.
use Rattle.std.proofs.Common.{◌≡◌, ◌++◌, [], ◌∷◌, List, map, drop, Bor, string_bytes, append-nil, sym, ap, ◌∙◌, arith}
use Rattle.std.proofs.lemmas.List.{drop_all}
use Rattle.plan_ir.specs.gql_ast.declared.variable.VariableDef.{VariableDef}
use Rattle.plan_ir.specs.OperationText.{join_texts, variable_text}
use Rattle.plan_text.proofs.Joining.{all_written, enclosed_written}
use Rattle.plan_text.proofs.Listing.{none_told, some_there, variables_told}
use Rattle.plan_text.proofs.variables.write_variables.Goals as goal
use Rattle.plan_ir.specs.schema_tables.Types.{Text}

pub returns-then-is_empty : goal.returns-then-is_empty
returns-then-is_empty c =
    sym (append-nil (string_bytes c.args.out.now))
    ∙ ap (λ t. string_bytes c.args.out.now ++ t) (sym (none_told c.args.variables.now (sym c.is_empty.ensures ∙ c.if-is_empty.true)))

pub returns : goal.returns
returns c =
    let old : Text = string_bytes c.args.out.now in
    let vs : List VariableDef = map (λ (v : Bor VariableDef). v.now) c.args.variables.now in
    let texts : List Text = map variable_text vs in
    let first : string_bytes c.push.new.self ≡ old ++ 40 ∷ [] = c.in_ok-push.ensures.bytes ∙ ap (λ t. old ++ t) (c.in_ok-push.ensures.ascii (omega arith)) in
    let inside : string_bytes c.items.out ≡ string_bytes c.push.new.self ++ join_texts 44 texts =
    all_written c.items.begun 44 (string_bytes c.push.new.self) (string_bytes c.items.out)
    (map variable_text (map (λ (v : Bor VariableDef). v.now) (drop c.items.variable-index c.args.variables.now))) texts
    (ap (λ (xs : List (Bor VariableDef)). map variable_text (map (λ (v : Bor VariableDef). v.now) xs)) (drop_all c.items.variable-index c.args.variables.now c.items-test.false)) c.items.invariant in
    let last : string_bytes c.push-2.new.self ≡ string_bytes c.items.out ++ 41 ∷ [] =
    c.in_ok-push-2.ensures.bytes ∙ ap (λ t. string_bytes c.items.out ++ t) (c.in_ok-push-2.ensures.ascii (omega arith)) in
    enclosed_written 40 44 41 old (string_bytes c.push.new.self) (string_bytes c.items.out) (string_bytes c.push-2.new.self) texts first inside last
    ∙ ap (λ t. old ++ t) (sym (variables_told vs (some_there c.args.variables.now (sym c.is_empty.ensures ∙ c.if-is_empty.false))))
