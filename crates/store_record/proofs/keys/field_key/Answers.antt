use Rattle.std.proofs.Common.{◌+◌, ◌++◌, string_bytes, false, sym, ap, ◌∙◌}
use Rattle.gql_plain.specs.Shown.{shown_members}
use Rattle.store_record.proofs.KeyTexts.{rest_of_key, left_from, key_with-left, left_from-null, left_from-pair}
use Rattle.store_record.proofs.keys.field_key.Goals as goal
use Rattle.store_record.proofs.keys.field_key.Goals.{then-not-is_null+in_ok-write_pair, else-not-is_null}
use Rattle.store_record.specs.Keys.{without_nulls}

pub arguments-init : goal.arguments-init
arguments-init c =
    ap (λ text. text ++ left_from false c.deref-argument-items.result.now 0) (c.in_ok-text.ensures.ok ∙ c.as_str.ensures)
    ∙ ap (λ pairs. c.args.name.now ++ rest_of_key false (without_nulls pairs)) (ap shown_members c.deref-argument-items.ensures.value ∙ c.arguments-2.view_is)
    ∙ key_with-left c.args.name.now (without_nulls c.args.arguments.now)

pub arguments-preserved : goal.arguments-preserved
arguments-preserved c =
    let items = c.deref-argument-items.result.now in
    let i = c.arguments.argument-index in
    let item = c.arguments-item.result in
    elim c.if-not-is_null.branch [
      | then-not-is_null+in_ok-write_pair w ↦
          ap (λ begun. string_bytes c.if-not-is_null.text ++ left_from begun items (i + 1)) w.begun-is
          ∙ left_from-pair c.arguments.begun (string_bytes c.arguments.text) (string_bytes c.if-not-is_null.text) _ items i item c.arguments-test.true c.arguments-item.is
          (sym w.if-not-is_null.ensures) (ap string_bytes w.text-is ∙ w.in_ok-write_pair.ensures) c.arguments.invariant
      | else-not-is_null w ↦
          ap (λ begun. string_bytes c.if-not-is_null.text ++ left_from begun items (i + 1)) w.begun-is
          ∙ ap (λ text. string_bytes text ++ left_from c.arguments.begun items (i + 1)) w.text-is
          ∙ left_from-null c.arguments.begun (string_bytes c.arguments.text) _ items i item c.arguments-test.true c.arguments-item.is (sym w.if-not-is_null.ensures) c.arguments.invariant
    ]
