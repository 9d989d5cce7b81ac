use Rattle.std.proofs.Common.{◌≡◌, ◌++◌, ◌∷◌, [], true, false, sym, ap, ◌∙◌}
use Rattle.std.specs.Map.{keys_of}
use Rattle.gql_plain.specs.Order.{AreInOrder}
use Rattle.gql_plain.specs.Shown.{tree_of}
use Rattle.store_record.proofs.Kept.{kept-pair, kept-not, IsAfter-kept}
use Rattle.store_record.proofs.keys.connection_arguments.Goals as goal
use Rattle.store_record.proofs.keys.connection_arguments.Goals.{then-is_kept+in_ok-copy+in_ok-copy-2+in_ok-push, else-is_kept}
use Rattle.store_record.specs.Keys.{is_kept}

pub push-requires : goal.push-requires
push-requires c =
    let es = c.deref-argument-items.result.now in
    let keeps = is_kept c.args.connection.now.filters in
    let order : AreInOrder (keys_of es) = rw c.deref-argument-items.ensures.value c.arguments-2.invariant in
    let after = IsAfter-kept keeps es c.arguments.argument-index c.arguments-item.result c.arguments-test.true c.arguments-item.is order in
    rw (c.arguments.invariant, c.in_ok-copy.ensures) after

pub arguments-preserved : goal.arguments-preserved
arguments-preserved c =
    let es = c.deref-argument-items.result.now in
    let keeps = is_kept c.args.connection.now.filters in
    let i = c.arguments.argument-index in
    let item = c.arguments-item.result in
    elim c.if-is_kept.branch [
      | then-is_kept+in_ok-copy+in_ok-copy-2+in_ok-push w ↦
          let kept : keeps item.0 ≡ true = ap keeps (sym c.as_str.ensures) ∙ sym w.if-is_kept.ensures in
          w.kept-is ∙ w.in_ok-push.ensures.ok ∙ (λ j. c.arguments.invariant j ++ (w.in_ok-copy.ensures j, tree_of (w.in_ok-copy-2.ensures j)) ∷ [])
          ∙ kept-pair keeps es i item c.arguments-test.true c.arguments-item.is kept
      | else-is_kept w ↦
          let left : keeps item.0 ≡ false = ap keeps (sym c.as_str.ensures) ∙ sym w.if-is_kept.ensures in
          w.kept-is ∙ c.arguments.invariant ∙ kept-not keeps es i item c.arguments-test.true c.arguments-item.is left
    ]
