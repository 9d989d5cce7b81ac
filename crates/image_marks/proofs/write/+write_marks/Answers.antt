use Rattle.std.proofs.Common.{arith, ap, ◌∙◌}
use Rattle.store_record.specs.gql_plain.Shown.{shown_members}
use Rattle.store_record.specs.gql_plain.Tree.{members_of}
use Rattle.image_marks.proofs.Values.{HaveValues, ordered_keys, all_made}
use Rattle.image_marks.proofs.write.+write_marks.Goals as goal

pub write_members-returns-clause-made : goal.write_members-returns-clause-made
write_members-returns-clause-made t c =
    let items = c.deref-key-items.result.now in
    let values : HaveValues (members_of c.args.pairs.now) =
    all_made c.pairs.key-index items c.args.pairs.now (omega (arith, c.pairs-test.false)) (ap shown_members c.deref-key-items.ensures.value ∙ c.pairs-2.view_is) c.pairs.invariant.made in
    ((ordered_keys c.pairs-2.inside.entries.items c.args.pairs.now c.pairs-2.view_is c.pairs-2.invariant, values.0), values.1)
