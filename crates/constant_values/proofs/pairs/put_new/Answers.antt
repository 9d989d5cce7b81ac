use Rattle.std.proofs.Common.{ap, sym, ◌∙◌}
use Rattle.schema_types.specs.gql_plain.Shown.{tree_of, shown_members}
use Rattle.constant_values.proofs.Placing.{shown-insert_new, with_new_pair-there}
use Rattle.constant_values.proofs.pairs.put_new.Goals as goal

pub returns-then-contains_key-clause-put : goal.returns-then-contains_key-clause-put
returns-then-contains_key-clause-put c =
    with_new_pair-there c.args.sorted.now.entries c.args.key (tree_of c.args.plain) c.requires (sym c.contains_key.ensures ∙ c.if-contains_key.true)

pub returns-clause-put : goal.returns-clause-put
returns-clause-put c =
    ap shown_members c.in_ok-insert.ensures.entries
    ∙ shown-insert_new c.args.sorted.now.entries c.args.key c.args.plain (sym c.contains_key.ensures ∙ c.if-contains_key.false)
