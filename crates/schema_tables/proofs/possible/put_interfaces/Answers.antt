use Rattle.std.proofs.Common.{◌&&◌, ◌||◌, [], slice_index_or, bytes_eq, sym, ap, ◌∙◌}
use Rattle.std.proofs.lemmas.Result.{on_ok_weaker}
use Rattle.gql_graph.specs.gql_plain.Order.{has_text}
use Rattle.schema_tables.proofs.Grouping.{interfaces_first}
use Rattle.schema_tables.proofs.possible.put_interfaces.Goals as goal
use Rattle.schema_tables.specs.Objects.{is_among}

pub returns-clause-put : goal.returns-clause-put
returns-clause-put c =
    on_ok_weaker c.put_at_each.result
    (λ put k n. put k n ∙ ap (λ ns. has_text (slice_index_or c.args.groups.now.items k []) n || (is_among c.args.definitions.now ns k && bytes_eq c.args.name.now n))
    (c.interfaces_of-interfaces.ensures ∙ sym (interfaces_first c.args.definitions.now c.args.name.now c.args.at c.index-definitions-at.result c.requires.first c.index-definitions-at.is)))
    c.put_at_each.ensures.put
