use Rattle.std.proofs.Common.{◌&&◌, ◌||◌, [], slice_index_or, nat_eq, bytes_eq, sym, ap, ◌∙◌, arith}
use Rattle.std.proofs.lemmas.Result.{on_ok_weaker}
use Rattle.gql_graph.specs.gql_plain.Order.{has_text}
use Rattle.schema_tables.proofs.Finding.{within}
use Rattle.schema_tables.proofs.Grouping.{nothing_put, or_both}
use Rattle.schema_tables.proofs.possible.put_name.Goals as goal
use Rattle.schema_tables.specs.Objects.{is_among, is_place}
use Rattle.schema_tables.specs.Parts.{is_type}
use Rattle.schema_tables.specs.Places.{first_at}
use Rattle.schema_tables.specs.Types.{interfaces_named, type_named}

pub returns-in_default-clause-put : goal.returns-in_default-clause-put
returns-in_default-clause-put c = λ k n.
    nothing_put (has_text (slice_index_or c.args.groups.now.items k []) n) (bytes_eq c.args.name.now n) c.args.definitions.now c.args.name.now k
    (ap (λ n. first_at (is_type n) c.args.definitions.now) (sym c.as_str.ensures) ∙ sym c.find_type.ensures ∙ c.in_default.is)

pub put_at-requires : goal.put_at-requires
put_at-requires c =
    let low = within (is_type c.args.name.now) c.args.definitions.now c.in-Some.at
    (ap (λ n. first_at (is_type n) c.args.definitions.now) (sym c.as_str.ensures) ∙ sym c.find_type.ensures ∙ c.in-Some.is) in
    omega (arith, low)

pub put_interfaces-requires : goal.put_interfaces-requires
put_interfaces-requires c =
    let there = ap (λ n. first_at (is_type n) c.args.definitions.now) (sym c.as_str.ensures) ∙ sym c.find_type.ensures ∙ c.in-Some.is in
    let low = within (is_type c.args.name.now) c.args.definitions.now c.in-Some.at there in
    record { places = c.requires.places; all = omega (arith, c.in_ok-put_at.ensures.all, c.requires.all); within = low; first = there }

pub returns-clause-put : goal.returns-clause-put
returns-clause-put c =
    let there = ap (λ n. first_at (is_type n) c.args.definitions.now) (sym c.as_str.ensures) ∙ sym c.find_type.ensures ∙ c.in-Some.is in
    on_ok_weaker c.put_interfaces.result
    (λ put k n. put k n
    ∙ ap (λ b. b || (is_among c.args.definitions.now (interfaces_named (type_named c.args.definitions.now c.args.name.now)) k && bytes_eq c.args.name.now n)) (c.in_ok-put_at.ensures.put k n)
    ∙ or_both (has_text (slice_index_or c.args.groups.now.items k []) n) (nat_eq c.in-Some.at k)
    (is_among c.args.definitions.now (interfaces_named (type_named c.args.definitions.now c.args.name.now)) k) (bytes_eq c.args.name.now n)
    ∙ ap (λ r. has_text (slice_index_or c.args.groups.now.items k []) n
    || ((is_place r k || is_among c.args.definitions.now (interfaces_named (type_named c.args.definitions.now c.args.name.now)) k) && bytes_eq c.args.name.now n)) (sym there))
    c.put_interfaces.ensures.put
