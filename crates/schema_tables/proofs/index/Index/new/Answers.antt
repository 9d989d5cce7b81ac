use Rattle.std.proofs.Common.{bytes_eq, map, ap, ◌∙◌}
use Rattle.std.proofs.lemmas.Result.{IfOk-weaker}
use Rattle.schema_tables.proofs.Finding.{first_at-next, first_at-all}
use Rattle.schema_tables.proofs.Indexing.{index_of}
use Rattle.schema_tables.proofs.Naming.{has_that_name}
use Rattle.schema_tables.proofs.index.Index.new.Goals as goal
use Rattle.schema_tables.specs.Indexes.{IsNameIndex, IsSortedFrom, is_named, pair_of, place_among}
use Rattle.schema_tables.specs.Places.{first_place}

pub items-preserved : goal.items-preserved
items-preserved g c = λ n.
    let name = g.T.Named.name in
    c.in_ok-put.ensures n ∙ ap (λ t. first_place (place_among (map pair_of c.items.pairs.items) n) (bytes_eq t n) c.items.at) c.name.ensures
    ∙ ap (λ r. first_place r (is_named name n c.index-items-at.result) c.items.at) (c.items.invariant n)
    ∙ first_at-next (is_named name n) c.args.items.now c.items.at c.index-items-at.result c.items-test.true c.index-items-at.is

pub returns : goal.returns
returns g c =
    let name = g.T.Named.name in
    IfOk-weaker c.sort.result (λ index. IsSortedFrom (map pair_of c.items.pairs.items) index.places.items) (IsNameIndex name c.args.items.now)
    (λ index sorted.
    index_of name (is_named name) (has_that_name name) c.args.items.now (map pair_of c.items.pairs.items) index.places.items sorted
    (λ n. c.items.invariant n ∙ first_at-all (is_named name n) c.args.items.now c.items.at c.items-test.false)) c.sort.ensures
