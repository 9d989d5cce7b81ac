use Rattle.std.proofs.Common.{◌≡◌, map, ap, ◌∙◌}
use Rattle.std.proofs.lemmas.Result.{IfOk-weaker}
use Rattle.schema_tables.proofs.Finding.{first_at-next, first_at-all}
use Rattle.schema_tables.proofs.Indexing.{index_of}
use Rattle.schema_tables.proofs.Naming.{directive_named}
use Rattle.schema_tables.proofs.places.places_of_directives.Goals as goal
use Rattle.schema_tables.specs.Indexes.{IsIndexOf, IsSortedFrom, definition_name, pair_of}
use Rattle.schema_tables.specs.Parts.{is_directive}
use Rattle.schema_tables.specs.Places.{first_place}

pub definitions-preserved : goal.definitions-preserved
definitions-preserved c = λ n.
    c.in_ok-put_directive.ensures n ∙ ap (λ r. first_place r (is_directive n c.index-definitions-at.result) c.definitions.at) (c.definitions.invariant n)
    ∙ first_at-next (is_directive n) c.args.definitions.now c.definitions.at c.index-definitions-at.result c.definitions-test.true c.index-definitions-at.is

pub returns : goal.returns
returns c =
    IfOk-weaker c.sort.result (λ index. IsSortedFrom (map pair_of c.definitions.pairs.items) index.places.items) (λ index. IsIndexOf definition_name is_directive c.args.definitions.now index.places.items)
    (λ index sorted.
    index_of definition_name is_directive directive_named c.args.definitions.now (map pair_of c.definitions.pairs.items) index.places.items sorted
    (λ n. c.definitions.invariant n ∙ first_at-all (is_directive n) c.args.definitions.now c.definitions.at c.definitions-test.false)) c.sort.ensures
