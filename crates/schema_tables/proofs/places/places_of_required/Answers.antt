use Rattle.std.proofs.Common.{◌≡◌, map, ap, ◌∙◌}
use Rattle.std.proofs.lemmas.Result.{IfOk-weaker}
use Rattle.schema_tables.proofs.Finding.{first_at-next, first_at-all}
use Rattle.schema_tables.proofs.Indexing.{index_of}
use Rattle.schema_tables.proofs.Naming.{needed_named}
use Rattle.schema_tables.proofs.places.places_of_required.Goals as goal
use Rattle.schema_tables.specs.Indexes.{IsIndexOf, IsSortedFrom, pair_of}
use Rattle.schema_tables.specs.InputPlaces.{input_name, is_needed}
use Rattle.schema_tables.specs.Places.{first_place}

pub inputs-preserved : goal.inputs-preserved
inputs-preserved c = λ n.
    c.in_ok-put_required.ensures n ∙ ap (λ r. first_place r (is_needed n c.index-inputs-at.result) c.inputs.at) (c.inputs.invariant n)
    ∙ first_at-next (is_needed n) c.args.inputs.now c.inputs.at c.index-inputs-at.result c.inputs-test.true c.index-inputs-at.is

pub returns : goal.returns
returns c =
    IfOk-weaker c.sort.result (λ index. IsSortedFrom (map pair_of c.inputs.pairs.items) index.places.items) (λ index. IsIndexOf input_name is_needed c.args.inputs.now index.places.items)
    (λ index sorted.
    index_of input_name is_needed needed_named c.args.inputs.now (map pair_of c.inputs.pairs.items) index.places.items sorted
    (λ n. c.inputs.invariant n ∙ first_at-all (is_needed n) c.args.inputs.now c.inputs.at c.inputs-test.false)) c.sort.ensures
