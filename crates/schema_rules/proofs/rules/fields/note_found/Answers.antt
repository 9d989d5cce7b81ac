-- One more field of the type, and all of them.
use Rattle.std.proofs.Common.{◌<◌, ◌≤◌, length, map, ap, sym, ◌∙◌, arith}
use Rattle.std.proofs.lemmas.List.{length-map}
use Rattle.schema_trees.specs.Located.{FieldAt}
use Rattle.schema_trees.specs.LocatedView.{field_of}
use Rattle.schema_rules.proofs.FoundAt.{get_or_of}
use Rattle.schema_rules.proofs.WantedSteps.{found_differs, noted_start, noted_next, noted_places, noted_count}
use Rattle.schema_rules.proofs.rules.fields.note_found.Goals as goal

pub fields-init : goal.fields-init
fields-init c = noted_start (found_differs c.args.tables.now) (map field_of c.args.fields.now) c.args.wanted.now c.args.least.now.at

pub fields-preserved : goal.fields-preserved
fields-preserved c =
    let fs : _ = map field_of c.args.fields.now in
    let f : FieldAt = field_of c.field-item.result in
    let low : c.fields.field-index < length c.args.fields.now = omega arith in
    noted_next (found_differs c.args.tables.now) fs c.args.wanted.now _ c.fields.field-index c.fields.at c.fields.found _ c.fields.least.at _ f _ c.requires.distinct
    (omega (arith, low, length-map c.args.fields.now field_of)) (ap field_of c.field-item.is ∙ sym (get_or_of field_of c.args.fields.now c.fields.field-index c.field-item.result))
    c.wanted_once-due.ensures
    c.in_ok-count.ensures.places c.in_ok-count.ensures.count c.fields.invariant

pub returns-clause-places : goal.returns-clause-places
returns-clause-places c =
    noted_places (found_differs c.args.tables.now) (map field_of c.args.fields.now) c.args.wanted.now _ c.fields.field-index c.fields.at c.fields.found _
    (let low : length c.args.fields.now ≤ c.fields.field-index = omega arith in omega (arith, low, length-map c.args.fields.now field_of)) c.fields.invariant

pub returns-clause-count : goal.returns-clause-count
returns-clause-count c =
    noted_count (found_differs c.args.tables.now) (map field_of c.args.fields.now) c.args.wanted.now _ c.fields.field-index c.fields.at c.fields.found _
    (let low : length c.args.fields.now ≤ c.fields.field-index = omega arith in omega (arith, low, length-map c.args.fields.now field_of)) c.fields.invariant
