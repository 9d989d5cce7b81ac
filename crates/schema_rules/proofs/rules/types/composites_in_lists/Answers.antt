-- One more of the list.
use Rattle.std.proofs.Common.{List, ap, ◌∙◌, arith}
use Rattle.gql_graph.specs.Leasts.{least_from}
use Rattle.schema_trees.specs.Located.{FieldAt}
use Rattle.schema_trees.specs.LocatedView.{def_of}
use Rattle.schema_rules.specs.Rules as rules
use Rattle.gql_graph.proofs.LeastSteps.{each_next}
use Rattle.schema_rules.proofs.rules.types.composites_in_lists.Goals as goal

pub definitions-preserved : goal.definitions-preserved
definitions-preserved c =
    each_next def_of (λ d. rules.each (rules.in_lists c.args.tables.now) (rules.fields_in d)) c.args.definitions.now c.definitions.definition-index c.definition-item.result
    c.definitions.least.at c.note_in_lists.new.least.at _ (omega arith) c.definition-item.is
    (c.note_in_lists.ensures ∙ ap (λ (fs : List FieldAt). least_from c.definitions.least.at (rules.each (rules.in_lists c.args.tables.now) fs)) c.fields.ensures) c.definitions.invariant
