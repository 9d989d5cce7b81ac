-- One more field of the interface.
use Rattle.std.proofs.Common.{map, Option, ap, ◌∙◌, arith}
use Rattle.schema_trees.specs.gql_ast.declared.member.FieldTree.{FieldTree}
use Rattle.gql_graph.specs.Leasts.{least_from}
use Rattle.schema_trees.specs.Located.{FieldAt}
use Rattle.schema_trees.specs.LocatedView.{field_of}
use Rattle.schema_rules.specs.Rules as rules
use Rattle.gql_graph.specs.Texts.{Text}
use Rattle.gql_graph.proofs.LeastSteps.{each_next_plain}
use Rattle.schema_rules.proofs.rules.fields.note_differences.Goals as goal

pub wanted-preserved : goal.wanted-preserved
wanted-preserved c =
    each_next_plain (λ (w : FieldTree). rules.field_differs c.args.tables.now c.args.name.now.at (rules.field_found (map field_of c.args.fields.now) w.name) w) c.args.wanted.now c.wanted.field-index c.field-item.result
    c.wanted.least.at c.note_difference.new.least.at _ (omega arith) c.field-item.is
    (c.in_ok-note_difference.ensures ∙ ap (λ (o : Option FieldAt). least_from c.wanted.least.at (rules.field_differs c.args.tables.now c.args.name.now.at o c.field-item.result))
    (c.field_found-found.ensures ∙ ap (λ (m : Text). rules.field_found (map field_of c.args.fields.now) m) c.as_str.ensures))
    c.wanted.invariant
