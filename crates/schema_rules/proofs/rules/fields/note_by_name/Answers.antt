-- The count decides whether the type lacks a field.
use Rattle.std.proofs.Common.{List, ltb, length, map, ap, ◌∙◌}
use Rattle.schema_trees.specs.gql_ast.declared.member.FieldTree.{FieldTree}
use Rattle.gql_graph.specs.Leasts.{least_from}
use Rattle.gql_graph.specs.Rules.{wrong}
use Rattle.schema_trees.specs.LocatedView.{field_of}
use Rattle.schema_rules.proofs.WantedSteps.{lacks_by_count}
use Rattle.schema_rules.proofs.rules.fields.note_by_name.Goals as goal

pub returns : goal.returns
returns c =
    lacks_by_count c.args.tables.now c.args.name.now.at (map field_of c.args.fields.now) c.args.wanted.now _ _ _ _ c.in_ok-found.ensures.places c.in_ok-found.ensures.count
    (c.note_if.ensures ∙ ap (λ (ws : List FieldTree). least_from c.note_found.new.least.at (wrong (ltb c.in_ok-found.found (length ws)) c.args.name.now.at)) c.items.ensures)
