-- One node of a selection set: its text, and the variables that it uses (GraphQL, October 2021, sections 2.5 and 2.8.2).
use Rattle.std.specs.Prelude.{◌++◌, ◌||◌, Bool}
use Rattle.plan_ir.specs.OperationText.{arguments_text, arguments_use, condition_text, directives_text, directives_use, enclose, enclose_some, name_text, node_texts, nodes_use}
use Rattle.plan_ir.specs.declared.node.Node.{Node}
use Rattle.plan_ir.specs.declared.node.Node.TheVariants as N
use Rattle.plan_ir.specs.schema_tables.Types.{Text}

abbrev pub node_text : Node → Text
node_text (N.Field r n xs ds c of s p) = name_text r n ++ arguments_text xs ++ directives_text ds ++ enclose_some 123 32 125 (node_texts s)
node_text (N.Inline o ds s p) = condition_text o ++ directives_text ds ++ enclose 123 32 125 (node_texts s)

abbrev pub node_uses : Text → Node → Bool
node_uses x (N.Field r n xs ds c of s p) = arguments_use x xs || directives_use x ds || nodes_use x s
node_uses x (N.Inline o ds s p) = directives_use x ds || nodes_use x s
