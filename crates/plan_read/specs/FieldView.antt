-- The fields that the code has.
use Rattle.plan_build.specs.Steps.{FieldNode}
use Rattle.plan_ir.specs.Expansion.{response_key}
use Rattle.plan_ir.specs.Substitution.{Scope, substitute_in}
use Rattle.plan_read.specs.declared.fields.Field.{Field}
use Rattle.plan_ir.specs.relay_marks.Connections.{connection_among}

-- with local variables replaced
abbrev pub field_view : Scope → Field → FieldNode
field_view scope f = record {
  response = response_key f.alias.now f.name.now;
  name = f.name.now;
  arguments = substitute_in scope f.arguments.now;
  connection = connection_among f.directives.now;
}
