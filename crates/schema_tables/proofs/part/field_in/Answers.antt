use Rattle.std.proofs.Common.{◌≡◌, None, option_map, List, sym, ap, subst, ◌∙◌}
use Rattle.gql_ast.specs.declared.member.FieldTree.{FieldTree}
use Rattle.schema_tables.proofs.PartsFound.{with_fields, without_fields}
use Rattle.schema_tables.proofs.part.field_in.Goals as goal
use Rattle.schema_tables.specs.TableParts.{IsFieldTable}
use Rattle.schema_tables.specs.Types.{field_def, field_named}

pub find-requires : goal.find-requires
find-requires c =
    subst (λ (fs : List FieldTree). IsFieldTable fs c.in-Fields.fields) (sym c.fields_of.ensures)
    (with_fields c.args.definition.now c.args.part.now c.in-Fields.interfaces c.in-Fields.fields c.requires c.in-Fields.is).0

pub returns-in-Fields : goal.returns-in-Fields
returns-in-Fields c = c.find.ensures ∙ ap (λ fs. option_map field_def (field_named fs c.args.name.now)) c.fields_of.ensures

pub returns-in_default : goal.returns-in_default
returns-in_default c = sym (ap (λ fs. option_map field_def (field_named fs c.args.name.now)) (without_fields c.args.definition.now c.args.part.now c.requires c.in_default.not-Fields).0)
