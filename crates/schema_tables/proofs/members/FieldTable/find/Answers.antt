use Rattle.std.proofs.Common.{◌≡◌, [], Some, None, option_map, sym, ap, ◌∙◌, arith}
use Rattle.gql_ast.specs.declared.type_tree.TypeTree.TheVariants as T
use Rattle.schema_tables.proofs.FieldsFound.{field_gone, field_there}
use Rattle.schema_tables.proofs.Finding.{within}
use Rattle.schema_tables.proofs.members.FieldTable.find.Goals as goal
use Rattle.schema_tables.specs.Indexes.{place_of}
use Rattle.schema_tables.specs.TableParts.{field_name, is_field_named}
use Rattle.schema_tables.specs.Types.{field_def}

pub field_at-requires-clause-within : goal.field_at-requires-clause-within
field_at-requires-clause-within c =
    within (is_field_named c.args.name.now) c.args.fields.now c.in-Some.at
    (sym (c.requires.names.finds c.args.name.now) ∙ sym (ap (λ ps. place_of field_name c.args.fields.now ps c.args.name.now) c.deref.ensures.value) ∙ sym c.find_place.ensures ∙ c.in-Some.is)

pub returns-in-Some : goal.returns-in-Some
returns-in-Some c =
    let there = sym (c.requires.names.finds c.args.name.now) ∙ sym (ap (λ ps. place_of field_name c.args.fields.now ps c.args.name.now) c.deref.ensures.value) ∙ sym c.find_place.ensures ∙ c.in-Some.is in
    c.field_at.ensures
    ∙ field_there c.args.fields.now c.args.name.now c.in-Some.at (record { name = []; arguments = []; of = T.Named []; directives = [] }) (within (is_field_named c.args.name.now) c.args.fields.now c.in-Some.at there) there

pub returns-in-None : goal.returns-in-None
returns-in-None c =
    sym (ap (option_map field_def)
    (field_gone c.args.fields.now c.args.name.now
    (sym (c.requires.names.finds c.args.name.now) ∙ sym (ap (λ ps. place_of field_name c.args.fields.now ps c.args.name.now) c.deref.ensures.value) ∙ sym c.find_place.ensures ∙ c.in-None.is)))
