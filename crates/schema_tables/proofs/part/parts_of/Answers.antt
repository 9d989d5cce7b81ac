use Rattle.std.proofs.Common.{◌+◌, List, ◌∷◌, [], ◌++◌, take, ap, sym, subst, ◌∙◌}
use Rattle.std.proofs.lemmas.List.{take_all, take_more}
use Rattle.gql_ast.specs.declared.schema.SchemaDef.{SchemaDef}
use Rattle.schema_tables.proofs.PartsFound.{one_part}
use Rattle.schema_tables.proofs.part.parts_of.Goals as goal
use Rattle.schema_tables.specs.declared.part.Part.{Part}
use Rattle.schema_tables.specs.TableParts.{AreParts}

pub definitions-preserved : goal.definitions-preserved
definitions-preserved c =
    let ds = c.args.definitions.now in
    let i = c.definitions.definition-index in
    subst (λ (ps : List Part). AreParts (take (i + 1) ds) ps) (sym c.in_ok-push.ensures.items)
    (subst (λ (es : List SchemaDef). AreParts es (c.definitions.parts.items ++ c.in_ok-part_of_definition.field-0 ∷ []))
    (ap (λ d. take i ds ++ d ∷ []) c.definition-item.is ∙ sym (take_more ds i c.definition-item.result c.definitions-test.true))
    (one_part (take i ds) c.definitions.parts.items c.definition-item.result c.in_ok-part_of_definition.field-0 c.definitions.invariant c.in_ok-part_of_definition.ensures))

pub returns : goal.returns
returns c = subst (λ (ds : List SchemaDef). AreParts ds c.definitions.parts.items) (take_all c.definitions.definition-index c.args.definitions.now c.definitions-test.false) c.definitions.invariant
