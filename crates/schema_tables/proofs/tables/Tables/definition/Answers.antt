use Rattle.std.proofs.Common.{Some, sym, ap, subst, ◌∙◌, arith}
use Rattle.schema_tables.proofs.Finding.{within, finds, missing}
use Rattle.schema_tables.proofs.Named.{type_named-first}
use Rattle.schema_tables.proofs.tables.Tables.definition.Goals as goal
use Rattle.gql_ast.specs.declared.schema.SchemaDef.{SchemaDef}
use Rattle.std.specs.Prelude.{List}
use Rattle.schema_tables.specs.Indexes.{IsIndexOf, definition_name}
use Rattle.schema_tables.specs.Parts.{is_type}
use Rattle.schema_tables.specs.Types.{type_named}

pub find_type-requires : goal.find_type-requires
find_type-requires c = subst (λ (ds : List SchemaDef). IsIndexOf definition_name is_type ds c.self.inside.types.places.items) (sym c.as_slice-definitions.ensures) c.self.invariant.types

pub bounds-definitions-at : goal.bounds-definitions-at
bounds-definitions-at c = within (is_type c.args.name.now) c.as_slice-definitions.result.now c.in-Some.at (sym c.find_type.ensures ∙ c.in-Some.is)

pub offset_bounds-definitions-at : goal.offset_bounds-definitions-at
offset_bounds-definitions-at c =
    let low = within (is_type c.args.name.now) c.as_slice-definitions.result.now c.in-Some.at (sym c.find_type.ensures ∙ c.in-Some.is) in
    omega arith

pub returns-in-Some : goal.returns-in-Some
returns-in-Some c =
    ap Some c.index-definitions-at.is
    ∙ sym (finds (is_type c.args.name.now) c.as_slice-definitions.result.now c.in-Some.at c.index-definitions-at.result
    (sym c.find_type.ensures ∙ c.in-Some.is))
    ∙ sym (type_named-first c.as_slice-definitions.result.now c.args.name.now)
    ∙ ap (λ ds. type_named ds c.args.name.now) (c.as_slice-definitions.ensures ∙ c.self.view_is)

pub returns-in-None : goal.returns-in-None
returns-in-None c =
    sym (missing (is_type c.args.name.now) c.as_slice-definitions.result.now (sym c.find_type.ensures ∙ c.in-None.is))
    ∙ sym (type_named-first c.as_slice-definitions.result.now c.args.name.now)
    ∙ ap (λ ds. type_named ds c.args.name.now) (c.as_slice-definitions.ensures ∙ c.self.view_is)
