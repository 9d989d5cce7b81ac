use Rattle.std.proofs.Common.{Some, sym, ap, subst, ◌∙◌, length, arith}
use Rattle.std.specs.Prelude.{List}
use Rattle.gql_ast.specs.declared.schema.SchemaDef.{SchemaDef}
use Rattle.schema_tables.proofs.Finding.{within, finds, missing}
use Rattle.schema_tables.proofs.Named.{type_named-first}
use Rattle.schema_tables.proofs.PartsFound.{as_many, part_at}
use Rattle.schema_tables.proofs.tables.Tables.entry.Goals as goal
use Rattle.schema_tables.specs.Indexes.{IsIndexOf, definition_name}
use Rattle.schema_tables.specs.Parts.{is_type}
use Rattle.schema_tables.specs.TableParts.{AreParts}
use Rattle.schema_tables.specs.Types.{type_named}

pub find_type-requires : goal.find_type-requires
find_type-requires c = subst (λ (ds : List SchemaDef). IsIndexOf definition_name is_type ds c.self.inside.types.places.items) (sym c.as_slice-definitions.ensures) c.self.invariant.types

pub bounds-definitions-at : goal.bounds-definitions-at
bounds-definitions-at c = within (is_type c.args.name.now) c.as_slice-definitions.result.now c.in-Some.at (sym c.find_type.ensures ∙ c.in-Some.is)

pub offset_bounds-definitions-at : goal.offset_bounds-definitions-at
offset_bounds-definitions-at c =
    let low = within (is_type c.args.name.now) c.as_slice-definitions.result.now c.in-Some.at (sym c.find_type.ensures ∙ c.in-Some.is) in
    omega arith

pub index-requires : goal.index-requires
index-requires c =
    let low = within (is_type c.args.name.now) c.as_slice-definitions.result.now c.in-Some.at (sym c.find_type.ensures ∙ c.in-Some.is) in
    let many = as_many c.self.inside.definitions c.self.inside.parts.items c.self.invariant.parts in
    omega (arith, low, many, ap length c.as_slice-definitions.ensures)

pub returns-in-Some-clause-found : goal.returns-in-Some-clause-found
returns-in-Some-clause-found c =
    ap Some c.index-definitions-at.is
    ∙ sym (finds (is_type c.args.name.now) c.as_slice-definitions.result.now c.in-Some.at c.index-definitions-at.result (sym c.find_type.ensures ∙ c.in-Some.is))
    ∙ sym (type_named-first c.as_slice-definitions.result.now c.args.name.now)
    ∙ ap (λ ds. type_named ds c.args.name.now) (c.as_slice-definitions.ensures ∙ c.self.view_is)

pub returns-in-Some-clause-kept : goal.returns-in-Some-clause-kept
returns-in-Some-clause-kept c =
    let low = within (is_type c.args.name.now) c.as_slice-definitions.result.now c.in-Some.at (sym c.find_type.ensures ∙ c.in-Some.is) in
    part_at c.as_slice-definitions.result.now c.self.inside.parts.items c.in-Some.at c.index-definitions-at.result c.index.result.now
    (subst (λ (ds : List SchemaDef). AreParts ds c.self.inside.parts.items) (sym c.as_slice-definitions.ensures) c.self.invariant.parts) low c.index-definitions-at.is c.index.ensures

pub returns-in-None-clause-found : goal.returns-in-None-clause-found
returns-in-None-clause-found c =
    sym (missing (is_type c.args.name.now) c.as_slice-definitions.result.now (sym c.find_type.ensures ∙ c.in-None.is))
    ∙ sym (type_named-first c.as_slice-definitions.result.now c.args.name.now)
    ∙ ap (λ ds. type_named ds c.args.name.now) (c.as_slice-definitions.ensures ∙ c.self.view_is)
