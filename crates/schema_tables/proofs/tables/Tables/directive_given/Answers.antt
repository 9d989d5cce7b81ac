use Rattle.std.proofs.Common.{◌≡◌, length, sym, ap, subst, ◌∙◌, arith}
use Rattle.std.specs.Option.{option_and_then}
use Rattle.std.specs.Prelude.{List}
use Rattle.gql_ast.specs.declared.schema.SchemaDef.{SchemaDef}
use Rattle.schema_tables.proofs.Finding.{finds, within, missing}
use Rattle.schema_tables.proofs.Named.{directive_found}
use Rattle.schema_tables.proofs.PartsFound.{as_many, part_at}
use Rattle.schema_tables.proofs.tables.Tables.directive_given.Goals as goal
use Rattle.schema_tables.specs.BuiltIn.{defined_directive, directive_named, directives_of}
use Rattle.schema_tables.specs.Indexes.{IsIndexOf, definition_name}
use Rattle.schema_tables.specs.Parts.{is_directive}
use Rattle.schema_tables.specs.TableParts.{AreParts}

pub find_directive-requires : goal.find_directive-requires
find_directive-requires c =
    subst (λ (ds : List SchemaDef). IsIndexOf definition_name is_directive ds c.self.inside.directives.places.items) (sym c.as_slice-definitions.ensures) c.self.invariant.directives

pub bounds-definitions-at : goal.bounds-definitions-at
bounds-definitions-at c = within (is_directive c.args.name.now) c.as_slice-definitions.result.now c.in-Some.at (sym c.find_directive.ensures ∙ c.in-Some.is)

pub offset_bounds-definitions-at : goal.offset_bounds-definitions-at
offset_bounds-definitions-at c =
    let low = within (is_directive c.args.name.now) c.as_slice-definitions.result.now c.in-Some.at (sym c.find_directive.ensures ∙ c.in-Some.is) in
    omega arith

pub index-requires : goal.index-requires
index-requires c =
    let low = within (is_directive c.args.name.now) c.as_slice-definitions.result.now c.in-Some.at (sym c.find_directive.ensures ∙ c.in-Some.is) in
    let many = as_many c.self.inside.definitions c.self.inside.parts.items c.self.invariant.parts in
    omega (arith, low, many, ap length c.as_slice-definitions.ensures)

pub directive_in-requires : goal.directive_in-requires
directive_in-requires c =
    let low = within (is_directive c.args.name.now) c.as_slice-definitions.result.now c.in-Some.at (sym c.find_directive.ensures ∙ c.in-Some.is) in
    part_at c.as_slice-definitions.result.now c.self.inside.parts.items c.in-Some.at c.index-definitions-at.result c.index.result.now
    (subst (λ (ds : List SchemaDef). AreParts ds c.self.inside.parts.items) (sym c.as_slice-definitions.ensures) c.self.invariant.parts) low c.index-definitions-at.is c.index.ensures

pub returns-in-Some : goal.returns-in-Some
returns-in-Some c =
    c.directive_in.ensures ∙ ap defined_directive c.index-definitions-at.is
    ∙ ap (option_and_then defined_directive)
    (sym (finds (is_directive c.args.name.now) c.as_slice-definitions.result.now c.in-Some.at c.index-definitions-at.result (sym c.find_directive.ensures ∙ c.in-Some.is)))
    ∙ sym (directive_found c.as_slice-definitions.result.now c.args.name.now)
    ∙ ap (λ ds. directive_named (directives_of ds) c.args.name.now) (c.as_slice-definitions.ensures ∙ c.self.view_is)

pub returns-in-None : goal.returns-in-None
returns-in-None c =
    sym (ap (option_and_then defined_directive) (missing (is_directive c.args.name.now) c.as_slice-definitions.result.now (sym c.find_directive.ensures ∙ c.in-None.is)))
    ∙ sym (directive_found c.as_slice-definitions.result.now c.args.name.now)
    ∙ ap (λ ds. directive_named (directives_of ds) c.args.name.now) (c.as_slice-definitions.ensures ∙ c.self.view_is)
