use Rattle.std.proofs.Common.{[], true≢false, sym, ap, subst, ◌∙◌, arith}
use Rattle.std.specs.Prelude.{List}
use Rattle.gql_ast.specs.declared.schema.SchemaDef.{SchemaDef}
use Rattle.std.proofs.lemmas.List.{get_or_default}
use Rattle.schema_tables.proofs.Finding.{within, missing}
use Rattle.schema_tables.proofs.Named.{type_named-first, not_composite}
use Rattle.schema_tables.proofs.tables.Tables.possible.Goals as goal
use Rattle.schema_tables.specs.Indexes.{IsIndexOf, definition_name}
use Rattle.schema_tables.specs.Parts.{is_type}
use Rattle.schema_tables.specs.Places.{first_at}
use Rattle.schema_tables.specs.Types.{possible, is_composite}

pub find_type-requires : goal.find_type-requires
find_type-requires c = subst (λ (ds : List SchemaDef). IsIndexOf definition_name is_type ds c.self.inside.types.places.items) (sym c.as_slice.ensures) c.self.invariant.types

pub index-requires : goal.index-requires
index-requires c =
    let low = within (is_type c.args.of.now) c.self.inside.definitions c.in-Some.at (ap (first_at (is_type c.args.of.now)) (sym c.as_slice.ensures) ∙ sym c.find_type.ensures ∙ c.in-Some.is) in
    omega (arith, low, c.self.invariant.all)

pub unreachable-requires : goal.unreachable-requires
unreachable-requires c =
    let none = missing (is_type c.args.of.now) c.self.inside.definitions (ap (first_at (is_type c.args.of.now)) (sym c.as_slice.ensures) ∙ sym c.find_type.ensures ∙ c.in-None.is) in
    true≢false (sym c.requires ∙ ap (λ ds. is_composite ds c.args.of.now) (sym c.self.view_is)
    ∙ not_composite c.self.inside.definitions c.args.of.now (type_named-first c.self.inside.definitions c.args.of.now ∙ none))

pub returns : goal.returns
returns c =
    let there = ap (first_at (is_type c.args.of.now)) (sym c.as_slice.ensures) ∙ sym c.find_type.ensures ∙ c.in-Some.is in
    let low = within (is_type c.args.of.now) c.self.inside.definitions c.in-Some.at there in
    c.index.ensures ∙ get_or_default c.self.inside.possible.items c.in-Some.at c.index.result.now [] (omega (arith, low, c.self.invariant.all))
    ∙ c.self.invariant.possible c.args.of.now c.in-Some.at there ∙ ap (λ ds. possible ds c.args.of.now) c.self.view_is
