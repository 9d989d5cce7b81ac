use Rattle.std.proofs.Common.{◌≡◌, true≢false, Some, sym, ap, ◌∙◌, arith}
use Rattle.std.specs.Option.{option_and_then}
use Rattle.schema_tables.proofs.Finding.{within, finds, found_passes}
use Rattle.schema_tables.proofs.Named.{roots_found, roots_in_def, not_schema}
use Rattle.schema_tables.proofs.tables.Tables.root_given.Goals as goal
use Rattle.schema_tables.specs.Parts.{is_schema}
use Rattle.schema_tables.specs.Places.{first_at}
use Rattle.schema_tables.specs.Types.{roots_of, root_in, root_from, root}

pub index-requires : goal.index-requires
index-requires c =
    let low = within is_schema c.definitions.inside.items.items c.args.at (ap (first_at is_schema) (c.definitions.view_is ∙ c.self.view_is) ∙ c.requires) in
    omega (arith, low)

pub returns-in-Schema : goal.returns-in-Schema
returns-in-Schema c =
    let there = finds is_schema c.definitions.inside.items.items c.args.at c.index.result.now (ap (first_at is_schema) (c.definitions.view_is ∙ c.self.view_is) ∙ c.requires) in
    let given : roots_of c.definitions.inside.items.items ≡ Some c.in-Schema.roots =
    roots_found c.definitions.inside.items.items ∙ ap (option_and_then roots_in_def) (there ∙ ap Some (sym c.index.ensures ∙ c.in-Schema.is)) in
    c.root_in.ensures ∙ ap (λ rs. root_in rs c.args.kind) c.as_slice.ensures
    ∙ ap (λ rs. root_from rs c.definitions.inside.items.items c.args.kind) (sym given) ∙ ap (λ ds. root ds c.args.kind) (c.definitions.view_is ∙ c.self.view_is)

pub returns-in_default : goal.returns-in_default
returns-in_default c =
    let there = finds is_schema c.definitions.inside.items.items c.args.at c.index.result.now (ap (first_at is_schema) (c.definitions.view_is ∙ c.self.view_is) ∙ c.requires) in
    let passes = found_passes is_schema c.definitions.inside.items.items c.index.result.now (there ∙ ap Some (sym c.index.ensures)) in
    absurd (true≢false (sym passes ∙ not_schema c.index.result.now c.in_default.not-Schema))
