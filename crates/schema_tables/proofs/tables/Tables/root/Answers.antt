use Rattle.std.proofs.Common.{◌≡◌, None, sym, ap, ◌∙◌}
use Rattle.std.specs.Option.{option_and_then}
use Rattle.schema_tables.proofs.Finding.{missing}
use Rattle.schema_tables.proofs.Named.{roots_found, roots_in_def}
use Rattle.schema_tables.proofs.tables.Tables.root.Goals as goal
use Rattle.schema_tables.specs.Parts.{is_schema}
use Rattle.schema_tables.specs.Types.{roots_of, root_from}

pub returns-in-None : goal.returns-in-None
returns-in-None c =
    let none : roots_of c.args.self.now ≡ None =
    ap roots_of (sym c.self.view_is) ∙ roots_found c.self.inside.definitions
    ∙ ap (option_and_then roots_in_def) (missing is_schema c.self.inside.definitions (sym c.self.invariant.schema ∙ c.in-None.is)) in
    c.root_by_name.ensures ∙ ap (λ rs. root_from rs c.args.self.now c.args.kind) (sym none)
