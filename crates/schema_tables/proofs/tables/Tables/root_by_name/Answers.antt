use Rattle.std.proofs.Common.{◌≡◌, cond, Some, None, is_some, sym, ap, ◌∙◌}
use Rattle.schema_tables.proofs.Named.{name_found}
use Rattle.schema_tables.proofs.tables.Tables.root_by_name.Goals as goal
use Rattle.schema_tables.specs.Types.{type_named, default_root}

pub returns-in-Some : goal.returns-in-Some
returns-in-Some c =
    let found : Some c.in-Some.definition.now ≡ type_named c.args.self.now c.default_root.result.now = c.in-Some.ensures in
    c.type_name.ensures ∙ name_found c.args.self.now c.default_root.result.now c.in-Some.definition.now (sym found) ∙ ap Some c.default_root.ensures
    ∙ sym (ap (λ o. cond (is_some o) (Some (default_root c.args.kind)) None) (ap (type_named c.args.self.now) (sym c.default_root.ensures) ∙ sym found))
