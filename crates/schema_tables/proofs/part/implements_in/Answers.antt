use Rattle.std.proofs.Common.{◌≡◌, is_some, sym, ap, ◌∙◌}
use Rattle.schema_tables.proofs.InputsFound.{has_name}
use Rattle.schema_tables.proofs.PartsFound.{with_fields}
use Rattle.schema_tables.proofs.part.implements_in.Goals as goal
use Rattle.schema_tables.specs.Indexes.{place_of}
use Rattle.schema_tables.specs.TableParts.{own_name}
use Rattle.schema_tables.specs.Types.{interfaces_of}

pub returns-in-Fields : goal.returns-in-Fields
returns-in-Fields c =
    let index = (with_fields c.args.definition.now c.args.part.now c.in-Fields.interfaces c.in-Fields.fields c.requires c.in-Fields.is).1 in
    c.is_some.ensures
    ∙ ap is_some
    (c.find_place.ensures ∙ ap (λ ns. place_of own_name ns c.deref.result.now c.args.name.now) c.interfaces_of.ensures
    ∙ ap (λ ps. place_of own_name (interfaces_of c.args.definition.now) ps c.args.name.now) c.deref.ensures.value ∙ index.finds c.args.name.now)
    ∙ has_name (interfaces_of c.args.definition.now) c.args.name.now
