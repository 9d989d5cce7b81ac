use Rattle.std.proofs.Common.{◌≡◌, is_some, sym, ap, ◌∙◌}
use Rattle.schema_tables.proofs.InputsFound.{has_name}
use Rattle.schema_tables.proofs.PartsFound.{with_members}
use Rattle.schema_tables.proofs.part.holds_in.Goals as goal
use Rattle.schema_tables.specs.Indexes.{place_of}
use Rattle.schema_tables.specs.TableParts.{own_name}
use Rattle.schema_tables.specs.Types.{union_members_of}

pub returns-in-Members : goal.returns-in-Members
returns-in-Members c =
    let index = with_members c.args.definition.now c.args.part.now c.in-Members.members c.requires c.in-Members.is in
    c.is_some.ensures
    ∙ ap is_some
    (c.find_place.ensures ∙ ap (λ ns. place_of own_name ns c.deref.result.now c.args.name.now) c.members_of.ensures
    ∙ ap (λ ps. place_of own_name (union_members_of c.args.definition.now) ps c.args.name.now) c.deref.ensures.value ∙ index.finds c.args.name.now)
    ∙ has_name (union_members_of c.args.definition.now) c.args.name.now
