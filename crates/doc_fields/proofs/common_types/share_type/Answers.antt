-- The possible types of either tell it.
use Rattle.std.proofs.Common.{List, ap, ◌∙◌}
use Rattle.std.specs.List.{list_any}
use Rattle.doc_sites.specs.schema_tables.Types.{Text, applies}
use Rattle.doc_fields.proofs.CommonTypes.{common_either}
use Rattle.doc_fields.proofs.common_types.share_type.Goals as goal

pub returns-then-len : goal.returns-then-len
returns-then-len c =
    c.one_applies.ensures
    ∙ ap (λ (os : List Text). list_any (λ object. applies c.args.schema.now object c.args.on.now) os) c.possible-around.ensures
    ∙ common_either c.args.schema.now c.args.of.now c.args.on.now
