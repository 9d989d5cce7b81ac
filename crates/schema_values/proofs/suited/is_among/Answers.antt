use Rattle.std.proofs.Common.{sym, ap, ◌∙◌}
use Rattle.schema_types.proofs.gql_plain_laws.SortedTexts.{has_text-sorted_texts}
use Rattle.schema_types.specs.gql_plain.Order.{has_text}
use Rattle.schema_types.specs.gql_plain.Shown.{tree_of}
use Rattle.schema_types.specs.Environments.{suits_enum}
use Rattle.schema_values.proofs.suited.is_among.Goals as goal

pub returns-in-Text : goal.returns-in-Text
returns-in-Text c = λ ns e.
    c.contains.ensures ∙ ap (λ xs. has_text xs c.as_str.result.now) e ∙ has_text-sorted_texts ns c.as_str.result.now ∙ ap (has_text ns) c.as_str.ensures
    ∙ ap (λ v. suits_enum (tree_of v) ns) (sym c.in-Text.is)
