use Rattle.std.proofs.Common.{sym, ap, ◌∙◌}
use Rattle.gql_ast.specs.ValueView.{value_of}
use Rattle.gql_ast.proofs.gql_plain_laws.SortedTexts.{has_text-sorted_texts}
use Rattle.gql_graph.specs.gql_plain.Order.{has_text}
use Rattle.schema_tables.proofs.fits.is_among.Goals as goal
use Rattle.schema_tables.specs.Fits.{fits_enum}

pub returns-in-Enum : goal.returns-in-Enum
returns-in-Enum c = λ ns e.
    c.contains.ensures ∙ ap (λ xs. has_text xs c.as_str.result.now) e ∙ has_text-sorted_texts ns c.as_str.result.now ∙ ap (has_text ns) c.as_str.ensures
    ∙ ap (λ v. fits_enum (value_of v) ns) (sym c.in-Enum.is)
