-- By the name inside the type.
use Rattle.std.proofs.Common.{Option, option_copied, ap, sym, ◌∙◌}
use Rattle.doc_sites.specs.schema_types.Sites.{field_type}
use Rattle.doc_sites.specs.gql_graph.Texts.{Text}
use Rattle.doc_fields.specs.Bases.{float_of}
use Rattle.doc_fields.proofs.FieldBases.{float_by_base}
use Rattle.doc_fields.proofs.rules.floats.is_float.Goals as goal
use denote.Ref.{Bor}

pub returns-in-Some : goal.returns-in-Some
returns-in-Some c =
    c.names_float.ensures
    ∙ ap (λ (o : Option Text). float_of o) (sym (ap (λ (o : Option (Bor Text)). option_copied o) c.in-Some.is) ∙ c.below.ensures)
    ∙ float_by_base (field_type c.args.schema.now (option_copied c.args.around) c.args.name.now)

pub returns-in-None : goal.returns-in-None
returns-in-None c =
    ap (λ (o : Option Text). float_of o) (sym (ap (λ (o : Option (Bor Text)). option_copied o) c.in-None.is) ∙ c.below.ensures)
    ∙ float_by_base (field_type c.args.schema.now (option_copied c.args.around) c.args.name.now)
