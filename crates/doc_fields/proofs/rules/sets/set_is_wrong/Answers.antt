-- By the name inside the type.
use Rattle.std.proofs.Common.{Option, option_copied, ap, sym, ◌∙◌}
use Rattle.doc_sites.specs.schema_types.Sites.{field_type}
use Rattle.doc_sites.specs.gql_graph.Texts.{Text}
use Rattle.doc_fields.specs.Bases.{set_wrong_of}
use Rattle.doc_fields.proofs.FieldBases.{set_by_base}
use Rattle.doc_fields.proofs.rules.sets.set_is_wrong.Goals as goal
use denote.Ref.{Bor}

pub returns-in-Some : goal.returns-in-Some
returns-in-Some c =
    c.set_is_wrong_of.ensures
    ∙ ap (λ (o : Option Text). set_wrong_of c.args.schema.now o c.args.has_set) (sym (ap (λ (o : Option (Bor Text)). option_copied o) c.in-Some.is) ∙ c.below.ensures)
    ∙ set_by_base c.args.schema.now (field_type c.args.schema.now (option_copied c.args.around) c.args.name.now) c.args.has_set

pub returns-in-None : goal.returns-in-None
returns-in-None c =
    ap (λ (o : Option Text). set_wrong_of c.args.schema.now o c.args.has_set) (sym (ap (λ (o : Option (Bor Text)). option_copied o) c.in-None.is) ∙ c.below.ensures)
    ∙ set_by_base c.args.schema.now (field_type c.args.schema.now (option_copied c.args.around) c.args.name.now) c.args.has_set
