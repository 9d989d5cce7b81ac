-- A field without a type, and one with a type.
use Rattle.std.proofs.Common.{Option, Some, option_copied, ap, sym, ◌∙◌}
use Rattle.doc_sites.specs.schema_types.Sites.{field_type}
use Rattle.doc_sites.specs.gql_graph.Texts.{Text}
use Rattle.doc_fields.proofs.FieldBases.{no_type, a_type}
use Rattle.doc_fields.proofs.rules.undefined.is_undefined_on.Goals as goal
use denote.Ref.{Bor}

pub returns-in-Some : goal.returns-in-Some
returns-in-Some c =
    a_type (field_type c.args.schema.now (Some c.args.of.now) c.args.name.now) c.in-Some._base.now (sym (ap (λ (o : Option (Bor Text)). option_copied o) c.in-Some.is) ∙ c.below_on.ensures)

pub returns-in-None : goal.returns-in-None
returns-in-None c = no_type (field_type c.args.schema.now (Some c.args.of.now) c.args.name.now) (sym (ap (λ (o : Option (Bor Text)). option_copied o) c.in-None.is) ∙ c.below_on.ensures)
