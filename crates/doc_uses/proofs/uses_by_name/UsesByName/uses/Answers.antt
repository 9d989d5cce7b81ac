-- What is kept, or none.
use Rattle.std.proofs.Common.{List, [], Option, unwrap_or, ap, ◌∙◌}
use Rattle.doc_sites.specs.schema_types.ArgumentRules as rules
use Rattle.doc_uses.specs.UseView.{use_of}
use Rattle.doc_uses.proofs.Gathering.{kept_or_none}
use Rattle.doc_uses.proofs.uses_by_name.UsesByName.uses.Goals as goal

pub returns : goal.returns
returns c = λ tells g.
    kept_or_none use_of _ _ c.unwrap_or_default.ensures ∙ ap (λ (o : Option (List rules.Use)). unwrap_or o []) c.find.ensures ∙ g c.args.name.now
