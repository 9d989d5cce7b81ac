-- The definitions are those of the documents, and so is what stands ready.
use Rattle.std.proofs.Common.{map, Option, is_some, ap, subst, ◌∙◌}
use Rattle.doc_sites.specs.SitesView.{definition_of}
use Rattle.plan_ir.specs.Expansion.{Whole}
use Rattle.plan_expand.specs.Answers.{IsAnswer, whole_in}
use Rattle.plan_expand.proofs.definition.expand.Goals as goal

pub new-requires : goal.new-requires
new-requires c = ap (map definition_of) c.deref.ensures.value ∙ c.in_ok-definitions.ensures

pub expand-requires-clause-there : goal.expand-requires-clause-there
expand-requires-clause-there c =
    (λ i. is_some (whole_in (c.in_ok-expander.ensures.schema i) (c.in_ok-expander.ensures.documents i) c.args.whole c.args.root.now)) ∙ c.requires

pub returns : goal.returns
returns c =
    subst (λ (o : Option Whole). IsAnswer o c.expand.result)
    (λ i. whole_in (c.in_ok-expander.ensures.schema i) (c.in_ok-expander.ensures.documents i) c.args.whole c.args.root.now) c.expand.ensures
