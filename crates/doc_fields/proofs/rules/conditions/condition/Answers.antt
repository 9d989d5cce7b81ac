-- The first name that a fragment leads to is its condition.
use Rattle.std.proofs.Common.{Option, option_copied, ap, sym, ◌∙◌}
use Rattle.doc_sites.specs.schema_types.NameRules.{fragment_named}
use Rattle.doc_sites.specs.gql_graph.Texts.{Text}
use Rattle.doc_fields.specs.Fragments.{conditions_of}
use Rattle.doc_fields.proofs.Steps.{first_condition}
use Rattle.doc_fields.proofs.rules.conditions.condition.Goals as goal
use denote.Ref.{Bor}

pub returns-in-Some : goal.returns-in-Some
returns-in-Some c = λ fs t.
    sym (ap (λ (o : Option (Bor (Bor Text))). option_copied (option_copied o)) c.in-Some.is)
    ∙ first_condition c.next.result.now (fragment_named fs c.args.name.now) _ c.first.ensures.value (c.next.ensures (conditions_of fs) t)

pub returns-in-None : goal.returns-in-None
returns-in-None c = λ fs t.
    sym (ap (λ (o : Option (Bor (Bor Text))). option_copied (option_copied o)) c.in-None.is)
    ∙ first_condition c.next.result.now (fragment_named fs c.args.name.now) _ c.first.ensures.value (c.next.ensures (conditions_of fs) t)
