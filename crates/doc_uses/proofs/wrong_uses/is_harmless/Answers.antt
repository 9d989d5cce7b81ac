-- A use that is not before the place that is noted, and one that is allowed.
use Rattle.std.proofs.Common.{Option, option_map, ap, sym, ◌∙◌}
use Rattle.doc_sites.specs.schema_types.ArgumentRules as rules
use Rattle.doc_sites.specs.schema_types.Sites.{VariableAt}
use Rattle.doc_sites.proofs.gql_graph_laws.LeastSteps.{kept_least}
use Rattle.doc_uses.specs.UseView.{place_of}
use Rattle.doc_uses.proofs.NeedSteps.{allowed_harmless}
use Rattle.doc_uses.proofs.wrong_uses.is_harmless.Goals as goal

pub returns-then-is_at_most : goal.returns-then-is_at_most
returns-then-is_at_most c = λ vs t e. sym (kept_least c.args.least.now.at _ _ (c.is_at_most.ensures c.if-is_at_most.true))

pub returns : goal.returns
returns c = λ vs t e.
    allowed_harmless c.args.least.now.at _ _
    (sym (c.is_allowed.ensures ∙ ap (λ (v : Option VariableAt). rules.is_allowed v (option_map place_of c.args.one.now.place)) (c.find-variable.ensures vs t)) ∙ e)
