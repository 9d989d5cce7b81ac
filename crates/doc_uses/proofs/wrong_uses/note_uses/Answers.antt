-- One more use.
use Rattle.std.proofs.Common.{[], Option, ap, option_map, ◌∙◌, arith}
use Rattle.doc_sites.specs.schema_types.ArgumentRules as rules
use Rattle.doc_sites.specs.schema_types.Sites.{VariableAt}
use Rattle.doc_sites.proofs.gql_graph_laws.LeastSteps.{each_next}
use Rattle.doc_uses.specs.UseView.{place_of, use_of}
use Rattle.doc_sites.proofs.ListSteps.{noted_end}
use Rattle.doc_uses.proofs.Steps.{noted_if_not}
use Rattle.doc_uses.proofs.wrong_uses.note_uses.Goals as goal

pub uses-preserved : goal.uses-preserved
uses-preserved c = λ vs h.
    each_next use_of (rules.use_wrong vs []) c.args.uses.now c.uses.one-index c.one-item.result _ _ _ (omega arith) c.one-item.is
    (noted_if_not _ _ c.is_allowed-is_good.result _ _ c.note_if.ensures
    (c.is_allowed-is_good.ensures ∙ ap (λ (v : Option VariableAt). rules.is_allowed v (option_map place_of c.one-item.result.place)) (c.find-variable.ensures vs h))) (c.uses.invariant vs h)

pub returns : goal.returns
returns c = λ vs h. noted_end use_of (rules.use_wrong vs []) c.args.uses.now c.uses.one-index _ _ (omega arith) (c.uses.invariant vs h)
