-- One more of the list, and all of them.
use Rattle.std.proofs.Common.{Option, ap, option_map, ◌∙◌, arith}
use Rattle.constant_values.proofs.gql_graph_laws.LeastSteps.{each_next}
use Rattle.relay_marks.specs.Locals.{Local}
use Rattle.relay_rules.specs.Spreads.{is_allowed, local_use_wrong}
use Rattle.doc_uses.specs.UseView.{place_of, use_of}
use Rattle.doc_uses.proofs.doc_sites_laws.ListSteps.{noted_end}
use Rattle.doc_uses.proofs.Steps.{noted_if_not}
use Rattle.relay_dirs.proofs.rules.local_uses.note_uses.Goals as goal

pub uses-preserved : goal.uses-preserved
uses-preserved c = λ ls h.
    each_next use_of (local_use_wrong ls) c.args.uses.now c.uses.one-index c.one-item.result _ _ _ (omega arith) c.one-item.is
    (noted_if_not _ _ c.is_allowed-is_good.result _ _ c.note_if.ensures (c.is_allowed-is_good.ensures ∙ ap (λ (v : Option Local). is_allowed v (option_map place_of c.one-item.result.place)) (c.find-local.ensures ls h))) (c.uses.invariant ls h)

pub returns : goal.returns
returns c = λ ls h. noted_end use_of (local_use_wrong ls) c.args.uses.now c.uses.one-index _ _ (omega arith) (c.uses.invariant ls h)
