-- One more of the list.
use Rattle.std.proofs.Common.{arith}
use Rattle.doc_sites.specs.schema_trees.LocatedView.{name_of}
use Rattle.doc_names.specs.Cycles.{leads_to}
use Rattle.doc_names.proofs.NameSteps.{no_name, noted_at}
use Rattle.doc_names.proofs.rules.cycles.note_leading_back.Goals as goal

pub spreads-preserved : goal.spreads-preserved
spreads-preserved c = λ next t s.
    noted_at name_of (leads_to next c.args.steps c.args.to.now) c.args.spreads.now c.spreads.spread-index no_name _ _ _ (omega arith)
    (c.in_ok-note_if_leads.ensures next t s) (c.spreads.invariant next t s)
