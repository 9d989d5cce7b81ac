-- One more name.
use Rattle.std.proofs.Common.{[], get_or, ap, arith}
use Rattle.doc_sites.specs.schema_types.ArgumentRules as rules
use Rattle.doc_sites.specs.gql_graph.Rules.{each}
use Rattle.doc_sites.specs.gql_graph.Texts.{Text}
use Rattle.doc_sites.proofs.schema_rules_laws.FoundAt.{get_or_own}
use Rattle.doc_sites.proofs.gql_graph_laws.LeastSteps.{each_next}
use Rattle.doc_sites.proofs.ListSteps.{noted_end}
use Rattle.doc_uses.proofs.Steps.{noted_same}
use Rattle.doc_uses.proofs.wrong_uses.note_reached.Goals as goal
use denote.Ref.{Bor}

none : Bor Text
none = record { ref_ptr = (0, 0); now = [] }

pub names-preserved : goal.names-preserved
unfolding none
names-preserved c = λ vs h tells g.
    each_next (λ (n : Bor Text). n.now) (λ n. each (rules.use_wrong vs []) (tells n)) c.args.names.now c.names.name-index (get_or c.args.names.now c.names.name-index none) _ _ _ (omega arith)
    (get_or_own c.args.names.now c.names.name-index none (omega arith))
    (noted_same _ _ _ _ (c.note_uses.ensures vs h) (ap (each (rules.use_wrong vs [])) (c.uses.ensures tells g))) (c.names.invariant vs h tells g)

pub returns : goal.returns
returns c = λ vs h tells g.
    noted_end (λ (n : Bor Text). n.now) (λ n. each (rules.use_wrong vs []) (tells n)) c.args.names.now c.names.name-index _ _ (omega arith) (c.names.invariant vs h tells g)
