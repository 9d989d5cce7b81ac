-- One more name, and all of them.
use Rattle.std.proofs.Common.{ℕ, List, [], get_or, ap, ◌∙◌, arith}
use Rattle.doc_fields.specs.Keys.{Sum, join_sums, keys_view}
use Rattle.doc_fields.proofs.BelowSteps.{known_kept, known_some}
use Rattle.doc_fields.proofs.Sums.{joined_next, joined_end}
use Rattle.doc_fields.proofs.below.KeysBelow.find_all.Goals as goal
use Rattle.doc_sites.proofs.schema_rules_laws.FoundAt.{get_or_own}
use denote.Ref.{Bor}

none : Bor (List ℕ)
none = record { ref_ptr = (0, 0); now = [] }

pub names-preserved : goal.names-preserved
unfolding none
names-preserved c = λ f known.
    joined_next (λ (n : Bor (List ℕ)). n.now) f c.args.names.now c.names.name-index (get_or c.args.names.now c.names.name-index none) _ _ _ (omega arith)
    (get_or_own c.args.names.now c.names.name-index none (omega arith))
    (c.and-all.ensures ∙ ap (λ (s : Sum). join_sums (keys_view c.names.all) s) (known_some c.find.result _ _ c.in-Some.is (known_kept _ _ _ c.find.ensures (known _)))) (c.names.invariant f known)

pub returns : goal.returns
returns c = λ f known. joined_end (λ (n : Bor (List ℕ)). n.now) f c.args.names.now c.names.name-index _ _ (omega arith) (c.names.invariant f known)
