-- One more name, and all of them.
use Rattle.std.proofs.Common.{ℕ, List, [], get_or, arith, ap, ◌∙◌}
use Rattle.doc_fields.specs.Heads.{keys_found}
use Rattle.doc_fields.specs.Keys.{Sum, join_sums, keys_view}
use Rattle.doc_fields.proofs.Sums.{joined_next, joined_end}
use Rattle.doc_fields.proofs.heads.Heads.keys_of_each.Goals as goal
use Rattle.doc_sites.proofs.schema_rules_laws.FoundAt.{get_or_own}
use denote.Ref.{Bor}

none : Bor (List ℕ)
none = record { ref_ptr = (0, 0); now = [] }

pub names-preserved : goal.names-preserved
unfolding none
names-preserved c =
    joined_next (λ (n : Bor (List ℕ)). n.now) (keys_found c.args.self.now) c.args.names.now c.names.name-index (get_or c.args.names.now c.names.name-index none) _ _ _ (omega arith)
    (get_or_own c.args.names.now c.names.name-index none (omega arith))
    (c.and-keys.ensures ∙ ap (λ (s : Sum). join_sums (keys_view c.names.keys) s) c.keys-more.ensures) c.names.invariant

pub returns : goal.returns
returns c = joined_end (λ (n : Bor (List ℕ)). n.now) (keys_found c.args.self.now) c.args.names.now c.names.name-index _ _ (omega arith) c.names.invariant
