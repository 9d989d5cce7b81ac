-- The ids so far, and those that are left.
use Rattle.std.proofs.Common.{◌≡◌, ◌++◌, ℕ, List, Bor, map}
use Rattle.store_retain.proofs.found.Found.all_ids.Given as goal

abbrev pub invariant-ids : goal.invariant-ids
invariant-ids l = l.words.items ++ map (λ (k : Bor (List ℕ)). k.now) l.id-iterator ≡ map (λ (k : Bor (List ℕ)). k.now) l.initial.id-iterator
