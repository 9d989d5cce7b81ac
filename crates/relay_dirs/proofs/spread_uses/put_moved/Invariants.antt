-- What is put and what is left are the whole.
use Rattle.std.proofs.Common.{◌≡◌, ◌++◌, map, drop}
use Rattle.relay_rules.specs.Spreads.{move_use}
use Rattle.doc_uses.specs.UseView.{use_of}
use Rattle.relay_dirs.proofs.spread_uses.put_moved.Given as goal

abbrev pub invariant-found : goal.invariant-found
invariant-found l =
    map use_of l.uses.items ++ map (move_use l.at) (map use_of (drop l.one-index l.found)) ≡ map use_of l.initial.uses.items ++ map (move_use l.at) (map use_of l.found)
