use Rattle.std.proofs.Common.{◌≡◌, None, map, drop, option_copied, option_map}
use Rattle.store_report.proofs.conflict.first_clash.Given as goal
use Rattle.store_report.specs.SaidFacts.{put_of, clash_from}

abbrev pub invariant-facts : goal.invariant-facts
invariant-facts l = clash_from (option_map put_of (option_copied l.before)) (map put_of (drop l.fact-index l.facts)) ≡ clash_from None (map put_of l.facts)
