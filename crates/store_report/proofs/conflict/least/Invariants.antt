use Rattle.std.proofs.Common.{◌≡◌, map, drop, option_copied, option_map}
use Rattle.store_model.specs.Verdicts.{least, put_cmp, where_so}
use Rattle.store_report.proofs.conflict.least.Given as goal
use Rattle.store_report.specs.Gathering.{lesser_some}
use Rattle.store_report.specs.SaidFacts.{put_of, is_candidate}

abbrev pub invariant-facts : goal.invariant-facts
invariant-facts l =
    lesser_some put_cmp (option_map put_of (option_copied l.best)) (least put_cmp (where_so (is_candidate (put_of l.place) (option_copied l.unlike)) (map put_of (drop l.fact-index l.facts))))
    ≡ least put_cmp (where_so (is_candidate (put_of l.place) (option_copied l.unlike)) (map put_of l.facts))
