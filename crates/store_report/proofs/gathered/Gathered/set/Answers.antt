use Rattle.std.proofs.Common.{◌≡◌, ◌<◌, length, map, option_map, ap, ◌∙◌, arith}
use Rattle.std.proofs.lemmas.List.{length-map}
use Rattle.store_report.proofs.GatherSteps.{puts_set}
use Rattle.store_report.proofs.gathered.Gathered.set.Goals as goal
use Rattle.store_report.specs.Gathering.{Gathering, with_value}
use Rattle.store_report.specs.SaidFacts.{put_of, fault_of}

pub returns : goal.returns
returns c =
    let inside = c.self.inside in
    let facts = inside.facts.items in
    let same : length (map put_of facts) ≡ length c.args.self.now.puts = ap (λ (g : Gathering). length g.puts) c.self.view_is in
    let mapped : length (map put_of facts) ≡ length facts = length-map facts put_of in
    let lt : c.args.at < length facts = omega (arith, same, mapped, c.requires) in
    (λ i. record { puts = puts_set facts c.args.at c.index_mut.result.now c.args.value lt c.index_mut.ensures.value i; pages = inside.pages.items; fault = option_map fault_of inside.fault })
    ∙ ap (with_value c.args.at c.args.value) c.self.view_is
