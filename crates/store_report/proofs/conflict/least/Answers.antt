use Rattle.std.proofs.Common.{map, option_copied, option_map, sym, ap, ◌∙◌, arith}
use Rattle.std.proofs.lemmas.List.{drop_all}
use Rattle.store_model.specs.Verdicts.{least, put_cmp, where_so}
use Rattle.store_report.proofs.LoopSteps.{least_next, least_end}
use Rattle.store_report.proofs.conflict.least.Goals as goal
use Rattle.store_report.specs.Gathering.{lesser_some}
use Rattle.store_report.specs.SaidFacts.{put_of, is_candidate}

pub facts-preserved : goal.facts-preserved
facts-preserved c =
    let test = is_candidate (put_of c.args.place.now) (option_copied c.args.unlike) in
    least_next c.args.facts.now c.facts.fact-index c.fact-item.result (omega arith) c.fact-item.is test
    (option_map put_of (option_copied c.facts.best)) (option_map put_of (option_copied c.in_ok-best.best)) (least put_cmp (where_so test (map put_of c.args.facts.now)))
    c.in_ok-best.ensures c.facts.invariant

pub returns : goal.returns
returns c =
    let test = is_candidate (put_of c.args.place.now) (option_copied c.args.unlike) in
    let best = option_map put_of (option_copied c.facts.best) in
    sym (least_end best)
    ∙ ap (λ fs. lesser_some put_cmp best (least put_cmp (where_so test (map put_of fs)))) (sym (drop_all c.facts.fact-index c.args.facts.now c.facts-test.false))
    ∙ c.facts.invariant
