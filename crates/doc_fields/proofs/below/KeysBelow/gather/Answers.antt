-- One more name, or none.
use Rattle.std.proofs.Common.{List, ap, ◌∙◌, arith}
use Rattle.std.proofs.lemmas.Result.{on_ok_weaker}
use Rattle.doc_sites.specs.gql_graph.Texts.{Text}
use Rattle.doc_fields.specs.Heads.{all_of}
use Rattle.doc_fields.specs.Keys.{Sum, join_sums, keys_view}
use Rattle.doc_fields.proofs.BelowSteps.{below_more, below_put, known_some}
use Rattle.doc_fields.proofs.below.KeysBelow.gather.Goals as goal

pub returns-in-Some : goal.returns-in-Some
returns-in-Some c = λ next t own h least known.
    on_ok_weaker c.put.result
    (λ put. below_put next own least c.args.self.now c.put.new.self c.args.name.now _ _ known put
    (λ f k. known_some c.find_all.result _ _ c.in-Some.is (c.find_all.ensures f k) ∙ ap (λ (ns : List Text). all_of f ns) (c.next.ensures next t))
    (c.and-keys.ensures ∙ ap (λ (s : Sum). join_sums s (keys_view c.in-Some.below)) (c.keys.ensures ∙ h c.args.name.now)))
    c.put.ensures

pub returns-in-None : goal.returns-in-None
returns-in-None c = λ next t own h least known. below_more next own least _ c.args.self.now (omega arith) known
