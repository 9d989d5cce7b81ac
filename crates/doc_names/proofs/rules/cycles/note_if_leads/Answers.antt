-- One after a place that is noted, one of a lower rank, and one that is searched from.
use Rattle.std.proofs.Common.{◌≡◌, ◌<◌, Bool, true, ap, sym, ◌∙◌, arith}
use Rattle.doc_sites.specs.gql_graph.Leasts.{least_from}
use Rattle.doc_sites.specs.gql_graph.Reached.{leads}
use Rattle.doc_sites.specs.gql_graph.Rules.{wrong}
use Rattle.doc_sites.specs.gql_graph.Texts.{Text}
use Rattle.doc_sites.proofs.gql_graph_laws.LeastSteps.{kept_least}
use Rattle.doc_sites.specs.gql_graph.Ranks.{rank_in}
use Rattle.doc_names.proofs.CycleSteps.{reached_alone}
use Rattle.doc_sites.proofs.gql_graph_laws.RankSteps.{not_leading}
use Rattle.doc_names.proofs.rules.cycles.note_if_leads.Goals as goal

pub returns-then-is_at_most : goal.returns-then-is_at_most
returns-then-is_at_most c = λ next t s.
    let is_noted : c.is_at_most.result ≡ true = grind arith in
    kept_least c.args.least.now.at (leads next c.args.steps c.args.spread.now.name.now c.args.to.now) c.args.spread.now.at (c.is_at_most.ensures is_noted)

pub returns-then-rank : goal.returns-then-rank
returns-then-rank c = λ next t s.
    let n : Text = c.args.spread.now.name.now in
    let m : Text = c.args.to.now in
    let is_lower : rank_in c.args.ranks.now n < rank_in c.args.ranks.now m = omega (arith, c.rank.ensures, c.rank-2.ensures, c.if-rank.true) in
    ap (λ (b : Bool). least_from c.args.least.now.at (wrong b c.args.spread.now.at)) (sym (not_leading (rank_in c.args.ranks.now) next s c.args.steps n m is_lower))

pub returns : goal.returns
returns c = λ next t s.
    c.note_if.ensures ∙ ap (λ (b : Bool). least_from c.args.least.now.at (wrong b c.args.spread.now.at))
    (c.in_ok-leads_back.ensures next t ∙ reached_alone next c.args.steps c.args.spread.now.name.now c.args.to.now)
