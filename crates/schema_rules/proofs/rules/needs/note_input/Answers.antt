-- One after a place that is noted, one that needs only types of lower ranks, and one that is searched from.
use Rattle.std.proofs.Common.{◌≡◌, Bool, true, List, ap, sym, subst, ◌∙◌, arith}
use Rattle.gql_graph.specs.Leasts.{least_from}
use Rattle.gql_graph.specs.Ranks.{rank_in, AllBelow}
use Rattle.gql_graph.specs.Reached.{any_leads}
use Rattle.gql_graph.specs.Rules.{wrong}
use Rattle.gql_graph.specs.Texts.{Text}
use Rattle.gql_graph.proofs.LeastSteps.{kept_least}
use Rattle.gql_graph.proofs.RankSteps.{not_reached}
use Rattle.schema_rules.proofs.rules.needs.note_input.Goals as goal

pub returns-then-is_at_most : goal.returns-then-is_at_most
returns-then-is_at_most c = λ next t never.
    let is_noted : c.is_at_most.result ≡ true = grind arith in
    let n : Text = c.args.name.now.name.now in
    kept_least c.args.least.now.at (any_leads next c.args.steps (next n) n) c.args.name.now.at (c.is_at_most.ensures is_noted)

pub returns-then-are_below : goal.returns-then-are_below
returns-then-are_below c = λ next t never.
    let is_so : c.are_below.result ≡ true = grind arith in
    let n : Text = c.args.name.now.name.now in
    let rank : Text → _ = rank_in c.args.ranks.now in
    let below : AllBelow rank (rank n) (next n) = subst (λ (ns : List Text). AllBelow rank (rank n) ns) (c.next.ensures next t) (c.are_below.ensures is_so) in
    sym (ap (λ (b : Bool). least_from c.args.least.now.at (wrong b c.args.name.now.at)) (not_reached rank next never c.args.steps (next n) n below))

pub returns : goal.returns
returns c = λ next t never.
    let n : Text = c.args.name.now.name.now in
    c.note_if.ensures ∙ ap (λ (b : Bool). least_from c.args.least.now.at (wrong b c.args.name.now.at))
    (c.in_ok-needs_itself.ensures next t ∙ ap (λ (starts : List Text). any_leads next c.args.steps starts n) (c.next-2.ensures next t))
