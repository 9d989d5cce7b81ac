-- All names, and what the entries say of them.
use Rattle.std.proofs.Common.{List, map, sym, subst, ℕ, Bor, Vec, Global}
use Rattle.gql_graph.specs.Ranks.{rank_in}
use Rattle.gql_graph.specs.Texts.{Text}
use Rattle.gql_graph.proofs.RankSteps.{BelowEach, below_in}
use Rattle.gql_graph.proofs.ranks.never_rise.Goals as goal

abbrev links : Vec (Bor (List ℕ)) Global → List Text
links ns = map (λ (n : Bor (List ℕ)). n.now) ns.items

pub links-init : goal.links-init
links-init c = λ b. subst (λ (es : List (Bor (List ℕ) × Vec (Bor (List ℕ)) Global)). BelowEach (rank_in c.args.ranks.now) links es) c.into_iter-name-iterator.ensures.into_iter_gives.0 b

pub returns : goal.returns
returns c = λ is n.
    below_in (rank_in c.args.ranks.now) links c.args.graph.now.links.entries
    (c.links.invariant (subst (λ (es : List (Bor (List ℕ) × Vec (Bor (List ℕ)) Global)). BelowEach (rank_in c.args.ranks.now) links es) (sym c.in-None.ensures.steps.0) tt)) n
