-- Round by round.
use Rattle.std.proofs.Common.{◌≡◌, List, [], ◌++◌, map, ap, sym, subst, ◌∙◌, arith}
use Rattle.std.proofs.lemmas.List.{map-append, nil_from_length}
use Rattle.gql_graph.specs.Graphs.{unseen_names, Once}
use Rattle.gql_graph.specs.Rules.{each}
use Rattle.gql_graph.specs.Seen.{Knows}
use Rattle.gql_graph.specs.Texts.{Text}
use Rattle.gql_graph.proofs.Searching.{sought_first, sought_next, sought_none, sought_end}
use Rattle.gql_graph.proofs.Listing.{knows_all, found_all, once_more}
use Rattle.gql_graph.proofs.graph.Graph.names_reached.Goals as goal
use denote.Ref.{Bor}

pub steps-init : goal.steps-init
steps-init c =
    let starts : List Text = map (λ (n : Bor Text). n.now) c.args.starts.now in
    let all : c.round.new.all.items ≡ c.in_ok-frontier.frontier.items = c.in_ok-frontier.ensures.all ∙ ap (λ (l : List (Bor Text)). l ++ c.in_ok-frontier.frontier.items) c.new-all.ensures.items in (
      subst (λ (l : List (Bor Text)). Knows c.round.new.seen.names (map (λ (n : Bor Text). n.now) l)) (sym all)
          (knows_all c.round.new.seen.names [] starts (map (λ (n : Bor Text). n.now) c.in_ok-frontier.frontier.items) (c.in_ok-frontier.ensures.known [] c.new-seen.ensures) (c.in_ok-frontier.ensures.rest [] c.new-seen.ensures)),
      subst (λ (l : List (Bor Text)). Once (map (λ (n : Bor Text). n.now) l)) (sym all)
          (once_more [] starts (map (λ (n : Bor Text). n.now) c.in_ok-frontier.frontier.items) tt (c.in_ok-frontier.ensures.rest [] c.new-seen.ensures)),
      λ next t. sought_first next c.args.steps starts _ _ (c.in_ok-frontier.ensures.known [] c.new-seen.ensures) (c.in_ok-frontier.ensures.rest [] c.new-seen.ensures),
    )

pub steps-preserved : goal.steps-preserved
steps-preserved c =
    let frontier : List Text = map (λ (n : Bor Text). n.now) c.steps.frontier.items in
    let names : List Text = map (λ (n : Bor Text). n.now) c.in_ok-names.names.items in
    let before : List Text = map (λ (n : Bor Text). n.now) c.steps.all.items in
    let then : List Text = map (λ (n : Bor Text). n.now) c.in_ok-frontier-2.frontier.items in
    let rest : (ns : List Text) → Knows c.steps.seen.names ns → then ≡ unseen_names ns names =
    λ ns k. c.in_ok-frontier-2.ensures.rest ns k ∙ ap (λ (l : List (Bor Text)). unseen_names ns (map (λ (n : Bor Text). n.now) l)) c.deref-in-steps.ensures.value in
    let known : (ns : List Text) → Knows c.steps.seen.names ns → Knows c.round-in-steps.new.seen.names (names ++ ns) =
    λ ns k. subst (λ (l : List (Bor Text)). Knows c.round-in-steps.new.seen.names (map (λ (n : Bor Text). n.now) l ++ ns)) c.deref-in-steps.ensures.value (c.in_ok-frontier-2.ensures.known ns k) in
    let all : map (λ (n : Bor Text). n.now) c.round-in-steps.new.all.items ≡ before ++ then =
    ap (map (λ (n : Bor Text). n.now)) c.in_ok-frontier-2.ensures.all ∙ map-append (λ (n : Bor Text). n.now) c.steps.all.items c.in_ok-frontier-2.frontier.items in (
      subst (λ (l : List Text). Knows c.round-in-steps.new.seen.names l) (sym all)
          (knows_all c.round-in-steps.new.seen.names before names then (known before c.steps.invariant.0) (rest before c.steps.invariant.0)),
      subst (λ (l : List Text). Once l) (sym all) (once_more before names then c.steps.invariant.1 (rest before c.steps.invariant.0)),
      λ next t.
          let s = c.steps.invariant.2 next t in
          let led : names ≡ each next frontier = c.in_ok-names.ensures next t ∙ ap (λ (l : List (Bor Text)). each next (map (λ (n : Bor Text). n.now) l)) c.deref.ensures.value in
          sought_next next c.args.steps (map (λ (n : Bor Text). n.now) c.args.starts.now) c.steps.seen.names c.round-in-steps.new.seen.names frontier names then c.steps.counter (omega arith) s led (rest s.seen s.known) (known s.seen s.known),
    )

pub returns-then-is_empty-clause-reached : goal.returns-then-is_empty-clause-reached
returns-then-is_empty-clause-reached c = λ next t.
    found_all next c.args.steps (map (λ (n : Bor Text). n.now) c.args.starts.now) c.steps.seen.names (map (λ (n : Bor Text). n.now) c.steps.all.items) c.steps.invariant.0
    (sought_none next c.args.steps (map (λ (n : Bor Text). n.now) c.args.starts.now) c.steps.seen.names (map (λ (n : Bor Text). n.now) c.steps.frontier.items) c.steps.counter (c.steps.invariant.2 next t)
    (ap (λ (l : List (Bor Text)). map (λ (n : Bor Text). n.now) l) (nil_from_length c.steps.frontier.items (grind (arith, c.is_empty.ensures)))))

pub returns-clause-reached : goal.returns-clause-reached
returns-clause-reached c = λ next t.
    found_all next c.args.steps (map (λ (n : Bor Text). n.now) c.args.starts.now) c.steps.seen.names (map (λ (n : Bor Text). n.now) c.steps.all.items) c.steps.invariant.0
    (sought_end next c.args.steps (map (λ (n : Bor Text). n.now) c.args.starts.now) c.steps.seen.names (map (λ (n : Bor Text). n.now) c.steps.frontier.items) c.steps.counter (omega arith) (c.steps.invariant.2 next t))

pub returns-then-is_empty-clause-once : goal.returns-then-is_empty-clause-once
returns-then-is_empty-clause-once c = c.steps.invariant.1

pub returns-clause-once : goal.returns-clause-once
returns-clause-once c = c.steps.invariant.1
