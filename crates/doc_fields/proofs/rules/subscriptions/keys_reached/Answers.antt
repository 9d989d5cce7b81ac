-- What is known of the fragments, and what a search finds.
use Rattle.std.proofs.Common.{ℕ, List, length, map, ap, ◌∙◌, arith}
use Rattle.doc_sites.specs.schema_types.FieldRules.{Key}
use Rattle.doc_sites.specs.gql_graph.Reached.{any_leads}
use Rattle.doc_sites.specs.gql_graph.Rules.{each}
use Rattle.doc_sites.specs.gql_graph.Texts.{Text}
use Rattle.doc_fields.specs.Heads.{all_of, below, keys_found, keys_of_name}
use Rattle.doc_fields.specs.Keys.{next_at_root, sum_of}
use Rattle.doc_fields.proofs.BelowSteps.{all_below, all_reached, known_some, names_below}
use Rattle.doc_fields.proofs.Sums.{all_alike, each_sum}
use Rattle.doc_fields.proofs.rules.subscriptions.keys_reached.Goals as goal
use denote.Ref.{Bor}

pub returns-in-Some : goal.returns-in-Some
returns-in-Some c = λ defs root fs i.
    let next : Text → List Text = next_at_root defs root fs in
    let keys : Text → List Key = keys_of_name defs root fs in
    let starts : List Text = map (λ (n : Bor Text). n.now) c.args.starts.now in (
      each (names_below next (length fs)) starts,
      all_reached next (length fs) starts,
      known_some c.find_all.result _ _ c.in-Some.is (c.find_all.ensures (below next (λ n. sum_of (keys n)) (length fs)) (i.below (length fs) (omega arith))) ∙ all_below next keys (length fs) starts,
    )

pub returns-in_ok-names-in-None : goal.returns-in_ok-names-in-None
returns-in_ok-names-in-None c = λ defs root fs i.
    let next : Text → List Text = next_at_root defs root fs in
    let keys : Text → List Key = keys_of_name defs root fs in
    let starts : List Text = map (λ (n : Bor Text). n.now) c.args.starts.now in
    let names : List Text = map (λ (n : Bor Text). n.now) c.in_ok-names-in-None.names.items in (
      names,
      λ to. c.in_ok-names-in-None.ensures.reached next i.spreads to ∙ ap (λ (k : ℕ). any_leads next k starts to) i.count,
      c.keys_of_each.ensures ∙ ap (λ (ns : List (Bor Text)). all_of (keys_found c.args.found.now.heads) (map (λ (n : Bor Text). n.now) ns)) c.deref.ensures.value
          ∙ all_alike (keys_found c.args.found.now.heads) (λ n. sum_of (keys n)) i.heads names ∙ each_sum keys names,
    )
