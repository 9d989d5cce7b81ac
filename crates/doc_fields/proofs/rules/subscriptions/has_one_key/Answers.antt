-- The keys of the set, and those of the fragments that are reached.
use Rattle.std.proofs.Common.{◌≡◌, List, ◌++◌, map, ap, sym, subst, ◌∙◌}
use Rattle.doc_sites.specs.schema_types.FieldRules.{Key, keys_in, spreads_at_root}
use Rattle.doc_sites.specs.gql_graph.Rules.{each}
use Rattle.doc_sites.specs.gql_graph.Texts.{Text}
use Rattle.doc_fields.specs.Heads.{keys_of_name}
use Rattle.doc_fields.specs.Keys.{Sum, is_one, join_sums, keys_view, sum_of, AreReached}
use Rattle.doc_fields.proofs.RootKeys.{one_root_key}
use Rattle.doc_fields.proofs.Sums.{is_one_sum, sum-append}
use Rattle.doc_fields.proofs.rules.subscriptions.has_one_key.Goals as goal
use denote.Ref.{Bor}

pub returns : goal.returns
returns c = λ fs i.
    let defs = c.args.schema.now in
    let root = c.args.root.now in
    let set = c.args.selections.now in
    let own : List Key = keys_in defs root set in
    let found = c.in_ok-more.ensures defs root fs i in
    let starts : map (λ (n : Bor Text). n.now) c.deref.result.now ≡ spreads_at_root defs root set =
    ap (λ (l : List (Bor Text)). map (λ (n : Bor Text). n.now) l) c.deref.ensures.value ∙ c.in_ok-spreads.ensures in
    let all : List Key = each (keys_of_name defs root fs) found.0 in
    let sum : keys_view c.and.result ≡ sum_of (own ++ all) =
    c.and.ensures ∙ ap (λ (s : Sum). join_sums s (keys_view c.in_ok-more.more)) c.keys_in-keys.ensures ∙ ap (λ (s : Sum). join_sums (sum_of own) s) found.2 ∙ sym (sum-append own all) in
    c.is_one.ensures ∙ ap is_one sum ∙ is_one_sum (own ++ all) ∙ one_root_key defs fs root set found.0 (subst (λ (ns : List Text). AreReached defs fs root ns found.0) starts found.1)
