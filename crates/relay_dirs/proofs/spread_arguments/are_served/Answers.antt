-- What is given fits, and what must be given is.
use Rattle.std.proofs.Common.{rules as common, ◌≡◌, List, map, ◌&&◌, ap, ◌∙◌}
use Rattle.std.specs.List.{list_all}
use Rattle.constant_values.specs.gql_graph.Texts.{Text}
use Rattle.gql_syntax.specs.gql_plain.Order.{has_text}
use Rattle.constant_values.specs.schema_types.Sites as sites
use Rattle.doc_uses.specs.doc_sites.SitesView.{argument_of}
use Rattle.relay_dirs.specs.GivenNames.{given_names}
use Rattle.relay_rules.specs.Spreads.{is_served}
use Rattle.relay_dirs.proofs.SpreadSteps.{required_all}
use Rattle.relay_dirs.proofs.spread_arguments.are_served.Goals as goal
use denote.Ref.{Bor}

pub returns : goal.returns
returns c = λ ls s.
    let xs : List sites.ArgumentAt = map argument_of c.args.given.now in
    let complete : c.are_given-complete.result ≡ list_all (is_served xs) ls =
    c.are_given-complete.ensures (given_names xs) c.in_ok-names.ensures
    ∙ ap (λ (l : List (Bor Text)). list_all (has_text (given_names xs)) (map (λ (n : Bor Text). n.now) l)) c.deref.ensures.value
    ∙ ap (list_all (has_text (given_names xs))) s.required ∙ required_all xs ls in
    let both : c.if-fit.result ≡ (c.in_ok-fit.fit && c.are_given-complete.result) = search common in
    both ∙ (λ k. c.in_ok-fit.ensures ls s k && complete k)
