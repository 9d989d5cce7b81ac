-- Where what is needed is harmless nothing is wrong; else all are looked at that are reached.
use Rattle.std.proofs.Common.{◌≡◌, [], List, length, map, ap, sym, ◌∙◌}
use Rattle.doc_sites.specs.gql_plain.Order.{has_text}
use Rattle.doc_sites.specs.schema_types.ArgumentRules as rules
use Rattle.doc_sites.specs.gql_graph.Leasts.{least_from}
use Rattle.doc_sites.specs.schema_types.NameRules.{spread_by, spreads_in, names_of_all}
use Rattle.doc_sites.specs.gql_graph.Reached.{any_leads}
use Rattle.doc_sites.specs.schema_types.Sites as spec
use Rattle.doc_sites.specs.gql_graph.Texts.{Text}
use Rattle.doc_sites.specs.SitesView.{operation_of, site_of}
use Rattle.doc_sites.specs.declared.site.Site.{Site}
use Rattle.doc_uses.specs.Parts.{part_for}
use Rattle.doc_uses.specs.UsesByName.{uses_among}
use Rattle.doc_uses.proofs.Absorbing.{by_name}
use Rattle.doc_uses.proofs.NeedSteps.{nothing_wrong}
use Rattle.doc_uses.proofs.UseSteps.{parts_wrong}
use Rattle.doc_uses.proofs.wrong_uses.note_beyond.Goals as goal
use denote.Ref.{Bor}

pub returns-then-are_met : goal.returns-then-are_met
returns-then-are_met c = λ fs used d t.
    let o : spec.OperationAt = operation_of c.args.operation.now in
    let starts : map (λ (n : Bor Text). n.now) c.deref-2.result.now ≡ names_of_all (spreads_in o.sites) =
    ap (λ (l : List (Bor Text)). map (λ (n : Bor Text). n.now) l) c.deref-2.ensures.value ∙ c.in_ok-starts.ensures ∙ ap (λ (ss : List Site). names_of_all (spreads_in (map site_of ss))) c.deref.ensures.value in
    sym (nothing_wrong used fs o c.args.known.now.needs c.args.least.now.at d.needs
    (λ m h. c.are_met.ensures o.variables t c.if-are_met.true m (ap (λ (l : List Text). has_text l m) starts ∙ h)))

pub returns : goal.returns
returns c = λ fs used d t.
    let o : spec.OperationAt = operation_of c.args.operation.now in
    let ps : List (Text × List rules.Use) = map (part_for used) fs in
    let names : List Text = map (λ (n : Bor Text). n.now) c.as_slice-names.result.now in
    let starts : map (λ (n : Bor Text). n.now) c.deref-3.result.now ≡ names_of_all (spreads_in o.sites) =
    ap (λ (l : List (Bor Text)). map (λ (n : Bor Text). n.now) l) c.deref-3.ensures.value ∙ c.in_ok-starts.ensures ∙ ap (λ (ss : List Site). names_of_all (spreads_in (map site_of ss))) c.deref.ensures.value in
    let told : (to : Text) → has_text names to ≡ any_leads (spread_by fs) (length fs) (names_of_all (spreads_in o.sites)) to =
    λ to.
    ap (λ (l : List (Bor Text)). has_text (map (λ (n : Bor Text). n.now) l) to) c.as_slice-names.ensures.value ∙ c.in_ok-names.ensures.reached (spread_by fs) d.graph to
    ∙ ap (λ (ss : List Text). any_leads (spread_by fs) c.args.known.now.count ss to) starts
    ∙ ap (λ k. any_leads (spread_by fs) k (names_of_all (spreads_in o.sites)) to) d.count in
    c.note_reached.ensures o.variables t (uses_among used fs) d.gathered
    ∙ by_name (rules.use_wrong o.variables []) c.args.least.now.at names ps
    ∙ ap (least_from c.args.least.now.at) (parts_wrong used fs o (has_text names) told fs)
