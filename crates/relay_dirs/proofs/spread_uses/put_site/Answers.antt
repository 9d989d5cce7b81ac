-- A spread gives what it gives; other selections give nothing.
use Rattle.std.proofs.Common.{◌≡◌, OnOk, ◌++◌, List, Option, map, ap, sym, subst, ◌∙◌}
use Rattle.std.proofs.lemmas.List.{append-nil}
use Rattle.constant_values.specs.schema_types.ArgumentRules.{Use}
use Rattle.constant_values.specs.gql_graph.Rules.{each}
use Rattle.constant_values.specs.schema_types.Sites.{ArgumentAt}
use Rattle.doc_uses.specs.doc_sites.SitesView.{argument_of, directive_of, site_of}
use Rattle.doc_uses.specs.doc_sites.declared.site.ArgumentAt as code
use Rattle.doc_uses.specs.doc_sites.declared.site.DirectiveAt.{DirectiveAt}
use Rattle.doc_uses.specs.doc_sites.declared.site.Site.{Site}
use Rattle.relay_rules.specs.Spreads.{spread_arguments, locals_named, uses_at_spread, uses_of_given}
use Rattle.relay_dirs.specs.Tables.{Finds}
use Rattle.doc_uses.specs.UseView.{use_of}
use Rattle.relay_dirs.specs.declared.fragments.Locals.{Locals}
use Rattle.relay_dirs.proofs.spread_uses.put_site.Goals as goal

pub returns-in-Field : goal.returns-in-Field
returns-in-Field c = λ fs h.
    sym (append-nil (map use_of c.args.uses.now.items)) ∙ sym (ap (λ (s : Site). map use_of c.args.uses.now.items ++ uses_at_spread c.args.schema.now fs (site_of s)) c.in-Field.is)

pub returns-in-Inline : goal.returns-in-Inline
returns-in-Inline c = λ fs h.
    sym (append-nil (map use_of c.args.uses.now.items)) ∙ sym (ap (λ (s : Site). map use_of c.args.uses.now.items ++ uses_at_spread c.args.schema.now fs (site_of s)) c.in-Inline.is)

pub returns-in_ok-given-in-Spread : goal.returns-in_ok-given-in-Spread
returns-in_ok-given-in-Spread c = λ fs h.
    let at = c.in-Spread.name.at in
    let old = map use_of c.args.uses.now.items in
    let defs = c.args.schema.now in
    let given : map argument_of c.deref-in-Spread.result.now ≡ spread_arguments (map directive_of c.in-Spread.directives.items) =
    ap (λ (xs : List code.ArgumentAt). map argument_of xs) c.deref-in-Spread.ensures.value ∙ c.in_ok-given-in-Spread.ensures
    ∙ ap (λ (ds : List DirectiveAt). spread_arguments (map directive_of ds)) c.deref.ensures.value in
    let finds : Finds _ (locals_named fs c.in-Spread.name.name.now) =
    subst (λ (o : Option Locals). Finds o (locals_named fs c.in-Spread.name.name.now)) (sym c.find-locals.ensures) (h c.in-Spread.name.name.now) in
    subst (λ (us : List Use). OnOk c.put_given.result (map use_of c.put_given.new.uses.items ≡ old ++ us))
    (ap (λ (xs : List ArgumentAt). each (uses_of_given defs at (locals_named fs c.in-Spread.name.name.now)) xs) given
    ∙ sym (ap (λ (s : Site). uses_at_spread defs fs (site_of s)) c.in-Spread.is)) (c.put_given.ensures (locals_named fs c.in-Spread.name.name.now) finds)
