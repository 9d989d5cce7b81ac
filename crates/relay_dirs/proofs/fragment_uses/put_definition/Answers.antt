-- An operation, and a fragment with the uses that are left.
use Rattle.std.proofs.Common.{◌≡◌, OnOk, List, ◌++◌, map, ap, sym, subst, ◌∙◌}
use Rattle.std.proofs.lemmas.List.{append-nil}
use Rattle.constant_values.specs.schema_types.ArgumentRules as rules
use Rattle.constant_values.specs.schema_types.Sites as parts
use Rattle.doc_uses.specs.doc_sites.SitesView.{definition_of, fragment_of, site_of}
use Rattle.doc_uses.specs.doc_sites.declared.site.DefinitionAt.{DefinitionAt}
use Rattle.doc_uses.specs.doc_sites.declared.site.Site.{Site}
use Rattle.doc_uses.specs.Parts.{free_part}
use Rattle.doc_uses.specs.UsesByName.{Gathers, named_in, named_uses}
use Rattle.doc_uses.specs.UseView.{use_of}
use Rattle.doc_uses.specs.declared.uses.Use.{Use}
use Rattle.relay_rules.specs.Spreads.{uses_in_fragment, uses_in_spreads}
use Rattle.relay_dirs.proofs.fragment_uses.put_definition.Goals as goal

pub returns-in-Operation : goal.returns-in-Operation
returns-in-Operation c = λ fs s tells g n.
    g n ∙ sym (append-nil (tells n)) ∙ sym (ap (λ (d : DefinitionAt). tells n ++ named_in (uses_in_fragment c.args.schema.now fs) (definition_of d) n) c.in-Operation.is)

pub returns-in_ok-uses-in-Fragment : goal.returns-in_ok-uses-in-Fragment
returns-in_ok-uses-in-Fragment c = λ fs s tells g.
    let f : parts.FragmentAt = fragment_of c.in-Fragment.fragment in
    let used : map use_of c.deref-in-Fragment.result.now ≡ uses_in_fragment c.args.schema.now fs f =
    ap (λ (us : List Use). map use_of us) c.deref-in-Fragment.ensures.value ∙ c.in_ok-uses-in-Fragment.ensures fs s
    ∙ ap (λ (ss : List Site). uses_in_spreads c.args.schema.now fs (map site_of ss)) c.deref.ensures.value in
    let done : OnOk c.put.result (Gathers c.put.new.self (λ n. tells n ++ named_uses (free_part f (uses_in_fragment c.args.schema.now fs f)) n)) =
    subst (λ (us : List rules.Use). OnOk c.put.result (Gathers c.put.new.self (λ n. tells n ++ named_uses (free_part f us) n))) used (c.put.ensures tells g) in
    subst (λ (d : DefinitionAt). OnOk c.put.result (Gathers c.put.new.self (λ n. tells n ++ named_in (uses_in_fragment c.args.schema.now fs) (definition_of d) n))) (sym c.in-Fragment.is) done
