-- An operation, and a fragment with the uses that are left.
use Rattle.std.proofs.Common.{◌≡◌, OnOk, List, ◌++◌, map, ap, sym, subst, ◌∙◌}
use Rattle.std.proofs.lemmas.List.{append-nil}
use Rattle.doc_uses.specs.schema_types.ArgumentRules as rules
use Rattle.doc_uses.specs.schema_types.Sites as spec
use Rattle.doc_uses.specs.doc_sites.SitesView.{definition_of, directive_of, fragment_of, site_of}
use Rattle.doc_uses.specs.doc_sites.declared.site.DefinitionAt.{DefinitionAt}
use Rattle.doc_uses.specs.Parts.{free_part}
use Rattle.doc_uses.specs.UsesByName.{Gathers, named_in, named_uses}
use Rattle.doc_uses.specs.UseView.{use_of}
use Rattle.doc_args.specs.UsesIn.{uses_in_fragment}
use Rattle.doc_args.proofs.fragments.put_definition.Goals as goal

pub returns-in-Operation : goal.returns-in-Operation
returns-in-Operation c = λ tells g n.
    g n ∙ sym (append-nil (tells n)) ∙ sym (ap (λ (d : DefinitionAt). tells n ++ named_in (uses_in_fragment c.args.schema.now) (definition_of d) n) c.in-Operation.is)

pub returns-in_ok-uses-in-Fragment : goal.returns-in_ok-uses-in-Fragment
returns-in_ok-uses-in-Fragment c = λ tells g.
    let f : spec.FragmentAt = fragment_of c.in-Fragment.fragment in
    let used : map use_of c.deref-in-Fragment-2.result.now ≡ uses_in_fragment c.args.schema.now f =
    ap (map use_of) c.deref-in-Fragment-2.ensures.value ∙ c.in_ok-uses-in-Fragment.ensures
    ∙ (λ k. rules.uses_of c.args.schema.now (map directive_of (c.deref.ensures.value k)) (map site_of (c.deref-in-Fragment.ensures.value k))) in
    let done : OnOk c.put.result (Gathers c.put.new.self (λ n. tells n ++ named_uses (free_part f (uses_in_fragment c.args.schema.now f)) n)) =
    subst (λ (us : List rules.Use). OnOk c.put.result (Gathers c.put.new.self (λ n. tells n ++ named_uses (free_part f us) n))) used (c.put.ensures tells g) in
    subst (λ (d : DefinitionAt). OnOk c.put.result (Gathers c.put.new.self (λ n. tells n ++ named_in (uses_in_fragment c.args.schema.now) (definition_of d) n))) (sym c.in-Fragment.is) done
