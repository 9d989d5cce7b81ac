-- One more definition, and all of them.
use Rattle.std.proofs.Common.{[], List, ◌++◌, map, refl, ◌∙◌, arith}
use Rattle.constant_values.specs.schema_types.ArgumentRules.{Use}
use Rattle.constant_values.specs.schema_types.Sites.{FragmentAt}
use Rattle.doc_uses.specs.doc_sites.SitesView.{definition_of}
use Rattle.doc_uses.proofs.doc_sites_laws.ListSteps.{collect_next, collect_end}
use Rattle.doc_uses.specs.UsesByName.{named_in}
use Rattle.doc_uses.proofs.UseSteps.{gathered_all}
use Rattle.relay_rules.specs.Spreads.{uses_in_fragment}
use Rattle.relay_dirs.proofs.fragment_uses.gather.Goals as goal

pub definitions-init : goal.definitions-init
definitions-init c = λ fs s. (λ n. [], c.new-gathered.ensures, λ n. refl)

pub definitions-preserved : goal.definitions-preserved
definitions-preserved c = λ fs s.
    let i = c.definitions.invariant fs s in
    let used : FragmentAt → List Use = uses_in_fragment c.args.schema.now fs in (
      λ n. i.0 n ++ named_in used (definition_of c.definition-item.result) n,
      c.in_ok-put_definition.ensures fs s i.0 i.1,
      λ n.
          collect_next definition_of (λ d. named_in used d n) c.args.definitions.now c.definitions.definition-index c.definition-item.result (i.0 n) _ _ (omega arith) c.definition-item.is refl (i.2 n),
    )

pub returns : goal.returns
returns c = λ fs s n.
    let i = c.definitions.invariant fs s in
    let used : FragmentAt → List Use = uses_in_fragment c.args.schema.now fs in
    i.1 n ∙ collect_end definition_of (λ d. named_in used d n) c.args.definitions.now c.definitions.definition-index (i.0 n) _ (omega arith) (i.2 n)
    ∙ gathered_all used (map definition_of c.args.definitions.now) n
