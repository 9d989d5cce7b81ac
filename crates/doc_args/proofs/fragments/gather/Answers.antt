-- One more definition, and all of them.
use Rattle.std.proofs.Common.{[], List, ◌++◌, map, refl, ◌∙◌, arith}
use Rattle.doc_uses.specs.schema_types.ArgumentRules.{Use}
use Rattle.doc_uses.specs.schema_types.Sites.{FragmentAt}
use Rattle.doc_uses.specs.doc_sites.SitesView.{definition_of}
use Rattle.doc_uses.proofs.doc_sites_laws.ListSteps.{collect_next, collect_end}
use Rattle.doc_uses.specs.UsesByName.{named_in}
use Rattle.doc_uses.proofs.UseSteps.{gathered_all}
use Rattle.doc_args.specs.UsesIn.{uses_in_fragment}
use Rattle.doc_args.proofs.fragments.gather.Goals as goal

pub definitions-init : goal.definitions-init
definitions-init c = (λ n. [], c.new-gathered.ensures, λ n. refl)

pub definitions-preserved : goal.definitions-preserved
definitions-preserved c =
    let s = c.definitions.invariant in
    let used : FragmentAt → List Use = uses_in_fragment c.args.schema.now in (
      λ n. s.0 n ++ named_in used (definition_of c.definition-item.result) n,
      c.in_ok-put_definition.ensures s.0 s.1,
      λ n. collect_next definition_of (λ d. named_in used d n) c.args.definitions.now c.definitions.definition-index c.definition-item.result (s.0 n) _ _ (omega arith) c.definition-item.is refl (s.2 n),
    )

pub returns : goal.returns
returns c = λ n.
    let s = c.definitions.invariant in
    let used : FragmentAt → List Use = uses_in_fragment c.args.schema.now in
    s.1 n ∙ collect_end definition_of (λ d. named_in used d n) c.args.definitions.now c.definitions.definition-index (s.0 n) _ (omega arith) (s.2 n)
    ∙ gathered_all used (map definition_of c.args.definitions.now) n
