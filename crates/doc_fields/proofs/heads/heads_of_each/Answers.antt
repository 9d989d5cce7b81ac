-- One more definition, and all of them.
use Rattle.std.proofs.Common.{List, map, ap, sym, ◌∙◌, arith}
use Rattle.doc_sites.specs.schema_types.FieldRules.{Key}
use Rattle.doc_sites.specs.schema_types.Sites.{DefinitionAt}
use Rattle.doc_sites.specs.SitesView.{definition_of}
use Rattle.doc_sites.specs.Definitions.{on_fragment}
use Rattle.doc_fields.specs.Heads.{all_of, keys_named}
use Rattle.doc_fields.specs.Keys.{Sum, join_sums, sum_of}
use Rattle.doc_sites.proofs.DefinitionSteps.{over_fragments}
use Rattle.doc_fields.proofs.Sums.{each_sum, joined_next, joined_end}
use Rattle.doc_fields.proofs.heads.heads_of_each.Goals as goal

pub definitions-init : goal.definitions-init
definitions-init c = λ n.
    let ds : List DefinitionAt = map definition_of c.args.definitions.now in
    ap (λ (s : Sum). join_sums s (all_of (λ d. sum_of (on_fragment (keys_named c.args.schema.now c.args.root.now n) d)) ds)) (c.new-heads.ensures n)
    ∙ each_sum (on_fragment (keys_named c.args.schema.now c.args.root.now n)) ds
    ∙ ap (λ (ks : List Key). sum_of ks) (sym (over_fragments (keys_named c.args.schema.now c.args.root.now n) ds))

pub definitions-preserved : goal.definitions-preserved
definitions-preserved c = λ n.
    joined_next definition_of (λ d. sum_of (on_fragment (keys_named c.args.schema.now c.args.root.now n) d)) c.args.definitions.now c.definitions.definition-index c.definition-item.result _ _ _ (omega arith)
    c.definition-item.is (c.in_ok-put_head_at.ensures n) (c.definitions.invariant n)

pub returns : goal.returns
returns c = λ n.
    joined_end definition_of (λ d. sum_of (on_fragment (keys_named c.args.schema.now c.args.root.now n) d)) c.args.definitions.now c.definitions.definition-index _ _ (omega arith) (c.definitions.invariant n)
