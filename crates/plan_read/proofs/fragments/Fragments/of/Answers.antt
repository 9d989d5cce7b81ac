-- One more definition, and all of them.
use Rattle.std.proofs.Common.{map, option_map, refl, ap, arith}
use Rattle.std.specs.Option.{option_or}
use Rattle.plan_expand.specs.doc_sites.SitesView.{definition_of}
use Rattle.plan_read.specs.Reading.{ready_fragment}
use Rattle.plan_read.specs.ReadyView.{ready_in}
use Rattle.plan_ir.specs.schema_types.NameRules.{fragment_named, fragments}
use Rattle.plan_read.proofs.Tables.{fragment_before, or_end, or_next}
use Rattle.plan_read.proofs.fragments.Fragments.of.Goals as goal

pub definitions-init : goal.definitions-init
definitions-init c = λ n.
    ap (λ r. option_or r (option_map ready_fragment (fragment_named (fragments (map definition_of c.args.definitions.now)) n))) (c.new-fragments.ensures n)

pub definitions-preserved : goal.definitions-preserved
definitions-preserved c = λ n.
    or_next (λ ds. option_map ready_fragment (fragment_named (fragments (map definition_of ds)) n)) (λ d. ready_in (definition_of d) n)
    (fragment_before n) c.args.definitions.now c.definitions.definition-index c.definition-item.result _ _ _ (omega arith) c.definition-item.is
    (c.in_ok-put_definition.ensures n) (c.definitions.invariant n)

pub returns : goal.returns
returns c = λ n.
    or_end (λ ds. option_map ready_fragment (fragment_named (fragments (map definition_of ds)) n)) refl c.args.definitions.now c.definitions.definition-index _ _ (omega arith)
    (c.definitions.invariant n)
