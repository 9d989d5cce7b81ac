-- The rules on documents, and then those on what operations and fragments become.
use Rattle.std.proofs.Common.{map, ap, subst, sym, ◌∙◌}
use Rattle.std.proofs.lemmas.Result.{IfErr-weaker}
use Rattle.plan_read.specs.doc_sites.SitesView.{definition_of}
use Rattle.plan_project.proofs.RuleLaws.{expansions_faulty, rules_broken}
use Rattle.plan_project.proofs.checking.check_documents.Goals as goal
use Rattle.plan_project.specs.Noting.{IsFaultOfDocuments, IsFaultOfExpansions}
use Rattle.relay_dirs.specs.relay_rules.RelayRules.{document_rules}
use Rattle.plan_project.specs.declared.fault.DocumentsFault.TheVariants as D
use Rattle.plan_ir.specs.schema_rules.declared.fault.NodeFault.{NodeFault}
use Rattle.plan_ir.specs.schema_types.DocumentRules.{AreFaulty}

pub check_rules-requires : goal.check_rules-requires
check_rules-requires c = ap (map definition_of) c.deref.ensures.value ∙ c.in-Ok.ensures

pub check_expansions-requires : goal.check_expansions-requires
check_expansions-requires c = ap (map definition_of) c.deref-in-Ok-check_rules.ensures.value ∙ c.in-Ok.ensures

pub returns-in-Ok-check_rules-clause-fault : goal.returns-in-Ok-check_rules-clause-fault
returns-in-Ok-check_rules-clause-fault c =
    IfErr-weaker c.check_expansions.result (IsFaultOfExpansions c.args.schema.now c.args.documents.now) (IsFaultOfDocuments c.args.schema.now c.args.documents.now)
    (λ e h. expansions_faulty c.args.schema.now c.args.documents.now e c.in-Ok-check_rules.ensures.met h) c.check_expansions.ensures.fault

pub returns-in-Err-Rule-clause-fault : goal.returns-in-Err-Rule-clause-fault
returns-in-Err-Rule-clause-fault c =
    subst (λ (f : NodeFault). IsFaultOfDocuments c.args.schema.now c.args.documents.now (D.Node f)) (sym c.in-Err-Rule.fault-is)
    (rules_broken c.args.schema.now c.args.documents.now c.in-Err-Rule.fault (subst (AreFaulty document_rules c.args.schema.now c.args.documents.now) c.in-Err-Rule.field-0-is c.in-Err-Rule.ensures.fault))
