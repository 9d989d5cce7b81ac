-- The groups of rules are taken in their order, each where those before it are met.
use Rattle.std.proofs.lemmas.Result.{IfErr-weaker, on_ok_weaker, err_from_is_err_and}
use Rattle.plan_project.proofs.RuleLaws.{names_faulty, fields_faulty, arguments_faulty, relay_faulty, all_met}
use Rattle.plan_project.proofs.checking.check_rules.Goals as goal
use Rattle.relay_dirs.specs.relay_rules.RelayRules.{document_rules, relay_rules}
use Rattle.plan_ir.specs.schema_types.DocumentRules.{AreFaulty}

pub returns-in_err-check_names_of-clause-fault : goal.returns-in_err-check_names_of-clause-fault
returns-in_err-check_names_of-clause-fault c =
    let e = err_from_is_err_and c.from_residual.result c.from_residual.ensures.1 in
    rw (e.1, e.2) (names_faulty c.args.schema.now c.args.documents.now c.in_err-check_names_of.field-0.0 c.in_err-check_names_of.ensures.fault)

pub returns-in_err-check_fields_of-clause-fault : goal.returns-in_err-check_fields_of-clause-fault
returns-in_err-check_fields_of-clause-fault c =
    let e = err_from_is_err_and c.from_residual-in_err-check_fields_of.result c.from_residual-in_err-check_fields_of.ensures.1 in
    rw (e.1, e.2)
    (fields_faulty c.args.schema.now c.args.documents.now c.in_err-check_fields_of.field-0.0 c.in_ok-check_names_of.ensures.met c.in_err-check_fields_of.ensures.fault)

pub returns-in_err-check_args_of-clause-fault : goal.returns-in_err-check_args_of-clause-fault
returns-in_err-check_args_of-clause-fault c =
    let e = err_from_is_err_and c.from_residual-in_err-check_args_of.result c.from_residual-in_err-check_args_of.ensures.1 in
    rw (e.1, e.2)
    (arguments_faulty c.args.schema.now c.args.documents.now c.in_err-check_args_of.field-0.0 c.in_ok-check_names_of.ensures.met c.in_ok-check_fields_of.ensures.met
    c.in_err-check_args_of.ensures.fault)

pub returns-clause-met : goal.returns-clause-met
returns-clause-met c =
    on_ok_weaker c.check_relay_of.result
    (λ relay. all_met c.args.schema.now c.args.documents.now c.in_ok-check_names_of.ensures.met c.in_ok-check_fields_of.ensures.met c.in_ok-check_args_of.ensures.met relay)
    c.check_relay_of.ensures.met

pub returns-clause-fault : goal.returns-clause-fault
returns-clause-fault c =
    IfErr-weaker c.check_relay_of.result (AreFaulty relay_rules c.args.schema.now c.args.documents.now) (AreFaulty document_rules c.args.schema.now c.args.documents.now)
    (λ e h. relay_faulty c.args.schema.now c.args.documents.now e c.in_ok-check_names_of.ensures.met c.in_ok-check_fields_of.ensures.met c.in_ok-check_args_of.ensures.met h)
    c.check_relay_of.ensures.fault
