use Rattle.std.proofs.Common.{subst}
use Rattle.relay_top.proofs.OneLine.{nothing_put}
use Rattle.relay_forms.specs.relay_machine.Bulk.{bulk_summary}
use Rattle.bulk_laws.specs.BulkProject.{bulk_project}
use Rattle.relay_top.proofs.SummaryLaws.{summary_is}
use Rattle.relay_top.proofs.summary.put_summary.Goals as goal
use Rattle.relay_top.specs.Answers.{Wrote}
use Rattle.relay_forms.specs.Projects.{project_shown}
use Rattle.plan_ir.specs.schema_tables.Types.{Text}

pub returns-in_default-clause-wrote : goal.returns-in_default-clause-wrote
returns-in_default-clause-wrote g c =
    nothing_put (bulk_summary bulk_project c.args.seed c.args.count) (g.K.Sink.contents c.args.out.now) (g.K.Sink.calls c.args.out.now)

pub returns-in-Err-clause-wrote : goal.returns-in-Err-clause-wrote
returns-in-Err-clause-wrote g c =
    nothing_put (bulk_summary bulk_project c.args.seed c.args.count) (g.K.Sink.contents c.args.out.now) (g.K.Sink.calls c.args.out.now)

pub returns-in-Ok-tally_script-clause-wrote : goal.returns-in-Ok-tally_script-clause-wrote
returns-in-Ok-tally_script-clause-wrote g c =
    let tally = c.in-Ok-tally_script.tally in
    let P : Text → Type 0 = λ t. Wrote t c.put_tally.result (g.K.Sink.contents c.args.out.now) (g.K.Sink.contents c.put_tally.new.out) (g.K.Sink.calls c.args.out.now) (g.K.Sink.calls c.put_tally.new.out) in
    subst P (summary_is (project_shown c.in-Ok.project) c.in-Ok.ensures c.args.seed c.args.count tally.bytes tally.lines tally.refused
    c.in-Ok-tally_script.ensures.bytes c.in-Ok-tally_script.ensures.lines c.in-Ok-tally_script.ensures.refused) c.put_tally.ensures.wrote
