use Rattle.std.proofs.Common.{rules, ◌≡◌, ◌||◌, ◌++◌, Some, bytes_eq, option_and_then, ap, ◌∙◌}
use Rattle.std.specs.FinMap as finmap
use Rattle.plan_ir.specs.gql_plain.Order.{has_text}
use Rattle.plan_ir.specs.store_model.Leads.{ids_of_fields, with_infos}
use Rattle.plan_ir.specs.store_model.Records.{alive}
use Rattle.plan_ir.specs.store_record.declared.record.Slot.TheVariants.{Alive}
use Rattle.store_retain.proofs.LeadingSteps.{out_noted}
use Rattle.store_retain.proofs.leading.open_record.Goals as goal

pub returns-clause-noted : goal.returns-clause-noted
returns-clause-noted g c = λ j.
    let m = g.S.RecordSource.records c.args.source.now in
    let id = c.args.id.now in
    let row = c.get-row.result.now in
    let N = c.args.leading.now.noted.keys in
    let links = c.deref.result.now in
    let there : finmap.get m id ≡ Some (Alive row) = search rules in
    let linked : links ≡ ids_of_fields row.fields = c.deref.ensures.value ∙ c.in_ok-put_links.ensures ∙ ap (λ ids. ids ++ ids_of_fields row.fields) c.new-links.ensures.items in
    c.in_ok-see_all.ensures.noted j
    ∙ ap (λ b. b || has_text (with_infos links) j) (c.in_ok-see.ensures.noted j ∙ ap (λ info. has_text N j || bytes_eq info j) c.in_ok-info_id.ensures)
    ∙ out_noted m N id row links j (ap (option_and_then alive) there) linked
