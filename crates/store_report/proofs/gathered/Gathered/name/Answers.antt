use Rattle.std.proofs.Common.{option_map, ap, ◌∙◌}
use Rattle.gql_order.specs.gql_plain.declared.plain.Plain.TheVariants.{Text as Words}
use Rattle.store_model.specs.Records.{typename}
use Rattle.store_model.specs.Says.{put_at}
use Rattle.store_model.specs.store_record.Keys.{Text}
use Rattle.store_model.specs.store_record.declared.field.Field.TheVariants.{Leaf}
use Rattle.store_report.proofs.GatherSteps.{with_put}
use Rattle.store_report.proofs.gathered.Gathered.name.Goals as goal
use Rattle.store_report.specs.Gathering.{gathered_onto}
use Rattle.store_report.specs.SaidFacts.{fault_of}

pub returns : goal.returns
returns c =
    let inside = c.self.inside in
    let value = Leaf (Words c.args.name) in
    rw c.in_ok-push.ensures.items
    (with_put inside.facts.items inside.pages.items (option_map fault_of inside.fault) c.in_ok-fact.fact
    (record { fact = record { id = c.args.id.now; key = typename; value = value }; path = c.args.path.now })
    (c.in_ok-fact.ensures ∙ ap (λ (key : Text). record { fact = record { id = c.args.id.now; key = key; value = value }; path = c.args.path.now }) c.self.invariant)
    ∙ ap (λ g. gathered_onto g (put_at c.args.id.now typename value c.args.path.now)) c.self.view_is)
