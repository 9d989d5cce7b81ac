-- The fragment stands ready.
use Rattle.std.proofs.Common.{◌≡◌, Some, ap, sym, ◌∙◌}
use Rattle.std.proofs.lemmas.Result.{IfOk-weaker}
use Rattle.std.specs.Prelude.{is_some, option_map}
use Rattle.plan_ir.specs.declared.form.Form.TheVariants as form_of
use Rattle.plan_read.specs.Plans.{reader_in}
use Rattle.plan_read.specs.Preparing.{fragment_steps}
use Rattle.plan_read.specs.ReadyView.{find_in, ready_of}
use Rattle.plan_read.proofs.Answering.{found_none, fragment_answered, fragment_composite, fragment_has}
use Rattle.plan_read.proofs.reader.Readers.plan_fragment.Goals as goal

pub unreachable-requires : goal.unreachable-requires
unreachable-requires c =
    found_none (λ f. ready_of f.now) c.find.result _ (ap is_some (c.find.ensures ∙ ap (find_in c.args.self.now.fragments) c.as_str.ensures) ∙ fragment_has c.args.self.now c.requires.ready c.args.name.now) c.requires.there c.in-None.is

pub plan_alone-requires : goal.plan_alone-requires
plan_alone-requires c =
    fragment_composite c.args.self.now c.requires.ready c.args.name.now (ready_of c.in-Some.ready.now)
    (sym (ap (option_map (λ f. ready_of f.now)) c.in-Some.is) ∙ c.find.ensures ∙ ap (find_in c.args.self.now.fragments) c.as_str.ensures) c.requires.composite

pub returns : goal.returns
returns c =
    IfOk-weaker c.plan_alone.result (λ plan. plan.steps ≡ fragment_steps c.args.self.now (ready_of c.in-Some.ready.now))
    (λ plan. Some plan.steps ≡ reader_in c.args.self.now.schema.now c.args.self.now.documents.now form_of.Fragment c.args.name.now)
    (λ plan h. fragment_answered c.args.self.now c.requires.ready c.args.name.now (ready_of c.in-Some.ready.now) plan.steps
    (sym (ap (option_map (λ f. ready_of f.now)) c.in-Some.is) ∙ c.find.ensures ∙ ap (find_in c.args.self.now.fragments) c.as_str.ensures) h)
    c.plan_alone.ensures
