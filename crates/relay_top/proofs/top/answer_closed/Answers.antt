use Rattle.std.proofs.Common.{◌≡◌, codes, refl, sym, ap, subst, inl, inr, ◌∙◌}
use Rattle.relay_forms.specs.relay_io.Causes.{Rose}
use Rattle.relay_top.specs.Answers.{unknown, refused}
use Rattle.relay_forms.specs.Files.{IsTheFaultOf, name_of, name_under}
use Rattle.relay_forms.specs.Reads.{IsClosedBy}
use Rattle.relay_forms.specs.Rules.{rule_text}
use Rattle.relay_forms.specs.declared.status.Status.TheVariants.{ReadFault, NoMemory}
use Rattle.relay_top.proofs.Courses.{ran_unknown, ran_refused}
use Rattle.relay_top.proofs.top.answer_closed.Goals as goal

pub returns-in-Unread : goal.returns-in-Unread
returns-in-Unread g c = λ files form faults faults_now misses misses_now left reads names_are closed. (
  unknown,
  tt,
  inl (refl, subst (λ x. IsClosedBy files form x (Rose faults faults_now)) c.in-Unread.is closed),
  ran_unknown form ReadFault left reads (g.K.Sink.contents c.args.out.now) (g.K.Sink.calls c.args.out.now) (inl refl),
)

pub returns-in-NoMemory : goal.returns-in-NoMemory
returns-in-NoMemory g c = λ files form faults faults_now misses misses_now left reads names_are closed. (
  unknown,
  tt,
  inr refl,
  ran_unknown form NoMemory left reads (g.K.Sink.contents c.args.out.now) (g.K.Sink.calls c.args.out.now) (inr refl),
)

pub returns-in-TooLong : goal.returns-in-TooLong
returns-in-TooLong g c = λ files form faults faults_now misses misses_now left reads names_are closed.
    let name = c.in-TooLong.name.now in (
      refused name 1 1 (codes "F1"),
      subst (λ x. IsClosedBy files form x (Rose faults faults_now)) c.in-TooLong.is closed,
      c.refuse.ensures.form,
      ran_refused form name 1 1 (codes "F1") c.refuse.result (Rose (g.K.Sink.faults c.args.out.now) (g.K.Sink.faults c.refuse.new.out)) left reads
          (g.K.Sink.contents c.args.out.now) (g.K.Sink.contents c.refuse.new.out) (g.K.Sink.calls c.args.out.now) (g.K.Sink.calls c.refuse.new.out) c.refuse.ensures.form c.refuse.ensures.added,
    )

pub returns-in-Fault : goal.returns-in-Fault
returns-in-Fault g c = λ files form faults faults_now misses misses_now left reads names_are closed.
    let f = c.in-Fault.fault in
    let told : IsTheFaultOf files form (name_of form f.file) f.line f.column (rule_text f.rule) = subst (λ x. IsClosedBy files form x (Rose faults faults_now)) c.in-Fault.is closed in
    let named : name_of form f.file ≡ c.name_at-name.result.now = ap (λ names. name_under names f.file) names_are ∙ sym c.name_at-name.ensures in
    let step = c.refuse-in-Fault in (
      refused c.name_at-name.result.now f.line f.column c.rule_text-rule.result.now,
      subst (λ name. IsTheFaultOf files form name f.line f.column c.rule_text-rule.result.now) named
          (subst (λ rule. IsTheFaultOf files form (name_of form f.file) f.line f.column rule) (sym c.rule_text-rule.ensures) told),
      step.ensures.form,
      ran_refused form c.name_at-name.result.now f.line f.column c.rule_text-rule.result.now step.result (Rose (g.K.Sink.faults c.args.out.now) (g.K.Sink.faults step.new.out)) left reads
          (g.K.Sink.contents c.args.out.now) (g.K.Sink.contents step.new.out) (g.K.Sink.calls c.args.out.now) (g.K.Sink.calls step.new.out) step.ensures.form step.ensures.added,
    )
