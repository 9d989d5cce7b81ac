use Rattle.std.proofs.Common.{◌≡◌, ℕ, [], length, take, refl, sym, subst, ◌∙◌, arith, length-take}
use Rattle.relay_forms.specs.relay_machine.Machine.{Project}
use Rattle.relay_forms.specs.Progress.{Progress, after, told}
use Rattle.relay_forms.specs.Puts.{IsPut, IsPutInPart}
use Rattle.relay_forms.specs.declared.put.Stop.{Stop}
use Rattle.relay_forms.specs.declared.put.Stop.TheVariants as S
use Rattle.plan_ir.specs.schema_tables.Types.{Text}
use Rattle.relay_forms.proofs.LineParts.{piece_of}
use Rattle.relay_forms.proofs.PutLaws.{failing_so, nothing_of}
use Rattle.relay_top.proofs.Courses.{nothing_given}
use Rattle.relay_top.specs.Sessions.{IsAt}
use Rattle.relay_top.specs.declared.session.Halt.{Halt}
use Rattle.relay_top.specs.declared.session.Halt.TheVariants.{NoMemory, ReadFault, WriteFault}
use Rattle.relay_top.proofs.session.Session.next_piece.Goals as goal

lacks : (stop : Stop) → stop ≡ S.NoMemory → stop ≡ S.WriteFault → NoMemory ≡ WriteFault
lacks stop is e = cc

no_read_fault : NoMemory ≡ ReadFault → ⊥
no_read_fault e = cc

no_fault_either : WriteFault ≡ ReadFault → ⊥
no_fault_either e = cc

pub returns-in_default-clause-err : goal.returns-in_default-clause-err
returns-in_default-clause-err g c = (
  [],
  omega arith,
  sym c.in_default.ensures.kept ∙ nothing_given (g.S.Source.left c.read.new.self),
  λ _. (refl, refl, refl),
  λ p buffer q at. nothing_of (told p buffer q (take c.args.most [])) _ (g.K.Sink.contents c.args.out.now) (g.K.Sink.calls c.args.out.now),
)

pub returns-in-Ok-take_piece-clause-ok : goal.returns-in-Ok-take_piece-clause-ok
returns-in-Ok-take_piece-clause-ok g c =
    let into = c.read.new.into in
    let given = take c.in-Ok.count into in
    let cut_is : take c.min.result into ≡ take c.args.most given = piece_of c.in-Ok.count c.args.most c.min.result into c.min.ensures in
    let P : Text → Type 0 = λ t. (p : Project) (buffer : ℕ) (q : Progress) → IsAt p buffer c.args.self.now q → IsAt p buffer c.take_piece.new.self (after p buffer q t)
    × IsPut (told p buffer q t) (g.K.Sink.contents c.args.out.now) (g.K.Sink.contents c.take_piece.new.out) (g.K.Sink.calls c.args.out.now) (g.K.Sink.calls c.take_piece.new.out) in (
      given,
      omega (arith, length-take c.in-Ok.count into, c.in-Ok.ensures.bound),
      c.in-Ok.ensures.bound,
      c.in-Ok.ensures.bytes,
      c.in-Ok.ensures.end,
      omega (arith, c.in-Ok-take_piece.ensures.number, length-take c.min.result into, c.min.ensures),
      subst P cut_is c.in-Ok-take_piece.ensures.ok,
    )

pub returns-in-Err-NoMemory-clause-err : goal.returns-in-Err-NoMemory-clause-err
returns-in-Err-NoMemory-clause-err g c =
    let into = c.read.new.into in
    let given = take c.in-Ok.count into in
    let cut_is : take c.min.result into ≡ take c.args.most given = piece_of c.in-Ok.count c.args.most c.min.result into c.min.ensures in (
      given,
      omega (arith, length-take c.in-Ok.count into, c.in-Ok.ensures.bound),
      c.in-Ok.ensures.bytes,
      λ e. absurd (no_read_fault e),
      λ p buffer q at.
          let h0 = g.K.Sink.contents c.args.out.now in
          let h1 = g.K.Sink.contents c.take_piece.new.out in
          let c0 = g.K.Sink.calls c.args.out.now in
          let c1 = g.K.Sink.calls c.take_piece.new.out in
          failing_so (told p buffer q (take c.args.most given)) (c.in-Err-NoMemory.field-0 ≡ S.WriteFault) (NoMemory ≡ WriteFault) h0 h1 c0 c1 (lacks c.in-Err-NoMemory.field-0 c.in-Err-NoMemory.field-0-is)
          (subst (λ t. IsPutInPart (told p buffer q t) (c.in-Err-NoMemory.field-0 ≡ S.WriteFault) h0 h1 c0 c1) cut_is (c.in-Err-NoMemory.ensures.err p buffer q at)),
    )

pub returns-in-Err-WriteFault-clause-err : goal.returns-in-Err-WriteFault-clause-err
returns-in-Err-WriteFault-clause-err g c =
    let into = c.read.new.into in
    let given = take c.in-Ok.count into in
    let cut_is : take c.min.result into ≡ take c.args.most given = piece_of c.in-Ok.count c.args.most c.min.result into c.min.ensures in (
      given,
      omega (arith, length-take c.in-Ok.count into, c.in-Ok.ensures.bound),
      c.in-Ok.ensures.bytes,
      λ e. absurd (no_fault_either e),
      λ p buffer q at.
          let h0 = g.K.Sink.contents c.args.out.now in
          let h1 = g.K.Sink.contents c.take_piece.new.out in
          let c0 = g.K.Sink.calls c.args.out.now in
          let c1 = g.K.Sink.calls c.take_piece.new.out in
          failing_so (told p buffer q (take c.args.most given)) (c.in-Err-WriteFault.field-0 ≡ S.WriteFault) (WriteFault ≡ WriteFault) h0 h1 c0 c1 (λ _. refl)
          (subst (λ t. IsPutInPart (told p buffer q t) (c.in-Err-WriteFault.field-0 ≡ S.WriteFault) h0 h1 c0 c1) cut_is (c.in-Err-WriteFault.ensures.err p buffer q at)),
    )
