use Rattle.std.proofs.Common.{◌≡◌, ◌⊎◌, ◌≤◌, ◌+◌, ◌++◌, ℕ, [], ◌∷◌, length, take, drop, Option, refl, ap, inl, inr, ◌∙◌, arith, length-take}
use Rattle.std.proofs.lemmas.List.{append-nil, take-append-drop}
use Rattle.relay_forms.specs.relay_io.Streams.{append}
use Rattle.relay_forms.specs.relay_machine.Printed.{project_fault}
use Rattle.relay_top.proofs.project_fault.refuse.Goals as goal
use Rattle.relay_forms.specs.Artifacts.{EndsLine}
use Rattle.relay_forms.specs.declared.status.Status.{Status}
use Rattle.relay_forms.specs.declared.status.Status.TheVariants.{ProjectRefused, WriteFault, NoMemory}
use Rattle.plan_ir.specs.schema_tables.Types.{Text}

-- what is written of the text of a fault, where it is answered so
abbrev IsAdded : (h0 h1 : Option Text) (c0 c1 : ℕ) → Text → Status → Type 0
IsAdded h0 h1 c0 c1 text status =
    (added : Text) × (h1 ≡ append h0 added) × (c1 ≤ c0 + length added + 1) × ((status ≡ WriteFault) ⊎ EndsLine added)
    × (more : Text) × (added ++ more ≡ text) × (status ≡ ProjectRefused → more ≡ [])

module _ (h0 h1 : Option Text) (c0 c1 : ℕ) (line text : Text) (same : line ++ 10 ∷ [] ≡ text) where
  abbrev bytes : Text
  bytes = line ++ 10 ∷ []

  whole : h1 ≡ append h0 bytes → c1 ≤ c0 + length bytes → IsAdded h0 h1 c0 c1 text ProjectRefused
  whole held calls = (bytes, held, omega (arith, calls), inr (inr (line, refl)), [], append-nil bytes ∙ same, λ _. refl)

  cut_off : (k : ℕ) → k ≤ length bytes → h1 ≡ append h0 (take k bytes) → c1 ≤ c0 + k + 1 → IsAdded h0 h1 c0 c1 text WriteFault
  cut_off k within held calls = (take k bytes, held, omega (arith, calls, within, length-take k bytes), inl refl, drop k bytes, take-append-drop k bytes ∙ same, λ e. absurd (cc))

  not_begun : (k : ℕ) → k ≡ 0 → h1 ≡ append h0 (take k bytes) → c1 ≤ c0 + k + 1 → IsAdded h0 h1 c0 c1 text NoMemory
  not_begun k none held calls = ([], held ∙ ap (λ n. append h0 (take n bytes)) none, omega (arith, calls, none), inr (inl refl), text, refl, λ e. absurd (cc))

pub returns-in-Ok-put_line-clause-added : goal.returns-in-Ok-put_line-clause-added
returns-in-Ok-put_line-clause-added g c =
    whole (g.K.Sink.contents c.args.out.now) (g.K.Sink.contents c.put_line.new.out) (g.K.Sink.calls c.args.out.now) (g.K.Sink.calls c.put_line.new.out) c.in-Ok.text
    (project_fault c.args.file.now c.args.line c.args.column c.args.rule.now) c.in-Ok.ensures c.in-Ok-put_line.ensures.ok.0 c.in-Ok-put_line.ensures.ok.1

pub returns-in-Err-WriteFault-clause-added : goal.returns-in-Err-WriteFault-clause-added
returns-in-Err-WriteFault-clause-added g c =
    let w = c.in-Err-WriteFault.ensures.err in
    cut_off (g.K.Sink.contents c.args.out.now) (g.K.Sink.contents c.put_line.new.out) (g.K.Sink.calls c.args.out.now) (g.K.Sink.calls c.put_line.new.out) c.in-Ok.text
    (project_fault c.args.file.now c.args.line c.args.column c.args.rule.now) c.in-Ok.ensures w.0 w.1 w.2 w.3

pub returns-in-Err-NoMemory-clause-added : goal.returns-in-Err-NoMemory-clause-added
returns-in-Err-NoMemory-clause-added g c =
    let w = c.in-Err-NoMemory.ensures.err in
    not_begun (g.K.Sink.contents c.args.out.now) (g.K.Sink.contents c.put_line.new.out) (g.K.Sink.calls c.args.out.now) (g.K.Sink.calls c.put_line.new.out) c.in-Ok.text
    (project_fault c.args.file.now c.args.line c.args.column c.args.rule.now) c.in-Ok.ensures w.0 (w.4 c.in-Err-NoMemory.field-0-is) w.2 w.3
