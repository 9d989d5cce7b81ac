-- What a run writes: the answers of the lines of its script.
use Rattle.std.specs.Prelude.{◌≡◌, ℕ, ◌++◌, Bool, true, Option}
use Rattle.relay_forms.specs.relay_io.Streams.{append}
use Rattle.plan_ir.specs.schema_tables.Types.{Text}
use Rattle.relay_forms.specs.relay_machine.Machine as machine
use Rattle.relay_forms.specs.relay_machine.Script.{lines_of, cut}

-- what the machine writes for the lines of these bytes of a script, which has ended or not, where so many released operations are kept
abbrev pub output_text : machine.Project → (buffer : ℕ) → Text → Bool → Text
output_text project buffer bytes ended = machine.output project buffer (cut (lines_of bytes ended))

-- whether one of these lines is refused
abbrev pub has_refusal : machine.Project → (buffer : ℕ) → Text → Bool
has_refusal project buffer bytes = machine.some_refused project buffer (cut (lines_of bytes true))

-- what is held has grown by a part of the text, from its beginning on
abbrev pub AddsPartOf : Option Text → Option Text → Text → Type 0
AddsPartOf old new text = (part : Text) × (more : Text) × (new ≡ append old part) × (part ++ more ≡ text)
