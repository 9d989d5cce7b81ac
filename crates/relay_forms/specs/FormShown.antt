-- What the words ask for, as the definitions see it.
use Rattle.std.specs.Prelude.{map}
use Rattle.relay_forms.specs.Words as forms
use Rattle.relay_forms.specs.declared.words.Asked.{Asked}
use Rattle.relay_forms.specs.declared.words.Asked.TheVariants.{OnFiles, Bulk}
use Rattle.relay_forms.specs.declared.words.Form.{Form}
use Rattle.relay_forms.specs.declared.words.Form.TheVariants.{Run, Compile}

abbrev pub form_shown : Form → forms.Form
form_shown (Run buffer schema documents) = forms.run buffer schema.now (map (λ w. w.now) documents.now)
form_shown (Compile schema documents) = forms.compile schema.now (map (λ w. w.now) documents.now)

abbrev pub asked_shown : Asked → forms.Asked
asked_shown (OnFiles form) = forms.on_files (form_shown form)
asked_shown (Bulk seed count) = forms.bulk seed count
