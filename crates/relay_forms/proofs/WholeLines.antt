-- Texts of whole lines, one after the other.
use Rattle.std.proofs.Common.{[], ◌∷◌, ◌++◌, sym, ap, subst, inl, inr, ◌∙◌, append_assoc}
use Rattle.std.proofs.lemmas.List.{append-nil}
use Rattle.relay_forms.specs.Artifacts.{EndsLine}
use Rattle.plan_ir.specs.schema_tables.Types.{Text}

pub both_end : (a b : Text) → EndsLine a → EndsLine b → EndsLine (a ++ b)
both_end a b x (inl none) = subst EndsLine (sym (ap (λ t. a ++ t) none ∙ append-nil a)) x
both_end a b x (inr some) = inr (a ++ some.0, ap (λ t. a ++ t) some.1 ∙ sym (append_assoc a some.0 (10 ∷ [])))
