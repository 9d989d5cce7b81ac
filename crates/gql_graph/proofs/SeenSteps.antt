-- A set with one more name.
use Rattle.std.proofs.Common.{◌≡◌, Bool, true, false, cond, ◌||◌, List, refl, ap, ◌∙◌}
use Rattle.std.proofs.lemmas.Map.Text.{is_eq-slice_cmp}
use Rattle.std.specs.Cmp.Lexicographic.{slice_cmp}
use Rattle.std.specs.Ordering.{nat_cmp, is_eq}
use Rattle.std.specs.Str.{bytes_eq}
use Rattle.gql_plain.specs.Order.{has_text}
use Rattle.gql_graph.specs.Texts.{Text}

either : (b x : Bool) → cond b true x ≡ (b || x)
either true x = refl
either false x = refl

-- a set with one more name
pub put_known : (k n : Text) (old new : Bool) (before : List Text) → new ≡ cond (is_eq (slice_cmp nat_cmp k n)) true old → old ≡ has_text before n → new ≡ (bytes_eq k n || has_text before n)
put_known k n old new before e h = e ∙ ap (λ (b : Bool). cond b true old) (is_eq-slice_cmp k n) ∙ ap (λ (o : Bool). cond (bytes_eq k n) true o) h ∙ either (bytes_eq k n) (has_text before n)
