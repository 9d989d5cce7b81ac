-- The first element of a list, where it has one.
use Rattle.std.proofs.Common.{◌≡◌, Bool, true, false, List, [], ◌∷◌, map, Option, Some, None, slice_get, refl, ap, sym, ◌∙◌}
use Rattle.std.specs.Prelude.{option_copied}
use Rattle.plan_ir.specs.gql_ast.declared.place.FilePlace.{FilePlace}
use Rattle.plan_ir.specs.schema_tables.Types.{Defs}
use Rattle.doc_merge.specs.Cells.{are_like, have_one}
use Rattle.doc_merge.specs.Joined.{from_first, row_place, shapes_unlike, unlike}
use Rattle.doc_merge.specs.Places.{least_from}
use Rattle.doc_merge.specs.RowView.{mark_of, row_of}
use Rattle.doc_merge.specs.declared.row.Row as code
use denote.Ref.{Bor}

some_inj : {X : Type 0} (x y : X) → Some x ≡ Some y → x ≡ y
some_inj x y e = cc

none_some : {X : Type 0} (x : X) → None ≡ Some x → ⊥
none_some x e = cc

first_is : (r : Bor code.Row) (s : code.Row) (rs : List code.Row) (o : Option (Bor code.Row)) → o ≡ Some r → option_copied o ≡ slice_get (s ∷ rs) 0 → r.now ≡ s
first_is r s rs o e f = some_inj r.now s (sym (ap option_copied e) ∙ f)

pub have_one_first : (rs : List code.Row) (o : Option (Bor code.Row)) (r : Bor code.Row) (b : Bool) → o ≡ Some r → option_copied o ≡ slice_get rs 0 → b ≡ are_like (mark_of r.now) (map mark_of rs)
    → b ≡ have_one (map mark_of rs)
have_one_first [] o r b e f g = absurd (none_some r.now (sym f ∙ ap option_copied e))
have_one_first (s ∷ rs) o r b e f g = g ∙ ap (λ (q : code.Row). are_like (mark_of q) (map mark_of (s ∷ rs))) (first_is r s rs o e f)

pub have_one_none : (rs : List code.Row) (o : Option (Bor code.Row)) → o ≡ None → option_copied o ≡ slice_get rs 0 → true ≡ have_one (map mark_of rs)
have_one_none [] o e f = refl
have_one_none (s ∷ rs) o e f = absurd (none_some s (sym (ap option_copied e) ∙ f))

pub unlike_first : (defs : Defs) (rs : List code.Row) (o : Option (Bor code.Row)) (r : Bor code.Row) (p q : Option FilePlace) → o ≡ Some r → option_copied o ≡ slice_get rs 0
    → q ≡ least_from p (map row_place (from_first (unlike (row_of defs r.now)) false (map (row_of defs) rs))) → q ≡ least_from p (shapes_unlike (map (row_of defs) rs))
unlike_first defs [] o r p q e f g = absurd (none_some r.now (sym f ∙ ap option_copied e))
unlike_first defs (s ∷ rs) o r p q e f g =
    g ∙ ap (λ (x : code.Row). least_from p (map row_place (from_first (unlike (row_of defs x)) false (map (row_of defs) (s ∷ rs))))) (first_is r s rs o e f)

pub unlike_none : (defs : Defs) (rs : List code.Row) (o : Option (Bor code.Row)) (p : Option FilePlace) → o ≡ None → option_copied o ≡ slice_get rs 0 → p ≡ least_from p (shapes_unlike (map (row_of defs) rs))
unlike_none defs [] o p e f = refl
unlike_none defs (s ∷ rs) o p e f = absurd (none_some s (sym (ap option_copied e) ∙ f))
