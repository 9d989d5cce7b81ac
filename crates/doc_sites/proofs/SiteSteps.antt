-- Steps of the walk over selections.
use Rattle.std.proofs.Common.{◌≡◌, ℕ, zero, suc, ◌<◌, ◌≤◌, Bool, true, false, not, IsTrue, List, [], ◌∷◌, length, get_or, refl, ap, sym, arith}
use Rattle.std.specs.Prelude.{◌↔◌}
use Rattle.schema_types.specs.gql_ast.SelectionView.{sel_before, sels_of}
use Rattle.schema_types.specs.gql_ast.Sels.{Sels, end, depth, number_of}
use Rattle.schema_types.specs.gql_ast.Sels as sels
use Rattle.schema_types.specs.gql_ast.declared.selection.Selection.{Selection}
use Rattle.schema_types.specs.gql_ast.declared.selection.Selection.TheVariants as S
use Rattle.schema_types.specs.Sites.{is_set}
use Rattle.doc_sites.specs.Firsts.{inside}

-- a set has a selection or is empty
pub has_set_is : (s : Sels) (b : Bool) → (IsTrue b ↔ (s ≡ end)) → not b ≡ is_set s
has_set_is end true h = refl
has_set_is end false h = sym (h.1 refl)
has_set_is (sels.field a n xs ds s rest) true h = absurd (omega (arith, ap number_of (h.0 refl)))
has_set_is (sels.field a n xs ds s rest) false h = refl
has_set_is (sels.spread n ds rest) true h = absurd (omega (arith, ap number_of (h.0 refl)))
has_set_is (sels.spread n ds rest) false h = refl
has_set_is (sels.inline o ds s rest) true h = absurd (omega (arith, ap number_of (h.0 refl)))
has_set_is (sels.inline o ds s rest) false h = refl

-- what stands inside a selection is less deep than the set
inside_less : (x : Selection) (t : Sels) → depth (inside x) < depth (sel_before x t)
inside_less (S.Field a n xs ds s) t = omega arith
inside_less (S.Spread n ds) t = omega arith
inside_less (S.Inline o ds s) t = omega arith

rest_below : (x : Selection) (t : Sels) → depth t ≤ depth (sel_before x t)
rest_below (S.Field a n xs ds s) t = omega arith
rest_below (S.Spread n ds) t = omega arith
rest_below (S.Inline o ds s) t = omega arith

inside_depth : (xs : List Selection) (i : ℕ) (d : Selection) → i < length xs → depth (inside (get_or xs i d)) < depth (sels_of xs)
inside_depth [] i d h = absurd (omega arith)
inside_depth (x ∷ xs) zero d h = inside_less x (sels_of xs)
inside_depth (x ∷ xs) (suc i) d h =
    let e : depth (inside (get_or xs i d)) < depth (sels_of xs) = inside_depth xs i d (omega arith) in
    omega (arith, e, rest_below x (sels_of xs))

pub inside_below : (xs : List Selection) (whole : Sels) (i : ℕ) (x : Selection) → i < length xs → x ≡ get_or xs i x → sels_of xs ≡ whole
    → depth (inside x) < depth whole
inside_below xs whole i x h is e =
    let held : depth (inside (get_or xs i x)) < depth (sels_of xs) = inside_depth xs i x h in
    omega (arith, held, ap (λ (y : Selection). depth (inside y)) is, ap depth e)
