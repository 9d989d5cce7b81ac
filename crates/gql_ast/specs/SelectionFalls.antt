-- What a selection holds is less deep than it.
use Rattle.std.specs.Prelude.{◌≤◌, List, [], ◌∷◌, max}
use Rattle.std.proofs.Common.{arith}
use denote.Param.Weighed.{most}
use Rattle.gql_ast.specs.declared.selection.Selection.{Selection}
use Rattle.gql_ast.specs.declared.selection.Selection.TheVariants as S
use Rattle.gql_ast.specs.declared.selection.Selections.TheDeep.{deep-Selection}
use Rattle.gql_ast.specs.Sels.{Sels, depth}
use Rattle.gql_ast.specs.SelectionView.{sel_before, sels_of}

selection_falls : (x : Selection) (t : Sels) → max (deep-Selection x) (depth t) ≤ depth (sel_before x t)
selection_falls (S.Field a n xs ds s) t = omega arith
selection_falls (S.Spread n ds) t = omega arith
selection_falls (S.Inline o ds s) t = omega arith

pub selections_fall : (xs : List Selection) → max (most deep-Selection xs) 0 ≤ depth (sels_of xs)
selections_fall [] = omega arith
selections_fall (x ∷ xs) = omega (arith, selection_falls x (sels_of xs), selections_fall xs)
