-- The selection sets that the trees stand for.
use Rattle.std.specs.Prelude.{List, [], ◌∷◌}
use Rattle.gql_ast.specs.declared.selection.Selection.{Selection}
use Rattle.gql_ast.specs.declared.selection.Selection.TheVariants as S
use Rattle.gql_ast.specs.Sels.{Sels, end, field, spread, inline}

-- a selection, and then these
abbrev pub sel_before : Selection → Sels → Sels
sel_before (S.Field a n xs ds s) t = field a n xs ds s t
sel_before (S.Spread n ds) t = spread n ds t
sel_before (S.Inline o ds s) t = inline o ds s t

-- a selection alone
abbrev pub sel_of : Selection → Sels
sel_of x = sel_before x end

abbrev pub sels_of : List Selection → Sels
sels_of [] = end
sels_of (x ∷ xs) = sel_before x (sels_of xs)
