-- The least of places in files.
use Rattle.std.specs.Prelude.{Bool, true, false, ◌&&◌, ◌||◌, cond, nat_lt, nat_eq, List, [], ◌∷◌, Option, Some, None}
use Rattle.plan_ir.specs.gql_ast.declared.place.FilePlace.{FilePlace}

-- before, in the order of the files, of their lines and of the columns
abbrev pub is_before : FilePlace → FilePlace → Bool
is_before p q = nat_lt p.file q.file || (nat_eq p.file q.file && (nat_lt p.line q.line || (nat_eq p.line q.line && nat_lt p.column q.column)))

abbrev pub lower : Option FilePlace → FilePlace → FilePlace
lower None p = p
lower (Some q) p = cond (is_before p q) p q

-- the least place, where one may have been noted before
abbrev pub least_from : Option FilePlace → List FilePlace → Option FilePlace
least_from before [] = before
least_from before (p ∷ ps) = least_from (Some (lower before p)) ps

abbrev pub least : List FilePlace → Option FilePlace
least ps = least_from None ps

-- the place, where something is wrong there
abbrev pub wrong : Bool → FilePlace → List FilePlace
wrong true p = p ∷ []
wrong false p = []
