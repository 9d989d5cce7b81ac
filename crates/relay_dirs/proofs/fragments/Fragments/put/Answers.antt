-- The local variables of the fragment in front.
use Rattle.std.proofs.Common.{Bool, true, false, List, map, Some, Option, bytes_eq, cond, sym, subst}
use Rattle.std.proofs.lemmas.Map.Text.{btree_map_updates_str}
use Rattle.gql_syntax.specs.gql_ast.declared.variable.VariableDef.{VariableDef}
use Rattle.constant_values.specs.gql_graph.Texts.{Text}
use Rattle.relay_marks.specs.Locals.{Local}
use Rattle.relay_dirs.specs.Tables.{Finds, Serves, locals_among, table_found}
use Rattle.relay_marks.specs.View.{local_view}
use Rattle.relay_dirs.specs.declared.fragments.Locals.{Locals}
use Rattle.relay_dirs.proofs.fragments.Fragments.put.Goals as goal

either : (b : Bool) (table : Locals) (o : Option Locals) (ls rest : List Local) → Serves table ls → Finds o rest → Finds (cond b (Some table) o) (cond b ls rest)
either true table o ls rest s f = s
either false table o ls rest s f = f

pub returns : goal.returns
returns c = λ pairs h n.
    let name : Text = c.args.fragment.now.name.now in
    let serves : Serves c.in_ok-locals.locals (map local_view c.args.fragment.now.locals) =
    subst (λ (vs : List VariableDef). Serves c.in_ok-locals.locals (map local_view vs)) c.as_slice.ensures c.in_ok-locals.ensures in
    subst (λ (o : Option Locals). Finds o (cond (bytes_eq name n) (map local_view c.args.fragment.now.locals) (locals_among pairs n)))
    (sym (btree_map_updates_str name c.args.self.now.by_name c.insert.new.self _ c.in_ok-insert.ensures.updates n))
    (either (bytes_eq name n) c.in_ok-locals.locals (table_found c.args.self.now n) (map local_view c.args.fragment.now.locals) (locals_among pairs n) serves (h n))
