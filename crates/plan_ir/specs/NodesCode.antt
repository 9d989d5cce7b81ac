-- How the logic stores nodes.
use Rattle.std.specs.Prelude.{◌≡◌, Option}
use Rattle.std.proofs.Common.{ap, arith}
use Rattle.std.specs.Coded.{Coded, coded_option}
use base.Stored.{Gv, gnil, gnum, gcons}
use Rattle.relay_marks.specs.gql_ast.TypeCode.{coded_ty}
use Rattle.relay_marks.specs.gql_ast.ValueCode.{head, tail, tag, coded_text, coded_members}
use Rattle.relay_marks.specs.gql_ast.SelsCode.{coded_name, coded_directives}
use Rattle.relay_marks.specs.gql_ast.contracts.place.FilePlace as place
use Rattle.relay_marks.specs.gql_ast.declared.place.FilePlace.{FilePlace}
use Rattle.store_model.specs.gql_plain.contracts.ids.Conn as conn
use Rattle.store_model.specs.gql_plain.declared.ids.Conn.{Conn}
use Rattle.plan_ir.specs.Nodes.{Nodes, end, field, inline}

abbrev pub coded_conn : Coded (Option Conn)
coded_conn = coded_option conn.the_row.coded

abbrev pub coded_place : Coded FilePlace
coded_place = place.the_row.coded

abbrev pub nodes_code : Nodes → Gv
nodes_code end = gcons (gnum 0) gnil
nodes_code (field r n xs ds c of s p t) =
    gcons (gnum 1) (gcons (coded_text.code r) (gcons (coded_text.code n) (gcons (coded_members.code xs) (gcons (coded_directives.code ds) (gcons (coded_conn.code c)
    (gcons (coded_ty.code of) (gcons (nodes_code s) (gcons (coded_place.code p) (nodes_code t)))))))))
nodes_code (inline o ds s p t) =
    gcons (gnum 2) (gcons (coded_name.code o) (gcons (coded_directives.code ds) (gcons (nodes_code s) (gcons (coded_place.code p) (nodes_code t)))))

pub nodes_inj : (x y : Nodes) → nodes_code x ≡ nodes_code y → x ≡ y
nodes_inj end end e = λ i. end
nodes_inj (field r n xs ds c of s p t) (field r' n' xs' ds' c' of' s' p' t') e =
    λ i. field (coded_text.inj r r' (ap (λ g. head (tail g)) e) i)
    (coded_text.inj n n' (ap (λ g. head (tail (tail g))) e) i)
    (coded_members.inj xs xs' (ap (λ g. head (tail (tail (tail g)))) e) i)
    (coded_directives.inj ds ds' (ap (λ g. head (tail (tail (tail (tail g))))) e) i)
    (coded_conn.inj c c' (ap (λ g. head (tail (tail (tail (tail (tail g)))))) e) i)
    (coded_ty.inj of of' (ap (λ g. head (tail (tail (tail (tail (tail (tail g))))))) e) i)
    (nodes_inj s s' (ap (λ g. head (tail (tail (tail (tail (tail (tail (tail g)))))))) e) i)
    (coded_place.inj p p' (ap (λ g. head (tail (tail (tail (tail (tail (tail (tail (tail g))))))))) e) i)
    (nodes_inj t t' (ap (λ g. tail (tail (tail (tail (tail (tail (tail (tail (tail g))))))))) e) i)
nodes_inj (inline o ds s p t) (inline o' ds' s' p' t') e =
    λ i. inline (coded_name.inj o o' (ap (λ g. head (tail g)) e) i)
    (coded_directives.inj ds ds' (ap (λ g. head (tail (tail g))) e) i)
    (nodes_inj s s' (ap (λ g. head (tail (tail (tail g)))) e) i)
    (coded_place.inj p p' (ap (λ g. head (tail (tail (tail (tail g))))) e) i)
    (nodes_inj t t' (ap (λ g. tail (tail (tail (tail (tail g))))) e) i)
nodes_inj x y e = let q : tag (nodes_code x) ≡ tag (nodes_code y) = ap (λ g. tag g) e in absurd (omega (arith, q))

abbrev pub coded_nodes : Coded Nodes
coded_nodes = record { code = nodes_code; inj = nodes_inj }
