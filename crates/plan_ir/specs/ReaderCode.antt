-- How the logic stores plans that read.
use Rattle.std.specs.Prelude.{◌≡◌}
use Rattle.std.proofs.Common.{ap, arith}
use Rattle.std.specs.Coded.{Coded, coded_bool}
use base.Stored.{Gv, gnil, gnum, gcons}
use Rattle.relay_marks.specs.gql_ast.ValueCode.{head, tail, tag, coded_text, coded_members}
use Rattle.plan_ir.specs.NodesCode.{coded_conn}
use Rattle.plan_ir.specs.NormalCode.{coded_texts, coded_guard}
use Rattle.plan_ir.specs.Reader.{Reader, done, typename, leaf, object, guarded, pointer, pointer_inline}

abbrev pub reader_code : Reader → Gv
reader_code done = gcons (gnum 0) gnil
reader_code (typename r t) = gcons (gnum 1) (gcons (coded_text.code r) (reader_code t))
reader_code (leaf r n xs t) = gcons (gnum 2) (gcons (coded_text.code r) (gcons (coded_text.code n) (gcons (coded_members.code xs) (reader_code t))))
reader_code (object r n xs m ts is o c s t) =
    gcons (gnum 3) (gcons (coded_text.code r) (gcons (coded_text.code n) (gcons (coded_members.code xs) (gcons (coded_bool.code m) (gcons (coded_texts.code ts)
    (gcons (coded_texts.code is) (gcons (coded_bool.code o) (gcons (coded_conn.code c) (gcons (reader_code s) (reader_code t))))))))))
reader_code (guarded g s t) = gcons (gnum 4) (gcons (coded_guard.code g) (gcons (reader_code s) (reader_code t)))
reader_code (pointer f xs t) = gcons (gnum 5) (gcons (coded_text.code f) (gcons (coded_members.code xs) (reader_code t)))
reader_code (pointer_inline f xs s t) =
    gcons (gnum 6) (gcons (coded_text.code f) (gcons (coded_members.code xs) (gcons (reader_code s) (reader_code t))))

pub reader_inj : (x y : Reader) → reader_code x ≡ reader_code y → x ≡ y
reader_inj done done e = λ i. done
reader_inj (typename r t) (typename r' t') e =
    λ i. typename (coded_text.inj r r' (ap (λ g. head (tail g)) e) i) (reader_inj t t' (ap (λ g. tail (tail g)) e) i)
reader_inj (leaf r n xs t) (leaf r' n' xs' t') e =
    λ i. leaf (coded_text.inj r r' (ap (λ g. head (tail g)) e) i)
    (coded_text.inj n n' (ap (λ g. head (tail (tail g))) e) i)
    (coded_members.inj xs xs' (ap (λ g. head (tail (tail (tail g)))) e) i)
    (reader_inj t t' (ap (λ g. tail (tail (tail (tail g)))) e) i)
reader_inj (object r n xs m ts is o c s t) (object r' n' xs' m' ts' is' o' c' s' t') e =
    λ i. object (coded_text.inj r r' (ap (λ g. head (tail g)) e) i)
    (coded_text.inj n n' (ap (λ g. head (tail (tail g))) e) i)
    (coded_members.inj xs xs' (ap (λ g. head (tail (tail (tail g)))) e) i)
    (coded_bool.inj m m' (ap (λ g. head (tail (tail (tail (tail g))))) e) i)
    (coded_texts.inj ts ts' (ap (λ g. head (tail (tail (tail (tail (tail g)))))) e) i)
    (coded_texts.inj is is' (ap (λ g. head (tail (tail (tail (tail (tail (tail g))))))) e) i)
    (coded_bool.inj o o' (ap (λ g. head (tail (tail (tail (tail (tail (tail (tail g)))))))) e) i)
    (coded_conn.inj c c' (ap (λ g. head (tail (tail (tail (tail (tail (tail (tail (tail g))))))))) e) i)
    (reader_inj s s' (ap (λ g. head (tail (tail (tail (tail (tail (tail (tail (tail (tail g)))))))))) e) i)
    (reader_inj t t' (ap (λ g. tail (tail (tail (tail (tail (tail (tail (tail (tail (tail g)))))))))) e) i)
reader_inj (guarded g s t) (guarded g' s' t') e =
    λ i. guarded (coded_guard.inj g g' (ap (λ x. head (tail x)) e) i)
    (reader_inj s s' (ap (λ x. head (tail (tail x))) e) i)
    (reader_inj t t' (ap (λ x. tail (tail (tail x))) e) i)
reader_inj (pointer f xs t) (pointer f' xs' t') e =
    λ i. pointer (coded_text.inj f f' (ap (λ g. head (tail g)) e) i)
    (coded_members.inj xs xs' (ap (λ g. head (tail (tail g))) e) i)
    (reader_inj t t' (ap (λ g. tail (tail (tail g))) e) i)
reader_inj (pointer_inline f xs s t) (pointer_inline f' xs' s' t') e =
    λ i. pointer_inline (coded_text.inj f f' (ap (λ g. head (tail g)) e) i)
    (coded_members.inj xs xs' (ap (λ g. head (tail (tail g))) e) i)
    (reader_inj s s' (ap (λ g. head (tail (tail (tail g)))) e) i)
    (reader_inj t t' (ap (λ g. tail (tail (tail (tail g)))) e) i)
reader_inj x y e = let q : tag (reader_code x) ≡ tag (reader_code y) = ap (λ g. tag g) e in absurd (omega (arith, q))

abbrev pub coded_reader : Coded Reader
coded_reader = record { code = reader_code; inj = reader_inj }
