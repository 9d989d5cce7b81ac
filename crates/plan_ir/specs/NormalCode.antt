-- How the logic stores plans that normalize.
use Rattle.std.specs.Prelude.{ℕ, ◌≡◌, List}
use Rattle.std.proofs.Common.{ap, arith}
use Rattle.std.specs.Coded.{Coded, coded_bool, coded_list}
use base.Stored.{Gv, gnil, gnum, gcons}
use Rattle.relay_marks.specs.gql_ast.ValueCode.{head, tail, tag, coded_text, coded_members}
use Rattle.plan_ir.specs.contracts.guard.Guard as guard
use Rattle.plan_ir.specs.declared.guard.Guard.{Guard}
use Rattle.plan_ir.specs.NodesCode.{coded_conn}
use Rattle.plan_ir.specs.Normal.{Normal, done, typename, leaf, object, guarded}

abbrev pub coded_texts : Coded (List (List ℕ))
coded_texts = coded_list coded_text

abbrev pub coded_guard : Coded Guard
coded_guard = guard.the_row.coded

abbrev pub normal_code : Normal → Gv
normal_code done = gcons (gnum 0) gnil
normal_code (typename r t) = gcons (gnum 1) (gcons (coded_text.code r) (normal_code t))
normal_code (leaf r n xs t) = gcons (gnum 2) (gcons (coded_text.code r) (gcons (coded_text.code n) (gcons (coded_members.code xs) (normal_code t))))
normal_code (object r n xs m ts is o c s t) =
    gcons (gnum 3) (gcons (coded_text.code r) (gcons (coded_text.code n) (gcons (coded_members.code xs) (gcons (coded_bool.code m) (gcons (coded_texts.code ts)
    (gcons (coded_texts.code is) (gcons (coded_bool.code o) (gcons (coded_conn.code c) (gcons (normal_code s) (normal_code t))))))))))
normal_code (guarded g s t) = gcons (gnum 4) (gcons (coded_guard.code g) (gcons (normal_code s) (normal_code t)))

pub normal_inj : (x y : Normal) → normal_code x ≡ normal_code y → x ≡ y
normal_inj done done e = λ i. done
normal_inj (typename r t) (typename r' t') e =
    λ i. typename (coded_text.inj r r' (ap (λ g. head (tail g)) e) i) (normal_inj t t' (ap (λ g. tail (tail g)) e) i)
normal_inj (leaf r n xs t) (leaf r' n' xs' t') e =
    λ i. leaf (coded_text.inj r r' (ap (λ g. head (tail g)) e) i)
    (coded_text.inj n n' (ap (λ g. head (tail (tail g))) e) i)
    (coded_members.inj xs xs' (ap (λ g. head (tail (tail (tail g)))) e) i)
    (normal_inj t t' (ap (λ g. tail (tail (tail (tail g)))) e) i)
normal_inj (object r n xs m ts is o c s t) (object r' n' xs' m' ts' is' o' c' s' t') e =
    λ i. object (coded_text.inj r r' (ap (λ g. head (tail g)) e) i)
    (coded_text.inj n n' (ap (λ g. head (tail (tail g))) e) i)
    (coded_members.inj xs xs' (ap (λ g. head (tail (tail (tail g)))) e) i)
    (coded_bool.inj m m' (ap (λ g. head (tail (tail (tail (tail g))))) e) i)
    (coded_texts.inj ts ts' (ap (λ g. head (tail (tail (tail (tail (tail g)))))) e) i)
    (coded_texts.inj is is' (ap (λ g. head (tail (tail (tail (tail (tail (tail g))))))) e) i)
    (coded_bool.inj o o' (ap (λ g. head (tail (tail (tail (tail (tail (tail (tail g)))))))) e) i)
    (coded_conn.inj c c' (ap (λ g. head (tail (tail (tail (tail (tail (tail (tail (tail g))))))))) e) i)
    (normal_inj s s' (ap (λ g. head (tail (tail (tail (tail (tail (tail (tail (tail (tail g)))))))))) e) i)
    (normal_inj t t' (ap (λ g. tail (tail (tail (tail (tail (tail (tail (tail (tail (tail g)))))))))) e) i)
normal_inj (guarded g s t) (guarded g' s' t') e =
    λ i. guarded (coded_guard.inj g g' (ap (λ x. head (tail x)) e) i)
    (normal_inj s s' (ap (λ x. head (tail (tail x))) e) i)
    (normal_inj t t' (ap (λ x. tail (tail (tail x))) e) i)
normal_inj x y e = let q : tag (normal_code x) ≡ tag (normal_code y) = ap (λ g. tag g) e in absurd (omega (arith, q))

abbrev pub coded_normal : Coded Normal
coded_normal = record { code = normal_code; inj = normal_inj }
