-- How the logic stores a type.
use Rattle.std.specs.Prelude.{◌≡◌}
use Rattle.std.proofs.Common.{ap, arith}
use Rattle.std.specs.Coded.{Coded}
use base.Stored.{Gv, gnum, gcons}
use Rattle.gql_ast.specs.Ty.{Ty, named, list, non_null}
use Rattle.gql_ast.specs.ValueCode.{tail, tag, coded_text}

abbrev pub ty_code : Ty → Gv
ty_code (named n) = gcons (gnum 0) (coded_text.code n)
ty_code (list t) = gcons (gnum 1) (ty_code t)
ty_code (non_null t) = gcons (gnum 2) (ty_code t)

pub ty_inj : (x y : Ty) → ty_code x ≡ ty_code y → x ≡ y
ty_inj (named n) (named m) p = λ i. named (coded_text.inj n m (ap (λ g. tail g) p) i)
ty_inj (list t) (list u) p = λ i. list (ty_inj t u (ap (λ g. tail g) p) i)
ty_inj (non_null t) (non_null u) p = λ i. non_null (ty_inj t u (ap (λ g. tail g) p) i)
ty_inj x y p = let q : tag (ty_code x) ≡ tag (ty_code y) = ap (λ g. tag g) p in absurd (omega (arith, q))

abbrev pub coded_ty : Coded Ty
coded_ty = record { code = ty_code; inj = ty_inj }
