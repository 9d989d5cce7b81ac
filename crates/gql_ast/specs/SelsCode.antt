-- How the logic stores a selection set.
use Rattle.std.specs.Prelude.{ℕ, ◌≡◌, List, Option}
use Rattle.std.proofs.Common.{ap, arith}
use Rattle.std.specs.Coded.{Coded, coded_list, coded_option}
use base.Stored.{Gv, gnil, gnum, gcons}
use Rattle.gql_ast.specs.declared.directive.Directive.{Directive}
use Rattle.gql_ast.specs.contracts.directive.Directive as directive
use Rattle.gql_ast.specs.Sels.{Sels, end, field, spread, inline}
use Rattle.gql_ast.specs.ValueCode.{head, tail, tag, coded_text, coded_members}

abbrev pub coded_name : Coded (Option (List ℕ))
coded_name = coded_option coded_text

abbrev pub coded_directives : Coded (List Directive)
coded_directives = coded_list directive.the_row.coded

abbrev pub sels_code : Sels → Gv
sels_code end = gcons (gnum 0) gnil
sels_code (field a n xs ds s t) =
    gcons (gnum 1) (gcons (coded_name.code a) (gcons (coded_text.code n) (gcons (coded_members.code xs) (gcons (coded_directives.code ds) (gcons (sels_code s) (sels_code t))))))
sels_code (spread n ds t) = gcons (gnum 2) (gcons (coded_text.code n) (gcons (coded_directives.code ds) (sels_code t)))
sels_code (inline o ds s t) =
    gcons (gnum 3) (gcons (coded_name.code o) (gcons (coded_directives.code ds) (gcons (sels_code s) (sels_code t))))

pub sels_inj : (x y : Sels) → sels_code x ≡ sels_code y → x ≡ y
sels_inj end end p = λ i. end
sels_inj (field a n xs ds s t) (field a' n' xs' ds' s' t') p =
    λ i. field (coded_name.inj a a' (ap (λ g. head (tail g)) p) i)
    (coded_text.inj n n' (ap (λ g. head (tail (tail g))) p) i)
    (coded_members.inj xs xs' (ap (λ g. head (tail (tail (tail g)))) p) i)
    (coded_directives.inj ds ds' (ap (λ g. head (tail (tail (tail (tail g))))) p) i)
    (sels_inj s s' (ap (λ g. head (tail (tail (tail (tail (tail g)))))) p) i)
    (sels_inj t t' (ap (λ g. tail (tail (tail (tail (tail (tail g)))))) p) i)
sels_inj (spread n ds t) (spread n' ds' t') p =
    λ i. spread (coded_text.inj n n' (ap (λ g. head (tail g)) p) i)
    (coded_directives.inj ds ds' (ap (λ g. head (tail (tail g))) p) i)
    (sels_inj t t' (ap (λ g. tail (tail (tail g))) p) i)
sels_inj (inline o ds s t) (inline o' ds' s' t') p =
    λ i. inline (coded_name.inj o o' (ap (λ g. head (tail g)) p) i)
    (coded_directives.inj ds ds' (ap (λ g. head (tail (tail g))) p) i)
    (sels_inj s s' (ap (λ g. head (tail (tail (tail g)))) p) i)
    (sels_inj t t' (ap (λ g. tail (tail (tail (tail g)))) p) i)
sels_inj x y p = let q : tag (sels_code x) ≡ tag (sels_code y) = ap (λ g. tag g) p in absurd (omega (arith, q))

abbrev pub coded_sels : Coded Sels
coded_sels = record { code = sels_code; inj = sels_inj }
