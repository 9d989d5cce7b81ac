-- The values of arguments, put one after another.
use Rattle.std.proofs.Common.{◌≡◌, List, [], ◌∷◌, map, Ordering, Less, Equal, Greater, nat_cmp, refl, sym, ap, ◌∙◌}
use Rattle.std.proofs.lemmas.Map.Text.{is_eq-slice_cmp}
use Rattle.std.proofs.lemmas.Slice.Eq.{bytes_eq-Decides}
use Rattle.std.specs.Cmp.Lexicographic.{slice_cmp}
use Rattle.std.specs.FinMap.Entries.{by_order}
use Rattle.std.specs.Ordering.{is_eq, match_ordering}
use Rattle.plan_ir.specs.gql_ast.Value.{Val}
use Rattle.plan_ir.specs.gql_plain.Tree.{Tree}
use Rattle.plan_ir.specs.ReaderMeaning.{scope_in}
use Rattle.plan_ir.specs.schema_tables.Types.{Text}
use Rattle.plan_ir.specs.schema_types.Environments.{Values, evaluation, with_pair}
use Rattle.plan_ir.specs.store_model.Walks.{with_value}
use Rattle.store_read.specs.FieldView.{evaluated_in}
use Rattle.store_read.specs.Members.{put_all}

same_text : (a b : Text) → slice_cmp nat_cmp a b ≡ Equal → a ≡ b
same_text a b e = (bytes_eq-Decides a b).0 (sym (is_eq-slice_cmp a b) ∙ ap is_eq e)

pair_put : (n : Text) (x : Tree) (ps : Values) → with_value n x ps ≡ with_pair n x ps
pair_put n x [] = refl
pair_put n x (p ∷ ps) = on (slice_cmp nat_cmp n p.0) refl (pair_put n x ps)
  where
    on : (o : Ordering) → slice_cmp nat_cmp n p.0 ≡ o → with_value n x ps ≡ with_pair n x ps
        → by_order o ((n, x) ∷ p ∷ ps) ((p.0, x) ∷ ps) (p ∷ with_value n x ps) ≡ match_ordering o ((n, x) ∷ p ∷ ps) ((n, x) ∷ ps) (p ∷ with_pair n x ps)
    on Less e rest = refl
    on Equal e rest = ap (λ k. (k, x) ∷ ps) (sym (same_text n p.0 e))
    on Greater e rest = ap (λ more. p ∷ more) rest

pub scope_put : (env : Values) (xs : List (Text × Val)) → put_all (map (evaluated_in env) xs) [] ≡ scope_in env xs
scope_put env [] = refl
scope_put env (x ∷ xs) = ap (with_value x.0 (evaluation env x.1)) (scope_put env xs) ∙ pair_put x.0 (evaluation env x.1) (scope_in env xs)
