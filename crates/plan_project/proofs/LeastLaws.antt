-- Lists of which nothing is left, and the least of places of which parts were put together by their least.
use Rattle.std.proofs.Common.{◌≡◌, ℕ, Bool, true, false, true≢false, cond, List, [], ◌∷◌, ◌++◌, Option, Some, None, refl, sym, ap, ◌∙◌}
use Rattle.plan_read.proofs.doc_merge_laws.LeastSteps.{before_steps, not_before}
use Rattle.plan_read.specs.doc_merge.Places.{is_before, least, least_from, lower}
use Rattle.plan_ir.specs.gql_ast.declared.place.FilePlace.{FilePlace}
use Rattle.plan_ir.specs.gql_graph.Leasts as nodes

-- ---- nothing

pub nothing_first : {A : Type 0} (xs ys : List A) → xs ++ ys ≡ [] → xs ≡ []
nothing_first [] ys e = refl
nothing_first (x ∷ xs) ys e = cc

pub nothing_then : {A : Type 0} (xs ys : List A) → xs ++ ys ≡ [] → ys ≡ []
nothing_then [] ys e = e
nothing_then (x ∷ xs) ys e = cc

some_node : (ns : List ℕ) (n : ℕ) → nodes.least_from (Some n) ns ≡ None → ⊥
some_node [] n e = cc
some_node (m ∷ ns) n e = some_node ns (nodes.lower (Some n) m) e

-- where no least is noted there is nothing
pub no_nodes : (ns : List ℕ) → nodes.least_from None ns ≡ None → ns ≡ []
no_nodes [] e = refl
no_nodes (n ∷ ns) e = absurd (some_node ns n e)

some_place : (ps : List FilePlace) (p : FilePlace) → least_from (Some p) ps ≡ None → ⊥
some_place [] p e = cc
some_place (q ∷ ps) p e = some_place ps (lower (Some p) q) e

pub no_places : (ps : List FilePlace) → least ps ≡ None → ps ≡ []
no_places [] e = refl
no_places (p ∷ ps) e = absurd (some_place ps p e)

-- ---- the least of leasts

abbrev pub place_list : Option FilePlace → List FilePlace
place_list None = []
place_list (Some p) = p ∷ []

lower_twice : (o : Option FilePlace) (p q : FilePlace) → lower (Some (lower o p)) q ≡ lower o (lower (Some p) q)
lower_twice None p q = refl
lower_twice (Some m) p q = on (is_before p m) (is_before q p) (is_before q m) refl refl refl where
  on : (b c d : Bool) → is_before p m ≡ b → is_before q p ≡ c → is_before q m ≡ d
      → cond (is_before q (cond b p m)) q (cond b p m) ≡ cond (is_before (cond c q p) m) (cond c q p) m
  on true true true e f g = ap (λ k. cond k q p) f ∙ sym (ap (λ k. cond k q m) g)
  on true true false e f g = absurd (true≢false (sym (before_steps q p m f e) ∙ g))
  on true false d e f g = ap (λ k. cond k q p) f ∙ sym (ap (λ k. cond k p m) e)
  on false true d e f g = refl
  on false false true e f g = absurd (true≢false (sym (not_before q m p g e) ∙ f))
  on false false false e f g = ap (λ k. cond k q m) g ∙ sym (ap (λ k. cond k p m) e)

least_after : (ps : List FilePlace) (o : Option FilePlace) (p : FilePlace) → least_from (Some (lower o p)) ps ≡ least_from o (place_list (least_from (Some p) ps))
least_after [] o p = refl
least_after (q ∷ ps) o p = ap (λ (x : FilePlace). least_from (Some x) ps) (lower_twice o p q) ∙ least_after ps o (lower (Some p) q)

-- noting the least of some places is noting them all
pub least_alone : (o : Option FilePlace) (ps : List FilePlace) → least_from o (place_list (least ps)) ≡ least_from o ps
least_alone o [] = refl
least_alone o (p ∷ ps) = sym (least_after ps o p)
