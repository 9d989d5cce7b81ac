-- Names that are used, as answers of tests.
use Rattle.std.proofs.Common.{◌≡◌, ℕ, ◌+◌, ◌<◌, Bool, true, false, cond, ◌||◌, List, [], ◌∷◌, ◌++◌, length, drop, get_or, bytes_eq, nat_cmp, is_eq, refl, sym, ap, ◌∙◌, append_assoc}
use Rattle.std.proofs.lemmas.List.{drop_more}
use Rattle.std.proofs.lemmas.Map.Text.{is_eq-slice_cmp}
use Rattle.std.specs.Cmp.Lexicographic.{slice_cmp}
use Rattle.std.specs.List.{filter}
use Rattle.plan_ir.specs.NodesView.{nodes_of}
use Rattle.plan_ir.specs.gql_ast.Value.{members_of}
use Rattle.plan_ir.specs.OperationText.{arguments_use, members_use, nodes_use, value_uses}
use Rattle.plan_ir.specs.Substitution.{Arguments}
use Rattle.plan_ir.specs.declared.node.Node.{Node}
use Rattle.plan_ir.specs.declared.node.Node.TheVariants as N
use Rattle.plan_text.specs.NodeTexts.{node_uses}
use Rattle.plan_ir.specs.schema_tables.Types.{Text}

pub or_assoc : (a b c : Bool) → (a || b || c) ≡ (a || (b || c))
or_assoc true b c = refl
or_assoc false b c = refl

pub or_false : (a : Bool) → (a || false) ≡ a
or_false true = refl
or_false false = refl

-- one more part is noted
pub noted_more : (old new used rest whole : Bool) → new ≡ (old || used) → (old || (used || rest)) ≡ whole → (new || rest) ≡ whole
noted_more old new used rest whole e h = ap (λ b. b || rest) e ∙ or_assoc old used rest ∙ h

pub noted_two : (old first second a b : Bool) → first ≡ (old || a) → second ≡ (first || b) → second ≡ (old || (a || b))
noted_two old first second a b e f = f ∙ ap (λ x. x || b) e ∙ or_assoc old a b

pub noted_three : (old first second third a b d : Bool) → first ≡ (old || a) → second ≡ (first || b) → third ≡ (second || d) → third ≡ (old || (a || b || d))
noted_three old first second third a b d e f g =
    g ∙ ap (λ x. x || d) (noted_two old first second a b e f) ∙ or_assoc old (a || b) d

-- a name that is put
pub noted_name : (k n : Text) (old new : Bool) → new ≡ cond (is_eq (slice_cmp nat_cmp k n)) true old → new ≡ (old || bytes_eq k n)
noted_name k n old new e = e ∙ ap (λ (b : Bool). cond b true old) (is_eq-slice_cmp k n) ∙ turned (bytes_eq k n) old
  where
    turned : (b o : Bool) → cond b true o ≡ (o || b)
    turned true true = refl
    turned true false = refl
    turned false true = refl
    turned false false = refl

-- what a set uses is what its first node uses and what the others use
pub uses_first : (n : Text) (x : Node) (xs : List Node) → nodes_use n (nodes_of (x ∷ xs)) ≡ (node_uses n x || nodes_use n (nodes_of xs))
uses_first n (N.Field r m xs ds c u s p) zs = refl
uses_first n (N.Inline o ds s p) zs = refl

pub members_use-arguments : (n : Text) (xs : Arguments) → members_use n (members_of xs) ≡ arguments_use n xs
members_use-arguments n [] = refl
members_use-arguments n (x ∷ xs) = ap (λ b. value_uses n x.1 || b) (members_use-arguments n xs)

pub filter_same : {X : Type 0} (p q : X → Bool) (xs : List X) → ((x : X) → p x ≡ q x) → filter p xs ≡ filter q xs
filter_same p q [] same = refl
filter_same p q (x ∷ xs) same = (λ i. cond (same x i) (x ∷ filter_same p q xs same i) (filter_same p q xs same i))

-- one more element of a loop is noted
pub loop_noted : {X : Type 0} (uses : List X → Bool) (one : X → Bool) → ((x : X) (xs : List X) → uses (x ∷ xs) ≡ (one x || uses xs))
    → (xs : List X) (i : ℕ) (x : X) → i < length xs → x ≡ get_or xs i x
    → (old new whole : Bool) → new ≡ (old || one x) → (old || uses (drop i xs)) ≡ whole → (new || uses (drop (i + 1) xs)) ≡ whole
loop_noted uses one parts xs i x lt is old new whole e h =
    noted_more old new (one x) (uses (drop (i + 1) xs)) whole e
    (ap (λ b. old || b) (sym (parts x (drop (i + 1) xs)) ∙ ap (λ y. uses (y ∷ drop (i + 1) xs)) is ∙ sym (ap uses (drop_more xs i x lt))) ∙ h)

-- one more element is kept, or left out
pub loop_kept : {X : Type 0} (p : X → Bool) (xs : List X) (i : ℕ) (x : X) → i < length xs → x ≡ get_or xs i x
    → (old new whole : List X) → new ≡ old ++ cond (p x) (x ∷ []) [] → old ++ filter p (drop i xs) ≡ whole → new ++ filter p (drop (i + 1) xs) ≡ whole
loop_kept p xs i x lt is old new whole e h =
    ap (λ ys. ys ++ filter p (drop (i + 1) xs)) e ∙ append_assoc old (cond (p x) (x ∷ []) []) (filter p (drop (i + 1) xs))
    ∙ ap (λ ys. old ++ ys) (at (p x) ∙ ap (λ y. filter p (y ∷ drop (i + 1) xs)) is ∙ sym (ap (filter p) (drop_more xs i x lt))) ∙ h
  where
    at : (b : Bool) → cond b (x ∷ []) [] ++ filter p (drop (i + 1) xs) ≡ cond b (x ∷ filter p (drop (i + 1) xs)) (filter p (drop (i + 1) xs))
    at true = refl
    at false = refl
