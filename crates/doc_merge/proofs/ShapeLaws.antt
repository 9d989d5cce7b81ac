-- Shapes are compared by an equivalence.
use Rattle.std.proofs.Common.{◌≡◌, true, true≢false, Option, Some, None, refl, ap, sym, ◌∙◌}
use Rattle.doc_merge.specs.Shapes.{Shape, base, list, non_null, same_base, same_shape}
use Rattle.plan_ir.proofs.gql_graph_laws.TextSteps.{same_self, same_text}
use Rattle.plan_ir.specs.schema_tables.Types.{Text}

same_base-sound : (a b : Option Text) → same_base a b ≡ true → a ≡ b
same_base-sound (Some m) (Some n) h = ap Some (same_text m n h)
same_base-sound None None h = refl
same_base-sound None (Some n) h = absurd (true≢false (sym h))
same_base-sound (Some m) None h = absurd (true≢false (sym h))

pub same_shape-sound : (a b : Shape) → same_shape a b ≡ true → a ≡ b
same_shape-sound (base a) (base b) h = ap base (same_base-sound a b h)
same_shape-sound (list a) (list b) h = ap list (same_shape-sound a b h)
same_shape-sound (non_null a) (non_null b) h = ap non_null (same_shape-sound a b h)
same_shape-sound a b h = absurd (true≢false (sym h))

pub same_shape-itself : (a : Shape) → same_shape a a ≡ true
same_shape-itself (base None) = refl
same_shape-itself (base (Some n)) = same_self n
same_shape-itself (list a) = same_shape-itself a
same_shape-itself (non_null a) = same_shape-itself a

pub shape_turned : (a b : Shape) → same_shape a b ≡ true → same_shape b a ≡ true
shape_turned a b e = ap (λ (x : Shape). same_shape b x) (same_shape-sound a b e) ∙ same_shape-itself b

pub shape_steps : (a b c : Shape) → same_shape a b ≡ true → same_shape b c ≡ true → same_shape a c ≡ true
shape_steps a b c e f = ap (λ (x : Shape). same_shape x c) (same_shape-sound a b e) ∙ f
