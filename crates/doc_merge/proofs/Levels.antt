-- Parents that meet at each level.
use Rattle.std.proofs.Common.{◌≡◌, Bool, true, false, Option, Some, None, bytes_eq, refl, ap, sym, ◌∙◌}
use Rattle.doc_merge.specs.Merging.{meet}
use Rattle.plan_ir.proofs.gql_graph_laws.TextSteps.{same_self, same_text}
use Rattle.plan_ir.specs.schema_tables.Types.{Text}

-- none, or this object type
abbrev pub none_or : Text → Option Text → Bool
none_or t None = true
none_or t (Some u) = bytes_eq t u

-- a level with one object type at most parts nothing
pub one_type_meets : (t : Text) (a b : Option Text) → none_or t a ≡ true → none_or t b ≡ true → meet a b ≡ true
one_type_meets t None b e f = refl
one_type_meets t (Some a) None e f = refl
one_type_meets t (Some a) (Some b) e f = ap (λ (x : Text). bytes_eq x b) (sym (same_text t a e)) ∙ f

-- meeting is symmetric
pub text_turned : (m n : Text) → bytes_eq m n ≡ bytes_eq n m
text_turned m n = on (bytes_eq m n) (bytes_eq n m) refl refl where
  on : (c d : Bool) → bytes_eq m n ≡ c → bytes_eq n m ≡ d → c ≡ d
  on true true u v = refl
  on false false u v = refl
  on true false u v = sym (same_self m) ∙ ap (λ (x : Text). bytes_eq x m) (same_text m n u) ∙ v
  on false true u v = sym u ∙ ap (λ (x : Text). bytes_eq x n) (sym (same_text n m v)) ∙ same_self n

pub meet_turned : (a b : Option Text) → meet a b ≡ meet b a
meet_turned None None = refl
meet_turned None (Some b) = refl
meet_turned (Some a) None = refl
meet_turned (Some a) (Some b) = text_turned a b
