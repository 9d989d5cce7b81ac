-- What is kept stays right.
use Rattle.std.proofs.Common.{◌≡◌, Bool, true, false, cond, List, Option, None, Some, bytes_eq, ap, refl, sym, subst, ◌∙◌}
use Rattle.std.specs.Prelude.{option_map}
use Rattle.plan_ir.proofs.gql_graph_laws.TextSteps.{same_text}
use Rattle.plan_ir.specs.schema_tables.Types.{Text, Defs}
use Rattle.plan_build.specs.Classes.{Target, one_target}
use Rattle.plan_build.specs.ClassView.{target_view}
use Rattle.plan_build.specs.KnownView.{IsKnown, find_target, find_within}
use Rattle.plan_build.specs.Steps.{identified}
use Rattle.plan_build.specs.declared.classes.Target as code
use Rattle.plan_build.specs.declared.known.Known.{Known}

-- one more type is kept
pub right_with : (defs : Defs) (of : Text) (names : List Text) (old new : Text → Option (List Text)) → ((n : Text) (ids : List Text) → old n ≡ Some ids → ids ≡ identified defs n)
    → names ≡ identified defs of → ((n : Text) → new n ≡ cond (bytes_eq of n) (Some names) (old n)) → (n : Text) (ids : List Text) → new n ≡ Some ids → ids ≡ identified defs n
right_with defs of names old new right is put n ids e = on (bytes_eq of n) refl (sym (put n) ∙ e) where
  on : (b : Bool) → bytes_eq of n ≡ b → cond b (Some names) (old n) ≡ Some ids → ids ≡ identified defs n
  on true h g = let s : names ≡ ids = cc g in sym s ∙ is ∙ ap (identified defs) (same_text of n h)
  on false h g = right n ids g

-- ---- what is found in a map of which one entry is put or taken out

pub none_some : {X P : Type 0} (x : X) (o : Option X) → o ≡ None → o ≡ Some x → P
none_some x o none some = let e : None ≡ Some x = sym none ∙ some in absurd cc

pub taken_some : {X : Type 0} (b : Bool) (x : X) (old new : Option X) → new ≡ cond b None old → new ≡ Some x → old ≡ Some x
taken_some true x old new put e = none_some x new put e
taken_some false x old new put e = sym put ∙ e

pub put_some : {X : Type 0} (P : Text → X → Type 0) (name n : Text) (given x : X) (old new : Option X) → new ≡ cond (bytes_eq name n) (Some given) old → P name given → (old ≡ Some x → P n x) → new ≡ Some x → P n x
put_some P name n given x old new put here there e = on (bytes_eq name n) refl (sym put ∙ e) where
  on : (b : Bool) → bytes_eq name n ≡ b → cond b (Some given) old ≡ Some x → P n x
  on true h g = let same : given ≡ x = cc g in subst (λ (m : Text). P m x) (same_text name n h) (subst (P name) same here)
  on false h g = there g

-- ---- what is known of a type

pub nothing_known : (defs : Defs) (of : Text) (known : Known) → ((o : Text) → find_within known o ≡ None) → ((n : Text) → find_target known n ≡ None) → IsKnown defs of known
nothing_known defs of known within target = record {
  withins = λ o b e. none_some b (find_within known o) (within o) e;
  targets = λ n t e. none_some t (find_target known n) (target n) e;
}

-- one more field's target
pub target_with : (defs : Defs) (ts : List Text) (name n : Text) (given : code.Target) (t : Target) (old new : Option code.Target) → new ≡ cond (bytes_eq name n) (Some given) old
    → one_target defs name ts ≡ Some (target_view given) → (option_map target_view old ≡ Some t → one_target defs n ts ≡ Some t) → option_map target_view new ≡ Some t → one_target defs n ts ≡ Some t
target_with defs ts name n given t old new put here there e =
    put_some (λ m x. one_target defs m ts ≡ Some x) name n (target_view given) t (option_map target_view old) (option_map target_view new) (ap (option_map target_view) put ∙ mapped (bytes_eq name n)) here there e where
      mapped : (b : Bool) → option_map target_view (cond b (Some given) old) ≡ cond b (Some (target_view given)) (option_map target_view old)
      mapped true = refl
      mapped false = refl
