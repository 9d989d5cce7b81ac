-- What a map from texts tells, after one is taken out or put in.
use Rattle.std.proofs.Common.{◌≡◌, Bool, true, false, cond, List, [], Option, Some, None, option_map, unwrap_or, bytes_eq, refl, ap, sym, ◌∙◌}
use Rattle.plan_ir.proofs.gql_graph_laws.TextSteps.{same_text}
use Rattle.plan_ir.specs.schema_tables.Types.{Text}

abbrev pub found : {V C : Type 0} → (V → List C) → Option V → List C
found view o = unwrap_or (option_map view o) []

pub taken_some : {V C : Type 0} (view : V → List C) (o p : Option V) (v : V) (r : List C) → o ≡ Some v → o ≡ p → found view p ≡ r → view v ≡ r
taken_some view o p v r e f g = sym (ap (found view) e) ∙ ap (found view) f ∙ g

pub taken_none : {V C : Type 0} (view : V → List C) (o p : Option V) (xs r : List C) → o ≡ None → o ≡ p → xs ≡ [] → found view p ≡ r → xs ≡ r
taken_none view o p xs r e f n g = n ∙ sym (ap (found view) e) ∙ ap (found view) f ∙ g

pub left_without : {V C : Type 0} (view : V → List C) (b : Bool) (o p : Option V) (r : List C) → p ≡ cond b None o → found view o ≡ r → found view p ≡ cond b [] r
left_without view true o p r e h = ap (found view) e
left_without view false o p r e h = ap (found view) e ∙ h

-- what was taken out is put back with a change
pub put_found : {V C : Type 0} (view : V → List C) (change : List C → List C) (tells : Text → List C) (key n : Text) (v : V) (old new : Option V) → view v ≡ change (tells key)
    → found view old ≡ cond (bytes_eq key n) [] (tells n) → new ≡ cond (bytes_eq key n) (Some v) old → found view new ≡ cond (bytes_eq key n) (change (tells n)) (tells n)
put_found view change tells key n v old new e f g = on (bytes_eq key n) refl f g where
  on : (b : Bool) → bytes_eq key n ≡ b → found view old ≡ cond b [] (tells n) → new ≡ cond b (Some v) old → found view new ≡ cond b (change (tells n)) (tells n)
  on true h u w = ap (found view) w ∙ e ∙ ap (λ (m : Text). change (tells m)) (same_text key n h)
  on false h u w = ap (found view) w ∙ u
