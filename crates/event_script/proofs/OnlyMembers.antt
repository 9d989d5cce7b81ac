-- Objects of one key.
use Rattle.std.proofs.Common.{◌≡◌, ◌<◌, List, [], ◌∷◌, length, Option, Some, None, option_map, Bor, String, Global, string_bytes, refl, ap, sym, true≢false, arith}
use Rattle.std.specs.Prelude.{◌↔◌, IsSome, IfSome, slice_get}
use Rattle.serde_json.proofs.Views.{Entry}
use Rattle.serde_json.specs.Data as J
use Rattle.serde_json.specs.View.{view, members_view}
use Rattle.serde_json.specs.declared.value.Value.{Value}
use Rattle.store_model.specs.store_record.Keys.{Text}
use Rattle.event_script.specs.Seen.{only_member}

abbrev pub Member : Type 0
Member = Bor (String Global) × Bor Value

abbrev pub as_pair : Member → Text × J.Data
as_pair m = (string_bytes m.0.now, view m.1.now)

pub only_member-other : (es : List Entry) → (length es ≡ 1 → ⊥) → None ≡ only_member (members_view es)
only_member-other [] other = refl
only_member-other (e ∷ []) other = absurd (other refl)
only_member-other (e ∷ (f ∷ es)) other = refl

pub only_member-one : (es : List Entry) (first : Option Member) → length es ≡ 1 → IsSome first ↔ (0 < length es)
    → IfSome first (λ p. slice_get es 0 ≡ Some (p.0.now, p.1.now)) → option_map as_pair first ≡ only_member (members_view es)
only_member-one [] first one there is = absurd (omega arith)
only_member-one (e ∷ []) None one there is = absurd (true≢false (sym (there.1 (omega arith))))
only_member-one (e ∷ []) (Some p) one there is =
    let known : Some e ≡ Some (p.0.now, p.1.now) = is in
    let pair : e ≡ (p.0.now, p.1.now) = cc in
    ap (λ (m : Entry). Some (string_bytes m.0, view m.1)) (sym pair)
only_member-one (e ∷ (f ∷ es)) first one there is = absurd (omega arith)
