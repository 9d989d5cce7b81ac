-- Live handles by their names.
use Rattle.std.proofs.Common.{◌≡◌, Bool, true, false, true≢false, cond, ◌||◌, List, [], ◌∷◌, ◌++◌, Option, Some, None, is_some, String, string_bytes, Global, refl, sym, ap, ◌∙◌, bytes_eq}
use Rattle.std.proofs.lemmas.List.{map-append}
use Rattle.std.specs.Map.{lookup, remove_entry}
use Rattle.circular_buffer.specs.Buffer.{Buffer, buffer, keep_last}
use Rattle.plan_ir.specs.store_record.Keys.{Text}
use Rattle.store_retain.specs.Kept.{held_under, is_live, released, retained, some_held, without}
use Rattle.store_retain.specs.KeptView.{handle_of, kept_of, live_of}
use Rattle.store_retain.specs.declared.held.Held.{Held}

abbrev Named : Type 0
Named = List (String Global × Held)

module _ (name : Text) where
  abbrev test : String Global → Bool
  test k = bytes_eq name (string_bytes k)

  found : (b : Bool) (x : Held) (o : Option Held) → is_some (cond b (Some x) o) ≡ (b || is_some o)
  found true x o = refl
  found false x o = refl

  pub is_some-lookup : (es : Named) → is_some (lookup test es) ≡ is_live (live_of es) name
  is_some-lookup [] = refl
  is_some-lookup (e ∷ es) = found (test e.0) e.1 (lookup test es) ∙ ap (λ b. test e.0 || b) (is_some-lookup es)

  -- a handle is live where something is held under it
  pub live_held : (hs : List (Text × Held)) → is_live hs name ≡ is_some (held_under name hs)
  live_held [] = refl
  live_held (h ∷ hs) = ap (λ b. bytes_eq name h.0 || b) (live_held hs) ∙ sym (found (bytes_eq name h.0) h.1 (held_under name hs))

  none_is : (o : Option Held) → is_some o ≡ false → o ≡ None
  none_is None h = refl
  none_is (Some x) h = absurd (true≢false h)

  pub absent : (es : Named) → is_live (live_of es) name ≡ false → lookup test es ≡ None
  absent es h = none_is (lookup test es) (is_some-lookup es ∙ h)

  pub lookup_is : (es : Named) → lookup test es ≡ held_under name (live_of es)
  lookup_is [] = refl
  lookup_is (e ∷ es) = ap (λ o. cond (test e.0) (Some e.1) o) (lookup_is es)

  without_cond : (b : Bool) (e : String Global × Held) (es fs : Named) → live_of (cond b es (e ∷ fs)) ≡ cond b (live_of es) (handle_of e ∷ live_of fs)
  without_cond true e es fs = refl
  without_cond false e es fs = refl

  pub removed_is : (es : Named) → live_of (remove_entry test es) ≡ without name (live_of es)
  removed_is [] = refl
  removed_is (e ∷ es) = without_cond (test e.0) e es (remove_entry test es) ∙ ap (λ hs. cond (test e.0) (live_of es) (handle_of e ∷ hs)) (removed_is es)

  pub released_is : (es fs : Named) (b c : Buffer Held) (held : Held) (o : Option Held) → fs ≡ remove_entry test es → o ≡ lookup test es → o ≡ Some held → c ≡ buffer (keep_last b.capacity (b.items ++ held ∷ [])) b.capacity
      → kept_of fs c ≡ released name (kept_of es b)
  released_is es fs b c held o removed looked is pushed =
      let one : held ∷ [] ≡ some_held (held_under name (live_of es)) = ap some_held (sym is ∙ looked ∙ lookup_is es) in
      (λ i. kept_of (removed i) (pushed i))
      ∙ (λ i. record { buffer = b.capacity; live = removed_is es i; released = keep_last b.capacity (b.items ++ one i) })

pub retained_is : (es fs : Named) (b : Buffer Held) (key : String Global) (held : Held) → fs ≡ es ++ (key, held) ∷ [] → kept_of fs b ≡ retained (string_bytes key) held (kept_of es b)
retained_is es fs b key held put = λ i. record { buffer = b.capacity; live = (ap live_of put ∙ map-append handle_of es ((key, held) ∷ [])) i; released = b.items }
