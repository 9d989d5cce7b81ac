-- Drafts of changes are right for the layers that they are of.
use Rattle.std.proofs.Common.{◌≡◌, ℕ, ◌+◌, ◌<◌, ◌≤◌, List, [], ◌∷◌, ◌++◌, take, drop, length, length-drop, Option, None, Some, String, Global, sym, ap, subst, ◌∙◌, arith}
use Rattle.std.proofs.lemmas.List.{length-map, map-append}
use Rattle.std.specs.declared.rc.Rc.{Rc}
use Rattle.store_update.specs.store_record.Keys.{Text}
use Rattle.store_update.specs.store_model.Entries.{apply, fold_entries}
use Rattle.store_update.specs.store_model.Records.{Records}
use Rattle.store_update.specs.store_model.declared.entry.Entry.{Entry}
use Rattle.store_update.specs.declared.entry.Changed.{Changed}
use Rattle.store_layers.proofs.Removed.{removed}
use Rattle.store_layers.proofs.Rebuilt.{kept_length, shown-length, shown-take}
use Rattle.store_layers.proofs.Steps.{layers_length}
use Rattle.store_layers.proofs.VersionSteps.{fold-append, newest_is, versions-append, versions-length, versions-take}
use Rattle.store_layers.specs.Drafts.{left_of}
use Rattle.store_layers.specs.Layered.{Layer, Layered, begun, entries_of, view_of}
use Rattle.store_layers.specs.Versions.{AreVersions, all_but, layer_of, layers_of, newest, shown}

abbrev Named : Type 0
Named = List (String Global × Rc Entry Global)

abbrev entries : Named → List Entry
entries named = entries_of (layers_of named)

-- ---- what is seen once a change is settled

-- one layer more above all others
pub seen_begun : (from : Layered) (name : Text) (e : Entry) → view_of (begun name e from) ≡ apply e (view_of from)
seen_begun from name e =
    ap (λ es. fold_entries es from.base) (map-append (λ (l : Layer). l.1) from.live ((name, e) ∷ [])) ∙ fold-append (entries_of from.live) (e ∷ []) from.base

-- all layers but the one at a place
pub seen_without : (m : Records) (named : Named) (at : ℕ) → fold_entries (entries_of (all_but at (layers_of named))) m ≡ fold_entries (all_but at (entries named)) m
seen_without m named at = ap (λ es. fold_entries es m) (removed (λ (l : Layer). l.1) (layers_of named) at)

-- those below a place, and then those above it
pub seen_above : (m : Records) (named : Named) (at : ℕ)
    → fold_entries (entries_of (all_but at (layers_of named))) m ≡ fold_entries (drop (at + 1) (entries named)) (fold_entries (take at (entries named)) m)
seen_above m named at = seen_without m named at ∙ fold-append (take at (entries named)) (drop (at + 1) (entries named)) m

-- ---- places

pub within_layers : (named : Named) (at : ℕ) → at < length named → at < length (layers_of named)
within_layers named at within = subst (λ n. at < n) (sym (length-map named layer_of)) within

-- ---- the version below a place

module _ {S C : Type 0} (records : S → Records) where
  pub below_is : (m : Records) (named : Named) (at : ℕ) (vs : List (Changed S C)) → AreVersions m (entries named) (shown records vs)
      → newest m (shown records (take at vs)) ≡ fold_entries (take at (entries named)) m
  below_is m named at vs kept =
      ap (newest m) (shown-take records at vs) ∙ newest_is m (take at (entries named)) (take at (shown records vs)) (versions-take at m (entries named) (shown records vs) kept)

  -- ---- what is kept once a change is settled

  -- where a layer is dropped, its version and those above it give way
  pub taken_off : (m : Records) (named more : Named) (at : ℕ) (vs above ws : List (Changed S C)) → AreVersions m (entries named) (shown records vs)
      → AreVersions (fold_entries (take at (entries named)) m) (drop (at + 1) (entries named)) (shown records above)
      → layers_of more ≡ all_but at (layers_of named) → ws ≡ take at vs ++ above → AreVersions m (entries more) (shown records ws)
  taken_off m named more at vs above ws kept new is_more is_ws =
      let both : AreVersions m (all_but at (entries named)) (take at (shown records vs) ++ shown records above) =
      versions-append m (take at (entries named)) (drop (at + 1) (entries named)) (take at (shown records vs)) (shown records above)
      (versions-take at m (entries named) (shown records vs) kept) new in
      let left : entries more ≡ all_but at (entries named) = ap entries_of is_more ∙ removed (λ (l : Layer). l.1) (layers_of named) at in
      let seen : shown records ws ≡ take at (shown records vs) ++ shown records above =
      ap (shown records) is_ws ∙ map-append (λ (v : Changed S C). record { records = records v.source; touched = v.touched }) (take at vs) above
      ∙ ap (λ us. us ++ shown records above) (shown-take records at vs) in
      subst (λ es. AreVersions m es (shown records ws)) (sym left) (subst (AreVersions m (all_but at (entries named))) (sym seen) both)

  -- there is room for the versions above
  pub room_above : (m : Records) (named : Named) (at : ℕ) (vs above : List (Changed S C)) → at < length (layers_of named) → AreVersions m (entries named) (shown records vs)
      → AreVersions (fold_entries (take at (entries named)) m) (drop (at + 1) (entries named)) (shown records above) → at + length above ≤ length vs
  room_above m named at vs above within kept new =
      let long : length vs ≡ length named = kept_length records m named vs kept in
      let few : length above ≡ length (drop (at + 1) (entries named)) =
      sym (shown-length records above) ∙ versions-length (fold_entries (take at (entries named)) m) (drop (at + 1) (entries named)) (shown records above) new in
      omega (arith, long, few, length-drop (at + 1) (entries named), layers_length named, length-map named layer_of, within)

  -- a base and all versions give way
  pub confirmed_kept : (b : Records) (named more : Named) (gone : Option ℕ) (news : List (Changed S C)) → AreVersions b (left_of gone (entries named)) (shown records news)
      → layers_of more ≡ left_of gone (layers_of named) → AreVersions b (entries more) (shown records news)
  confirmed_kept b named more None news new is_more = subst (λ es. AreVersions b es (shown records news)) (sym (ap entries_of is_more)) new
  confirmed_kept b named more (Some at) news new is_more =
      subst (λ es. AreVersions b es (shown records news)) (sym (ap entries_of is_more ∙ removed (λ (l : Layer). l.1) (layers_of named) at)) new
