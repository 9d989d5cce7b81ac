-- The layers around a place, and what is left where the layer there is taken out.
use Rattle.std.proofs.Common.{◌≡◌, ℕ, suc, ◌+◌, List, ◌++◌, map, take, drop, String, Global, sym, ap, ◌∙◌, arith}
use Rattle.std.proofs.lemmas.List.{map-append, take-map, drop-map}
use Rattle.std.specs.List.{remove}
use Rattle.std.specs.declared.rc.Rc.{Rc}
use Rattle.store_update.specs.store_record.Keys.{Text}
use Rattle.store_update.specs.store_model.declared.entry.Entry.{Entry}
use Rattle.store_layers.specs.Layered.{Layer, entries_of, below, from_on, above, without}
use Rattle.store_layers.specs.Versions.{layer_of, layers_of, all_but, IsPlaceOf}

abbrev Named : Type 0
Named = List (String Global × Rc Entry Global)

-- what a map makes of a list but for one place
pub removed : {X Y : Type 0} (f : X → Y) (xs : List X) (at : ℕ) → map f (take at xs ++ drop (at + 1) xs) ≡ take at (map f xs) ++ drop (at + 1) (map f xs)
removed f xs at = map-append f (take at xs) (drop (at + 1) xs) ∙ (λ i. sym (take-map f at xs) i ++ sym (drop-map f (at + 1) xs) i)

-- the layers that a map has left where one is taken out of it
pub layers_removed : (named : Named) (at : ℕ) → layers_of (remove named at) ≡ all_but at (layers_of named)
layers_removed named at =
    let next : suc at ≡ at + 1 = omega arith in
    ap (λ n. layers_of (take at named ++ drop n named)) next ∙ removed layer_of named at

module _ (name : Text) (named : Named) (at : ℕ) (place : IsPlaceOf name (layers_of named) at) where
  pub below_entries : entries_of (below name (layers_of named)) ≡ take at (entries_of (layers_of named))
  below_entries = ap entries_of place.below ∙ sym (take-map (λ (l : Layer). l.1) at (layers_of named))

  pub from_on_entries : entries_of (from_on name (layers_of named)) ≡ drop at (entries_of (layers_of named))
  from_on_entries = ap entries_of place.from_on ∙ sym (drop-map (λ (l : Layer). l.1) at (layers_of named))

  pub above_entries : entries_of (above name (layers_of named)) ≡ drop (at + 1) (entries_of (layers_of named))
  above_entries = ap entries_of place.above ∙ sym (drop-map (λ (l : Layer). l.1) (at + 1) (layers_of named))

  pub without_entries : entries_of (without name (layers_of named)) ≡ all_but at (entries_of (layers_of named))
  without_entries = ap entries_of place.without ∙ removed (λ (l : Layer). l.1) (layers_of named) at
