-- One layer more above the others.
use Rattle.std.proofs.Common.{◌≡◌, List, [], ◌∷◌, ◌++◌, sym, ap, ◌∙◌, subst}
use Rattle.std.proofs.lemmas.List.{map-append}
use Rattle.store_update.specs.store_record.Keys.{Text}
use Rattle.store_update.specs.store_model.Entries.{apply, fold_entries}
use Rattle.store_update.specs.store_model.Records.{Records}
use Rattle.store_update.specs.store_model.declared.entry.Entry.{Entry}
use Rattle.store_update.specs.Touched.{AreTouched}
use Rattle.store_update.specs.declared.entry.Changed.{Changed}
use Rattle.store_layers.proofs.VersionSteps.{pushed}
use Rattle.store_layers.specs.Layered.{Layer, entries_of}
use Rattle.store_layers.specs.Versions.{AreVersions, AreKept, shown}

module _ {S C : Type 0} (records : S → Records) where
  pub begun_kept : (base : Records) (layers more : List Layer) (vs ws : List (Changed S C)) (name : Text) (e : Entry) (v : Changed S C) (top : Records)
      → AreKept base layers (shown records vs) → more ≡ layers ++ (name, e) ∷ [] → ws ≡ vs ++ v ∷ []
      → top ≡ fold_entries (entries_of layers) base → records v.source ≡ apply e top → AreTouched top (records v.source) v.touched
      → AreKept base more (shown records ws)
  begun_kept base layers more vs ws name e v top kept is_more is_ws same made touched =
      let all : entries_of more ≡ entries_of layers ++ e ∷ [] = ap entries_of is_more ∙ map-append (λ (l : Layer). l.1) layers ((name, e) ∷ []) in
      record {
        versions = subst (λ es. AreVersions base es (shown records ws)) (sym all)
            (subst (λ us. AreVersions base (entries_of layers ++ e ∷ []) (shown records us)) (sym is_ws) (pushed records base (entries_of layers) e vs v top kept.versions same made touched));
      }
