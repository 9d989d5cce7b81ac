-- Versions, one after another.
use Rattle.std.proofs.Common.{◌≡◌, ℕ, zero, suc, ◌+◌, ◌-◌, true≢false, Option, Some, is_some, unwrap_or, List, [], ◌∷◌, ◌++◌, take, drop, length, refl, sym, ap, ◌∙◌, subst, arith}
use Rattle.std.proofs.lemmas.List.{map-append}
use Rattle.std.specs.List.{slice_get}
use Rattle.store_update.specs.store_model.Entries.{apply, fold_entries}
use Rattle.store_update.specs.store_model.Records.{Records}
use Rattle.store_update.specs.store_model.declared.entry.Entry.{Entry}
use Rattle.store_update.specs.Touched.{AreTouched}
use Rattle.store_update.specs.declared.entry.Changed.{Changed}
use Rattle.store_layers.specs.Versions.{Version, AreVersions, newest, shown}
use Rattle.store_layers.specs.Work.{weights}

-- ---- entries, one after another

pub fold-append : (es fs : List Entry) (m : Records) → fold_entries (es ++ fs) m ≡ fold_entries fs (fold_entries es m)
fold-append [] fs m = refl
fold-append (e ∷ es) fs m = fold-append es fs (apply e m)

pub weights-append : (es fs : List Entry) (m : Records) → weights (es ++ fs) m ≡ weights es m + weights fs (fold_entries es m)
weights-append [] fs m = omega arith
weights-append (e ∷ es) fs m = omega (arith, weights-append es fs (apply e m))

-- ---- versions of entries

pub versions-append : (m : Records) (es fs : List Entry) (vs ws : List Version) → AreVersions m es vs → AreVersions (fold_entries es m) fs ws
    → AreVersions m (es ++ fs) (vs ++ ws)
versions-append m [] fs [] ws h k = k
versions-append m [] fs (v ∷ vs) ws h k = absurd h
versions-append m (e ∷ es) fs [] ws h k = absurd h
versions-append m (e ∷ es) fs (v ∷ vs) ws h k = (h.0, h.1, versions-append (apply e m) es fs vs ws h.2 k)

pub versions-push : (m : Records) (es : List Entry) (e : Entry) (vs : List Version) (v : Version) → AreVersions m es vs
    → v.records ≡ apply e (fold_entries es m) → AreTouched (fold_entries es m) (apply e (fold_entries es m)) v.touched
    → AreVersions m (es ++ e ∷ []) (vs ++ v ∷ [])
versions-push m es e vs v h records touched = versions-append m es (e ∷ []) vs (v ∷ []) h (records, touched, tt)

pub versions-take : (i : ℕ) (m : Records) (es : List Entry) (vs : List Version) → AreVersions m es vs → AreVersions m (take i es) (take i vs)
versions-take zero m [] [] h = tt
versions-take (suc i) m [] [] h = tt
versions-take i m [] (v ∷ vs) h = absurd h
versions-take i m (e ∷ es) [] h = absurd h
versions-take zero m (e ∷ es) (v ∷ vs) h = tt
versions-take (suc i) m (e ∷ es) (v ∷ vs) h = (h.0, h.1, versions-take i (apply e m) es vs h.2)

pub versions-drop : (i : ℕ) (m : Records) (es : List Entry) (vs : List Version) → AreVersions m es vs → AreVersions (fold_entries (take i es) m) (drop i es) (drop i vs)
versions-drop zero m [] [] h = tt
versions-drop (suc i) m [] [] h = tt
versions-drop i m [] (v ∷ vs) h = absurd h
versions-drop i m (e ∷ es) [] h = absurd h
versions-drop zero m (e ∷ es) (v ∷ vs) h = h
versions-drop (suc i) m (e ∷ es) (v ∷ vs) h = versions-drop i (apply e m) es vs h.2

pub versions-length : (m : Records) (es : List Entry) (vs : List Version) → AreVersions m es vs → length vs ≡ length es
versions-length m [] [] h = refl
versions-length m [] (v ∷ vs) h = absurd h
versions-length m (e ∷ es) [] h = absurd h
versions-length m (e ∷ es) (v ∷ vs) h = ap (λ n. suc n) (versions-length (apply e m) es vs h.2)

-- the newest version has all entries applied
pub newest_is : (m : Records) (es : List Entry) (vs : List Version) → AreVersions m es vs → newest m vs ≡ fold_entries es m
newest_is m [] [] h = refl
newest_is m [] (v ∷ vs) h = absurd h
newest_is m (e ∷ es) [] h = absurd h
newest_is m (e ∷ es) (v ∷ vs) h = ap (λ r. newest r vs) h.0 ∙ newest_is (apply e m) es vs h.2

-- ---- the last version

module _ {S C : Type 0} (records : S → Records) where
  pub newest_some : (m : Records) (vs : List (Changed S C)) (v : Changed S C) → slice_get vs (length vs - 1) ≡ Some v → newest m (shown records vs) ≡ records v.source
  newest_some m [] v e = absurd (true≢false (sym (ap is_some e)))
  newest_some m (x ∷ []) v e = ap (λ (o : Option (Changed S C)). records (unwrap_or o v).source) e
  newest_some m (x ∷ y ∷ ys) v e =
      let short : suc (length ys) - 1 ≡ length ys = omega arith in
      let long : suc (length ys) ≡ suc (suc (length ys)) - 1 = omega arith in
      newest_some (records x.source) (y ∷ ys) v (ap (slice_get (y ∷ ys)) short ∙ ap (slice_get (x ∷ y ∷ ys)) long ∙ e)

  pub pushed : (m : Records) (es : List Entry) (e : Entry) (vs : List (Changed S C)) (v : Changed S C) (top : Records) → AreVersions m es (shown records vs)
      → top ≡ fold_entries es m → records v.source ≡ apply e top → AreTouched top (records v.source) v.touched
      → AreVersions m (es ++ e ∷ []) (shown records (vs ++ v ∷ []))
  pushed m es e vs v top h same is touched =
      let made : records v.source ≡ apply e (fold_entries es m) = is ∙ ap (apply e) same in
      subst (AreVersions m (es ++ e ∷ [])) (sym (map-append (λ (w : Changed S C). record { records = records w.source; touched = w.touched }) vs (v ∷ [])))
      (versions-push m es e (shown records vs) (record { records = records v.source; touched = v.touched }) h made
      (subst (λ r. AreTouched (fold_entries es m) r v.touched) made (subst (λ t. AreTouched t (records v.source) v.touched) same touched)))
