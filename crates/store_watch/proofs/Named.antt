-- The watches of named rows.
use Rattle.std.proofs.Common.{◌≡◌, ℕ, zero, suc, ◌<◌, ◌≤◌, ◌+◌, Bool, true, false, true≢false, cond, ◌||◌, not, List, [], ◌∷◌, ◌++◌, map, length, drop, get_or, slice_get, Option, Some, None, is_some, String, string_bytes, Global, option_map, bytes_eq, refl, sym, ap, subst, ◌∙◌, arith}
use Rattle.std.proofs.lemmas.Slice.Eq.{bytes_eq-Decides, slice_eq-Decides}
use Rattle.std.specs.Borrow.{Bor}
use Rattle.std.specs.List.{list_any}
use Rattle.std.specs.Map.{lookup, remove_entry, values_of}
use Rattle.indexmap.specs.IndexMap.{set_value_at}
use Rattle.plan_ir.specs.gql_plain.Equal.{texts_eq}
use Rattle.plan_ir.specs.store_model.Walks.{Reading}
use Rattle.store_read.specs.Reading.{reading_of}
use Rattle.store_read.specs.declared.snapshot.Snapshot.{Snapshot}
use Rattle.plan_ir.specs.store_record.Keys.{Text}
use Rattle.store_watch.specs.Numbers.{number_at, seen_at}
use Rattle.store_watch.specs.Rows.{IsNumberAt, look_of, seen_of, watch_of, watches_of, with_snapshot}
use Rattle.store_watch.specs.Watching.{Watch, is_live, uses, with_kept, without}
use Rattle.store_watch.specs.declared.rows.Row.{Row}

abbrev Named : Type 0
Named = List (String Global × Row)

-- ---- names

module _ (name : Text) where
  abbrev test : String Global → Bool
  test k = bytes_eq name (string_bytes k)

  found : (b : Bool) (x : Row) (o : Option Row) → is_some (cond b (Some x) o) ≡ (b || is_some o)
  found true x o = refl
  found false x o = refl

  pub is_some-lookup : (es : Named) → is_some (lookup test es) ≡ is_live (watches_of es) name
  is_some-lookup [] = refl
  is_some-lookup (e ∷ es) = found (test e.0) e.1 (lookup test es) ∙ ap (λ b. test e.0 || b) (is_some-lookup es)

  none_is : (o : Option Row) → is_some o ≡ false → o ≡ None
  none_is None h = refl
  none_is (Some x) h = absurd (true≢false h)

  pub absent : (es : Named) → is_live (watches_of es) name ≡ false → lookup test es ≡ None
  absent es h = none_is (lookup test es) (is_some-lookup es ∙ h)

  cond_watches : (b : Bool) (e : String Global × Row) (es fs : Named) → watches_of (cond b es (e ∷ fs)) ≡ cond b (watches_of es) (watch_of e ∷ watches_of fs)
  cond_watches true e es fs = refl
  cond_watches false e es fs = refl

  pub watches_without : (es : Named) → watches_of (remove_entry test es) ≡ without name (watches_of es)
  watches_without [] = refl
  watches_without (e ∷ es) =
      cond_watches (test e.0) e es (remove_entry test es) ∙ ap (λ ws. cond (test e.0) (watches_of es) (watch_of e ∷ ws)) (watches_without es)

-- ---- handles

pub uses_rows : (handle : Text) (es : Named) → list_any (λ (r : Row). bytes_eq r.what.handle handle) (values_of es) ≡ uses (watches_of es) handle
uses_rows handle [] = refl
uses_rows handle (e ∷ es) = ap (λ b. bytes_eq e.1.what.handle handle || b) (uses_rows handle es)

-- ---- places

pub watches_length : (es : Named) → length (watches_of es) ≡ length es
watches_length [] = refl
watches_length (e ∷ es) = ap suc (watches_length es)

pub watches_append : (es fs : Named) → watches_of (es ++ fs) ≡ watches_of es ++ watches_of fs
watches_append [] fs = refl
watches_append (e ∷ es) fs = ap (λ ws. watch_of e ∷ ws) (watches_append es fs)

some_is : {X : Type 0} (x y : X) → Some x ≡ Some y → x ≡ y
some_is x y e = cc

none_some : {X A : Type 0} (x : X) → None ≡ Some x → A
none_some x e = absurd (true≢false (sym (ap is_some e)))

-- the name at a place
pub name_here : (es : Named) (place : ℕ) (k : String Global) (r : Row) → Some (k, r) ≡ slice_get es place → string_bytes k ≡ get_or (map (λ (w : Watch). w.name) (watches_of es)) place []
name_here [] place k r e = none_some (k, r) (sym e)
name_here (x ∷ es) zero k r e = let same : (k, r) ≡ x = some_is (k, r) x e in ap (λ (p : String Global × Row). string_bytes p.0) same
name_here (x ∷ es) (suc place) k r e = name_here es place k r e

pub name_none : {A : Type 0} (es : Named) (place : ℕ) → place < length (watches_of es) → None ≡ slice_get es place → A
name_none [] place h e = absurd (omega arith)
name_none (x ∷ es) zero h e = none_some x e
name_none (x ∷ es) (suc place) h e = name_none es place (omega arith) e

-- ---- a snapshot in place of another

pub set_is : (es : Named) (place : ℕ) (r : Row) (s : Snapshot) → slice_get (values_of es) place ≡ Some r
    → set_value_at es place (record { number = r.number; what = r.what; kept = s }) ≡ with_snapshot es place s
set_is [] place r s e = none_some r e
set_is (x ∷ es) zero r s e =
    let same : x.1 ≡ r = some_is x.1 r e in
    ap (λ (y : Row). (x.0, record { number = y.number; what = y.what; kept = s }) ∷ es) (sym same)
set_is (x ∷ es) (suc place) r s e = ap (λ fs. x ∷ fs) (set_is es place r s e)

pub watches_with : (es : Named) (place : ℕ) (s : Snapshot) → watches_of (with_snapshot es place s) ≡ with_kept (watches_of es) place (reading_of s)
watches_with [] place s = refl
watches_with (e ∷ es) zero s = refl
watches_with (e ∷ es) (suc place) s = ap (λ ws. watch_of e ∷ ws) (watches_with es place s)

-- a place beyond all leaves them
pub with_none : (ws : List Watch) (place : ℕ) (gives : Reading) → length ws ≤ place → with_kept ws place gives ≡ ws
with_none [] place gives h = refl
with_none (w ∷ ws) zero gives h = absurd (omega arith)
with_none (w ∷ ws) (suc place) gives h = ap (λ vs. w ∷ vs) (with_none ws place gives (omega arith))

pub number_here : (rows : List Row) (place : ℕ) (r : Row) → slice_get rows place ≡ Some r → r.number ≡ number_at (seen_of rows) place
number_here [] place r e = none_some r e
number_here (x ∷ rows) zero r e = let same : x ≡ r = some_is x r e in ap (λ (y : Row). y.number) (sym same)
number_here (x ∷ rows) (suc place) r e = number_here rows place r e

pub ids_here : (rows : List Row) (place : ℕ) (r : Row) → slice_get rows place ≡ Some r → r.kept.seen ≡ seen_at (seen_of rows) place
ids_here [] place r e = none_some r e
ids_here (x ∷ rows) zero r e = let same : x ≡ r = some_is x r e in ap (λ (y : Row). y.kept.seen) (sym same)
ids_here (x ∷ rows) (suc place) r e = ids_here rows place r e

-- lists of texts that are found equal are the same
pub texts_same : (xs ys : List Text) → texts_eq xs ys ≡ true → xs ≡ ys
texts_same xs ys h = (slice_eq-Decides bytes_eq-Decides xs ys (texts_eq xs ys) refl).0 h
