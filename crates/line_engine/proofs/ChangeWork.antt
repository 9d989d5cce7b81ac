-- The changes that calls of the layers make are those that the machine's steps do.
use Rattle.std.proofs.Common.{◌≡◌, ℕ, ◌+◌, ◌*◌, ◌≤◌, false, List, [], ◌∷◌, ◌++◌, length, map, drop, sym, ap, ◌∙◌, arith}
use Rattle.std.proofs.Math.Seq.{drop-append_seam}
use Rattle.std.proofs.lemmas.List.{length-map, map-append}
use Rattle.line_engine.proofs.LayerLaws.{without_is}
use Rattle.line_engine.proofs.StandingLaws.{entries_are, same_entries, stands_begun, stands_committed, stands_finished, stands_reverted, view_is}
use Rattle.line_engine.specs.Kept.{Kept}
use Rattle.line_engine.specs.Stands.{StandsFor, layer_of}
use Rattle.line_engine.specs.Work.{Change, confirming, dropping, starting}
use Rattle.relay_machine.specs.Effects.{entries_in}
use Rattle.relay_machine.specs.Machine.{Confirmation, Layer, Project, State, confirm, confirmed, drop_layer, layer_entries, view, with_layer, without_layer}
use Rattle.plan_ir.specs.schema_tables.Types.{Text}
use Rattle.store_layers.specs.Layered.{Layered, above, begun, below, committed, entries_of, finished, from_on, is_live, reverted, view_of, without}
use Rattle.store_layers.specs.Work.{weights}
use Rattle.plan_ir.specs.store_model.Entries.{fold_entries, weight}
use Rattle.plan_ir.specs.store_model.Records.{Records}
use Rattle.plan_ir.specs.store_model.declared.entry.Entry.{Entry}

-- ---- what the calls change

abbrev pub committing : Entry → Layered → Change
committing e ls = record { under = ls.base; before = entries_of ls.live; after = e ∷ entries_of ls.live }

abbrev pub beginning : Entry → Layered → Change
beginning e ls = record { under = view_of ls; before = []; after = e ∷ [] }

abbrev pub finishing : Text → Entry → Layered → Change
finishing name e ls = record { under = ls.base; before = entries_of ls.live; after = e ∷ entries_of (without name ls.live) }

abbrev pub reverting : Text → Layered → Change
reverting name ls =
    record { under = fold_entries (entries_of (below name ls.live)) ls.base; before = entries_of (from_on name ls.live); after = entries_of (above name ls.live) }

-- one entry alone
pub one_weight : (before after : ℕ) (e : Entry) (m : Records) → after ≤ before + 8 * weight e m → after ≤ before + 8 * weights (e ∷ []) m
one_weight before after e m h = plus_none (weight e m) h
  where
    plus_none : (w : ℕ) → after ≤ before + 8 * w → after ≤ before + 8 * (w + 0)
    plus_none w l = omega (arith, l)

-- ---- the machine's

-- the entry that comes last
newest_confirmed : (cs : List Confirmation) (e : Entry) → entries_in (drop (length cs) (cs ++ confirmed e ∷ [])) ≡ e ∷ []
newest_confirmed cs e = ap entries_in (drop-append_seam cs (confirmed e ∷ []))

newest_layer : (ls : List Layer) (l : Layer) → drop (length ls) (map (λ (x : Layer). x.entry) (ls ++ l ∷ [])) ≡ l.entry ∷ []
newest_layer ls l =
    (λ i. drop (sym (length-map ls (λ (x : Layer). x.entry)) i) (map-append (λ (x : Layer). x.entry) ls (l ∷ []) i))
    ∙ drop-append_seam (map (λ (x : Layer). x.entry) ls) (l.entry ∷ [])

module _ (k : Kept) (p : Project) (s : State) (stands : StandsFor k p s) where
  entries_without : (name : Text) → entries_of (without name k.layers.live) ≡ layer_entries (drop_layer name s)
  entries_without name =
      ap (λ ls. entries_of (without name ls)) stands.layers ∙ ap entries_of (without_is name s.layers stands.apart) ∙ same_entries (without_layer name s.layers)

  pub commits : (e : Entry) → committing e k.layers ≡ confirming p s (confirm e s)
  commits e = λ i. record { under = stands.base i; before = entries_are k p s stands i; after = sym (newest_confirmed s.entries e) i ++ entries_are k p s stands i }

  pub finishes : (name : Text) (e : Entry) → finishing name e k.layers ≡ confirming p s (confirm e (drop_layer name s))
  finishes name e = λ i. record { under = stands.base i; before = entries_are k p s stands i; after = sym (newest_confirmed s.entries e) i ++ entries_without name i }

  pub begins : (name : Text) (e : Entry) → beginning e k.layers ≡ starting p s (with_layer name e s)
  begins name e =
      λ i. record { under = view_is k.layers p s stands.base stands.layers i; before = []; after = sym (newest_layer s.layers (record { name = name; entry = e })) i }

  pub reverts : (name : Text) → reverting name k.layers ≡ dropping p s (map layer_of s.layers) name
  reverts name = λ i. record {
    under = fold_entries (entries_of (below name (stands.layers i))) (stands.base i);
    before = entries_of (from_on name (stands.layers i));
    after = entries_of (above name (stands.layers i));
  }

  -- ---- the records that are seen then

  pub seen_committed : (e : Entry) → view_of (committed e k.layers) ≡ view p (confirm e s)
  seen_committed e = view_is (committed e k.layers) p (confirm e s) (stands_committed k p s stands e).base (stands_committed k p s stands e).layers

  pub seen_finished : (name : Text) (e : Entry) → view_of (finished name e k.layers) ≡ view p (confirm e (drop_layer name s))
  seen_finished name e =
      view_is (finished name e k.layers) p (confirm e (drop_layer name s)) (stands_finished k p s stands name e).base (stands_finished k p s stands name e).layers

  pub seen_begun : (name : Text) (e : Entry) → is_live k.layers.live name ≡ false → view_of (begun name e k.layers) ≡ view p (with_layer name e s)
  seen_begun name e free = view_is (begun name e k.layers) p (with_layer name e s) (stands_begun k p s stands name e free).base (stands_begun k p s stands name e free).layers

  pub seen_reverted : (name : Text) → view_of (reverted name k.layers) ≡ view p (drop_layer name s)
  seen_reverted name = view_is (reverted name k.layers) p (drop_layer name s) (stands_reverted k p s stands name).base (stands_reverted k p s stands name).layers
