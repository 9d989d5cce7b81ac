-- What stands for a state still does, when both change their records.
use Rattle.std.proofs.Common.{◌≡◌, ℕ, List, [], ◌∷◌, ◌++◌, length, map, Bool, false, refl, sym, ap, ◌∙◌}
use Rattle.line_engine.proofs.LayerLaws as layers
use Rattle.line_engine.proofs.LayerLaws.{apart_after, apart_without, layers_after, live_is, without_is}
use Rattle.line_engine.specs.Kept.{Kept, with_layers}
use Rattle.line_engine.specs.Stands.{StandsFor, StandsUntold, layer_of}
use Rattle.relay_machine.proofs.Sweeps.{confirmed_after}
use Rattle.relay_machine.specs.Machine.{Layer, Project, State, base, confirm, confirmed, drop_layer, is_layer, layer_entries, view, with_layer}
use Rattle.plan_ir.specs.schema_tables.Types.{Text}
use Rattle.store_layers.specs.Layered as layered
use Rattle.store_layers.specs.Layered.{Layered, begun, committed, entries_of, finished, is_live, reverted, view_of}
use Rattle.plan_ir.specs.store_model.Entries.{apply, fold_entries}
use Rattle.plan_ir.specs.store_model.Records.{no_records}
use Rattle.plan_ir.specs.store_model.declared.entry.Entry.{Entry}

-- ---- folds

pub same_entries : (ls : List Layer) → entries_of (map layer_of ls) ≡ map (λ (l : Layer). l.entry) ls
same_entries [] = refl
same_entries (l ∷ ls) = ap (λ es. l.entry ∷ es) (same_entries ls)

-- the records that are seen
pub view_is : (ls : Layered) (p : Project) (s : State) → ls.base ≡ base p s → ls.live ≡ map layer_of s.layers → view_of ls ≡ view p s
view_is ls p s under over = λ i. fold_entries ((ap entries_of over ∙ same_entries s.layers) i) (under i)

-- ---- changes of the layers

module _ (k : Kept) (p : Project) (s : State) (stands : StandsFor k p s) where
  pub entries_are : entries_of k.layers.live ≡ layer_entries s
  entries_are = ap entries_of stands.layers ∙ same_entries s.layers

  pub stands_committed : (e : Entry) → StandsUntold (with_layers k (committed e k.layers)) p (confirm e s)
  stands_committed e = record {
    schema = stands.schema;
    documents = stands.documents;
    base = ap (apply e) stands.base ∙ sym (confirmed_after p s.entries (confirmed e) no_records);
    layers = stands.layers;
    apart = stands.apart;
    handles = stands.handles;
    released = stands.released;
    watches = stands.watches;
  }

  pub stands_begun : (name : Text) (e : Entry) → is_live k.layers.live name ≡ false → StandsUntold (with_layers k (begun name e k.layers)) p (with_layer name e s)
  stands_begun name e free =
      let l : Layer = record { name = name; entry = e } in
      record {
        schema = stands.schema;
        documents = stands.documents;
        base = stands.base;
        layers = ap (λ ls. ls ++ (name, e) ∷ []) stands.layers ∙ sym (layers_after s.layers l);
        apart = apart_after s.layers l stands.apart (sym (ap (λ ls. is_live ls name) stands.layers ∙ live_is s.layers name) ∙ free);
        handles = stands.handles;
        released = stands.released;
        watches = stands.watches;
      }

  pub stands_reverted : (name : Text) → StandsUntold (with_layers k (reverted name k.layers)) p (drop_layer name s)
  stands_reverted name = record {
    schema = stands.schema;
    documents = stands.documents;
    base = stands.base;
    layers = ap (layered.without name) stands.layers ∙ without_is name s.layers stands.apart;
    apart = apart_without name s.layers stands.apart;
    handles = stands.handles;
    released = stands.released;
    watches = stands.watches;
  }

  pub stands_finished : (name : Text) (e : Entry) → StandsUntold (with_layers k (finished name e k.layers)) p (confirm e (drop_layer name s))
  stands_finished name e = record {
    schema = stands.schema;
    documents = stands.documents;
    base = ap (apply e) stands.base ∙ sym (confirmed_after p s.entries (confirmed e) no_records);
    layers = ap (layered.without name) stands.layers ∙ without_is name s.layers stands.apart;
    apart = apart_without name s.layers stands.apart;
    handles = stands.handles;
    released = stands.released;
    watches = stands.watches;
  }

  -- ---- layers by their names

  pub whether_layer : (live : List layered.Layer) (name called : Text) (b : Bool) → live ≡ k.layers.live → name ≡ called → b ≡ is_live live name → is_layer s.layers called ≡ b
  whether_layer live name called b same is found =
      sym (live_is s.layers called) ∙ (λ i. is_live (sym (same ∙ stands.layers) i) (sym is i)) ∙ sym found

  pub layers_count : (live : List layered.Layer) (count : ℕ) → live ≡ k.layers.live → count ≡ length live → length s.layers ≡ count
  layers_count live count same found = sym (found ∙ ap (λ (xs : List layered.Layer). length xs) (same ∙ stands.layers) ∙ layers.as_many s.layers)
