-- Each line keeps a sound state so.
use Rattle.std.proofs.Common.{◌≡◌, ℕ, zero, suc, ◌+◌, ◌≤◌, ◌==◌, true, false, true≢false, cond, List, [], ◌∷◌, ◌++◌, length, Option, Some, None, is_some, refl, sym, ap, subst, ◌∙◌, arith}
use Rattle.std.proofs.lemmas.Bool.Decides.{Decides-eqb}
use Rattle.plan_ir.specs.schema_rules.Rules.{is_object}
use Rattle.plan_ir.specs.schema_tables.Types.{Text}
use Rattle.plan_ir.specs.store_model.Events.{line_of}
use Rattle.plan_ir.proofs.store_model_laws.Sorted.{sorted-none}
use Rattle.plan_ir.specs.store_model.FactOrder.{fact_cmp, handle_cmp}
use Rattle.plan_ir.specs.store_model.Records.{Records}
use Rattle.plan_ir.specs.store_model.declared.command.Command.{Command}
use Rattle.plan_ir.specs.store_model.declared.entry.Entry.{Entry}
use Rattle.relay_machine.specs.Machine.{Handle, Project, State, Watch, confirm, confirmed, drop_layer, entry_of, first_refused, handle_named, is_changed, is_in_use, is_layer, is_watch, layer_entries, nothing_said, read_again, release_handle, released_by, retained, retained_by, shown_by, started, swept, swept_state, view, with_handle, with_layer, with_watches, without_handle, without_watch}
use Rattle.relay_machine.specs.Refusals.{handles, layers, most, watches}
use Rattle.sound_records.proofs.Giving.{lines_given}
use Rattle.sound_records.specs.Giving.{AreGiven, IsName}
use Rattle.sound_records.specs.Sound.{IsSoundEntry}
use Rattle.sound_states.proofs.Changes.{IsKept, again, kept_by_line, noticed_in}
use Rattle.sound_states.proofs.Entries.{commands_sound}
use Rattle.sound_states.proofs.NamedSteps.{beginning_named, begun_named, dropped_named, entries_named, noticed_named, released_named, retained_named, started_named, stopped_named}
use Rattle.sound_states.proofs.Names.{Each, each_left, each_nil, each_push, found, layers_each, layers_length, length_left, length_push}
use Rattle.sound_states.specs.Laws.{BeginningIsSound, StepsKeepSound}
use Rattle.sound_states.specs.Named.{IsHeld, IsNamed, handle_name, watch_name}
use Rattle.sound_states.specs.Says.{SaysSoundly}
use Rattle.sound_states.specs.Sound.{IsSound, IsSoundConfirmation, IsSoundHandle, IsSoundLayer, IsSoundRetained, IsSoundWatch}

pub beginning_sound : BeginningIsSound
beginning_sound p = record {
  named = beginning_named;
  entries = tt;
  layers = tt;
  handles = tt;
  released = tt;
  watches = tt;
  most_layers = omega arith;
  most_handles = omega arith;
  most_watches = omega arith;
}

room_for : (k top : ℕ) → k ≤ top → (k ≡ top → ⊥) → k + 1 ≤ top
room_for zero zero h other = absurd (other refl)
room_for zero (suc m) h other = omega arith
room_for (suc k) zero h other = absurd (omega (arith, h))
room_for (suc k) (suc m) h other = let rest : k + 1 ≤ m = room_for k m (omega (arith, h)) (λ e. other (ap suc e)) in omega (arith, rest)

-- fewer than there may be, where there are not as many
room : (k top : ℕ) → k ≤ top → (k == top) ≡ false → k + 1 ≤ top
room k top within other = room_for k top within (λ e. true≢false (sym ((Decides-eqb k top).1 e) ∙ other))

module _ (p : Project) (s : State) (sound : IsSound p s) where
  abbrev IsGood : Entry → Type 0
  IsGood entry = IsSoundEntry (is_object p.defs) entry

  nothing_good : (cs : List Command) → AreGiven cs → first_refused p.defs cs ≡ None → IsGood (entry_of nothing_said cs)
  nothing_good cs given known = record { said = record { facts = tt; pages = tt; facts_order = sorted-none fact_cmp; pages_order = sorted-none handle_cmp }; commands = commands_sound p.defs cs given known }

  confirmed_sound : (entry : Entry) → IsGood entry → IsSound p (confirm entry s)
  confirmed_sound entry good = record {
    named = entries_named s sound.named (s.entries ++ confirmed entry ∷ []);
    entries = each_push (IsSoundConfirmation p) s.entries (confirmed entry) sound.entries good;
    layers = sound.layers;
    handles = sound.handles;
    released = sound.released;
    watches = sound.watches;
    most_layers = sound.most_layers;
    most_handles = sound.most_handles;
    most_watches = sound.most_watches;
  }

  swept_sound : (buffer : ℕ) → IsSound p (swept_state buffer s)
  swept_sound buffer = record {
    named = entries_named s sound.named (s.entries ++ swept (retained buffer s) (layer_entries s) ∷ []);
    entries = each_push (IsSoundConfirmation p) s.entries (swept (retained buffer s) (layer_entries s)) sound.entries tt;
    layers = sound.layers;
    handles = sound.handles;
    released = sound.released;
    watches = sound.watches;
    most_layers = sound.most_layers;
    most_handles = sound.most_handles;
    most_watches = sound.most_watches;
  }

  dropped_sound : (name : Text) → IsSound p (drop_layer name s)
  dropped_sound name = record {
    named = dropped_named s sound.named name;
    entries = sound.entries;
    layers = layers_each name (IsSoundLayer p) s.layers sound.layers;
    handles = sound.handles;
    released = sound.released;
    watches = sound.watches;
    most_layers = let less = layers_length name s.layers in let before = sound.most_layers in omega (arith, less, before);
    most_handles = sound.most_handles;
    most_watches = sound.most_watches;
  }

  begun_sound : (name : Text) (entry : Entry) → IsName name → is_layer s.layers name ≡ false → (length s.layers == most layers) ≡ false → IsGood entry → IsSound p (with_layer name entry s)
  begun_sound name entry short free fits good = record {
    named = begun_named s sound.named name entry free;
    entries = sound.entries;
    layers = each_push (IsSoundLayer p) s.layers (record { name = name; entry = entry }) sound.layers (record { name = short; entry = good });
    handles = sound.handles;
    released = sound.released;
    watches = sound.watches;
    most_layers = subst (λ k. k ≤ most layers) (sym (length_push s.layers (record { name = name; entry = entry }))) (room (length s.layers) (most layers) sound.most_layers fits);
    most_handles = sound.most_handles;
    most_watches = sound.most_watches;
  }

  retained_sound : (h : Handle) → IsSoundHandle p h → is_some (handle_named s.handles h.name) ≡ false → (length s.handles == most handles) ≡ false → IsSound p (with_handle h s)
  retained_sound h good free fits = record {
    named = retained_named s sound.named h free;
    entries = sound.entries;
    layers = sound.layers;
    handles = each_push (IsSoundHandle p) s.handles h sound.handles good;
    released = sound.released;
    watches = sound.watches;
    most_layers = sound.most_layers;
    most_handles = subst (λ k. k ≤ most handles) (sym (length_push s.handles h)) (room (length s.handles) (most handles) sound.most_handles fits);
    most_watches = sound.most_watches;
  }

  released_sound : (name : Text) → is_in_use s.watches name ≡ false → IsSound p (release_handle name s)
  released_sound name free = record {
    named = released_named s sound.named name free;
    entries = sound.entries;
    layers = sound.layers;
    handles = each_left handle_name name (without_handle name) refl (λ x xs. refl) (IsSoundHandle p) s.handles sound.handles;
    released = at (handle_named s.handles name) refl;
    watches = sound.watches;
    most_layers = sound.most_layers;
    most_handles = let less = length_left handle_name name (without_handle name) refl (λ x xs. refl) s.handles in let before = sound.most_handles in omega (arith, less, before);
    most_watches = sound.most_watches;
  }
    where
      at : (o : Option Handle) → handle_named s.handles name ≡ o → Each (IsSoundRetained p) (s.released ++ released_by o)
      at None is = each_nil (IsSoundRetained p) s.released sound.released
      at (Some h) is = each_push (IsSoundRetained p) s.released (retained_by h) sound.released (found (IsSoundHandle p) s.handles name h sound.handles is).0.operation

  -- other watches, of which the same is known
  watched_sound : (ws : List Watch) → IsNamed (with_watches ws s) → Each (IsSoundWatch p) ws → length ws ≤ most watches → IsSound p (with_watches ws s)
  watched_sound ws named all within = record {
    named = named;
    entries = sound.entries;
    layers = sound.layers;
    handles = sound.handles;
    released = sound.released;
    watches = all;
    most_layers = sound.most_layers;
    most_handles = sound.most_handles;
    most_watches = within;
  }

  stopped_sound : (name : Text) → IsSound p (with_watches (without_watch name s.watches) s)
  stopped_sound name =
      watched_sound (without_watch name s.watches) (stopped_named s sound.named name) (each_left watch_name name (without_watch name) refl (λ x xs. refl) (IsSoundWatch p) s.watches sound.watches)
      (let less = length_left watch_name name (without_watch name) refl (λ x xs. refl) s.watches in let before = sound.most_watches in omega (arith, less, before))

  started_sound : (w : Watch) → IsSoundWatch p w → IsHeld s.handles w → is_watch s.watches w.name ≡ false → (length s.watches == most watches) ≡ false → IsSound p (with_watches (s.watches ++ w ∷ []) s)
  started_sound w good held free fits =
      watched_sound (s.watches ++ w ∷ []) (started_named s sound.named w held free) (each_push (IsSoundWatch p) s.watches w sound.watches good)
      (subst (λ k. k ≤ most watches) (sym (length_push s.watches w)) (room (length s.watches) (most watches) sound.most_watches fits))

  -- ---- notices

  module _ (m : Records) where
    again_sound : (w : Watch) → IsSoundWatch p w → IsSoundWatch p (read_again p m w)
    again_sound w is =
        elim (is_changed w (shown_by p m w)) as (λ b. IsSoundWatch p (cond b (started w.name w.handle w.part (shown_by p m w)) w)) [
          | true ↦ record { name = is.name; part = is.part }
          | false ↦ is
        ]

    all_again : (k : ℕ) (ws : List Watch) → Each (IsSoundWatch p) ws → Each (IsSoundWatch p) (again p m k ws)
    all_again zero ws all = all
    all_again (suc k) [] all = tt
    all_again (suc k) (w ∷ ws) all = (again_sound w all.0, all_again k ws all.1)

    length_again : (k : ℕ) (ws : List Watch) → length (again p m k ws) ≡ length ws
    length_again zero ws = refl
    length_again (suc k) [] = refl
    length_again (suc k) (w ∷ ws) = let rest = length_again k ws in omega (arith, rest)

  noticed_sound : (k : ℕ) → IsSound p (noticed_in p k s)
  noticed_sound k =
      watched_sound (again p (view p s) k s.watches) (noticed_named s sound.named p k) (all_again (view p s) k s.watches sound.watches)
      (subst (λ l. l ≤ most watches) (sym (length_again (view p s) k s.watches)) sound.most_watches)

-- ---- lines

sound_kept : (p : Project) → SaysSoundly p → (s : State) → IsSound p s → IsKept p s (IsSoundEntry (is_object p.defs)) (IsSound p)
sound_kept p says s sound = record {
  before = sound;
  commanded = λ cs given known. nothing_good p s sound cs given known;
  answered = λ name h response said cs is content given known.
      record { said = says h response said (found (IsSoundHandle p) s.handles name h sound.handles is).0 content; commands = commands_sound p.defs cs given known };
  confirms = λ entry good. confirmed_sound p s sound entry good;
  begins = λ name entry short free fits good. begun_sound p s sound name entry short free fits good;
  finishes = λ name entry good. confirmed_sound p (drop_layer name s) (dropped_sound p s sound name) entry good;
  reverts = λ name. dropped_sound p s sound name;
  sweeps = λ buffer. swept_sound p s sound buffer;
  retains = λ h good free fits. retained_sound p s sound h good free fits;
  releases = λ name free. released_sound p s sound name free;
  starts = λ w short good held free fits. started_sound p s sound w (record { name = short; part = good }) held free fits;
  stops = λ name. stopped_sound p s sound name;
  notices = λ k t holds. noticed_sound p t holds k;
}

pub steps_sound : StepsKeepSound
steps_sound p says buffer s n line sound = kept_by_line p s (sound_kept p says s sound) n buffer (line_of line) (lines_given line)
