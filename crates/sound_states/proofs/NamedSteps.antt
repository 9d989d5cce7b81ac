-- Each line keeps a named state so.
use Rattle.std.proofs.Common.{◌≡◌, ℕ, zero, suc, true, false, cond, ◌||◌, List, [], ◌∷◌, ◌++◌, is_some, bytes_eq, refl, sym, ap, ◌∙◌}
use Rattle.plan_ir.specs.schema_tables.Types.{Text}
use Rattle.plan_ir.specs.store_model.Events.{line_of}
use Rattle.plan_ir.specs.store_model.Records.{Records}
use Rattle.plan_ir.specs.store_model.declared.entry.Entry.{Entry}
use Rattle.relay_machine.specs.Machine.{Confirmation, confirmed, swept, Handle, Project, State, Watch, drop_layer, handle_named, is_changed, is_in_use, is_layer, is_watch, layer_entries, read_again, release_handle, retained, shown_by, started, view, with_entries, with_handle, with_layer, with_watches, without_handle, without_watch}
use Rattle.sound_records.proofs.Giving.{lines_given}
use Rattle.sound_states.proofs.Changes.{IsKept, again, kept_by_line, noticed_in}
use Rattle.sound_states.proofs.Names.{Each, apart_left, apart_push, each_both, each_left, each_push, each_so, found_left, found_push, handle_is, layer_is, layers_left_apart, not_in_use}
use Rattle.sound_states.specs.Laws.{BeginningIsNamed, StepsKeepNamed}
use Rattle.sound_states.specs.Named.{AreApart, IsHeld, IsNamed, handle_name, is_named, layer_name, watch_name}

pub beginning_named : BeginningIsNamed
beginning_named = record { layers = tt; handles = tt; watches = tt; held = tt }

module _ (s : State) (named : IsNamed s) where
  pub entries_named : (cs : List Confirmation) → IsNamed (with_entries cs s)
  entries_named cs = record { layers = named.layers; handles = named.handles; watches = named.watches; held = named.held }

  pub begun_named : (name : Text) (entry : Entry) → is_layer s.layers name ≡ false → IsNamed (with_layer name entry s)
  begun_named name entry free = record {
    layers = apart_push layer_name s.layers (record { name = name; entry = entry }) named.layers (sym (layer_is s.layers name) ∙ free);
    handles = named.handles;
    watches = named.watches;
    held = named.held;
  }

  pub dropped_named : (name : Text) → IsNamed (drop_layer name s)
  dropped_named name = record { layers = layers_left_apart name s.layers named.layers; handles = named.handles; watches = named.watches; held = named.held }

  pub retained_named : (h : Handle) → is_some (handle_named s.handles h.name) ≡ false → IsNamed (with_handle h s)
  retained_named h free = record {
    layers = named.layers;
    handles = apart_push handle_name s.handles h named.handles (sym (handle_is s.handles h.name) ∙ free);
    watches = named.watches;
    held = each_so (IsHeld s.handles) (IsHeld (s.handles ++ h ∷ [])) s.watches (λ w held. found_push s.handles h w.handle.name w.handle held) named.held;
  }

  pub released_named : (name : Text) → is_in_use s.watches name ≡ false → IsNamed (release_handle name s)
  released_named name free = record {
    layers = named.layers;
    handles = apart_left handle_name name (without_handle name) refl (λ x xs. refl) s.handles named.handles;
    watches = named.watches;
    held = each_both (IsHeld s.handles) (λ (w : Watch). bytes_eq w.handle.name name ≡ false) (IsHeld (without_handle name s.handles)) s.watches
        (λ w held other. found_left s.handles name w.handle.name other ∙ held) named.held (not_in_use s.watches name free);
  }

  -- other watches, of which the same is known
  watched_named : (ws : List Watch) → AreApart watch_name ws → Each (IsHeld s.handles) ws → IsNamed (with_watches ws s)
  watched_named ws apart held = record { layers = named.layers; handles = named.handles; watches = apart; held = held }

  pub started_named : (w : Watch) → IsHeld s.handles w → is_watch s.watches w.name ≡ false → IsNamed (with_watches (s.watches ++ w ∷ []) s)
  started_named w held free =
      watched_named (s.watches ++ w ∷ []) (apart_push watch_name s.watches w named.watches free) (each_push (IsHeld s.handles) s.watches w named.held held)

  pub stopped_named : (name : Text) → IsNamed (with_watches (without_watch name s.watches) s)
  stopped_named name =
      watched_named (without_watch name s.watches) (apart_left watch_name name (without_watch name) refl (λ x xs. refl) s.watches named.watches)
      (each_left watch_name name (without_watch name) refl (λ x xs. refl) (IsHeld s.handles) s.watches named.held)

  -- ---- notices

  module _ (p : Project) (m : Records) where
    same_name : (w : Watch) → watch_name (read_again p m w) ≡ watch_name w
    same_name w = elim (is_changed w (shown_by p m w)) as (λ b. watch_name (cond b (started w.name w.handle w.part (shown_by p m w)) w) ≡ w.name) [ true ↦ refl | false ↦ refl ]

    still_held : (w : Watch) → IsHeld s.handles w → IsHeld s.handles (read_again p m w)
    still_held w held = elim (is_changed w (shown_by p m w)) as (λ b. IsHeld s.handles (cond b (started w.name w.handle w.part (shown_by p m w)) w)) [ true ↦ held | false ↦ held ]

    held_again : (k : ℕ) (ws : List Watch) → Each (IsHeld s.handles) ws → Each (IsHeld s.handles) (again p m k ws)
    held_again zero ws all = all
    held_again (suc k) [] all = tt
    held_again (suc k) (w ∷ ws) all = (still_held w all.0, held_again k ws all.1)

    named_again : (k : ℕ) (ws : List Watch) (t : Text) → is_named watch_name (again p m k ws) t ≡ is_named watch_name ws t
    named_again zero ws t = refl
    named_again (suc k) [] t = refl
    named_again (suc k) (w ∷ ws) t = λ i. bytes_eq (same_name w i) t || named_again k ws t i

    apart_again : (k : ℕ) (ws : List Watch) → AreApart watch_name ws → AreApart watch_name (again p m k ws)
    apart_again zero ws apart = apart
    apart_again (suc k) [] apart = tt
    apart_again (suc k) (w ∷ ws) apart =
        (ap (is_named watch_name (again p m k ws)) (same_name w) ∙ named_again k ws w.name ∙ apart.0, apart_again k ws apart.1)

  pub noticed_named : (p : Project) (k : ℕ) → IsNamed (noticed_in p k s)
  noticed_named p k = watched_named (again p (view p s) k s.watches) (apart_again p (view p s) k s.watches named.watches) (held_again p (view p s) k s.watches named.held)

-- ---- lines

named_kept : (p : Project) (s : State) → IsNamed s → IsKept p s (λ entry. Unit {0}) IsNamed
named_kept p s named = record {
  before = named;
  commanded = λ cs given known. tt;
  answered = λ name h response said cs is says given known. tt;
  confirms = λ entry good. entries_named s named (s.entries ++ confirmed entry ∷ []);
  begins = λ name entry short free fits good. begun_named s named name entry free;
  finishes = λ name entry good. entries_named (drop_layer name s) (dropped_named s named name) (s.entries ++ confirmed entry ∷ []);
  reverts = λ name. dropped_named s named name;
  sweeps = λ buffer. entries_named s named (s.entries ++ swept (retained buffer s) (layer_entries s) ∷ []);
  retains = λ h good free fits. retained_named s named h free;
  releases = λ name free. released_named s named name free;
  starts = λ w short good held free fits. started_named s named w held free;
  stops = λ name. stopped_named s named name;
  notices = λ k t holds. noticed_named t holds p k;
}

pub steps_named : StepsKeepNamed
steps_named p buffer s n line named = kept_by_line p s (named_kept p s named) n buffer (line_of line) (lines_given line)
