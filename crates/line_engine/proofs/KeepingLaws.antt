-- What stands for a state still does, when both retain, release, watch, unwatch; and handles and watches by their names.
use Rattle.std.proofs.Common.{◌≡◌, ℕ, List, [], ◌∷◌, ◌++◌, length, map, Bool, Option, Some, None, is_some, option_map, refl, sym, ap, subst, ◌∙◌}
use Rattle.std.proofs.lemmas.List.{length-map}
use Rattle.plan_ir.specs.gql_ast.declared.document.Document.{Document}
use Rattle.plan_ir.specs.gql_ast.declared.place.Placed.{Placed}
use Rattle.plan_project.specs.Lookups.{Agree}
use Rattle.line_engine.proofs.HandleLaws as handles
use Rattle.line_engine.proofs.HandleLaws.{agrees, kept_after, under_is}
use Rattle.line_engine.proofs.Names.{both_there, found_right, none_right}
use Rattle.line_engine.proofs.ReleasedLaws.{last_kept, leaves}
use Rattle.line_engine.proofs.StandingLaws.{view_is}
use Rattle.line_engine.proofs.WatchLaws as watches
use Rattle.line_engine.proofs.WatchLaws.{shown_after, shown_without}
use Rattle.line_engine.specs.Handles.{handle_kept, handle_under, held_as, operation_kept}
use Rattle.line_engine.specs.Kept as engine
use Rattle.line_engine.specs.Stands.{KeepsHandle, KeepsHandles, KeepsWatch, ShowsPart, StandsFor}
use Rattle.relay_machine.specs.Machine as machine
use Rattle.relay_machine.specs.Machine.{Handle, PartShown, Project, State, handle_named, is_in_use, is_watch, release_handle, shown, started, view, with_handle, without_watch}
use Rattle.plan_ir.specs.schema_tables.Types.{Text, Defs}
use Rattle.store_layers.specs.Layered.{Layered, view_of}
use Rattle.plan_ir.specs.store_model.Walks.{Reading}
use Rattle.store_watch.specs.store_read.Reading.{slots}
use Rattle.store_retain.specs.Kept.{Kept, held_under, released, retained}
use Rattle.store_retain.specs.declared.held.Held.{Held}
use Rattle.store_watch.specs.Watching.{Look, Watch, is_live, shows, uses, without}

-- what is kept of these parts
abbrev pub kept_of : Defs × List (Placed Document) → Layered → Kept → List Watch → engine.Kept
kept_of project ls r ws = record {
  defs = project.0;
  documents = project.1;
  buffer = r.buffer;
  layers = ls;
  handles = map handle_kept r.live;
  released = map operation_kept r.released;
  watches = ws;
}

-- ---- handles that start and leave

module _ (project : Defs × List (Placed Document)) (ls : Layered) (r : Kept) (ws : List Watch) (p : Project) (s : State) (stands : StandsFor (kept_of project ls r ws) p s) where
  pub stands_retained : (name : Text) (held : Held) (h : Handle) → KeepsHandle p (held_as name held) h → StandsFor (kept_of project ls (retained name held r) ws) p (with_handle h s)
  stands_retained name held h keeps = record {
    schema = stands.schema;
    documents = stands.documents;
    base = stands.base;
    layers = stands.layers;
    apart = stands.apart;
    handles =
        subst (λ ks. KeepsHandles p ks (s.handles ++ h ∷ [])) (sym (kept_after r.live name held))
        (handles.one_more p (map handle_kept r.live) s.handles (held_as name held) h stands.handles keeps);
    released = stands.released;
    watches = stands.watches;
    shown = stands.shown;
  }

  found : (name : Text) → Agree (KeepsHandle p) (option_map (held_as name) (held_under name r.live)) (handle_named s.handles name)
  found name =
      subst (λ o. Agree (KeepsHandle p) o (handle_named s.handles name)) (sym (under_is name r.live)) (agrees p (map handle_kept r.live) s.handles name stands.handles)

  pub stands_released : (name : Text) → StandsFor (kept_of project ls (released name r) ws) p (release_handle name s)
  stands_released name = record {
    schema = stands.schema;
    documents = stands.documents;
    base = stands.base;
    layers = stands.layers;
    apart = stands.apart;
    handles = handles.one_less p r.live s.handles name stands.handles;
    released =
        last_kept p r.buffer r.released _ s.released _ stands.released
        (leaves p name (held_under name r.live) (handle_named s.handles name) (found name));
    watches = stands.watches;
    shown = stands.shown;
  }

-- ---- watches that start and end

-- what is kept, with other watches
abbrev pub with_watches : engine.Kept → List Watch → engine.Kept
with_watches k ws =
    record { defs = k.defs; documents = k.documents; buffer = k.buffer; layers = k.layers; handles = k.handles; released = k.released; watches = ws }

module _ (k : engine.Kept) (p : Project) (s : State) (stands : StandsFor k p s) where
  -- what is shown of the records that are seen is what the machine shows
  pub shown_is : (look : Look) (h : Handle) (part : Option PartShown) (r : Reading) → ShowsPart p look h part → r ≡ shows (slots (view_of k.layers)) look
      → r ≡ shown p (view p s) h part
  shown_is look h part r what is = is ∙ ap (λ m. shows (slots m) look) (view_is k.layers p s stands.base stands.layers) ∙ what.shows (view p s)

  keeps_started : (name : Text) (look : Look) (h : Handle) (part : Option PartShown) (r : Reading) → ShowsPart p look h part → r ≡ shown p (view p s) h part
      → KeepsWatch p (record { name = name; what = look; kept = r }) (started name h part (shown p (view p s) h part))
  keeps_started name look h part r what is = record { name = refl; what = what; value = ap (λ (x : Reading). x.value) is; missing = ap (λ (x : Reading). x.missing) is }

  pub stands_watched : (name : Text) (look : Look) (h : Handle) (part : Option PartShown) (r : Reading) → ShowsPart p look h part → r ≡ shows (slots (view_of k.layers)) look
      → StandsFor (with_watches k (k.watches ++ record { name = name; what = look; kept = r } ∷ [])) p
      (machine.with_watches (s.watches ++ started name h part (shown p (view p s) h part) ∷ []) s)
  stands_watched name look h part r what is =
      let w : Watch = record { name = name; what = look; kept = r } in
      record {
        schema = stands.schema;
        documents = stands.documents;
        base = stands.base;
        layers = stands.layers;
        apart = stands.apart;
        handles = stands.handles;
        released = stands.released;
        watches = watches.one_more p k.watches s.watches w (started name h part (shown p (view p s) h part)) stands.watches (keeps_started name look h part r what (shown_is look h part r what is));
        shown = shown_after (slots (view_of k.layers)) k.watches w stands.shown is;
      }

  pub stands_unwatched : (name : Text) → StandsFor (with_watches k (without name k.watches)) p (machine.with_watches (without_watch name s.watches) s)
  stands_unwatched name = record {
    schema = stands.schema;
    documents = stands.documents;
    base = stands.base;
    layers = stands.layers;
    apart = stands.apart;
    handles = stands.handles;
    released = stands.released;
    watches = watches.one_less p k.watches s.watches name stands.watches;
    shown = shown_without (slots (view_of k.layers)) k.watches name stands.shown;
  }

  -- ---- handles by their names

  both_found : (live : List (Text × Held)) (name called : Text) (o : Option Held) → map handle_kept live ≡ k.handles → name ≡ called → o ≡ held_under name live
      → Agree (KeepsHandle p) (option_map (held_as called) o) (handle_named s.handles called)
  both_found live name called o same is found =
      subst (λ x. Agree (KeepsHandle p) x (handle_named s.handles called))
      (sym (ap (λ ks. handle_under ks called) same) ∙ sym (under_is called live) ∙ sym (ap (option_map (held_as called)) (found ∙ ap (λ t. held_under t live) is)))
      (agrees p k.handles s.handles called stands.handles)

  -- no handle is found
  pub no_handle : (live : List (Text × Held)) (name called : Text) (o : Option Held) → map handle_kept live ≡ k.handles → name ≡ called → o ≡ held_under name live → o ≡ None
      → handle_named s.handles called ≡ None
  no_handle live name called o same is found none =
      none_right (KeepsHandle p) (option_map (held_as called) o) (handle_named s.handles called) (both_found live name called o same is found)
      (ap (option_map (held_as called)) none)

  -- a handle is found, and the machine has one that is kept by it
  pub the_handle : (live : List (Text × Held)) (name called : Text) (o : Option Held) (held : Held) → map handle_kept live ≡ k.handles → name ≡ called → o ≡ held_under name live
      → o ≡ Some held → (h : Handle) × (handle_named s.handles called ≡ Some h) × KeepsHandle p (held_as called held) h
  the_handle live name called o held same is found some =
      found_right (KeepsHandle p) (option_map (held_as called) o) (handle_named s.handles called) (held_as called held) (both_found live name called o same is found)
      (ap (option_map (held_as called)) some)

  pub whether_handle : (live : List (Text × Held)) (name called : Text) (o : Option Held) (b : Bool) → map handle_kept live ≡ k.handles → name ≡ called → o ≡ held_under name live
      → is_some o ≡ b → is_some (handle_named s.handles called) ≡ b
  whether_handle live name called o b same is found e =
      sym (both_there (KeepsHandle p) (option_map (held_as called) o) (handle_named s.handles called) (both_found live name called o same is found))
      ∙ handles.whether_some (held_as called) o ∙ e

  pub handles_count : (live : List (Text × Held)) (count : ℕ) → map handle_kept live ≡ k.handles → count ≡ length live → length s.handles ≡ count
  handles_count live count same found =
      sym (found ∙ sym (length-map live handle_kept) ∙ ap (λ (xs : List engine.HandleKept). length xs) same ∙ handles.as_many p k.handles s.handles stands.handles)

  -- ---- watches by their names

  pub whether_watch : (ws : List Watch) (name called : Text) (b : Bool) → ws ≡ k.watches → name ≡ called → b ≡ is_live ws name → is_watch s.watches called ≡ b
  whether_watch ws name called b same is found =
      sym (watches.live_is p k.watches s.watches called stands.watches) ∙ (λ i. is_live (sym same i) (sym is i)) ∙ sym found

  pub whether_used : (ws : List Watch) (handle called : Text) (b : Bool) → ws ≡ k.watches → handle ≡ called → b ≡ uses ws handle → is_in_use s.watches called ≡ b
  whether_used ws handle called b same is found =
      sym (watches.uses_is p k.watches s.watches called stands.watches) ∙ (λ i. uses (sym same i) (sym is i)) ∙ sym found

  pub watches_count : (ws : List Watch) (count : ℕ) → ws ≡ k.watches → count ≡ length ws → length s.watches ≡ count
  watches_count ws count same found = sym (found ∙ ap (λ (xs : List Watch). length xs) same ∙ watches.as_many p k.watches s.watches stands.watches)
