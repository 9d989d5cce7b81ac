-- What stands for a named state is named.
use Rattle.std.proofs.Common.{◌≡◌, List, [], ◌∷◌, ◌||◌, bytes_eq, Option, Some, None, refl, sym, ap, subst, ◌∙◌}
use Rattle.std.specs.List.{AllByRecursion}
use Rattle.line_engine.proofs.HandleLaws.{agrees}
use Rattle.line_engine.proofs.Names.{found_left}
use Rattle.line_engine.specs.Handles.{handle_under}
use Rattle.line_engine.specs.Kept.{HandleKept, Kept}
use Rattle.line_engine.specs.Named.{AreValuesOf, IsNamedKept, IsWatchOf, name_of_handle, name_of_watch}
use Rattle.line_engine.specs.Stands.{KeepsHandle, KeepsHandles, KeepsWatch, KeepsWatches, StandsFor, fragment_shown, values_shown}
use Rattle.relay_machine.specs.Machine as machine
use Rattle.relay_machine.specs.Machine.{Handle, PartShown, Project, State, handle_named}
use Rattle.plan_ir.specs.schema_tables.Types.{Text}
use Rattle.plan_ir.specs.schema_types.Environments.{Values}
use Rattle.sound_states.specs.Named.{AreApart, IsHeld, IsNamed, handle_name, is_named, watch_name}
use Rattle.store_watch.specs.Watching.{Watch}

-- ---- the values of a watch

part_values : (own : Values) (part : Option PartShown) (now : Values) → now ≡ values_shown own part → AreValuesOf (fragment_shown part) own now
part_values own None now e = e
part_values own (Some q) now e = (q.scope, e)

module _ (p : Project) where
  -- ---- names

  handles_named : (ks : List HandleKept) (hs : List Handle) (n : Text) → KeepsHandles p ks hs → is_named name_of_handle ks n ≡ is_named handle_name hs n
  handles_named [] [] n keeps = refl
  handles_named [] (h ∷ hs) n keeps = absurd keeps
  handles_named (k ∷ ks) [] n keeps = absurd keeps
  handles_named (k ∷ ks) (h ∷ hs) n keeps = λ i. bytes_eq (keeps.0.name i) n || handles_named ks hs n keeps.1 i

  handles_apart : (ks : List HandleKept) (hs : List Handle) → KeepsHandles p ks hs → AreApart handle_name hs → AreApart name_of_handle ks
  handles_apart [] [] keeps apart = tt
  handles_apart [] (h ∷ hs) keeps apart = absurd keeps
  handles_apart (k ∷ ks) [] keeps apart = absurd keeps
  handles_apart (k ∷ ks) (h ∷ hs) keeps apart =
      (ap (is_named name_of_handle ks) keeps.0.name ∙ handles_named ks hs h.name keeps.1 ∙ apart.0, handles_apart ks hs keeps.1 apart.1)

  watches_named : (ks : List Watch) (ws : List machine.Watch) (n : Text) → KeepsWatches p ks ws → is_named name_of_watch ks n ≡ is_named watch_name ws n
  watches_named [] [] n keeps = refl
  watches_named [] (w ∷ ws) n keeps = absurd keeps
  watches_named (k ∷ ks) [] n keeps = absurd keeps
  watches_named (k ∷ ks) (w ∷ ws) n keeps = λ i. bytes_eq (keeps.0.name i) n || watches_named ks ws n keeps.1 i

  watches_apart : (ks : List Watch) (ws : List machine.Watch) → KeepsWatches p ks ws → AreApart watch_name ws → AreApart name_of_watch ks
  watches_apart [] [] keeps apart = tt
  watches_apart [] (w ∷ ws) keeps apart = absurd keeps
  watches_apart (k ∷ ks) [] keeps apart = absurd keeps
  watches_apart (k ∷ ks) (w ∷ ws) keeps apart =
      (ap (is_named name_of_watch ks) keeps.0.name ∙ watches_named ks ws w.name keeps.1 ∙ apart.0, watches_apart ks ws keeps.1 apart.1)

  -- ---- the handles of watches

  module _ (hks : List HandleKept) (hs : List Handle) (handles : KeepsHandles p hks hs) where
    watch_of : (k : Watch) (w : machine.Watch) → KeepsWatch p k w → IsHeld hs w → IsWatchOf hks k
    watch_of k w keeps held =
        let x : (x : HandleKept) × (handle_under hks w.handle.name ≡ Some x) × KeepsHandle p x w.handle =
        found_left (KeepsHandle p) (handle_under hks w.handle.name) (handle_named hs w.handle.name) w.handle (agrees p hks hs w.handle.name handles) held in
        record {
          handle = x.0;
          live = ap (handle_under hks) keeps.what.handle ∙ x.1;
          root = keeps.what.root ∙ sym x.2.root;
          values =
              subst (λ (f : Option Text). AreValuesOf f x.0.values k.what.environment) (sym keeps.what.fragment)
              (part_values x.0.values w.part k.what.environment (keeps.what.values ∙ ap (λ (own : Values). values_shown own w.part) (sym x.2.values)));
        }

    watches_held : (ks : List Watch) (ws : List machine.Watch) → KeepsWatches p ks ws → AllByRecursion (IsHeld hs) ws → AllByRecursion (IsWatchOf hks) ks
    watches_held [] [] keeps held = tt
    watches_held [] (w ∷ ws) keeps held = absurd keeps
    watches_held (k ∷ ks) [] keeps held = absurd keeps
    watches_held (k ∷ ks) (w ∷ ws) keeps held = (watch_of k w keeps.0 held.0, watches_held ks ws keeps.1 held.1)

pub kept_named : (k : Kept) (p : Project) (s : State) → StandsFor k p s → IsNamed s → IsNamedKept k
kept_named k p s stands named = record {
  handles = handles_apart p k.handles s.handles stands.handles named.handles;
  watches = watches_apart p k.watches s.watches stands.watches named.watches;
  held = watches_held p k.handles s.handles stands.handles k.watches s.watches stands.watches named.held;
}
