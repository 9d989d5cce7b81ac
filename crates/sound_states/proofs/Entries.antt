-- The entries of sound states, and their records.
use Rattle.std.proofs.Common.{◌≡◌, Bool, true, false, true≢false, cond, List, [], ◌∷◌, map, Option, Some, None, is_some, refl, ap}
use Rattle.plan_ir.specs.schema_rules.Rules.{is_object}
use Rattle.plan_ir.specs.schema_tables.Types.{Text, Defs}
use Rattle.plan_ir.specs.store_model.Entries.{apply, fold_entries}
use Rattle.plan_ir.specs.store_model.Records.{Records, no_records}
use Rattle.plan_ir.specs.store_model.declared.command.Command.{Command}
use Rattle.plan_ir.specs.store_model.declared.command.Command.TheVariants as C
use Rattle.relay_machine.specs.Machine.{Confirmation, confirmed, swept, Layer, Project, base, confirm_one, first_refused, fold_confirmed, is_held, or_later, refused_in, type_refused}
use Rattle.sound_records.proofs.Sounds.{entries_sound, nothing_sound, sweeps_sound}
use Rattle.sound_records.specs.Giving.{AreGiven}
use Rattle.sound_records.specs.Sound.{AreSound, IsSoundCommand, NamesTypes}
use Rattle.sound_states.proofs.Names.{Each}
use Rattle.sound_states.specs.Laws.{RecordsAreSound}
use Rattle.sound_states.specs.Sound.{IsSoundConfirmation, IsSoundLayer}

-- ---- records

module _ (p : Project) where
  folded : (cs : List Confirmation) (m : Records) → Each (IsSoundConfirmation p) cs → AreSound (is_object p.defs) m → AreSound (is_object p.defs) (fold_confirmed p cs m)
  folded [] m all sound = sound
  folded (confirmed e ∷ cs) m all sound = folded cs (apply e m) all.1 (entries_sound (is_object p.defs) e m all.0 sound)
  folded (swept rs live ∷ cs) m all sound = folded cs (confirm_one p (swept rs live) m) all.1 (sweeps_sound (is_object p.defs) (is_held p rs live m) m sound)

  layered : (ls : List Layer) (m : Records) → Each (IsSoundLayer p) ls → AreSound (is_object p.defs) m → AreSound (is_object p.defs) (fold_entries (map (λ (l : Layer). l.entry) ls) m)
  layered [] m all sound = sound
  layered (l ∷ ls) m all sound = layered ls (apply l.entry m) all.1 (entries_sound (is_object p.defs) l.entry m all.0.entry sound)

pub records_sound : RecordsAreSound
records_sound p s sound =
    let below : AreSound (is_object p.defs) (base p s) = folded p s.entries no_records sound.entries (nothing_sound (is_object p.defs)) in
    (below, layered p s.layers (base p s) sound.layers below)

-- ---- commands

first_none : (a b : Option Text) → or_later a b ≡ None → a ≡ None
first_none None b h = refl
first_none (Some t) b h = h

later_none : (a b : Option Text) → or_later a b ≡ None → b ≡ None
later_none None b h = h
later_none (Some t) b h = absurd (true≢false (ap is_some h))

module _ (defs : Defs) where
  is_type : (of : Text) → type_refused defs of ≡ None → is_object defs of ≡ true
  is_type of h = at (is_object defs of) h
    where
      at : (b : Bool) → cond b None (Some of) ≡ None → b ≡ true
      at true k = refl
      at false k = absurd (true≢false (ap is_some k))

  names : (c : Command) → refused_in defs c ≡ None → NamesTypes (is_object defs) c
  names (C.Set id field args value) h = tt
  names (C.Add id field args by) h = tt
  names (C.Link id field args to) h = tt
  names (C.Links id field args to) h = tt
  names (C.Create id of) h = is_type of h
  names (C.Delete id) h = tt
  names (C.AppendNode e) h = is_type e.edge_type h
  names (C.PrependNode e) h = is_type e.edge_type h
  names (C.DeleteEdge e) h = tt

  pub commands_sound : (cs : List Command) → AreGiven cs → first_refused defs cs ≡ None → Each (IsSoundCommand (is_object defs)) cs
  commands_sound [] given h = tt
  commands_sound (c ∷ cs) given h =
      ((given.0, names c (first_none (refused_in defs c) (first_refused defs cs) h)), commands_sound cs given.1 (later_none (refused_in defs c) (first_refused defs cs) h))
