-- Entries keep sound records so.
use Rattle.std.proofs.Common.{◌≡◌, true, bytes_eq}
use Rattle.store_model.proofs.Least.{each_so}
use Rattle.store_model.specs.Entries.{merge_all}
use Rattle.store_model.specs.Records.{put, typename}
use Rattle.sound_records.specs.Sound.{IsId, IsSoundFact, IsSoundValue, has_fact}
use Rattle.sound_records.specs.Laws.{EntriesKeepSound, NoRecordsAreSound, SweepsKeepSound}
use Rattle.sound_records.proofs.Slots.{none_sound, sweep_sound}
use Rattle.sound_records.proofs.Puts.{put_sound}
use Rattle.sound_records.proofs.Commands.{commands_sound}
use Rattle.sound_records.proofs.Pages.{pages_sound}

pub entries_sound : EntriesKeepSound
entries_sound object e m sound all =
    commands_sound object e.commands (merge_all e.facts.handles (put e.facts.facts m)) sound.commands
    (pages_sound object e.facts.facts e.facts.handles (put e.facts.facts m) sound.said.pages
    (put_sound object e.facts.facts m
    (each_so (IsSoundFact object e.facts.facts) (λ f. IsId f.id × IsSoundValue object (bytes_eq f.key typename) f.value × (has_fact e.facts.facts f.id typename ≡ true)) e.facts.facts
    (λ f is. (is.of, is.value, is.typed)) sound.said.facts) all))

pub sweeps_sound : SweepsKeepSound
sweeps_sound object keep m all = sweep_sound object keep m all

pub nothing_sound : NoRecordsAreSound
nothing_sound object = none_sound object
