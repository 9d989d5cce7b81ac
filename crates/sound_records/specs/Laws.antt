-- What keeps records sound.
use Rattle.std.specs.Prelude.{Bool}
use Rattle.store_model.specs.store_record.Keys.{Text}
use Rattle.store_model.specs.Entries.{apply}
use Rattle.store_model.specs.Records.{Records, no_records}
use Rattle.store_model.specs.Sweeps.{sweep}
use Rattle.store_model.specs.declared.entry.Entry.{Entry}
use Rattle.sound_records.specs.Sound.{AreSound, IsSoundEntry}

abbrev pub NoRecordsAreSound : Type 0
NoRecordsAreSound = (object : Text → Bool) → AreSound object no_records

abbrev pub EntriesKeepSound : Type 0
EntriesKeepSound = (object : Text → Bool) (e : Entry) (m : Records) → IsSoundEntry object e → AreSound object m → AreSound object (apply e m)

abbrev pub SweepsKeepSound : Type 0
SweepsKeepSound = (object : Text → Bool) (keep : Text → Bool) (m : Records) → AreSound object m → AreSound object (sweep keep m)
